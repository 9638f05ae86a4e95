use Rattle.std.proofs.Common.{refl, sym, ◌∙◌}
use Rattle.bristol_reader.specs.declared.wants.UnaryGate.TheVariants.{Inv, Eqw}
use Rattle.bristol_reader.proofs.PlainLines.{blank_single, starts_single}
use Rattle.bristol_reader.proofs.lines.single_here.Goals as goal
use Rattle.bristol_reader.proofs.lines.single_here.Goals.{then-line-eq73, else-line-eq73}

pub returns-then-are_same : goal.returns-then-are_same
returns-then-are_same c = elim c.if-line-eq73.branch [
  | then-line-eq73 w ↦ starts_single c.args.text.now c.in_ok-line.line.now c.in_ok-line.behind.now c.if-line-eq73.name _ Inv c.in_ok-line.ensures.cases (c.are_same.ensures c.if-are_same.true) w.name-is refl refl
  | else-line-eq73 w ↦ starts_single c.args.text.now c.in_ok-line.line.now c.in_ok-line.behind.now c.if-line-eq73.name _ Eqw c.in_ok-line.ensures.cases (c.are_same.ensures c.if-are_same.true) w.name-is refl refl
]

pub returns-then-are_same-2 : goal.returns-then-are_same-2
returns-then-are_same-2 c = elim c.if-line-eq73.branch [
  | then-line-eq73 w ↦ blank_single c.args.text.now c.in_ok-line.line.now c.in_ok-line.behind.now c.skip_blanks.result.now c.if-line-eq73.name _ Inv c.in_ok-line.ensures.cases (sym c.with_line_feed.ensures ∙ c.are_same-then-is_blank.ensures c.if-are_same-2.true)
      w.name-is refl refl refl (sym c.is_blank.ensures ∙ c.if-is_blank.true) c.skip_blanks.ensures.tokens_kept c.skip_blanks.ensures.within
  | else-line-eq73 w ↦ blank_single c.args.text.now c.in_ok-line.line.now c.in_ok-line.behind.now c.skip_blanks.result.now c.if-line-eq73.name _ Eqw c.in_ok-line.ensures.cases (sym c.with_line_feed.ensures ∙ c.are_same-then-is_blank.ensures c.if-are_same-2.true)
      w.name-is refl refl refl (sym c.is_blank.ensures ∙ c.if-is_blank.true) c.skip_blanks.ensures.tokens_kept c.skip_blanks.ensures.within
]
