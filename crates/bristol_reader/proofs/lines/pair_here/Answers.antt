use Rattle.std.proofs.Common.{refl, sym, ◌∙◌}
use Rattle.bristol_reader.specs.declared.wants.BinaryGate.TheVariants.{And, Xor}
use Rattle.bristol_reader.proofs.PlainLines.{blank_pair, starts_pair}
use Rattle.bristol_reader.proofs.lines.pair_here.Goals as goal
use Rattle.bristol_reader.proofs.lines.pair_here.Goals.{then-line-eq65, else-line-eq65}

pub returns-then-are_same : goal.returns-then-are_same
returns-then-are_same c = elim c.if-line-eq65.branch [
  | then-line-eq65 w ↦ starts_pair c.args.text.now c.in_ok-line.line.now c.in_ok-line.behind.now c.if-line-eq65.name _ And c.in_ok-line.ensures.cases (c.are_same.ensures c.if-are_same.true) w.name-is refl refl
  | else-line-eq65 w ↦ starts_pair c.args.text.now c.in_ok-line.line.now c.in_ok-line.behind.now c.if-line-eq65.name _ Xor c.in_ok-line.ensures.cases (c.are_same.ensures c.if-are_same.true) w.name-is refl refl
]

pub returns : goal.returns
returns c = elim c.if-line-eq65.branch [
  | then-line-eq65 w ↦ blank_pair c.args.text.now c.in_ok-line.line.now c.in_ok-line.behind.now c.skip_blanks.result.now c.if-line-eq65.name _ And c.in_ok-line.ensures.cases (sym c.with_line_feed.ensures ∙ c.are_same-else-not-is_blank.ensures c.if-not-are_same.false)
      w.name-is refl refl refl (sym c.is_blank.ensures ∙ c.if-not-is_blank.false) c.skip_blanks.ensures.tokens_kept c.skip_blanks.ensures.within
  | else-line-eq65 w ↦ blank_pair c.args.text.now c.in_ok-line.line.now c.in_ok-line.behind.now c.skip_blanks.result.now c.if-line-eq65.name _ Xor c.in_ok-line.ensures.cases (sym c.with_line_feed.ensures ∙ c.are_same-else-not-is_blank.ensures c.if-not-are_same.false)
      w.name-is refl refl refl (sym c.is_blank.ensures ∙ c.if-not-is_blank.false) c.skip_blanks.ensures.tokens_kept c.skip_blanks.ensures.within
]
