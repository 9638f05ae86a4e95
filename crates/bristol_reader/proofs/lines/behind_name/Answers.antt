use Rattle.std.proofs.Common.{◌++◌, ap, sym, ◌∙◌}
use Rattle.bristol_reader.proofs.PlainLines.{begins, named}
use Rattle.bristol_reader.proofs.lines.behind_name.Goals as goal

pub returns : goal.returns
returns c =
    named c.args.text.now c.args.name.now c.in_ok-blank.behind.now c.skip_blanks.result.now c.in_ok-blank.blank.now
    (begins c.args.text.now c.args.name.now c.in_ok-rest.rest.now c.in_ok-rest.ensures.cases.0 c.in_ok-rest.ensures.cases.1 ∙ ap (λ l. c.args.name.now ++ l) c.in_ok-blank.ensures.cases.0)
    (sym c.is_blank.ensures ∙ c.if-not-is_blank.false) c.skip_blanks.ensures.tokens_kept c.skip_blanks.ensures.within c.requires
