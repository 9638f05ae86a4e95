use Rattle.std.proofs.Common.{◌∷◌, ◌+◌, take, ap, sym, ◌∙◌}
use Rattle.statement_file.specs.Claims.{lines_of}
use Rattle.statement_file.proofs.Lines.{ended_line, last_line, behind_line}
use Rattle.statement_file.proofs.reader.first_line.Goals as goal

pub returns-in-Some-clause-lines : goal.returns-in-Some-clause-lines
returns-in-Some-clause-lines c =
    ended_line c.args.text.now c.in-Some.end (sym c.line_end.ensures ∙ c.in-Some.is)
    ∙ ap (λ rest. take c.in-Some.end c.args.text.now ∷ lines_of rest) (sym (behind_line c.args.text.now (c.in-Some.end + 1)))

pub returns-in-None-clause-lines : goal.returns-in-None-clause-lines
returns-in-None-clause-lines c = last_line c.args.text.now c.requires (sym c.line_end.ensures ∙ c.in-None.is)
