use Rattle.std.proofs.Common.{◌∙◌, ◌++◌, sym, append_assoc}
use Rattle.std.specs.Prelude.{codes}
use Rattle.rehearse_poly.specs.PolyRuns.{counts_text, takes_text}
use Rattle.rehearse_poly.proofs.saying.write_lines.Goals as goal

pub returns : goal.returns
returns c =
    c.in_ok-format.ensures.ok
    ∙ (λ i. c.in_ok-counts.ensures i ++ (c.in_ok-takes.ensures i ++ codes "accepted\n"))
    ∙ sym (append_assoc (counts_text c.args.variables c.args.constraints c.args.degree) (takes_text c.args.need c.args.units) (codes "accepted\n"))
