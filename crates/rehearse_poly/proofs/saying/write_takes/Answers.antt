use Rattle.std.proofs.Common.{◌∙◌, ◌++◌, List, ℕ, ap, sym, append_assoc}
use Rattle.std.specs.Prelude.{codes}
use Rattle.std.specs.Fmt.{decimal}
use Rattle.rehearse_poly.proofs.saying.write_takes.Goals as goal

pub returns : goal.returns
returns c =
    let need : List ℕ = decimal c.args.need in
    let units : List ℕ = decimal c.args.units in
    c.in_ok-format.ensures.ok
    ∙ ap (λ (l : List ℕ). codes "correlations " ++ l)
    (sym (append_assoc need (codes " units ") (units ++ codes "\n")) ∙ sym (append_assoc (need ++ codes " units ") units (codes "\n")))
