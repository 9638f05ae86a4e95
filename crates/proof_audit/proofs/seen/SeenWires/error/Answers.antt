use Rattle.std.proofs.Common.{◌≡◌, ◌∙◌, subst}
use Rattle.std.specs.Prelude.{Some, slice_get}
use Rattle.zk_model.specs.Field.{◌-ₚ◌}
use Rattle.zk_model.specs.Check.{product_error, product_triple}
use Rattle.proof_audit.specs.SeenWires.{SeenSide}
use Rattle.proof_audit.proofs.Errors.{error_joined}
use Rattle.proof_audit.proofs.seen.SeenWires.error.Goals as goal

pub returns : goal.returns
returns c = λ product stands.
    (subst (λ (side : SeenSide). slice_get side.program.products c.args.i ≡ Some product → c.sub.result ≡ product_error (product_triple side.pairs product))
    c.self.view_is
    (λ there. c.sub.ensures ∙ (λ j. c.mul.ensures j -ₚ c.a.inside.c)
    ∙ error_joined c.self.inside.values c.self.inside.macs (record { a = c.a.inside.a; b = c.a.inside.b; c = c.a.inside.c }) product c.self.invariant
    (c.a.view_is ∙ c.triple.ensures product there))) stands
