use Rattle.std.proofs.Common.{◌≡◌, ◌∙◌, subst}
use Rattle.std.specs.Prelude.{Some, slice_get}
use Rattle.zk_model.specs.Check.{Triple, product_triple}
use Rattle.proof_audit.specs.SeenWires.{SeenSide}
use Rattle.proof_audit.proofs.Wires.{triple_joined}
use Rattle.proof_audit.proofs.seen.SeenWires.triple.Goals as goal

pub returns : goal.returns
returns c = λ product stands.
    (subst (λ (side : SeenSide). slice_get side.program.products c.args.i ≡ Some product → made c ≡ product_triple side.pairs product) c.self.view_is
    (λ there. triple_joined c.self.inside.values c.self.inside.macs c.args.i
    (record { a = c.values.inside.a; b = c.values.inside.b; c = c.values.inside.c })
    (record { a = c.macs.inside.a; b = c.macs.inside.b; c = c.macs.inside.c })
    product c.self.invariant
    (λ p is. c.values.view_is ∙ c.triple-values.ensures p is) (λ p is. c.macs.view_is ∙ c.triple-macs.ensures p is) there)) stands
  where
    made : goal.After-macs → Triple
    made c = record {
      a = record { x = c.values.inside.a; m = c.macs.inside.a };
      b = record { x = c.values.inside.b; m = c.macs.inside.b };
      c = record { x = c.values.inside.c; m = c.macs.inside.c };
    }
