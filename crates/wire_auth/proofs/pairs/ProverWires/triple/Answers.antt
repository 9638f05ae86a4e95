use Rattle.std.proofs.Common.{◌≡◌, ◌<◌, ◌∙◌, arith, length, ap, sym}
use Rattle.std.specs.Prelude.{Some, slice_get, slice_index_or}
use Rattle.std.proofs.lemmas.Option.{get_or_from_slice_get, slice_get_within}
use Rattle.zk_model.specs.Mac.{pair_at}
use Rattle.zk_model.specs.declared.Product as zk
use Rattle.wire_auth.specs.Held.{items_in}
use Rattle.wire_auth.specs.Sides.{ProverSide}
use Rattle.wire_auth.specs.Values.{given_value}
use Rattle.wire_auth.proofs.Joined.{given_pair_at}
use Rattle.wire_auth.proofs.pairs.ProverWires.triple.Goals as goal

pub returns : goal.returns
returns c product at = λ j. record { a = a_is j; b = b_is j; c = c_is j }
  where
    inside_at : slice_get c.self.inside.program.now.products c.args.i ≡ Some product
    inside_at = ap (λ (side : ProverSide). slice_get side.program.products c.args.i) c.self.view_is ∙ at

    same : c.product-product.result ≡ product
    same =
        sym (get_or_from_slice_get c.self.inside.program.now.products c.args.i c.product-product.result product c.product-product.ensures.product)
        ∙ get_or_from_slice_get c.self.inside.program.now.products c.args.i product product inside_at

    a_is : c.wire.result ≡ pair_at c.args.self.now.pairs.wires product.a
    a_is = c.wire.ensures ∙ ap (λ (p : zk.Product). pair_at c.args.self.now.pairs.wires p.a) same

    b_is : c.wire-2.result ≡ pair_at c.args.self.now.pairs.wires product.b
    b_is = c.wire-2.ensures ∙ ap (λ (p : zk.Product). pair_at c.args.self.now.pairs.wires p.b) same

    within : product.c < length (items_in c.self.inside.dealt)
    within = omega (
      arith,
      c.product-product.ensures.held.numbered c.args.i product inside_at,
      slice_get_within c.self.inside.program.now.products c.args.i product inside_at,
      c.product-product.ensures.held.counted,
      c.self.invariant.2,
    )

    dealt_is : c.index-dealt-product.result ≡ slice_index_or (items_in c.self.inside.dealt) product.c c.index-dealt-product.result
    dealt_is =
        c.index-dealt-product.is
        ∙ (λ j. slice_index_or ((c.dealt.ensures.dealt ∙ ap (λ (side : ProverSide). side.dealt) (sym c.self.view_is)) j)
        (same j).c c.index-dealt-product.result)

    c_is : record { x = c.given_value.result; m = c.dealt-2.inside.m } ≡ pair_at c.args.self.now.pairs.given product.c
    c_is =
        (λ j. record {
          x = (c.given_value.ensures.value
              ∙ (λ k. given_value c.self.inside.program.now (c.deref.ensures.value k) (same k))) j;
          m = (c.dealt-2.view_is j).m;
        })
        ∙ sym (given_pair_at c.self.inside.program.now c.self.inside.values.items (items_in c.self.inside.dealt) c.args.i product c.index-dealt-product.result
        c.product-product.ensures.held inside_at within dealt_is)
        ∙ ap (λ (side : ProverSide). pair_at side.pairs.given product.c) c.self.view_is
