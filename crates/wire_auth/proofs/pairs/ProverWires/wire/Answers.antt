use Rattle.std.proofs.Common.{◌≡◌, ◌<◌, ◌∙◌, arith, ap, sym}
use Rattle.std.specs.Prelude.{slice_index}
use Rattle.std.proofs.lemmas.List.{get_or_default}
use Rattle.zk_model.specs.Mac.{pair_at}
use Rattle.wire_auth.specs.Sides.{ProverSide}
use Rattle.wire_auth.proofs.Joined.{joined_at}
use Rattle.wire_auth.proofs.pairs.ProverWires.wire.Goals as goal

pub returns : goal.returns
returns c =
    (λ j. record { x = value_is j; m = mac_is j })
    ∙ sym (joined_at c.self.inside.values.items c.self.inside.macs.items c.args.wire
    (omega (arith, below, c.self.invariant.0)) (omega (arith, below, c.self.invariant.1)))
    ∙ ap (λ (side : ProverSide). pair_at side.pairs.wires c.args.wire) c.self.view_is
  where
    below : c.args.wire < c.self.inside.program.now.wires
    below = omega (arith, c.requires, ap (λ (side : ProverSide). side.program.wires) c.self.view_is)

    value_is : c.known.result ≡ slice_index c.self.inside.values.items c.args.wire
    value_is =
        c.known.ensures.unchanged ∙ c.index.ensures
        ∙ get_or_default c.self.inside.values.items c.args.wire c.index.result.now 0 (omega (arith, below, c.self.invariant.0))

    mac_is : c.known-2.result ≡ slice_index c.self.inside.macs.items c.args.wire
    mac_is =
        c.known-2.ensures.unchanged ∙ c.index-2.ensures
        ∙ get_or_default c.self.inside.macs.items c.args.wire c.index-2.result.now 0 (omega (arith, below, c.self.invariant.1))
