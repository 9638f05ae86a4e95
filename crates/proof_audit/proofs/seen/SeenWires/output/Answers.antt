use Rattle.std.proofs.Common.{◌≡◌, ◌<◌, length, subst}
use Rattle.zk_model.specs.Mac.{pair_at}
use Rattle.zk_model.specs.Check.{opened_pairs}
use Rattle.proof_audit.specs.SeenWires.{SeenSide}
use Rattle.proof_audit.proofs.Wires.{output_joined}
use Rattle.proof_audit.proofs.seen.SeenWires.output.Goals as goal

pub returns : goal.returns
returns c =
    subst (λ (side : SeenSide). c.args.o < length side.program.opened → record { x = c.output.result; m = c.output-2.result } ≡ pair_at (opened_pairs side.program side.pairs) c.args.o)
    c.self.view_is
    (λ below. output_joined c.self.inside.values c.self.inside.macs c.args.o c.output.result c.output-2.result c.self.invariant below c.output.ensures c.output-2.ensures)
    c.requires
