use Rattle.std.proofs.Common.{ap, ◌∙◌}
use Rattle.std.specs.Prelude.{slice_index}
use Rattle.zk_model.specs.Mac.{corrected_keys}
use Rattle.wire_auth.specs.Values.{numbers_carried}
use Rattle.wire_auth.specs.Walks.{Value, VerifierWalking}
use Rattle.wire_auth.proofs.verifier_walk.VerifierWalk.output.Goals as goal

pub returns : goal.returns
returns c =
    c.opened.ensures Value (numbers_carried c.self.inside.key c.self.inside.walk.program c.self.inside.public.now (corrected_keys c.self.inside.key c.self.inside.keys.now c.self.inside.corrections.now))
    (corrected_keys c.self.inside.key c.self.inside.keys.now c.self.inside.corrections.now) c.self.invariant.of_keys
    ∙ ap (λ (w : VerifierWalking). slice_index w.side.keys.wires (slice_index w.side.program.opened c.args.o)) c.self.view_is
