use Rattle.std.proofs.Common.{map, subst}
use Rattle.proof_frames.specs.Frames.{frame_value}
use Rattle.session_core.specs.Cores.{VerifierStage, VerifierAnswers}
use Rattle.session_verifier.proofs.serve.meet.Goals as goal

pub returns-in-Ok-clause-met : goal.returns-in-Ok-clause-met
returns-in-Ok-clause-met c =
    let answered = subst
    (λ (s : VerifierStage). VerifierAnswers c.args.core.now.job s (frame_value c.args.frame) (map frame_value c.in-Ok._answer.items) c.step.new.self.stage)
    c.requires.waits c.in-Ok.ensures.answered in
    record { greeting = record { hello = answered.0; fits = answered.2 }; is = answered.1 }
