use Rattle.std.proofs.Common.{subst}
use Rattle.proof_frames.specs.Frames.{frame_value}
use Rattle.proof_audit.specs.declared.session.Stage.{Stage}
use Rattle.proof_audit.specs.Stages.{StageTakes, Wrongs}
use Rattle.proof_audit.proofs.judge.Judge.advance.Goals as goal

pub returns-in-Some-clause-goes_on : goal.returns-in-Some-clause-goes_on
returns-in-Some-clause-goes_on c = λ yes.
    subst (λ (stage : Stage). StageTakes c.args.self.now stage (frame_value c.args.frame) c.in-Some.next) c.replace.ensures.value
    (rw c.in-Some.is at c.in_ok-next.ensures.takes)

pub returns-in-None-clause-stops : goal.returns-in-None-clause-stops
returns-in-None-clause-stops c = λ no.
    subst (λ (stage : Stage). Wrongs c.args.self.now stage (frame_value c.args.frame)) c.replace.ensures.value
    (rw c.in-None.is at c.in_ok-next.ensures.wrongs)
