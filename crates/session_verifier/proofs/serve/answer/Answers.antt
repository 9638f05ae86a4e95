use Rattle.std.proofs.Common.{sym, subst, map, ◌<◌}
use Rattle.zk_model.specs.Files.{IsVerifierFile}
use Rattle.proof_frames.specs.Frames.{frame_value}
use Rattle.session_core.specs.Jobs.{VerifierJob}
use Rattle.session_verifier.specs.Serving.{verifier_frames_left}
use Rattle.session_verifier.specs.Stages.{IsHeldJob}
use Rattle.session_verifier.proofs.StageLemmas.{short_there, stays_behind}
use Rattle.session_verifier.proofs.serve.answer.Goals as goal

pub returns-in-Ok-clause-short : goal.returns-in-Ok-clause-short
returns-in-Ok-clause-short g c =
    let held : IsHeldJob c.args.job.now = record { file = subst IsVerifierFile c.file.ensures.file c.total-total.ensures.file; is = c.file.ensures.job } in
    short_there c.args.core.now.job c.args.core.now.stage c.step_with.new.self.stage (frame_value c.args.frame) (map frame_value c.in-Ok.answer.items) c.replies_are_in_range.ensures
    (subst IsHeldJob (sym c.requires.job) held) c.requires.expected c.expects-held.ensures.held c.in-Ok.ensures.answered

pub returns-in-Ok-clause-behind : goal.returns-in-Ok-clause-behind
returns-in-Ok-clause-behind g c =
    (stays_behind c.args.core.now.job c.args._span.start c.args.core.now.stage c.step_with.new.self.stage (frame_value c.args.frame) (map frame_value c.in-Ok.answer.items)
    c.requires.behind c.in-Ok.ensures.answered).0

pub returns-in-Ok-clause-fewer : goal.returns-in-Ok-clause-fewer
returns-in-Ok-clause-fewer g c =
    subst (λ (j : VerifierJob). verifier_frames_left j c.step_with.new.self.stage < verifier_frames_left c.args.core.now.job c.args.core.now.stage) (sym c.step_with.ensures.job)
    (stays_behind c.args.core.now.job c.args._span.start c.args.core.now.stage c.step_with.new.self.stage (frame_value c.args.frame) (map frame_value c.in-Ok.answer.items)
    c.requires.behind c.in-Ok.ensures.answered).1
