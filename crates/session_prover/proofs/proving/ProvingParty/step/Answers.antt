use Rattle.std.proofs.Common.{map, refl}
use Rattle.std.specs.Prelude.{All}
use Rattle.proof_frames.specs.Frames.{frame_value, IsShort}
use Rattle.session_prover.specs.Stages.{ClaimantTells, IsProving, claimant_tells, proved}
use Rattle.session_prover.proofs.Leading.{if_ok_more, on_ok_more, steps_there, steps_granted}
use Rattle.session_prover.proofs.proving.ProvingParty.step.Given.{Over}
use Rattle.session_prover.proofs.proving.ProvingParty.step.Goals as goal

abbrev claims : (g : Over) → ClaimantTells g.row.C.Denot
claims g = claimant_tells g.C.Claimant.asked g.C.Claimant.answer g.C.Claimant.total g.C.Claimant.moves

pub returns-then-answers-clause-short : goal.returns-then-answers-clause-short
returns-then-answers-clause-short g c =
    if_ok_more c.answer.result _ (λ a. All IsShort (map frame_value a.items)) (λ a answers.
    (steps_there (claims g) c.args.self.now.job.now c.args.self.now.core c.answer.new.core c.args.self.now.granted c.args.self.now.accepted c.args.asked.now (frame_value c.args.frame) (map frame_value a.items)
    c.requires.holds c.requires.expected (c.if-answers.ensures.yes refl) c.answer.ensures.job answers).short) c.answer.ensures.answered

pub returns-then-answers-clause-holds : goal.returns-then-answers-clause-holds
returns-then-answers-clause-holds g c =
    on_ok_more c.answer.result _ (IsProving (claims g) c.args.self.now.job.now (proved c.answer.new.core c.args.self.now.granted c.args.self.now.accepted c.args.asked.now)) (λ a answers.
    (steps_there (claims g) c.args.self.now.job.now c.args.self.now.core c.answer.new.core c.args.self.now.granted c.args.self.now.accepted c.args.asked.now (frame_value c.args.frame) (map frame_value a.items)
    c.requires.holds c.requires.expected (c.if-answers.ensures.yes refl) c.answer.ensures.job answers).holds) c.answer.ensures.answered

pub returns-in-Some-Grant-clause-short : goal.returns-in-Some-Grant-clause-short
returns-in-Some-Grant-clause-short g c =
    if_ok_more c.answer_grant.result _ (λ a. All IsShort (map frame_value a.items)) (λ a answers.
    (steps_granted (claims g) c.args.self.now.job.now c.args.self.now.core c.answer_grant.new.core c.args.self.now.granted c.answer_grant.new.granted c.args.self.now.accepted c.args.asked.now
    c.answer_grant.new.claimant (frame_value c.args.frame) (map frame_value a.items) c.requires.holds c.requires.expected answers).short) c.answer_grant.ensures.answered

pub returns-in-Some-Grant-clause-holds : goal.returns-in-Some-Grant-clause-holds
returns-in-Some-Grant-clause-holds g c =
    on_ok_more c.answer_grant.result _ (IsProving (claims g) c.args.self.now.job.now (proved c.answer_grant.new.core c.answer_grant.new.granted c.args.self.now.accepted c.answer_grant.new.claimant)) (λ a answers.
    (steps_granted (claims g) c.args.self.now.job.now c.args.self.now.core c.answer_grant.new.core c.args.self.now.granted c.answer_grant.new.granted c.args.self.now.accepted c.args.asked.now
    c.answer_grant.new.claimant (frame_value c.args.frame) (map frame_value a.items) c.requires.holds c.requires.expected answers).holds) c.answer_grant.ensures.answered
