use Rattle.std.proofs.Common.{sym, subst}
use Rattle.std.specs.Prelude.{IfNone, IfOk}
use Rattle.proof_frames.specs.Frames.{frame_value}
use Rattle.proof_audit.specs.declared.session.Stage.{Stage}
use Rattle.proof_audit.specs.Stages.{StageTakes, Wrongs}
use Rattle.proof_audit.proofs.judge.Judge.take.Goals as goal

pub returns-in-Grant-clause-wrongs : goal.returns-in-Grant-clause-wrongs
returns-in-Grant-clause-wrongs c = subst (λ (stage : Stage). IfNone c.take_grant.result (Wrongs c.args.self.now stage (frame_value c.args.frame))) (sym c.in-Grant.is) c.take_grant.ensures.wrongs

pub returns-in_ok-next-in-Asks-clause-takes : goal.returns-in_ok-next-in-Asks-clause-takes
returns-in_ok-next-in-Asks-clause-takes c = subst (λ (stage : Stage). StageTakes c.args.self.now stage (frame_value c.args.frame) c.in_ok-next-in-Asks.next) (sym c.in-Asks.is) c.in_ok-next-in-Asks.ensures

pub returns-in-Replies-clause-wrongs : goal.returns-in-Replies-clause-wrongs
returns-in-Replies-clause-wrongs c = subst (λ (stage : Stage). IfNone c.take_replies.result (Wrongs c.args.self.now stage (frame_value c.args.frame))) (sym c.in-Replies.is) c.take_replies.ensures.wrongs

pub returns-in-Corrections-clause-takes : goal.returns-in-Corrections-clause-takes
returns-in-Corrections-clause-takes c = subst (λ (stage : Stage). StageTakes c.args.self.now stage (frame_value c.args.frame) c.take_corrections.result) (sym c.in-Corrections.is) c.take_corrections.ensures

pub returns-in-Challenge-clause-wrongs : goal.returns-in-Challenge-clause-wrongs
returns-in-Challenge-clause-wrongs c = subst (λ (stage : Stage). IfNone c.take_challenge.result (Wrongs c.args.self.now stage (frame_value c.args.frame))) (sym c.in-Challenge.is) c.take_challenge.ensures.wrongs

pub returns-in-Sums-clause-takes : goal.returns-in-Sums-clause-takes
returns-in-Sums-clause-takes c = subst (λ (stage : Stage). StageTakes c.args.self.now stage (frame_value c.args.frame) c.take_sums.result) (sym c.in-Sums.is) c.take_sums.ensures

pub returns-in-Openings-clause-takes : goal.returns-in-Openings-clause-takes
returns-in-Openings-clause-takes c = subst (λ (stage : Stage). StageTakes c.args.self.now stage (frame_value c.args.frame) c.take_openings.result) (sym c.in-Openings.is) c.take_openings.ensures

pub returns-in-Verdict-clause-wrongs : goal.returns-in-Verdict-clause-wrongs
returns-in-Verdict-clause-wrongs c = subst (λ (stage : Stage). IfOk c.take_verdict.result (λ taken. IfNone taken (Wrongs c.args.self.now stage (frame_value c.args.frame)))) (sym c.in-Verdict.is) c.take_verdict.ensures.wrongs
