use Rattle.std.proofs.Common.{sym, ◌∙◌, ap}
use Rattle.std.proofs.lemmas.Bool.{false≢true}
use Rattle.zk_model.specs.View.{verdict_code, verdict_number}
use Rattle.proof_frames.specs.Frames.{frame_value}
use Rattle.proof_audit.proofs.VerdictSteps.{verdict_wrong, verdict_accepts, verdict_declines}
use Rattle.proof_audit.proofs.judge.Judge.take_verdict.Goals as goal

pub returns-then-not-says-clause-wrongs : goal.returns-then-not-says-clause-wrongs
returns-then-not-says-clause-wrongs c =
    verdict_wrong c.args.self.now c.args.session (frame_value c.args.frame) c.in-Verdict.code c.in-Verdict.number c.in_ok-judgement.judgement
    (ap frame_value c.in-Verdict.is) c.in_ok-judgement.ensures.stated c.in_ok-judgement.ensures.finds
    (λ said. false≢true (sym c.if-not-says.true
    ∙ c.says.ensures.no (said.0 ∙ ap verdict_code (sym c.verdict.ensures)) (said.1 ∙ ap verdict_number (sym c.verdict.ensures))))

pub returns-then-code-eq0-clause-takes : goal.returns-then-code-eq0-clause-takes
returns-then-code-eq0-clause-takes c =
    verdict_accepts c.args.self.now c.args.session (frame_value c.args.frame) c.in-Verdict.code c.in-Verdict.number c.in_ok-judgement.judgement
    (ap frame_value c.in-Verdict.is) c.in_ok-judgement.ensures.stated c.in_ok-judgement.ensures.finds
    ((c.says.ensures.yes c.if-not-says.false).0 ∙ ap verdict_code c.verdict.ensures)
    ((c.says.ensures.yes c.if-not-says.false).1 ∙ ap verdict_number c.verdict.ensures)
    c.if-code-eq0.true

pub returns-clause-takes : goal.returns-clause-takes
returns-clause-takes c =
    verdict_declines c.args.self.now c.args.session (frame_value c.args.frame) c.in-Verdict.code c.in-Verdict.number c.in_ok-judgement.judgement
    (ap frame_value c.in-Verdict.is) c.in_ok-judgement.ensures.finds
    ((c.says.ensures.yes c.if-not-says.false).0 ∙ ap verdict_code c.verdict.ensures)
    ((c.says.ensures.yes c.if-not-says.false).1 ∙ ap verdict_number c.verdict.ensures)
    c.if-code-eq0.false
