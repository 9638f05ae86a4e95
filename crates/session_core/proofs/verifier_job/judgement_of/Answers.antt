use Rattle.mult_check.specs.Checks.{sent_check, opening_check}
use Rattle.session_core.proofs.Judged.{rejected}
use Rattle.session_core.proofs.verifier_job.judgement_of.Goals as goal

pub returns-in-Err : goal.returns-in-Err
returns-in-Err g c =
    rejected (sent_check c.args.walk.now.side c.args.sent.now)
    (opening_check c.args.walk.now.side c.args.sent.now.key c.args.openings.now c.args.claims.now) c.in-Err.fault c.rejected_sum.result
    c.in-Err.ensures.differs c.rejected_sum.ensures
