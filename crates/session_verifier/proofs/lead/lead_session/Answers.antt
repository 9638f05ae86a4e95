use Rattle.std.proofs.Common.{[], arith}
use Rattle.zk_model.specs.declared.Side.TheVariants.{Verifier}
use Rattle.frame_link.specs.Lines.{snapshot}
use Rattle.session_core.specs.Jobs.{noted_job}
use Rattle.session_verifier.proofs.CourseLemmas.{refused_by, completes_noted}
use Rattle.session_verifier.proofs.lead.lead_session.Goals as goal

pub returns-clause-note : goal.returns-clause-note
returns-clause-note g c = record {
  statement = c.verify_session-note.ensures.statement;
  session = record {
    granted_is = c.verify_session-note.ensures.granted;
    refused = c.verify_session-note.ensures.refused;
    behind_hello = c.verify_session-note.ensures.leased;
    verdict = c.verify_session-note.ensures.verdict;
    accepted = c.verify_session-note.ensures.accepted;
    shown = c.verify_session-note.ensures.shown;
    sends = c.verify_session-note.ensures.sends;
    related = c.verify_session-note.ensures.related;
    first = g.L.Link.state c.args.link;
    fresh = c.requires.fresh;
    cause = c.verify_session-note.ensures.cause;
    told = c.verify_session-note.ensures.told;
    came = c.verify_session-note.ensures.came;
    faults = c.verify_session-note.ensures.faults;
    receives = c.verify_session-note.ensures.receives;
    complete = completes_noted c.args.jobs.now c.verify_session-note.result.statement (g.R.Grantor.answer c.verify_session-note.new.grantor)
        c.verify_session-note.result.outcome (snapshot Verifier [] (g.L.Link.state c.args.link))
        (snapshot Verifier c.verify_session-note.result.log (g.L.Link.state c.verify_session-note.result.link))
        (c.are_stated.ensures 0 (omega arith)) c.verify_session-note.ensures.statement.has
        c.verify_session-note.ensures.complete;
    ended = c.verify_session-note.ensures.ended;
  };
  complete = c.verify_session-note.ensures.complete;
}

pub returns-clause-refused : goal.returns-clause-refused
returns-clause-refused g c =
    refused_by (noted_job c.args.jobs.now c.verify_session-note.result.statement) (g.R.Grantor.answer c.verify_session-note.new.grantor) c.verify_session-note.result.outcome _ _ c.verify_session-note.ensures.cause
