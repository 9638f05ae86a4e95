use Rattle.std.proofs.Common.{rules, ◌^◌, ◌+◌, ◌≤◌, [], ap, sym, ◌∙◌, subst, length, arith, Option, Result, ◌≡◌}
use Rattle.zk_model.specs.Statement.{Statement, IsStatement}
use Rattle.zk_model.specs.Files.{IsVerifierFile}
use Rattle.zk_model.specs.Program.{Program}
use Rattle.zk_model.specs.declared.Side.TheVariants.{Prover, Verifier}
use Rattle.frame_link.specs.Lines.{LineState, LinkSnapshot, snapshot, snapshot_of}
use Rattle.session_core.specs.Jobs.{VerifierJob, noted_job}
use Rattle.session_driver.specs.Leaving.{HasCome}
use Rattle.session_verifier.specs.Notes.{TakesStatement, AnswersLease, JudgesRightly, AcceptsExactly, IsShown, SendsRightly, EndsBecause, LeasesBehindHello, IsTold, CompletesForEach, CountsFaults}
use Rattle.session_verifier.specs.Stages.{IsCourse, answer_at, outcome_at}
use Rattle.session_verifier.proofs.CourseLemmas.{answers_lease, judges_rightly, counts_faults, leases_behind, ends_because, is_shown, sends_rightly, accepts_exactly, keeps_keys}
use Rattle.session_verifier.proofs.HonestLemmas.{AreLaws, completes, is_told}
use Rattle.session_verifier.proofs.verify.verify_session.Given.{Over}
use Rattle.session_verifier.proofs.verify.verify_session.Goals as goal
use Rattle.session_verifier.proofs.Cuts.{IsKnown}
use Rattle.session_pool.specs.Notes.{granted_by}
use Rattle.zk_model.specs.declared.Span.{Span}
use Rattle.lease_store.specs.declared.grantor.GrantFault.{GrantFault}
use Rattle.session_verifier.specs.declared.note.VerifierOutcome.{VerifierOutcome}
use Rattle.session_verifier.specs.declared.note.VerifierOutcome.TheVariants.{Accepted}

-- the job about the statement that was taken
abbrev noted_of : (g : Over) (c : goal.After-new g) → VerifierJob
noted_of g c = noted_job c.args.jobs.now c.serve-course.result.taken

-- what is known of the job
known_of : (g : Over) (c : goal.After-new g) → IsKnown (noted_of g c)
known_of g c = subst IsKnown c.noted-job.ensures.noted (record {
  stated = subst IsStatement c.statement.ensures.statement c.program.ensures.stated;
  file = subst IsVerifierFile c.file.ensures.file c.total-total.ensures.file;
  is = c.file.ensures.job;
  opened = subst (λ (p : Program). length p.opened ≤ 2 ^ 24 + 2 ^ 24) (c.program.ensures.program ∙ ap (λ (s : Statement). s.program) c.statement.ensures.statement) c.opened-opened.ensures.held.opened;
  products = subst (λ (p : Program). length p.products ≤ 2 ^ 24) (c.program.ensures.program ∙ ap (λ (s : Statement). s.program) c.statement.ensures.statement) c.opened-opened.ensures.held.products;
})

-- the moments before and after it
abbrev first_of : (g : Over) (c : goal.After-new g) → LinkSnapshot
first_of g c = snapshot Verifier [] (g.L.Link.state c.args.link)

abbrev now_of : (g : Over) (c : goal.After-new g) → LinkSnapshot
now_of g c = snapshot Verifier c.end-link.result.1 (g.L.Link.state c.end-link.result.0)

-- the line's moments are those
moments : (g : Over) (c : goal.After-new g) (P : LinkSnapshot → LinkSnapshot → Type 0) → P (snapshot_of c.new-line.result) (snapshot_of c.serve-course.new.line)
    → P (first_of g c) (now_of g c)
moments g c P holds =
    let ended = ap (λ s. snapshot s c.end-link.result.1 (g.L.Link.state c.end-link.result.0)) (sym c.serve-course.ensures.side) ∙ c.end-link.ensures.passed in
    subst (λ (q : LinkSnapshot × LinkSnapshot). P q.0 q.1) (λ i. (ap snapshot_of c.new-line.ensures i, sym ended i)) holds

-- it is a course of the job
course_of : (g : Over) (c : goal.After-new g) → IsCourse (noted_of g c) (g.R.Grantor.answer c.serve-course.new.grantor) c.serve-course.result.granted c.serve-course.result.outcome (first_of g c) (now_of g c)
course_of g c = moments g c (IsCourse (noted_of g c) (g.R.Grantor.answer c.serve-course.new.grantor) c.serve-course.result.granted c.serve-course.result.outcome)
    c.serve-course.ensures.course

-- and what came is what the link no longer has to come
come_of : (g : Over) (c : goal.After-new g) → HasCome Prover (first_of g c) (now_of g c)
come_of g c = moments g c (HasCome Prover) c.serve-course.ensures.come

-- which statement was taken
statement_of : (g : Over) (c : goal.After-new g)
    → TakesStatement c.args.jobs.now c.serve-course.result.taken
    (g.R.Grantor.answer c.serve-course.new.grantor) c.serve-course.result.outcome c.end-link.result.1
statement_of g c =
    subst (TakesStatement c.args.jobs.now c.serve-course.result.taken (g.R.Grantor.answer c.serve-course.new.grantor) c.serve-course.result.outcome)
    (sym (ap (λ (s : LinkSnapshot). s.log) c.end-link.ensures.passed)) c.serve-course.ensures.statement

pub serve-course-requires-clause-fresh : goal.serve-course-requires-clause-fresh
serve-course-requires-clause-fresh g c κs within = record {
  log = ap (λ (l : LineState). l.log) c.new-line.ensures;
  reading = ap (λ (l : LineState). l.reading) c.new-line.ensures;
  is_open = ap (λ (l : LineState). l.is_open) c.new-line.ensures ∙ c.requires.open;
}

-- the parts of its course that clauses speak of
abbrev Parts : Type 0
Parts = Option (Result Span GrantFault) × (Option Span × VerifierOutcome)

pub returns : goal.returns
returns g c =
    let serve = c.serve-course in
    let job = noted_of g c in
    let first = first_of g c in
    let now = now_of g c in
    let known = known_of g c in
    let course = course_of g c in
    let ending = course.ending in
    let has = course.has in
    let ranges = c.replies_are_in_range.ensures in
    let exists = c.served_session_exists.ensures in
    let parts : Parts = (g.R.Grantor.answer serve.new.grantor, (serve.result.granted, serve.result.outcome)) in
    let same : (answer_at ending, (granted_by (answer_at ending), outcome_at ending)) ≡ parts =
    (λ i. (sym course.answer_is i, (sym course.granted_is i, sym course.outcome_is i))) in
    let sends = subst (λ (q : Parts). SendsRightly job q.1.0 q.1.1 now.log) same (sends_rightly job ending first now ranges exists known has) in
    let laws : AreLaws = record {
      ranges = ranges;
      exists = exists;
      turn = c.honest_turn.ensures;
      ends = c.honest_turn_ends.ensures;
      accepted = c.honest_whole_is_accepted.ensures;
    } in
    record {
      total_kept = serve.ensures.total_kept;
      statement = statement_of g c;
      sized = (omega arith, known.is.units_most);
      asked = serve.ensures.asked;
      moved = serve.ensures.moved;
      granted = course.granted_is ∙ ap granted_by (sym course.answer_is);
      refused = subst (λ (q : Parts). AnswersLease q.0 q.1.1) same (answers_lease ending);
      verdict = subst (λ (q : Parts). JudgesRightly job q.1.0 q.1.1 now.log) same (judges_rightly job ending first now known has);
      accepted = subst (λ (q : Parts). AcceptsExactly job q.1.1 now.log) same
          (accepts_exactly job ending first now ranges exists c.cut_is_not_accepted.ensures c.verdict_is_said.ensures known has);
      shown = subst (λ (q : Parts). q.1.1 ≡ Accepted → IsShown job q.1.0 now.log) same (is_shown job ending first now known c.extraction_holds.ensures has);
      sends = sends;
      related = keeps_keys job serve.result.granted serve.result.outcome c.end-link.result.1 c.keys_fit.ensures known sends;
      cause = subst (λ (q : Parts). EndsBecause job q.0 q.1.1 first now) same (ends_because job ending first now known has);
      leased = subst (λ (q : Parts). LeasesBehindHello job q.0 now.log) same (leases_behind job ending first now has);
      told = subst (λ (q : Parts). IsTold job q.1.0 q.1.1 first now) same (is_told job ending first now ranges exists known has);
      came = (come_of g c).came;
      receives = (come_of g c).receives;
      complete = subst (λ (q : Parts). CompletesForEach c.args.jobs.now q.0 q.1.1 first now) same
          (completes c.args.jobs.now serve.result.taken ending first now laws c.count-few.ensures.few c.are_stated.ensures known
          (subst (λ (q : Parts). TakesStatement c.args.jobs.now serve.result.taken q.0 q.1.1 now.log) (sym same) (statement_of g c)) has);
      faults = subst (λ (q : Parts). CountsFaults q.1.1 first now) same (counts_faults job ending first now has);
      ended = search rules;
      untried = c.new.ensures.items;
    }
