use Rattle.std.proofs.Common.{rules, length, ap, sym, subst, ◌^◌, ◌+◌, ◌≤◌, ◌∙◌, []}
use Rattle.zk_model.specs.declared.Side.TheVariants.{Prover, Verifier}
use Rattle.frame_link.specs.Lines.{LinkSnapshot, snapshot, snapshot_of}
use Rattle.session_prover.specs.Stages.{Claim, IsSoundJob}
use Rattle.session_driver.specs.Leaving.{HasCome}
use Rattle.session_prover.specs.Notes.{HasEnded}
use Rattle.zk_model.specs.Files.{IsProverFile}
use Rattle.zk_model.specs.Program.{Program}
use Rattle.zk_model.specs.Statement.{Statement, IsStatement}
use Rattle.session_prover.proofs.Leading.{completes}
use Rattle.session_prover.proofs.prove.prove_session.Given.{Over}
use Rattle.session_prover.proofs.prove.prove_session.Goals as goal

-- what became of its claim
abbrev claim_of : (g : Over) (c : goal.After-end-link g) → Claim
claim_of g c = record { asked = g.C.Claimant.asked c.prove-course.new.claimant; answer = g.C.Claimant.answer c.prove-course.new.claimant }

-- what is known of the job
sound_of : (g : Over) (c : goal.After-end-link g) → IsSoundJob c.args.job.now
sound_of g c = record {
  is = c.file.ensures.job;
  file = subst IsProverFile c.file.ensures.file c.total-total.ensures.file;
  stated = subst IsStatement c.statement.ensures.statement c.program.ensures.stated;
  givens = subst (λ (p : Program). p.givens ≤ 2 ^ 24) (c.program.ensures.program ∙ ap (λ (s : Statement). s.program) c.statement.ensures.statement) c.opened-opened.ensures.held.givens;
  products = subst (λ (p : Program). length p.products ≤ 2 ^ 24) (c.program.ensures.program ∙ ap (λ (s : Statement). s.program) c.statement.ensures.statement) c.opened-opened.ensures.held.products;
  opened = subst (λ (p : Program). length p.opened ≤ 2 ^ 24 + 2 ^ 24) (c.program.ensures.program ∙ ap (λ (s : Statement). s.program) c.statement.ensures.statement) c.opened-opened.ensures.held.opened;
}

-- the line's moments are those
moments : (g : Over) (c : goal.After-end-link g) (P : LinkSnapshot → LinkSnapshot → Type 0) → P (snapshot_of c.new-line.result) (snapshot_of c.prove-course.new.line)
    → P (snapshot Prover [] (g.L.Link.state c.args.link)) (snapshot Prover c.end-link.result.1 (g.L.Link.state c.end-link.result.0))
moments g c P holds =
    let ended = ap (λ side. snapshot side c.end-link.result.1 (g.L.Link.state c.end-link.result.0)) (sym c.prove-course.ensures.side)
    ∙ c.end-link.ensures.passed in
    subst (λ (q : LinkSnapshot × LinkSnapshot). P q.0 q.1) (λ i. (ap snapshot_of c.new-line.ensures i, sym ended i)) holds

pub returns : goal.returns
returns g c =
    let ends = moments g c (λ first now. HasEnded c.args.job.now (claim_of g c) first c.prove-course.result.outcome now) c.prove-course.ensures.ends in
    let come = moments g c (HasCome Verifier) c.prove-course.ensures.come in
    record {
      granted = record { granted_is = c.prove-course.ensures.granted; asked = ends.asked };
      moved = c.prove-course.ensures.moved;
      outcome = ends.outcome_is;
      answers = ends.answers;
      verdict = ends.verdict;
      honest = ends.honest;
      claimed = ends.claimed;
      related = ends.related;
      logged = ends.logged;
      came = come.came;
      sends = ends.sends;
      receives = come.receives;
      faults = ends.count;
      ended = search rules;
      complete = completes c.args.job.now (claim_of g c) c.end-link.result.1 (snapshot Prover [] (g.L.Link.state c.args.link))
          (snapshot Prover c.end-link.result.1 (g.L.Link.state c.end-link.result.0)) c.prove-course.result.outcome c.honest_verdict.ensures
          (sound_of g c) ends.outcome_is;
    }
