use Rattle.std.proofs.Common.{◌≡◌, ◌∙◌, ℕ, ◌≤◌, ◌+◌, [], ◌∷◌, Some, Ok, Err, ap, inl, inr, refl, sym, subst, arith}
use Rattle.zk_model.specs.Files.{VerifierFile}
use Rattle.zk_model.specs.Frames.{grant}
use Rattle.proof_frames.specs.Frames.{frame_value}
use Rattle.session_core.specs.Jobs.{VerifierJob, granted_from, units_of_job}
use Rattle.session_core.specs.Cores.{VerifierState, behind_grant}
use Rattle.session_verifier.specs.Serving.{Greeted, Leases, grants_of, served}
use Rattle.session_verifier.specs.Stages.{AreUnits}
use Rattle.session_verifier.proofs.ServeLemmas.{greeted_by, leases_for}
use Rattle.session_verifier.proofs.serve.grant_units.Given.{Over}
use Rattle.session_verifier.proofs.serve.grant_units.Goals.{After-grant_frames}
use Rattle.session_verifier.proofs.serve.grant_units.Goals as goal

-- the units of the job may be asked for
pub grant-requires-clause-may : goal.grant-requires-clause-may
grant-requires-clause-may g c =
    let units = c.units.ensures.units in
    let few = c.units.ensures.job.units_most in
    c.requires.place.3 c.units.result (omega (arith, units)) (omega (arith, units, few))

pub returns-in-Err-clause-refused : goal.returns-in-Err-clause-refused
returns-in-Err-clause-refused g c =
    let same : c.take_statement.new.core.job ≡ c.noted-job.result.now = ap (λ (s : VerifierState). s.job) c.take_statement.ensures.core ∙ sym c.noted-job.ensures.noted in
    let job : c.meet.new.core.job ≡ c.noted-job.result.now = c.in_ok-meet.ensures.job ∙ same in (
      refl,
      inr (inl (record {
        greeted = greeted_by c.args.jobs.now _ _ (frame_value c.args.frame) c.requires.place.0 c.take_statement.ensures.takes c.take_statement.ensures.place
            (job ∙ c.noted-job.ensures.noted) c.in_ok-meet.ensures.job c.in_ok-meet.ensures.met;
        fault = c.in-Err.fault;
        leased = leases_for _ c.units.result c.noted-job.result.now c.meet.new.core.job (Err c.in-Err.fault) _ _ c.units.ensures.units (sym job)
            (record { told = c.in-Err.ensures.told; asked = c.in-Err.ensures.asked; total = c.in-Err.ensures.total; moves = c.in-Err.ensures.moves });
        outcome_is = c.from.ensures;
        code_is = ap (λ (n : ℕ). Some n) c.code_for_grant.ensures;
        granted = refl;
      })),
    )

-- ---- where units were leased

-- the job that they are for is that of the core in the end
final_job : (g : Over) (c : After-grant_frames g) → c.noted-job.result.now ≡ c.grant_frames.new.core.job
final_job g c =
    c.noted-job.ensures.noted ∙ sym (ap (λ (s : VerifierState). s.job) c.grant_frames.ensures.core ∙ c.in_ok-meet.ensures.job
    ∙ ap (λ (s : VerifierState). s.job) c.take_statement.ensures.core)

greeted_of : (g : Over) (c : After-grant_frames g)
    → Greeted c.args.jobs.now (served c.args.jobs.now c.args.core.now c.args.taken.now c.args.granted.now c.args.grantor.now) (frame_value c.args.frame)
    (served c.args.jobs.now c.grant_frames.new.core c.take_statement.new.taken (Some c.in-Ok.span) c.grant.new.self)
greeted_of g c = greeted_by c.args.jobs.now _ _ (frame_value c.args.frame) c.requires.place.0 c.take_statement.ensures.takes c.take_statement.ensures.place
    (sym (final_job g c) ∙ c.noted-job.ensures.noted)
    (ap (λ (s : VerifierState). s.job) c.grant_frames.ensures.core ∙ c.in_ok-meet.ensures.job) c.in_ok-meet.ensures.met

are_of : (g : Over) (c : After-grant_frames g) → AreUnits c.grant_frames.new.core.job c.in-Ok.span
are_of g c = subst (λ (j : VerifierJob). AreUnits j c.in-Ok.span) (final_job g c) (record {
  units = c.in-Ok.ensures.counted ∙ ap (λ n. c.in-Ok.span.start + n) c.units.ensures.units;
  within = subst (λ (f : VerifierFile). c.in-Ok.span.end ≤ f.params.total) (sym c.noted-job.ensures.file)
      (omega (arith, c.in-Ok.ensures.within, c.requires.place.4));
})

leased_of : (g : Over) (c : After-grant_frames g)
    → Leases (grants_of g.R.Grantor.answer g.R.Grantor.asked g.R.Grantor.total g.R.Grantor.may g.R.Grantor.moves) (units_of_job c.grant_frames.new.core.job)
    (Ok c.in-Ok.span) c.args.grantor.now c.grant.new.self
leased_of g c = leases_for _ c.units.result c.noted-job.result.now c.grant_frames.new.core.job (Ok c.in-Ok.span) _ _ c.units.ensures.units (final_job g c)
    (record { told = c.in-Ok.ensures.told; asked = c.in-Ok.ensures.asked; total = c.in-Ok.ensures.total; moves = c.in-Ok.ensures.moves })

pub returns-in-Ok-grant_frames-clause-answered : goal.returns-in-Ok-grant_frames-clause-answered
returns-in-Ok-grant_frames-clause-answered g c =
    let same : c.meet.new.core.job ≡ c.grant_frames.new.core.job = sym (ap (λ (s : VerifierState). s.job) c.grant_frames.ensures.core) in
    record {
      greeted = greeted_of g c.before;
      span = c.in-Ok.span;
      are = are_of g c.before;
      leased = leased_of g c.before;
      answer_is = c.in-Ok-grant_frames.ensures.frames ∙ ap (λ (j : VerifierJob). grant (granted_from j c.in-Ok.span.start) ∷ []) same;
      stage = ap (λ (s : VerifierState). s.stage) c.grant_frames.ensures.core ∙ ap (λ (j : VerifierJob). behind_grant j c.in-Ok.span.start) same;
      granted = refl;
    }

pub returns-in-Err-grant_frames-clause-refused : goal.returns-in-Err-grant_frames-clause-refused
returns-in-Err-grant_frames-clause-refused g c = (
  refl,
  inr (inr (inl (record {
    greeted = greeted_of g c.before;
    span = c.in-Ok.span;
    are = are_of g c.before;
    leased = leased_of g c.before;
    outcome_is = refl;
    code_is = refl;
    granted = refl;
  }))),
)
