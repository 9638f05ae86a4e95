use Rattle.std.proofs.Common.{◌≡◌, ◌∙◌, [], None, ap, refl, subst}
use Rattle.zk_model.specs.declared.Side.TheVariants.{Verifier}
use Rattle.frame_link.specs.Lines.{LineState, snapshot_of}
use Rattle.session_core.specs.Cores.{VerifierState, awaits_hello}
use Rattle.session_core.specs.Jobs.{VerifierJob, VerifierJobs, noted_job, units_of_job}
use Rattle.session_driver.specs.Leaving.{IsRun, PartyLeaves}
use Rattle.session_driver.specs.Runs.{seen_as}
use Rattle.session_driver.specs.declared.drive.Outcome.{Outcome}
use Rattle.session_verifier.specs.Serving.{Grants, Served, grants_of, served, serves}
use Rattle.session_verifier.specs.declared.note.VerifierOutcome.{VerifierOutcome}
use Rattle.session_verifier.specs.declared.serve.Serving.{Serving}
use Rattle.session_verifier.proofs.ServeLemmas.{noted, taken_within, lease_total, lease_asked, lease_moved, done_judged}
use Rattle.session_verifier.proofs.serve.serve.Given.{Over}
use Rattle.session_verifier.proofs.serve.serve.Goals as goal
use Rattle.session_driver.proofs.Left.{run_leaves}

-- a verifier's end and the one who leases units, as definitions see them
abbrev grants : (g : Over) → Grants g.row.R.Denot
grants g = grants_of g.R.Grantor.answer g.R.Grantor.asked g.R.Grantor.total g.R.Grantor.may g.R.Grantor.moves

abbrev view : (g : Over) → Serving × g.row.R.Denot → Served g.row.R.Denot
view g s = served s.0.jobs.now s.0.core s.0.taken s.0.granted s.1

-- what the run leaves, from the first job on
left_at : (g : Over) (jobs : VerifierJobs) (job : VerifierJob) (old new : Serving × g.row.R.Denot) (outcome : Outcome VerifierOutcome) (first now : LineState)
    → view g old ≡ served jobs old.0.core None None old.1 → old.0.core ≡ record { job = job; stage = awaits_hello } → job ≡ jobs.first
    → IsRun (seen_as (view g) (serves (grants g))) [] old new outcome first now → first.side ≡ Verifier
    → PartyLeaves (serves (grants g)) [] Verifier (served jobs (record { job = jobs.first; stage = awaits_hello }) None None old.1) (view g new) outcome
    (snapshot_of first) (snapshot_of now)
left_at g jobs job old new outcome first now starts is noted run side =
    subst (λ s. PartyLeaves (serves (grants g)) [] Verifier s (view g new) outcome (snapshot_of first) (snapshot_of now))
    (starts ∙ ap (λ (c : VerifierState). served jobs c None None old.1) (is ∙ ap (λ (j : VerifierJob). record { job = j; stage = awaits_hello }) noted))
    (run_leaves (view g) (serves (grants g)) [] Verifier old new outcome first now side run)

pub outcome_of-requires : goal.outcome_of-requires
outcome_of-requires g c =
    let left = left_at g c.args.jobs.now c.noted.result.now _ _ c.run-outcome.result _ _ refl c.new.ensures c.noted.ensures.noted
    c.run-outcome.ensures.run c.requires.side in
    record { judged = done_judged c.args.jobs.now (grants g) c.args.grantor.now c.requires.once c.replies_are_in_range.ensures _ c.run-outcome.result _ _ left }

pub returns : goal.returns
returns g c =
    let jobs = c.args.jobs.now in
    let old = c.args.grantor.now in
    let led = c.run-outcome.new in
    let left = left_at g jobs c.noted.result.now _ _ c.run-outcome.result _ _ refl c.new.ensures c.noted.ensures.noted
    c.run-outcome.ensures.run c.requires.side in
    let noted = noted jobs (grants g) old c.requires.once c.replies_are_in_range.ensures _ c.run-outcome.result _ _ left c.outcome_of.result c.outcome_of.ensures in
    let units = units_of_job (noted_job jobs led.party.taken) in
    record {
      total_kept = lease_total (grants g) units old led.asked noted.lease;
      asked = lease_asked (grants g) units old led.asked noted.lease;
      moved = lease_moved (grants g) units old led.asked noted.lease;
      statement = noted.statement;
      course = noted.course;
      come = left.come;
      within = taken_within jobs led.party.taken _ noted.statement.has;
      side = c.run-outcome.ensures.side ∙ c.requires.side;
      open_still = c.run-outcome.ensures.open_still;
    }
