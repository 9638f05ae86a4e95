use Rattle.std.proofs.Common.{◌≡◌, ◌∙◌, [], ◌∷◌, None, false, refl, sym, subst}
use Rattle.zk_model.specs.declared.Side.TheVariants.{Prover}
use Rattle.frame_link.specs.Lines.{LineState, snapshot_of}
use Rattle.session_core.specs.Jobs.{ProverJob}
use Rattle.session_core.specs.Cores.{ProverState, awaits_grant}
use Rattle.session_driver.specs.Runs.{seen_as}
use Rattle.session_driver.specs.declared.drive.Outcome.{Outcome}
use Rattle.session_prover.specs.declared.note.ProverOutcome.{ProverOutcome}
use Rattle.session_prover.specs.declared.proving.Proving.{Proving}
use Rattle.session_prover.specs.Notes.{HasEnded}
use Rattle.session_driver.specs.Leaving.{IsRun, PartyLeaves}
use Rattle.session_driver.proofs.Left.{run_leaves}
use Rattle.session_prover.specs.Stages.{ClaimantTells, IsProving, Proved, told_claim, claimant_tells, greeting_frame, proved, proves}
use Rattle.session_prover.proofs.Leading.{proving_first, session_ended, claim_ended}
use Rattle.session_prover.proofs.proving.prove.Given.{Over}
use Rattle.session_prover.proofs.proving.prove.Goals as goal

-- a prover's end and the one who claims units, as definitions see them
abbrev claims : (g : Over) → ClaimantTells g.row.C.Denot
claims g = claimant_tells g.C.Claimant.asked g.C.Claimant.answer g.C.Claimant.total g.C.Claimant.moves

abbrev view : (g : Over) → Proving × g.row.C.Denot → Proved g.row.C.Denot
view g s = proved s.0.core s.0.granted s.0.accepted s.1

-- what a run leaves from a core that has read nothing
left_from : (g : Over) (job : ProverJob) (old new : Proving × g.row.C.Denot) (outcome : Outcome ProverOutcome) (first now : LineState)
    → old.0.core ≡ record { job = job; stage = awaits_grant } → old.0.granted ≡ None → old.0.accepted ≡ false
    → IsRun (seen_as (view g) (proves (claims g))) (greeting_frame job ∷ []) old new outcome first now → first.side ≡ Prover
    → PartyLeaves (proves (claims g)) (greeting_frame job ∷ []) Prover (proved (record { job = job; stage = awaits_grant }) None false old.1) (view g new) outcome
    (snapshot_of first) (snapshot_of now)
left_from g job old new outcome first now core granted accepted run side =
    subst (λ s. PartyLeaves (proves (claims g)) (greeting_frame job ∷ []) Prover s (view g new) outcome (snapshot_of first) (snapshot_of now))
    (λ i. proved (core i) (granted i) (accepted i) old.1)
    (run_leaves (view g) (proves (claims g)) (greeting_frame job ∷ []) Prover old new outcome first now side run)

pub run-outcome-requires-clause-holds : goal.run-outcome-requires-clause-holds
run-outcome-requires-clause-holds g c κs within =
    subst (λ (s : ProverState). IsProving (claims g) c.args.job.now (proved s None false c.args.claimant.now)) (sym c.core_of.ensures)
    (proving_first (claims g) c.args.job.now c.args.claimant.now c.requires.sound c.requires.unasked c.requires.total)

pub returns : goal.returns
returns g c =
    let requires = c.requires in
    let job = c.args.job.now in
    let old = c.args.claimant.now in
    let new = c.run-outcome.new in
    let left = left_from g job _ _ _ _ _ c.core_of.ensures refl refl c.run-outcome.ensures.run requires.side in
    let claim = claim_ended (claims g) old requires.unasked job requires.sound _ _ _ _ left in
    record {
      granted = claim.told;
      moved = claim.moved;
      ends = subst (λ o. HasEnded job (told_claim (claims g) new.asked) (snapshot_of c.args.line.now) o (snapshot_of new.line)) (sym c.outcome_of.ensures)
          (session_ended (claims g) old requires.unasked job requires.sound _ _ _ _ left);
      come = left.come;
      side = c.run-outcome.ensures.side ∙ c.requires.side;
      open_still = c.run-outcome.ensures.open_still;
    }
