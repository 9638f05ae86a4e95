-- What a session of a prover about a claim leaves.
use Rattle.std.specs.Prelude.{◌≡◌, ◌⊎◌, ℕ, None, Some, [], ◌∷◌}
use Rattle.zk_model.specs.Files.{ProverFile}
use Rattle.zk_model.specs.Frames.{hello}
use Rattle.zk_model.specs.declared.Expect.TheVariants as expect
use Rattle.zk_model.specs.declared.Side.TheVariants.{Prover}
use Rattle.frame_link.specs.Lines.{LinkSnapshot}
use Rattle.frame_link.specs.declared.fault.LineFault.TheVariants as line
use Rattle.session_driver.specs.declared.drive.Outcome.{Outcome}
use Rattle.session_driver.specs.declared.drive.Outcome.TheVariants as driven
use Rattle.session_prover.specs.Stages.{Claim, ClaimantTells, claimant_tells}
use Rattle.session_script.specs.Scripts.{ScriptLeaves, stage_of}
use Rattle.session_script.specs.declared.fault.EndFault.{EndFault}
use Rattle.claim_prover.specs.Telling.{Knowledge, Told, nothing_told, known_of, prover_rules}
use Rattle.claim_prover.specs.declared.fault.ProvingFault.{ProvingFault}
use Rattle.claim_prover.specs.declared.prove.ProverEnd.{ProverEnd}
use Rattle.claim_prover.specs.declared.prove.ProverEnd.TheVariants.{Said, Refused, Cut}

-- How it ended, as its script says it: where it is over, the verdict was read.
abbrev pub EndsAs : ProverEnd → Told → Outcome (EndFault ProvingFault) → Type 0
EndsAs (Said code number) told outcome = (outcome ≡ driven.Done) × (told.verdict ≡ Some (code, number))
EndsAs (Refused fault) told outcome = outcome ≡ driven.Refused fault
EndsAs (Cut fault) told outcome = outcome ≡ driven.Cut fault

module _ {O : Type 0} (claims : ClaimantTells O) (knows : Knowledge) (file : ProverFile) (old new : O) (ended : ProverEnd) (first now : LinkSnapshot) where
  -- What was said and heard after its hello, by a prover's rules, from nothing on.
  pub record ProverLeaves : Type 0 where
    pub told : Told
    pub outcome : Outcome (EndFault ProvingFault)
    pub leaves : ScriptLeaves (prover_rules claims knows file) Prover (hello (knows.greeting file.id) ∷ [])
        (stage_of (known_of nothing_told old) (expect.Grant ∷ [])) (known_of told new) outcome first now
    pub ends : EndsAs ended told outcome

-- memory was missing before anything passed
pub record IsUnbegun {O : Type 0} (old new : O) (ended : ProverEnd) (first now : LinkSnapshot) : Type 0 where
  pub ended_is : ended ≡ Cut line.NoMemory
  pub claimant : new ≡ old
  pub same : now ≡ first

-- ---- a claimant by its answer alone

-- One who claims units of so many, by what it was asked for and answered alone: whoever it is, it is told so.
abbrev pub answer_alone : ℕ → ClaimantTells Claim
answer_alone total = claimant_tells (λ c. c.asked) (λ c. c.answer) (λ c. total)
    (λ old start count answer new. new ≡ record { asked = Some (start, count); answer = Some answer })

-- it was not asked yet
abbrev pub unasked : Claim
unasked = record { asked = None; answer = None }

-- What came of a session of a prover whose claimant was asked for this, and answered so: memory was missing before anything passed; or this
-- was said and heard.
abbrev pub LeavesTold : Knowledge → ProverFile → Claim → ProverEnd → LinkSnapshot → LinkSnapshot → Type 0
LeavesTold knows file claim ended first now = IsUnbegun unasked claim ended first now
    ⊎ ProverLeaves (answer_alone file.params.total) knows file unasked claim ended first now
