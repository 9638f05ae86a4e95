-- What a rehearsal of a session about a claim gives, and why there is none.
use Rattle.std.specs.Prelude.{◌≡◌, ◌<◌, ◌≤◌, ℕ, List}
use Rattle.dealer_files.specs.Dealing.{dealt_prover, dealt_verifier}
use Rattle.zk_model.specs.declared.Kind.{Kind}
use Rattle.zk_model.specs.declared.limits.TheConstants.{MAX_UNITS}
use Rattle.session_core.specs.Ends.{whole_grant}
use Rattle.session_claim.specs.Claims.{Claim, claim_needs}
use Rattle.session_rehearsal.specs.Rehearsals.{rehearsed_params, units_rehearsed}
use Rattle.claim_prover.specs.Telling.{Knowledge}
use Rattle.claim_rehearsal.specs.Passed.{IsClaimPassed}
use Rattle.claim_rehearsal.specs.declared.rehearsal.ClaimRehearsal.{ClaimRehearsal}
use Rattle.claim_rehearsal.specs.declared.rehearsal.ClaimRehearseFault.{ClaimRehearseFault}
use Rattle.claim_rehearsal.specs.declared.rehearsal.ClaimRehearseFault.TheVariants.{TooLarge, NoMemory}

-- The numbers are those of a session about the claim in these sections; and the log is that of an honest prover who knows this for it and of a
-- verifier, with the files of the seed, of which all units are granted.
pub record IsClaimRehearsal (knows : Knowledge) (kind : Kind) (section_length : ℕ) (seed : List ℕ) (r : ClaimRehearsal) : Type 0 where
  pub need : r.need ≡ claim_needs knows.claim section_length
  pub units : r.units ≡ units_rehearsed kind (claim_needs knows.claim section_length)
  pub units_most : r.units ≤ MAX_UNITS
  pub passed : IsClaimPassed
      knows
      (dealt_prover (rehearsed_params kind r.units) seed)
      (dealt_verifier (rehearsed_params kind r.units) seed)
      (whole_grant r.units section_length)
      r.judgement
      r.log

-- a session about the claim takes so many correlations, and too many units
pub record IsClaimTooLarge (claim : Claim) (kind : Kind) (section_length need units : ℕ) : Type 0 where
  pub needed : need ≡ claim_needs claim section_length
  pub counted : units ≡ units_rehearsed kind (claim_needs claim section_length)
  pub many : MAX_UNITS < units

-- why there is no rehearsal
abbrev pub ClaimRehearseCause : Claim → Kind → ℕ → ClaimRehearseFault → Type 0
ClaimRehearseCause claim kind section_length (TooLarge need units) = IsClaimTooLarge claim kind section_length need units
ClaimRehearseCause claim kind section_length NoMemory = Unit {0}
