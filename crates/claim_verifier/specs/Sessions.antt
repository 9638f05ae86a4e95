-- What a session of a verifier about a claim leaves.
use Rattle.std.specs.Prelude.{◌≡◌, ◌⊎◌, ◌≤◌, ℕ, Option, Some, None, List, [], length, Result}
use Rattle.zk_model.specs.Correlations.{span_keys}
use Rattle.zk_model.specs.Files.{VerifierFile}
use Rattle.zk_model.specs.Mac.{Pair, AreKeysOf}
use Rattle.zk_model.specs.Transcript.{Grant}
use Rattle.zk_model.specs.View.{span_of}
use Rattle.zk_model.specs.declared.Side.TheVariants.{Verifier}
use Rattle.zk_model.specs.declared.Span.{Span}
use Rattle.frame_link.specs.Lines.{LinkSnapshot}
use Rattle.frame_link.specs.declared.fault.LineFault.TheVariants as line
use Rattle.lease_store.specs.declared.grantor.GrantFault.{GrantFault}
use Rattle.session_core.specs.declared.judgement.Judgement.{Judgement}
use Rattle.session_core.specs.declared.judgement.Judgement.TheVariants.{Accepted}
use Rattle.session_driver.specs.declared.drive.Outcome.{Outcome}
use Rattle.session_driver.specs.declared.drive.Outcome.TheVariants as driven
use Rattle.session_script.specs.Scripts.{ScriptLeaves, stage_of}
use Rattle.session_script.specs.declared.fault.EndFault.{EndFault}
use Rattle.session_verifier.specs.Serving.{Grants}
use Rattle.session_claim.specs.Claims.{Claim, IsExchange, claim_needs}
use Rattle.session_claim.specs.Script.{first_places}
use Rattle.claim_verifier.specs.Hearing.{Heard, nothing_heard, known_of, exchange_in, units_of, verifier_rules}
use Rattle.claim_verifier.specs.Served.{IsHeardWhole}
use Rattle.claim_verifier.specs.declared.fault.VoiceFault.{VoiceFault}
use Rattle.claim_verifier.specs.declared.verify.SessionEnd.{SessionEnd}
use Rattle.claim_verifier.specs.declared.verify.SessionEnd.TheVariants.{Judged, Refused, Cut}

-- how it ended, as its script says it
abbrev pub EndsAs : SessionEnd → Heard → Outcome (EndFault VoiceFault) → Type 0
EndsAs (Judged judgement) heard outcome = (outcome ≡ driven.Done) × (heard.judged ≡ Some judgement)
EndsAs (Refused fault) heard outcome = outcome ≡ driven.Refused fault
EndsAs (Cut fault) heard outcome = outcome ≡ driven.Cut fault

-- What acceptance shows: the exchange is whole; and for all pairs that the keys of the granted units fit, what the claim says of them.
pub record IsShown (claim : Claim) (file : VerifierFile) (heard : Heard) : Type 0 where
  pub given : Grant
  pub granted : heard.given ≡ Some given
  pub exchange : IsExchange claim (exchange_in file given heard)
  pub judged : claim.judges file.key (span_keys file (span_of given)) (exchange_in file given heard) Accepted
  pub enough : claim_needs claim given.section_length ≤ length (span_keys file (span_of given))
  pub shows : (pairs : List Pair) → AreKeysOf file.key pairs (span_keys file (span_of given))
      → claim.shows pairs (exchange_in file given heard) file.key

-- memory was missing before anything passed
pub record IsUnbegun {R : Type 0} (old new : R) (ended : SessionEnd) (first now : LinkSnapshot) : Type 0 where
  pub ended_is : ended ≡ Cut line.NoMemory
  pub grantor : new ≡ old
  pub same : now ≡ first

-- What was heard and said, by a verifier's rules, from nothing on; what it shows where it is accepted; and that a session that was judged is
-- whole, and shows the same of the pairs that a prover sees whose file is dealt with the verifier's.
pub record VerifierLeaves {R : Type 0} (grants : Grants R) (claim : Claim) (file : VerifierFile) (section_length : ℕ) (old new : R) (ended : SessionEnd)
    (first now : LinkSnapshot) : Type 0 where
  pub heard : Heard
  pub outcome : Outcome (EndFault VoiceFault)
  pub leaves : ScriptLeaves (verifier_rules grants claim file section_length) Verifier [] (stage_of (known_of nothing_heard old) (first_places claim))
      (known_of heard new) outcome first now
  pub ends : EndsAs ended heard outcome
  pub shown : ended ≡ Judged Accepted → IsShown claim file heard
  pub whole : (judgement : Judgement) → ended ≡ Judged judgement → IsHeardWhole claim file section_length heard judgement now.log

-- what is answered about the units of a session, if any were asked for
abbrev pub Answer : Type 0
Answer = Option (Result Span GrantFault)

-- one who leases so many units, of so many in all, known by its answer alone
abbrev pub answer_alone : ℕ → ℕ → Grants Answer
answer_alone count total = record {
  answer = λ answer. answer;
  asked = λ answer. Some count;
  total = λ answer. total;
  may = λ answer units. Unit {0};
  moves = λ old units answer new. Unit {0};
}

-- what a session leaves, by the answer about its units alone
abbrev pub LeavesTold : Claim → VerifierFile → ℕ → Answer → SessionEnd → LinkSnapshot → LinkSnapshot → Type 0
LeavesTold claim file section_length answer ended first now =
    IsUnbegun None answer ended first now
    ⊎ VerifierLeaves (answer_alone (units_of claim file section_length) file.params.total) claim file section_length None answer ended first now
