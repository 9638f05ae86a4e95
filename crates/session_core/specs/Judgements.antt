-- What a verifier finds of a whole session.
use Rattle.std.specs.Prelude.{◌≡◌, ℕ, List, []}
use Rattle.zk_model.specs.Transcript.{Hello, Round, Transcript}
use Rattle.zk_model.specs.Correlations.{span_keys}
use Rattle.zk_model.specs.Mac.{corrected_keys}
use Rattle.zk_model.specs.Check.{AreKeysFor, WireKeys, ProductCheck, OpeningCheck, left_of_section, right_of_section, left_of_opening, right_of_opening}
use Rattle.zk_model.specs.View.{span_of, AreSessionKeys, IsVerdictOf, session_products, session_openings, verdict_code, verdict_number}
use Rattle.zk_model.specs.ServedVerifier.{VerifierTask, challenge_coin}
use Rattle.zk_model.specs.declared.Verdict.{Verdict}
use Rattle.zk_model.specs.declared.Verdict.TheVariants as verdict
use Rattle.wire_auth.specs.Sides.{VerifierSide}
use Rattle.mult_check.specs.Checks.{all_left_sides, opened_keys, product_check}
use Rattle.mult_check.specs.declared.sections.Differs.{Differs}
use Rattle.mult_check.specs.declared.fault.StreamFault.{StreamFault}
use Rattle.mult_check.specs.declared.fault.StreamFault.TheVariants as stream
use Rattle.session_core.specs.Ends.{masks_in}
use Rattle.session_core.specs.Jobs.{VerifierJob, granted_from}
use Rattle.session_core.specs.declared.left_sides.LeftSides.{LeftSides}
use Rattle.session_core.specs.declared.judgement.Judgement.{Judgement}
use Rattle.session_core.specs.declared.judgement.Judgement.TheVariants.{Accepted, RejectedSum, RejectedOpening}

-- what the verifier says of it
abbrev pub verdict_in : Judgement → Verdict
verdict_in Accepted = verdict.Accepted
verdict_in (RejectedSum section left right) = verdict.RejectedSum section
verdict_in (RejectedOpening output left right) = verdict.RejectedOpening output

-- the sides of the equation that fails
abbrev pub HasSides : ProductCheck → OpeningCheck → Judgement → Type 0
HasSides products openings Accepted = Unit {0}
HasSides products openings (RejectedSum section left right) =
    (left ≡ left_of_section products section) × (right ≡ right_of_section products section)
HasSides products openings (RejectedOpening output left right) =
    (left ≡ left_of_opening openings output) × (right ≡ right_of_opening openings output)

-- a judgement and its sides are what the checks say
abbrev pub Judges : ProductCheck → OpeningCheck → Judgement → Type 0
Judges products openings judgement = IsVerdictOf products openings (verdict_in judgement) × HasSides products openings judgement

-- the sums are refused for the first section whose sides differ
abbrev pub IsRejectedFor : StreamFault → Judgement → Type 0
IsRejectedFor fault judgement = (differs : Differs)
    × (fault ≡ stream.Differs differs) × (judgement ≡ RejectedSum differs.section differs.left differs.right)

-- Over keys of all wires, it is what the checks say, with both sides where one fails.
pub record IsJudgement (task : VerifierTask) (t : Transcript) (judgement : Judgement) : Type 0 where
  pub keys : WireKeys
  pub carried : AreSessionKeys task.file task.statement t.commitment keys
  pub judged : IsVerdictOf
      (session_products task.file task.statement t keys) (session_openings task.file task.statement t keys)
      (verdict_in judgement)
  pub sides : HasSides
      (session_products task.file task.statement t keys) (session_openings task.file task.statement t keys) judgement

-- The transcript of a session with this hello and these rounds: the grant from this unit on, what the prover sent, the
-- verifier's coin, and what it says in the end.
abbrev pub session_transcript : VerifierJob → Hello → ℕ → List Round → List ℕ → List (ℕ × ℕ) → List ℕ → Verdict → Transcript
session_transcript job greeting start rounds corrections sums openings said = record {
  commitment = record {
    setup = record {
      hello = greeting;
      grant = granted_from job start;
      rounds = rounds;
    };
    corrections = corrections;
  };
  challenge = challenge_coin job.task.file start;
  sums = sums;
  openings = openings;
  code = verdict_code said;
  number = verdict_number said;
}

-- What is found of a session with a grant from this unit on, in which the prover sent these: the same whatever the hello and the
-- rounds were, since the verifier's keys are those of its file.
abbrev pub Finds : VerifierJob → ℕ → List ℕ → List (ℕ × ℕ) → List ℕ → Judgement → Type 0
Finds job start corrections sums openings judgement =
    (greeting : Hello) (rounds : List Round)
    → IsJudgement job.task (session_transcript job greeting start rounds corrections sums openings (verdict_in judgement)) judgement

-- what a verifier has of all wires, from these keys of a session's correlations and these corrections
pub record IsVerifierSide (job : VerifierJob) (keys corrections : List ℕ) (side : VerifierSide) : Type 0 where
  pub program : side.program ≡ job.task.statement.program
  pub given : side.keys.given ≡ corrected_keys job.task.file.key keys corrections
  pub carried : AreKeysFor job.task.file.key job.task.statement.program job.task.statement.public side.keys

-- What it has of a session with a grant from this unit on in which these corrections came, before sums and openings come: over keys of
-- all wires, the left sides of both checks.
pub record AreLeftSides (job : VerifierJob) (start : ℕ) (corrections : List ℕ) (left_sides : LeftSides) : Type 0 where
  pub side : VerifierSide
  pub keys : IsVerifierSide job (span_keys job.task.file (span_of (granted_from job start))) corrections side
  pub sections : left_sides.sections.items ≡ all_left_sides (product_check side job.section_length (challenge_coin job.task.file start)
      (masks_in job.task.statement.program job.section_length (span_keys job.task.file (span_of (granted_from job start)))) job.task.file.key [])
  pub opened : left_sides.opened.items ≡ opened_keys side
