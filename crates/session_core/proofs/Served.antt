-- What a verifier answers makes a session that it serves.
use Rattle.std.proofs.Common.{◌≡◌, ℕ, ◌^◌, ◌<◌, ◌≤◌, List, length, refl, arith}
use Rattle.zk_model.specs.Field.{IsElement}
use Rattle.zk_model.specs.Program.{section_count}
use Rattle.zk_model.specs.Statement.{IsStatement}
use Rattle.zk_model.specs.Files.{IsVerifierFile}
use Rattle.frame_laws.proofs.Hellos.{fitting_is_hello}
use Rattle.zk_model.specs.Transcript.{Hello, Round, IsHelloFor, IsGrant, IsTranscript, spelling}
use Rattle.zk_model.specs.Frames.{AreElements, AreSums}
use Rattle.zk_model.specs.View.{verdict_code, verdict_number}
use Rattle.zk_model.specs.ServedVerifier.{IsServed, challenge_coin}
use Rattle.zk_model.specs.declared.Side.{Side}
use Rattle.zk_model.specs.declared.Verdict.{Verdict}
use Rattle.zk_model.specs.declared.Verdict.TheVariants.{Accepted, RejectedSum, RejectedOpening}
use Rattle.session_core.specs.Jobs.{VerifierJob, IsVerifierJob, granted_from}
use Rattle.session_core.specs.Judgements.{IsJudgement, session_transcript, verdict_in}
use Rattle.session_core.specs.Rounds.{AreServedRounds}
use Rattle.session_core.specs.declared.judgement.Judgement.{Judgement}

code_most : (verdict : Verdict) → verdict_code verdict ≤ 2
code_most Accepted = omega arith
code_most (RejectedSum s) = omega arith
code_most (RejectedOpening o) = omega arith

-- what came in a session: as much as the job's statement wants, in range
pub record AreRanged (job : VerifierJob) (start : ℕ) (d : List ℕ) (both : List (ℕ × ℕ)) (macs : List ℕ) (said : Verdict) : Type 0 where
  pub corrections : AreElements job.task.statement.program.givens d
  pub challenge : IsElement (challenge_coin job.task.file start)
  pub sums : AreSums (section_count job.task.statement.program job.section_length) both
  pub openings : AreElements (length job.task.statement.program.opened) macs
  pub number : verdict_number said < 2 ^ 32

-- the transcript has the right counts and ranges
pub in_range : (job : VerifierJob) (greeting : Hello) (start : ℕ) (rounds : List Round) (d : List ℕ) (both : List (ℕ × ℕ)) (macs : List ℕ) (said : Verdict) → IsStatement job.task.statement
    → IsVerifierFile job.task.file → IsVerifierJob job → IsHelloFor job.task.file.id job.task.statement greeting
    → IsGrant job.task.file.params job.task.statement.program (granted_from job start)
    → AreServedRounds job.task.file (granted_from job start) rounds
    → AreRanged job start d both macs said
    → IsTranscript job.task.file.params job.task.statement.program (session_transcript job greeting start rounds d both macs said)
in_range job greeting start rounds d both macs said stated file is fits granted served ranged = record {
  commitment = record {
    setup = record {
      hello = fitting_is_hello job.task.file.id job.task.statement greeting file.id stated fits;
      grant = granted;
      round_count = served.count;
      rounds = served.ranged;
    };
    count = ranged.corrections.counted;
    elements = ranged.corrections.ranged;
  };
  challenge = ranged.challenge;
  sum_count = ranged.sums.counted;
  sums = ranged.sums.ranged;
  opening_count = ranged.openings.counted;
  openings = ranged.openings.ranged;
  code = code_most said;
  number = ranged.number;
}

-- the verifier serves the session
pub served_is : (job : VerifierJob) (greeting : Hello) (start : ℕ) (rounds : List Round) (d : List ℕ) (both : List (ℕ × ℕ)) (macs : List ℕ) (judgement : Judgement) (log : List (Side × ℕ))
    → IsStatement job.task.statement → IsVerifierFile job.task.file → IsVerifierJob job → IsHelloFor job.task.file.id job.task.statement greeting
    → IsGrant job.task.file.params job.task.statement.program (granted_from job start)
    → AreServedRounds job.task.file (granted_from job start) rounds
    → AreRanged job start d both macs (verdict_in judgement)
    → IsJudgement job.task (session_transcript job greeting start rounds d both macs (verdict_in judgement)) judgement
    → log ≡ spelling (session_transcript job greeting start rounds d both macs (verdict_in judgement))
    → IsServed job.task (session_transcript job greeting start rounds d both macs (verdict_in judgement)) (verdict_in judgement) log
served_is job greeting start rounds d both macs judgement log stated file is fits granted served ranged found spelled = record {
  in_order = record {
    stated = stated;
    hello = fits;
    transcript = in_range job greeting start rounds d both macs (verdict_in judgement) stated file is fits granted served ranged;
    bytes = spelled;
  };
  replies = served.replies;
  challenge = refl;
  judged = record { keys = found.keys; carried = found.carried; judged = found.judged; said = record { code = refl; number = refl } };
}
