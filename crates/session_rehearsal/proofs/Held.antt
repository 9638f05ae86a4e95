-- What both ends answer makes a session of an honest prover that the verifier serves.
use Rattle.std.proofs.Common.{◌≡◌, ℕ, List, drop, refl, sym, ◌∙◌, ap, subst}
use Rattle.zk_model.specs.Program.{Program, correlations_needed}
use Rattle.zk_model.specs.Statement.{Statement}
use Rattle.zk_model.specs.Mac.{Pair, macs_of}
use Rattle.zk_model.specs.Transcript.{Round, IsGrant, units_for, wanted_hello}
use Rattle.zk_model.specs.Check.{WirePairs, all_sums, opened_pairs}
use Rattle.zk_model.specs.HonestProver.{IsWitness}
use Rattle.zk_model.specs.ServedVerifier.{IsServed, challenge_coin}
use Rattle.zk_model.specs.declared.Params.{Params}
use Rattle.zk_model.specs.declared.Side.{Side}
use Rattle.zk_model.specs.declared.Verdict.{Verdict}
use Rattle.session_core.specs.Ends.{IsFixed, whole_grant}
use Rattle.session_core.specs.Jobs.{ProverJob, VerifierJob, granted_from}
use Rattle.session_core.specs.Judgements.{session_transcript, verdict_in}
use Rattle.session_rehearsal.specs.Holding.{AreRoundsHeld, IsHonestWith, IsRehearsedSession, ends_of}
use Rattle.session_core.specs.declared.judgement.Judgement.{Judgement}

-- the prover is honest with these wires
honest_with : (prover : ProverJob) (job : VerifierJob) (start : ℕ) (seen : List Pair) (rounds : List Round) (d : List ℕ) (both : List (ℕ × ℕ)) (macs : List ℕ) (said : Verdict) (pairs : WirePairs) (inputs wires : List ℕ)
    → prover.statement ≡ job.task.statement → prover.file.id ≡ job.task.file.id
    → AreRoundsHeld prover.file job.task.file (granted_from job start) seen rounds
    → IsFixed prover.statement prover.given seen d pairs
    → both ≡ all_sums prover.statement.program job.section_length (challenge_coin job.task.file start) pairs
    (drop prover.statement.program.givens seen)
    → macs ≡ macs_of (opened_pairs prover.statement.program pairs)
    → IsWitness prover.statement inputs wires prover.given
    → IsHonestWith (ends_of prover job) inputs wires (session_transcript job (wanted_hello job.task.file.id job.task.statement) start rounds d both macs said)
honest_with prover job start seen rounds d both macs said pairs inputs wires stated same held fixed summed opened witness = record {
  honest = record {
    hello = λ i. wanted_hello (sym same i) (sym stated i);
    asks = held.asks;
    wires = wires;
    given = prover.given;
    witness = witness;
    view = record { pairs = seen; carried = pairs };
    seen = record {
      pairs = held.seen (wanted_hello job.task.file.id job.task.statement);
      given = fixed.given_are;
      carried = fixed.carried;
    };
    corrections = fixed.corrections_are;
    sums = summed;
    openings = opened;
  };
  wires_are = refl;
}

-- all together
pub session_is : (prover : ProverJob) (job : VerifierJob) (start : ℕ) (seen : List Pair) (rounds : List Round) (d : List ℕ) (both : List (ℕ × ℕ)) (macs : List ℕ) (judgement : Judgement) (pairs : WirePairs) (log : List (Side × ℕ))
    → prover.statement ≡ job.task.statement → prover.file.id ≡ job.task.file.id
    → IsServed job.task (session_transcript job (wanted_hello job.task.file.id job.task.statement) start rounds d both macs (verdict_in judgement)) (verdict_in judgement) log
    → AreRoundsHeld prover.file job.task.file (granted_from job start) seen rounds
    → IsFixed prover.statement prover.given seen d pairs
    → both ≡ all_sums prover.statement.program job.section_length (challenge_coin job.task.file start) pairs
    (drop prover.statement.program.givens seen)
    → macs ≡ macs_of (opened_pairs prover.statement.program pairs)
    → IsRehearsedSession (ends_of prover job) (granted_from job start) (verdict_in judgement) log
session_is prover job start seen rounds d both macs judgement pairs log stated same served held fixed summed opened = record {
  t = session_transcript job (wanted_hello job.task.file.id job.task.statement) start rounds d both macs (verdict_in judgement);
  granted = refl;
  served = subst (λ (s : Statement). IsServed (record { file = job.task.file; statement = s }) (session_transcript job (wanted_hello job.task.file.id job.task.statement) start rounds d both macs (verdict_in judgement)) (verdict_in judgement) log)
      (sym stated) served;
  honest = λ inputs wires witness. honest_with prover job start seen rounds d both macs (verdict_in judgement) pairs inputs wires stated same held fixed summed opened witness;
}

-- ---- counts

-- files of one pair have one number of units of a session: those that the grant of all units has
pub units_of_pair : (prover verifier : Params) (program : Program) (total section : ℕ) → prover ≡ verifier
    → IsGrant prover program (whole_grant total section)
    → units_for verifier (correlations_needed program section) ≡ total
units_of_pair prover verifier program total section same granted =
    sym (granted.count ∙ ap (λ (p : Params). units_for p (correlations_needed program section)) same)
