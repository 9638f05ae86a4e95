-- Logs of which both ends are honest are beginnings of those of honest sessions.
use Rattle.std.specs.Prelude.{◌≡◌, ℕ, ◌<◌, ◌≤◌, List, ◌++◌, take, length}
use Rattle.zk_model.specs.Transcript.{Grant, Transcript, IsTranscript, BeginsWith, bytes_from, turn_bytes, session_turns, spelling}
use Rattle.zk_model.specs.HonestProver.{ProverTask, IsHonest}
use Rattle.zk_model.specs.ServedVerifier.{VerifierTask, ServesWith}
use Rattle.zk_model.specs.BothEnds.{IsHonestSession}
use Rattle.zk_model.specs.Peers.{IsFromHonestProver, IsFromHonestVerifier}
use Rattle.zk_laws.specs.Completeness.{AreCounterparts}
use Rattle.session_laws.specs.Peers.{HasWitness, GivesClaims, said_in}
use Rattle.zk_model.specs.declared.Side.{Side}
use Rattle.zk_model.specs.declared.Side.TheVariants.{Prover, Verifier}
use Rattle.zk_model.specs.declared.Verdict.TheVariants.{Accepted}

-- a beginning of the log of an honest session with this grant, which is accepted
pub record BeginsHonestly (prover : ProverTask) (verifier : VerifierTask) (grant : Grant) (log : List (Side × ℕ)) : Type 0 where
  pub t : Transcript
  pub session : IsHonestSession prover verifier grant t Accepted (spelling t)
  pub begun : BeginsWith (spelling t) log

-- what a verifier serves, and an honest prover sent its part of, is a beginning of an honest session
abbrev pub HonestLog : Type 0
HonestLog = (prover : ProverTask) (verifier : VerifierTask) (grant : Grant) (log : List (Side × ℕ))
    → AreCounterparts prover verifier → HasWitness prover → GivesClaims prover
    → ServesWith verifier grant log → IsFromHonestProver prover log → BeginsHonestly prover verifier grant log

-- n turns of a session of an honest prover, what it says in the next, and then bytes of the verifier
pub record IsCutInAnswer
    (prover : ProverTask)
    (t : Transcript)
    (n : ℕ)
    (rest : List ℕ)
    (log : List (Side × ℕ)) : Type 0 where
  pub transcript : IsTranscript prover.file.params prover.statement.program t
  pub honest : IsHonest prover t
  pub more : n < length (session_turns t)
  pub bytes : log ≡ turn_bytes (take n (session_turns t)) ++ (bytes_from Prover (said_in t n) ++ bytes_from Verifier rest)

-- what an honest prover holds, and an honest verifier sent its part of, is a beginning of an honest session
abbrev pub HonestAnswer : Type 0
HonestAnswer = (prover : ProverTask) (verifier : VerifierTask) (t : Transcript) (n : ℕ) (rest : List ℕ)
    (log : List (Side × ℕ)) → AreCounterparts prover verifier → GivesClaims prover
    → IsCutInAnswer prover t n rest log → IsFromHonestVerifier verifier log
    → (grant : Grant) × BeginsHonestly prover verifier grant log × (1 ≤ n → grant ≡ t.commitment.setup.grant)

-- and a whole log of both is that of an honest session, which is accepted
abbrev pub HonestVerdict : Type 0
HonestVerdict = (prover : ProverTask) (verifier : VerifierTask) (t : Transcript) (log : List (Side × ℕ))
    → AreCounterparts prover verifier → GivesClaims prover
    → IsTranscript prover.file.params prover.statement.program t → IsHonest prover t → log ≡ spelling t
    → IsFromHonestVerifier verifier log
    → IsHonestSession prover verifier t.commitment.setup.grant t Accepted log

-- conversely, in a beginning of an honest session each end sent its part, and the verifier serves it
pub record IsOfBoth (prover : ProverTask) (verifier : VerifierTask) (grant : Grant) (log : List (Side × ℕ)) : Type 0 where
  pub from_prover : IsFromHonestProver prover log
  pub from_verifier : IsFromHonestVerifier verifier log
  pub serves : ServesWith verifier grant log

abbrev pub HonestLogIsOfBoth : Type 0
HonestLogIsOfBoth = (prover : ProverTask) (verifier : VerifierTask) (grant : Grant) (log : List (Side × ℕ))
    → AreCounterparts prover verifier → BeginsHonestly prover verifier grant log → IsOfBoth prover verifier grant log
