-- What the bytes of an honest prover make of a log that a verifier serves.
use Rattle.std.specs.Prelude.{◌≡◌, ℕ, ◌<◌, List, [], ◌++◌, take, length, slice_index_or}
use Rattle.zk_model.specs.Program.{opened_values}
use Rattle.zk_model.specs.Statement.{IsStatement}
use Rattle.zk_model.specs.Transcript.{Transcript, IsHelloFor, IsTranscript, BeginsWith, bytes_from, turn_bytes, setup_turns, session_turns}
use Rattle.zk_model.specs.HonestProver.{ProverTask, IsWitness, IsHonest}
use Rattle.zk_model.specs.ServedVerifier.{VerifierTask, RepliesAre, IsServed}
use Rattle.zk_model.specs.Peers.{IsFromHonestProver, HasEndedHonestly}
use Rattle.zk_laws.specs.Completeness.{AreCounterparts}
use Rattle.zk_model.specs.declared.Side.{Side}
use Rattle.zk_model.specs.declared.Side.TheVariants.{Prover}
use Rattle.zk_model.specs.declared.Verdict.{Verdict}
use Rattle.zk_model.specs.declared.Verdict.TheVariants.{Accepted}

-- some values solve the prover's program with its inputs
pub record HasWitness (prover : ProverTask) : Type 0 where
  pub wires : List ℕ
  pub given : List ℕ
  pub witness : IsWitness prover.statement prover.inputs wires given

-- all values that solve it with these inputs give the claims
abbrev pub GivesClaims : ProverTask → Type 0
GivesClaims prover = (wires given : List ℕ) → IsWitness prover.statement prover.inputs wires given
    → opened_values prover.statement.program wires ≡ prover.statement.claims

-- n turns of a session between these ends, and then bytes of the prover
pub record IsServedTurns
    (verifier : VerifierTask)
    (t : Transcript)
    (n : ℕ)
    (rest : List ℕ)
    (log : List (Side × ℕ)) : Type 0 where
  pub stated : IsStatement verifier.statement
  pub transcript : IsTranscript verifier.file.params verifier.statement.program t
  pub hello : IsHelloFor verifier.file.id verifier.statement t.commitment.setup.hello
  pub replies : RepliesAre verifier.file t.commitment.setup
  pub more : n < length (session_turns t)
  pub bytes : log ≡ turn_bytes (take n (session_turns t)) ++ bytes_from Prover rest

-- what the prover says in turn n
abbrev pub said_in : Transcript → ℕ → List ℕ
said_in t n = (slice_index_or (session_turns t) n ([], [])).0

-- an honest session u that is t in its first n turns: so it has the grant and the challenge that came in these
pub record IsHonestUpTo (prover : ProverTask) (t : Transcript) (n : ℕ) (u : Transcript) : Type 0 where
  pub transcript : IsTranscript prover.file.params prover.statement.program u
  pub honest : IsHonest prover u
  pub same : take n (session_turns u) ≡ take n (session_turns t)
  pub grant : u.commitment.setup.grant ≡ t.commitment.setup.grant
  pub challenge : length (setup_turns t.commitment.setup) < n → u.challenge ≡ t.challenge

-- what an honest prover sent after n turns is a beginning of its next turn in an honest session with the same n turns
abbrev pub HonestTurn : Type 0
HonestTurn = (prover : ProverTask) (verifier : VerifierTask) (t : Transcript) (n : ℕ) (rest : List ℕ) (log : List (Side × ℕ))
    → AreCounterparts prover verifier → HasWitness prover → IsServedTurns verifier t n rest log
    → IsFromHonestProver prover log
    → (u : Transcript) × IsHonestUpTo prover t n u × BeginsWith (said_in u n) rest

-- and where it sent all that it sends then, it is the whole turn
abbrev pub HonestTurnEnds : Type 0
HonestTurnEnds = (prover : ProverTask) (verifier : VerifierTask) (t : Transcript) (n : ℕ) (rest : List ℕ)
    (log : List (Side × ℕ)) → AreCounterparts prover verifier → HasWitness prover → IsServedTurns verifier t n rest log
    → HasEndedHonestly prover log
    → (u : Transcript) × IsHonestUpTo prover t n u × (rest ≡ said_in u n)

-- on the log of a whole session whose bytes came from an honest prover, the prover is honest
abbrev pub HonestWhole : Type 0
HonestWhole = (prover : ProverTask) (verifier : VerifierTask) (t : Transcript) (verdict : Verdict) (log : List (Side × ℕ))
    → AreCounterparts prover verifier → HasWitness prover → IsServed verifier t verdict log
    → IsFromHonestProver prover log → IsHonest prover t

-- so where its values give the claims, the verdict is that every check holds
abbrev pub HonestWholeIsAccepted : Type 0
HonestWholeIsAccepted = (prover : ProverTask) (verifier : VerifierTask) (t : Transcript) (verdict : Verdict)
    (log : List (Side × ℕ)) → AreCounterparts prover verifier → HasWitness prover → GivesClaims prover
    → IsServed verifier t verdict log → IsFromHonestProver prover log → verdict ≡ Accepted
