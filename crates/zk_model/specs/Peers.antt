-- What a log says of the side that sent its bytes.
use Rattle.std.specs.Prelude.{ℕ, ◌≤◌, List, flat_map, take, length}
use Rattle.zk_model.specs.Transcript.{Transcript, BeginsWith, session_turns, spelling, sent_by}
use Rattle.zk_model.specs.HonestProver.{ProverTask, AreHonestBytes}
use Rattle.zk_model.specs.ServedVerifier.{VerifierTask, IsServed}
use Rattle.zk_model.specs.declared.Side.{Side}
use Rattle.zk_model.specs.declared.Side.TheVariants.{Prover, Verifier}
use Rattle.zk_model.specs.declared.Verdict.{Verdict}

-- what came from the prover is a beginning of what an honest prover sends when it has received what the verifier sent
abbrev pub IsFromHonestProver : ProverTask → List (Side × ℕ) → Type 0
IsFromHonestProver prover log =
    (honest : List ℕ) × AreHonestBytes prover (sent_by Verifier log) honest × BeginsWith honest (sent_by Prover log)

-- what came from the prover is all that an honest prover sends then
abbrev pub HasEndedHonestly : ProverTask → List (Side × ℕ) → Type 0
HasEndedHonestly prover log = AreHonestBytes prover (sent_by Verifier log) (sent_by Prover log)

-- What came from the verifier is a beginning of its answers to whole turns that the prover sent, in a session that it
-- serves: its grant, its replies, its coin and the verdict of its checks.
pub record IsFromHonestVerifier (verifier : VerifierTask) (log : List (Side × ℕ)) : Type 0 where
  pub t : Transcript
  pub verdict : Verdict
  pub served : IsServed verifier t verdict (spelling t)
  pub turns : ℕ
  pub within : turns ≤ length (session_turns t)
  pub heard : BeginsWith (sent_by Prover log) (flat_map (λ turn. turn.0) (take turns (session_turns t)))
  pub begun : BeginsWith (flat_map (λ turn. turn.1) (take turns (session_turns t))) (sent_by Verifier log)
