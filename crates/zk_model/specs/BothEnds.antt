-- A session of an honest prover and a verifier.
use Rattle.std.specs.Prelude.{◌≡◌, ℕ, List}
use Rattle.zk_model.specs.Transcript.{Grant, Transcript, sent_by}
use Rattle.zk_model.specs.View.{ChecksHold}
use Rattle.zk_model.specs.HonestProver.{ProverTask, IsHonest, AreHonestBytes}
use Rattle.zk_model.specs.ServedVerifier.{VerifierTask, IsServed, verifier_bytes}
use Rattle.zk_model.specs.declared.Side.{Side}
use Rattle.zk_model.specs.declared.Side.TheVariants.{Prover, Verifier}
use Rattle.zk_model.specs.declared.Verdict.{Verdict}

-- The log of a whole session of an honest prover and a verifier with this grant: it is in order, every equation holds on
-- it, the prover's bytes are those of an honest prover, and the verifier's are its grant, its replies, its coin and the
-- verdict of its checks.
pub record IsHonestSession
    (prover : ProverTask)
    (verifier : VerifierTask)
    (grant : Grant)
    (t : Transcript)
    (verdict : Verdict)
    (log : List (Side × ℕ)) : Type 0 where
  pub served : IsServed verifier t verdict log
  pub granted : t.commitment.setup.grant ≡ grant
  pub checks : ChecksHold verifier.file verifier.statement t
  pub honest : IsHonest prover t
  pub honest_bytes : AreHonestBytes prover (sent_by Verifier log) (sent_by Prover log)
  pub served_bytes : sent_by Verifier log ≡ verifier_bytes verifier.file t
