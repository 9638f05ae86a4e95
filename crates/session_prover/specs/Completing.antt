-- With an honest verifier a session is accepted.
use Rattle.std.specs.Prelude.{◌≡◌, ◌⊎◌, ℕ, List, flat_map, Some, Err}
use Rattle.zk_model.specs.Transcript.{Transcript, session_turns, spelling, sent_by}
use Rattle.zk_model.specs.HonestProver.{IsWitness}
use Rattle.zk_model.specs.ServedVerifier.{VerifierTask, IsServed}
use Rattle.zk_model.specs.Peers.{IsFromHonestVerifier}
use Rattle.zk_model.specs.declared.Side.{Side}
use Rattle.zk_model.specs.declared.Side.TheVariants.{Verifier}
use Rattle.zk_model.specs.declared.Verdict.{Verdict}
use Rattle.zk_port.specs.Counts.{Rose}
use Rattle.zk_laws.specs.Completeness.{AreCounterparts}
use Rattle.session_laws.specs.Peers.{GivesClaims}
use Rattle.claim_store.specs.declared.ClaimFault.{ClaimFault}
use Rattle.frame_link.specs.Lines.{LinkSnapshot}
use Rattle.session_core.specs.Jobs.{ProverJob}
use Rattle.session_prover.specs.Notes.{task_of}
use Rattle.session_prover.specs.Stages.{Claim}
use Rattle.session_prover.specs.declared.note.ProverOutcome.{ProverOutcome}
use Rattle.session_prover.specs.declared.note.ProverOutcome.TheVariants.{Accepted, PeerEnded, NoMemory}

-- what came from the verifier is all that it says in a session that it serves, up to its verdict
pub record HasSpoken (verifier : VerifierTask) (log : List (Side × ℕ)) : Type 0 where
  pub t : Transcript
  pub verdict : Verdict
  pub served : IsServed verifier t verdict (spelling t)
  pub spoken : sent_by Verifier log ≡ flat_map (λ turn. turn.1) (session_turns t)

-- The peer is an honest verifier with the same statement and a file that is dealt with the job's, whose given values give the
-- claims: what came from it is a beginning of what such a verifier says to what the prover sent, and it ended only after all
-- of that.
pub record HasHonestVerifier
    (job : ProverJob)
    (inputs : List ℕ)
    (verifier : VerifierTask)
    (outcome : ProverOutcome)
    (log : List (Side × ℕ)) : Type 0 where
  pub counterparts : AreCounterparts (task_of job inputs) verifier
  pub wires : List ℕ
  pub witness : IsWitness job.statement inputs wires job.given
  pub claims : GivesClaims (task_of job inputs)
  pub honest : IsFromHonestVerifier verifier log
  pub ended : (at : ℕ) → outcome ≡ PeerEnded at → HasSpoken verifier log

-- with an honest peer, where no claim was refused and the link's count did not rise, the session is accepted, unless memory was missing
abbrev pub ProverCompletes : ProverJob → Claim → List (Side × ℕ) → LinkSnapshot → LinkSnapshot → ProverOutcome
    → Type 0
ProverCompletes job claim log first now outcome = (inputs : List ℕ) (verifier : VerifierTask)
    → HasHonestVerifier job inputs verifier outcome log
    → ((fault : ClaimFault) → claim.answer ≡ Some (Err fault) → ⊥) → ¬ Rose first.faults now.faults
    → (outcome ≡ Accepted) ⊎ (outcome ≡ NoMemory)
