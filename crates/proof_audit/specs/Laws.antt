-- What a log can be at once.
use Rattle.std.specs.Prelude.{◌≡◌, ℕ, None, List, []}
use Rattle.zk_model.specs.Files.{ProverFile, IsProverFile, IsVerifierFile, AreDealt}
use Rattle.zk_model.specs.Finding.{Finding, IsFinding}
use Rattle.zk_model.specs.Headline.{ShowsInputs}
use Rattle.zk_model.specs.Frames.{Frame}
use Rattle.zk_model.specs.Transcript.{Transcript}
use Rattle.zk_model.specs.ServedVerifier.{VerifierTask}
use Rattle.zk_model.specs.Audit.{place_after, IsReadAs, HasFaultAt, EndsEarly, IsNotAccepted, IsAcceptedLog, IsFoundIn}
use Rattle.claim_files.specs.NamedClaims.{AreSatisfying, Claimed}

-- a log whose bytes are faultless frames behind which none may follow has no fault, and does not end early
abbrev pub WholeLogsAreRight : Type 0
WholeLogsAreRight = (task : VerifierTask) (log : List ℕ) (frames : List Frame) → IsReadAs task log frames []
    → place_after task.file.params task.statement frames ≡ None
    → ((place : ℕ) → ¬ HasFaultAt task log place) × ¬ EndsEarly task log

-- the log of a session that the verifier leads and accepts has no fault, and it is not one of a session that is not accepted
abbrev pub AcceptedLogsAreRight : Type 0
AcceptedLogsAreRight = (task : VerifierTask) (log : List ℕ) (t : Transcript) → IsVerifierFile task.file
    → IsAcceptedLog task log t → ((place : ℕ) → ¬ HasFaultAt task log place) × ¬ IsNotAccepted task log

-- what is found in a log shows of its session what an accepted one shows of a circuit's outputs
abbrev pub FoundShowsOutputs : Type 0
FoundShowsOutputs = (claimed : Claimed) (prover : ProverFile) (task : VerifierTask) (log : List ℕ) (finding : Finding)
    → (found : IsFoundIn (AreSatisfying claimed) prover task log finding)
    → ShowsInputs (AreSatisfying claimed) prover task.file.key task.statement found.t

-- what is found in the log of an accepted session is the one finding of that session
abbrev pub OneAnswer : Type 0
OneAnswer = (claimed : Claimed) (prover : ProverFile) (task : VerifierTask) (log : List ℕ)
    (t : Transcript) (finding other : Finding) → IsProverFile prover → IsVerifierFile task.file
    → AreDealt prover task.file → IsAcceptedLog task log t
    → IsFoundIn (AreSatisfying claimed) prover task log finding → IsFinding prover task.statement t other
    → finding ≡ other
