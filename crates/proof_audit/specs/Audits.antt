-- What an audit says of a log.
use Rattle.std.specs.Prelude.{◌≡◌, ◌≤◌, ℕ, List, length}
use Rattle.zk_model.specs.Arithmetic.{IsWellFormed as IsWellFormedArith}
use Rattle.zk_model.specs.Circuit.{IsWellFormed}
use Rattle.zk_model.specs.Files.{ProverFile, VerifierFile, IsProverFile, IsVerifierFile, AreDealt}
use Rattle.zk_model.specs.Statement.{Statement, arith_statement, circuit_statement}
use Rattle.zk_model.specs.Transcript.{Hello, Transcript, spelling}
use Rattle.zk_model.specs.Finding as model
use Rattle.zk_model.specs.Finding.{IsFinding}
use Rattle.zk_model.specs.ServedVerifier.{VerifierTask, IsServed}
use Rattle.zk_model.specs.Audit.{HasFaultAt, IsNotAccepted, IsFoundIn}
use Rattle.zk_model.specs.declared.Verdict.TheVariants.{Accepted}
use Rattle.claim_files.specs.NamedClaims.{AreSatisfying, Claimed, OfBits, OfElements}
use Rattle.dealer_files.specs.Dealt.{IsFirstApart}
use Rattle.proof_audit.specs.Stages.{HoldsRoundKeys, transcript_read}
use Rattle.proof_audit.specs.declared.fault.AuditFault.{AuditFault}
use Rattle.proof_audit.specs.declared.fault.AuditFault.TheVariants.{NotDealt, LogFault, NoMemory}
use Rattle.check_findings.specs.declared.finding.Finding.{Finding}
use Rattle.check_findings.specs.declared.finding.Finding.TheVariants.{Inputs, ChallengeRoot, KeyRoot, NotAccepted}
use Rattle.proof_audit.specs.declared.session.Session.{Session}

-- ---- a session

-- what has been read is a session that the verifier leads and accepts, over files that are dealt together, with the keys that its round makes
pub record IsAudited (prover : ProverFile) (task : VerifierTask) (s : Session) : Type 0 where
  pub prover_file : IsProverFile prover
  pub verifier_file : IsVerifierFile task.file
  pub dealt : AreDealt prover task.file
  pub greeting : Hello
  pub served : IsServed task (transcript_read task greeting s 0 0) Accepted
      (spelling (transcript_read task greeting s 0 0))
  pub kept : HoldsRoundKeys task.file.params.kind task.file s.grant s.keys.items

-- what the prover's file and a session give
abbrev pub FileGives : ProverFile → Statement → Transcript → Finding → Type 0
FileGives file statement t (Inputs inputs) = IsFinding file statement t (model.found_inputs inputs.items)
FileGives file statement t (ChallengeRoot section polynomial) =
    IsFinding file statement t (model.found_challenge_root section polynomial.items)
FileGives file statement t (KeyRoot polynomial) =
    IsFinding file statement t (model.found_key_root polynomial.items)
FileGives file statement t NotAccepted = ⊥

-- ---- what a statement claims

-- a statement is that of a claim about a well-formed circuit: with inputs for the public bits, or as many outputs as are claimed
abbrev pub IsStatementAbout : Claimed → Statement → Type 0
IsStatementAbout (OfBits circuit public outputs) statement =
    (digest : List ℕ) × IsWellFormed circuit × (length public ≤ circuit.inputs)
    × (statement ≡ circuit_statement circuit digest public outputs)
IsStatementAbout (OfElements circuit outputs) statement =
    (digest : List ℕ) × IsWellFormedArith circuit × (length outputs ≡ circuit.outputs)
    × (statement ≡ arith_statement circuit digest outputs)

-- inputs satisfy what a statement claims: with them a Boolean circuit, behind the public bits, or an arithmetic one gives the outputs
abbrev pub Fits : Statement → List ℕ → Type 0
Fits statement inputs = (claimed : Claimed) → IsStatementAbout claimed statement → AreSatisfying claimed inputs

-- ---- a log

-- the verifier's side of sessions about a statement
abbrev pub audit_task : Statement → VerifierFile → VerifierTask
audit_task statement file = record { file = file; statement = statement }

-- what the log gives: the finding of an accepted session, whose inputs satisfy; or that none was accepted
abbrev pub LogGives : (List ℕ → Type 0) → ProverFile → VerifierTask → List ℕ → Finding → Type 0
LogGives Satisfy prover task log (Inputs inputs) = IsFoundIn Satisfy prover task log (model.found_inputs inputs.items)
LogGives Satisfy prover task log (ChallengeRoot section polynomial) =
    IsFoundIn Satisfy prover task log (model.found_challenge_root section polynomial.items)
LogGives Satisfy prover task log (KeyRoot polynomial) =
    IsFoundIn Satisfy prover task log (model.found_key_root polynomial.items)
LogGives Satisfy prover task log NotAccepted = IsNotAccepted task log

-- what an audit finds: the files are dealt together, and the log gives this
abbrev pub AuditFinds : (List ℕ → Type 0) → ProverFile → VerifierTask → List ℕ → Finding → Type 0
AuditFinds Satisfy prover task log finding =
    AreDealt prover task.file × LogGives Satisfy prover task log finding

-- why it finds nothing: the files are not dealt together, from this unit on; they are, and the log has a fault; or memory is missing
abbrev pub AuditCause : ProverFile → VerifierTask → List ℕ → AuditFault → Type 0
AuditCause prover task log (NotDealt unit) = IsFirstApart prover task.file unit
AuditCause prover task log (LogFault place) = AreDealt prover task.file × HasFaultAt task log place
AuditCause prover task log NoMemory = Unit {0}
