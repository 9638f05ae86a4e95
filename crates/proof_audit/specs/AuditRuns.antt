-- `audit CIRCUIT OUTPUTS PROVERFILE VERIFIERFILE LOG [--public BITS]` and `audit-arith CIRCUIT OUTPUTS PROVERFILE VERIFIERFILE LOG`: what they
-- say, and what they promise of a run.
use Rattle.std.specs.Prelude.{◌≡◌, ◌≢◌, ◌⊎◌, ℕ, List, ◌++◌, codes, flat_map, map, nat_eq, Option, None}
use Rattle.std.specs.Fmt.{decimal}
use Rattle.zk_model.specs.Audit.{IsAcceptedLog}
use Rattle.zk_model.specs.Files.{ProverFile, AreDealt}
use Rattle.zk_model.specs.Finding as model
use Rattle.zk_model.specs.Finding.{IsFinding}
use Rattle.zk_model.specs.ServedVerifier.{VerifierTask}
use Rattle.zk_model.specs.Statement.{Statement}
use Rattle.zk_model.specs.Transcript.{Transcript}
use Rattle.zk_model.specs.declared.Side.TheVariants.{Prover, Verifier}
use Rattle.zk_port.specs.Files.{Files}
use Rattle.command_words.specs.BitWords.{bits_word}
use Rattle.element_file.specs.Elements.{elements_word}
use Rattle.dealer_files.specs.Faults.{IsDealtFile}
use Rattle.claim_files.specs.NamedClaims.{AreSatisfying, Claimed, HasClaimed, IsClaimOf, IsStatementOf, LacksStatement}
use Rattle.claim_files.specs.declared.claim_names.ClaimNames.{ClaimNames}
use Rattle.claim_files.specs.declared.claim_names.ClaimNames.TheVariants as names
use Rattle.proof_audit.specs.Audits.{AuditFinds, AuditCause}
use Rattle.proof_audit.specs.NamedAudits.{Audit, IsAuditName}
use Rattle.proof_audit.specs.declared.fault.AuditFault.{AuditFault}
use Rattle.proof_audit.specs.declared.fault.AuditFault.TheVariants as fault
use Rattle.check_findings.specs.declared.finding.Finding.{Finding}
use Rattle.check_findings.specs.declared.finding.Finding.TheVariants.{Inputs, ChallengeRoot, KeyRoot, NotAccepted}
use Rattle.file_commands.specs.Effects.{ShelfChange, Effects, OnlyLoads, HasFailed}
use Rattle.file_commands.specs.Stops.{PrintsMade, WritesAll, SaysStop, IsOfStop, IsLoaded, HasText, FileStop, LoadStop, IsProverFileAt, IsVerifierFileAt}
use Rattle.file_commands.specs.declared.refusal.Refusal.{Refusal}
use Rattle.file_commands.specs.declared.refusal.Refusal.TheVariants.{NotDealt, BadLog, NoMemory}

-- ---- what is said

-- why an audit finds nothing, as a refusal
abbrev pub audit_refusal : AuditFault → Refusal
audit_refusal (fault.NotDealt unit) = NotDealt unit
audit_refusal (fault.LogFault place) = BadLog place
audit_refusal fault.NoMemory = NoMemory

-- coefficients, each behind a space
abbrev pub coefficients : List ℕ → List ℕ
coefficients polynomial = flat_map (λ c. codes " " ++ decimal c) polynomial

-- the end of a line that names a polynomial
abbrev pub poly_end : List ℕ → List ℕ
poly_end polynomial = codes " poly" ++ (coefficients polynomial ++ codes "\n")

-- inputs of a claim: those of a Boolean circuit as bits, those of an arithmetic one as elements
abbrev pub inputs_word : ClaimNames → List ℕ → List ℕ
inputs_word (names.Boolean claim) inputs = bits_word (map (λ x. nat_eq x 1) inputs)
inputs_word (names.Arithmetic claim) inputs = elements_word inputs

-- the line of a finding about a claim
abbrev pub finding_line : ClaimNames → Finding → List ℕ
finding_line claim (Inputs inputs) = codes "inputs " ++ inputs_word claim inputs.items ++ codes "\n"
finding_line claim (ChallengeRoot section polynomial) = codes "challenge root section " ++ (decimal section ++ poly_end polynomial.items)
finding_line claim (KeyRoot polynomial) = codes "key root" ++ poly_end polynomial.items
finding_line claim NotAccepted = codes "not accepted\n"

-- 0 where inputs are found
abbrev pub finding_status : Finding → ℕ
finding_status (Inputs inputs) = 0
finding_status (ChallengeRoot section polynomial) = 1
finding_status (KeyRoot polynomial) = 1
finding_status NotAccepted = 1

-- ---- what is audited

-- where a shelf tells, what is claimed and both dealt files stand under their names
pub record AreFiles (told : Option Files) (audit : Audit) (claimed : Claimed) (prover : ProverFile) (task : VerifierTask)
    : Type 0 where
  pub claim : IsClaimOf told audit.claim claimed task.statement
  pub prover_file : IsProverFileAt told audit.prover prover
  pub verifier_file : IsVerifierFileAt told audit.verifier task.file

-- this holds of such files, and of the bytes of the log under its name
pub record HasAudit (told : Option Files) (audit : Audit)
    (Holds : Claimed → ProverFile → VerifierTask → List ℕ → Type 0) : Type 0 where
  pub claimed : Claimed
  pub prover : ProverFile
  pub task : VerifierTask
  pub log : List ℕ
  pub files : AreFiles told audit claimed prover task
  pub loaded : IsLoaded told audit.log log
  pub holds : Holds claimed prover task log

-- this is what is found in the log
abbrev pub FindsIn : Option Files → Audit → Finding → Type 0
FindsIn told audit finding =
    HasAudit told audit (λ claimed prover task log. AuditFinds (AreSatisfying claimed) prover task log finding)

-- ---- why nothing is found

-- there is a claim, but no prover's file
abbrev pub LacksProver : Audit → ShelfChange → Refusal → Type 0
LacksProver audit shelf stop =
    (statement : Statement) × IsStatementOf shelf.old.told audit.claim statement × FileStop Prover audit.prover shelf stop

-- there is a prover's file too, but no verifier's
abbrev pub LacksVerifier : Audit → ShelfChange → Refusal → Type 0
LacksVerifier audit shelf stop =
    (statement : Statement) × (prover : ProverFile) × IsStatementOf shelf.old.told audit.claim statement
    × IsProverFileAt shelf.old.told audit.prover prover × FileStop Verifier audit.verifier shelf stop

-- there are both, but no log
abbrev pub LacksLog : Audit → ShelfChange → Refusal → Type 0
LacksLog audit shelf stop =
    (claimed : Claimed) × (prover : ProverFile) × (task : VerifierTask) × AreFiles shelf.old.told audit claimed prover task
    × LoadStop audit.log shelf stop

-- Why nothing is found, the first of these: the claim can't be had; the prover's file can't; the verifier's can't; the log can't; the files are
-- not of one dealing; the log has a fault.
abbrev pub AuditStop : Audit → ShelfChange → Refusal → Type 0
AuditStop audit shelf (NotDealt unit) =
    HasAudit shelf.old.told audit (λ claimed prover task log. AuditCause prover task log (fault.NotDealt unit))
AuditStop audit shelf (BadLog place) =
    HasAudit shelf.old.told audit (λ claimed prover task log. AuditCause prover task log (fault.LogFault place))
AuditStop audit shelf stop = LacksStatement audit.claim shelf stop
    ⊎ LacksProver audit shelf stop ⊎ LacksVerifier audit shelf stop ⊎ LacksLog audit shelf stop

-- ---- what its run promises

-- the line of what is found is written, or that of a stop, which has its cause
abbrev pub AuditLines : Audit → Effects → Type 0
AuditLines audit run =
    ((finding : Finding) × FindsIn run.shelf.old.told audit finding
    × PrintsMade (finding_status finding) (finding_line audit.claim finding) run.status run.sink)
    ⊎ SaysStop (AuditStop audit run.shelf) run

-- the line of a finding of this status is written, and the sink did not fail
abbrev pub WritesFinding : ℕ → Audit → Effects → Type 0
WritesFinding status audit run =
    (finding : Finding) × FindsIn run.shelf.old.told audit finding × (finding_status finding ≡ status)
    × WritesAll (finding_line audit.claim finding) run.sink

-- What the status says. 0: inputs are found; 1: something else is; 3: the cause of a stop; 4: a call for one of the files failed, or
-- one of the sink; 7: no memory.
abbrev pub AuditMeans : Audit → Effects → Type 0
AuditMeans audit run =
    ((run.status ≡ 0) × WritesFinding 0 audit run)
    ⊎ ((run.status ≡ 1) × WritesFinding 1 audit run)
    ⊎ ((run.status ≡ 3) × IsOfStop (AuditStop audit run.shelf) 3)
    ⊎ ((run.status ≡ 4) × HasFailed (IsAuditName audit) run)
    ⊎ (run.status ≡ 7)

-- 0 where the one finding of a session is inputs
abbrev pub found_status : model.Finding → ℕ
found_status (model.found_inputs inputs) = 0
found_status (model.found_challenge_root section polynomial) = 1
found_status (model.found_key_root polynomial) = 1

-- the log is that of an accepted session over files that are dealt together, and this is its finding
pub record IsOfSession (prover : ProverFile) (task : VerifierTask) (log : List ℕ) (finding : model.Finding) : Type 0 where
  pub dealt : AreDealt prover task.file
  pub t : Transcript
  pub accepted : IsAcceptedLog task log t
  pub found : IsFinding prover task.statement t finding

-- a shelf that tells has a circuit that fits the claim, with as many outputs as are claimed, both dealt files, and the log of an accepted
-- session over them, with this finding
pub record IsAuditable (told : Option Files) (audit : Audit) (finding : model.Finding) : Type 0 where
  pub tells : told ≢ None
  pub claim : HasClaimed told audit.claim
  pub prover_file : HasText told audit.prover (IsDealtFile Prover)
  pub verifier_file : HasText told audit.verifier (IsDealtFile Verifier)
  pub text : List ℕ
  pub loaded : IsLoaded told audit.log text
  pub found : (claimed : Claimed) (prover : ProverFile) (task : VerifierTask) (log : List ℕ)
      → AreFiles told audit claimed prover task → IsLoaded told audit.log log → IsOfSession prover task log finding

-- The line of what is found in the log is written, or that of a stop with its cause; nothing but the files of the claim, both dealt ones and
-- the log is asked of the shelf; what the status says; and on the log of an accepted session, where nothing fails, it is that of the
-- session's one finding.
pub record Audits (audit : Audit) (run : Effects) : Type 0 where
  pub lines : AuditLines audit run
  pub kept : OnlyLoads (IsAuditName audit) run.shelf
  pub means : AuditMeans audit run
  pub done : (finding : model.Finding) → IsAuditable run.shelf.old.told audit finding
      → ¬ HasFailed (IsAuditName audit) run → (run.status ≡ found_status finding) ⊎ (run.status ≡ 7)
