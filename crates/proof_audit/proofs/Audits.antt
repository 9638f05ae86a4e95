-- What an audit finds on the log of an accepted session.
use Rattle.std.proofs.Common.{◌≡◌, ◌≤◌, ◌++◌, ℕ, List, length, subst}
use Rattle.std.specs.Prelude.{All, Bool, Option}
use Rattle.std.proofs.Math.Seq.{take-append_seam}
use Rattle.std.proofs.lemmas.List.Elements.{All-take}
use Rattle.sha2.specs.Sha256.{sha256}
use Rattle.zk_model.specs.Arithmetic.{Arith, SatisfiesElements, IsWellFormed as IsWellFormedArith}
use Rattle.zk_model.specs.Audit.{bytes_in, IsFoundIn}
use Rattle.zk_model.specs.Circuit.{Circuit, IsWellFormed}
use Rattle.zk_model.specs.Field.{IsElement}
use Rattle.zk_model.specs.Files.{IsProverFile, ProverFile, VerifierFile}
use Rattle.zk_model.specs.Finding as model
use Rattle.zk_model.specs.Finding.{IsFinding}
use Rattle.zk_model.specs.Headline.{AreSatisfyingBits, SaysInputs, ShowsElements, ShowsOutputs}
use Rattle.zk_model.specs.ServedVerifier.{VerifierTask}
use Rattle.zk_model.specs.Statement.{IsStatement, Statement, arith_statement, circuit_statement}
use Rattle.zk_model.specs.Transcript.{IsTranscript, Transcript, spelling}
use Rattle.zk_port.specs.Files.{Files}
use Rattle.zk_laws.proofs.Extracted.{extraction_holds}
use Rattle.zk_laws.proofs.OneFinding.{one_finding}
use Rattle.zk_laws.specs.Extraction.{IsExtracted}
use Rattle.session_laws.proofs.ElementsShown.{extracted_shows_elements}
use Rattle.session_laws.proofs.OutputsShown.{extracted_shows_outputs}
use Rattle.check_findings.specs.declared.finding.Finding.{Finding}
use Rattle.check_findings.specs.declared.finding.Finding.TheVariants.{Inputs, ChallengeRoot, KeyRoot, NotAccepted}
use Rattle.claim_files.specs.NamedClaims.{AreSatisfying, Claimed, IsClaimOf, OfBits, OfElements}
use Rattle.claim_files.specs.declared.claim_names.ClaimNames.{ClaimNames}
use Rattle.claim_files.specs.declared.claim_names.ClaimNames.TheVariants as names
use Rattle.proof_audit.specs.Audits.{AuditFinds, FileGives, Fits, IsAudited, IsStatementAbout, LogGives}
use Rattle.proof_audit.specs.Stages.{transcript_read}
use Rattle.proof_audit.specs.declared.session.Session.{Session}
use Rattle.proof_audit.proofs.Audited.{whole}

-- ---- inputs that are found satisfy

-- an accepted session about a statement whose finding is inputs
record HasInputs (prover : ProverFile) (verifier : VerifierFile) (t : Transcript) (inputs : List ℕ) (statement : Statement) : Type 0 where
  pub prover_file : IsProverFile prover
  pub stated : IsStatement statement
  pub transcript : IsTranscript prover.params statement.program t
  pub extracted : IsExtracted prover verifier statement t
  pub found : IsFinding prover statement t (model.found_inputs inputs)

fits_bits : (circuit : Circuit) (digest : List ℕ) (public outputs : List Bool) (prover : ProverFile) (verifier : VerifierFile) (t : Transcript)
    (inputs : List ℕ) → IsWellFormed circuit → length public ≤ circuit.inputs
    → HasInputs prover verifier t inputs (circuit_statement circuit digest public outputs) → AreSatisfyingBits circuit public outputs inputs
fits_bits circuit digest public outputs prover verifier t inputs formed few has =
    subst (SaysInputs (AreSatisfyingBits circuit public outputs) verifier.key (circuit_statement circuit digest public outputs) t)
    (one_finding prover (circuit_statement circuit digest public outputs) t shown.finding (model.found_inputs inputs)
    has.prover_file has.stated has.transcript shown.found has.found) shown.says
  where
    shown : ShowsOutputs circuit public outputs prover verifier.key (circuit_statement circuit digest public outputs) t
    shown = extracted_shows_outputs circuit digest public outputs prover verifier t formed few has.extracted

first_are : (xs ys : List ℕ) → All IsElement (xs ++ ys) → All IsElement xs
first_are xs ys are = subst (All IsElement) (take-append_seam xs ys) (All-take IsElement (length xs) (xs ++ ys) are)

-- outputs that are claimed are elements
outputs_are : (circuit : Arith) (digest outputs : List ℕ) → IsStatement (arith_statement circuit digest outputs) → All IsElement outputs
outputs_are circuit digest outputs stated = first_are outputs _ stated.claims

fits_elements : (circuit : Arith) (digest outputs : List ℕ) (prover : ProverFile) (verifier : VerifierFile) (t : Transcript) (inputs : List ℕ)
    → IsWellFormedArith circuit → length outputs ≡ circuit.outputs
    → HasInputs prover verifier t inputs (arith_statement circuit digest outputs) → SatisfiesElements circuit inputs outputs
fits_elements circuit digest outputs prover verifier t inputs formed counted has =
    subst (SaysInputs (λ others. SatisfiesElements circuit others outputs) verifier.key (arith_statement circuit digest outputs) t)
    (one_finding prover (arith_statement circuit digest outputs) t shown.finding (model.found_inputs inputs)
    has.prover_file has.stated has.transcript shown.found has.found) shown.says
  where
    shown : ShowsElements circuit outputs prover verifier.key (arith_statement circuit digest outputs) t
    shown = extracted_shows_elements circuit digest outputs prover verifier t formed (outputs_are circuit digest outputs has.stated) counted
        has.extracted

fits : (prover : ProverFile) (verifier : VerifierFile) (t : Transcript) (inputs : List ℕ) (statement : Statement)
    → HasInputs prover verifier t inputs statement → (claimed : Claimed) → IsStatementAbout claimed statement → AreSatisfying claimed inputs
fits prover verifier t inputs statement has (OfBits circuit public outputs) about =
    fits_bits circuit about.0 public outputs prover verifier t inputs about.1 about.2 (subst (HasInputs prover verifier t inputs) about.3 has)
fits prover verifier t inputs statement has (OfElements circuit outputs) about =
    fits_elements circuit about.0 outputs prover verifier t inputs about.1 about.2 (subst (HasInputs prover verifier t inputs) about.3 has)

-- ---- what an audit finds

-- the transcript of a session that was read
abbrev read_so : (prover : ProverFile) (task : VerifierTask) (s : Session) → IsAudited prover task s → Transcript
read_so prover task s audited = transcript_read task audited.greeting s 0 0

extracted_so : (prover : ProverFile) (task : VerifierTask) (s : Session) → (audited : IsAudited prover task s)
    → IsExtracted prover task.file task.statement (read_so prover task s audited)
extracted_so prover task s audited =
    extraction_holds task.file task.statement (read_so prover task s audited) audited.verifier_file audited.served.in_order.stated
    audited.served.in_order.transcript audited.served.replies
    (record {
      keys = audited.served.judged.keys;
      carried = audited.served.judged.carried;
      sections = audited.served.judged.judged.0;
      openings = audited.served.judged.judged.1;
    }) prover audited.prover_file audited.dealt

found_in : (prover : ProverFile) (task : VerifierTask) (log : List ℕ) (s : Session) (finding : model.Finding) → (audited : IsAudited prover task s)
    → log ≡ bytes_in (spelling (read_so prover task s audited)) → IsFinding prover task.statement (read_so prover task s audited) finding
    → SaysInputs (Fits task.statement) task.file.key task.statement (read_so prover task s audited) finding
    → IsFoundIn (Fits task.statement) prover task log finding
found_in prover task log s finding audited bytes found says = record {
  t = read_so prover task s audited;
  accepted = record { served = audited.served; bytes = bytes };
  found = found;
  says = says;
}

gives_so : (prover : ProverFile) (task : VerifierTask) (log : List ℕ) (s : Session) (shown : Finding) → (audited : IsAudited prover task s)
    → log ≡ bytes_in (spelling (read_so prover task s audited)) → FileGives prover task.statement (read_so prover task s audited) shown
    → LogGives (Fits task.statement) prover task log shown
gives_so prover task log s NotAccepted audited bytes gives = absurd gives
gives_so prover task log s (ChallengeRoot section polynomial) audited bytes gives =
    let finding = model.found_challenge_root section polynomial.items in
    found_in prover task log s finding audited bytes gives ((extracted_so prover task s audited).shows finding gives)
gives_so prover task log s (KeyRoot polynomial) audited bytes gives =
    let finding = model.found_key_root polynomial.items in
    found_in prover task log s finding audited bytes gives ((extracted_so prover task s audited).shows finding gives)
gives_so prover task log s (Inputs inputs) audited bytes gives =
    found_in prover task log s (model.found_inputs inputs.items) audited bytes gives
    (fits prover task.file (read_so prover task s audited) inputs.items task.statement
    (record {
      prover_file = audited.prover_file;
      stated = audited.served.in_order.stated;
      transcript = whole prover task s audited;
      extracted = extracted_so prover task s audited;
      found = gives;
    }))

pub finds : (prover : ProverFile) (task : VerifierTask) (log : List ℕ) (s : Session) (shown : Finding) → (audited : IsAudited prover task s)
    → log ≡ bytes_in (spelling (transcript_read task audited.greeting s 0 0))
    → FileGives prover task.statement (transcript_read task audited.greeting s 0 0) shown → AuditFinds (Fits task.statement) prover task log shown
finds prover task log s shown audited bytes gives = (audited.dealt, gives_so prover task log s shown audited bytes gives)

-- ---- what it finds about a claim

-- where a shelf tells a claim, its statement is about that
about_claim : (told : Option Files) (claim : ClaimNames) (claimed : Claimed) (statement : Statement) → IsClaimOf told claim claimed statement
    → IsStatementAbout claimed statement
about_claim told (names.Boolean claim) (OfBits circuit public outputs) statement is =
    (sha256 is.2.text, is.2.says.well_formed, is.2.few, is.2.statement_is)
about_claim told (names.Arithmetic claim) (OfElements circuit outputs) statement is =
    (sha256 is.text, is.says.is.well_formed, is.count, is.statement_is)
about_claim told (names.Boolean claim) (OfElements circuit outputs) statement is = absurd is
about_claim told (names.Arithmetic claim) (OfBits circuit public outputs) statement is = absurd is

of_statement : (claimed : Claimed) (prover : ProverFile) (task : VerifierTask) (log : List ℕ) (shown : Finding) → IsStatementAbout claimed task.statement
    → AuditFinds (Fits task.statement) prover task log shown → AuditFinds (AreSatisfying claimed) prover task log shown
of_statement claimed prover task log NotAccepted about finds = finds
of_statement claimed prover task log (Inputs inputs) about finds = let in_log = finds.1 in
    (finds.0, record { t = in_log.t; accepted = in_log.accepted; found = in_log.found; says = in_log.says claimed about })
of_statement claimed prover task log (ChallengeRoot section polynomial) about finds = let in_log = finds.1 in
    (finds.0, record { t = in_log.t; accepted = in_log.accepted; found = in_log.found; says = in_log.says })
of_statement claimed prover task log (KeyRoot polynomial) about finds = let in_log = finds.1 in
    (finds.0, record { t = in_log.t; accepted = in_log.accepted; found = in_log.found; says = in_log.says })

pub finds_of_claim : (told : Option Files) (claim : ClaimNames) (claimed : Claimed) (prover : ProverFile) (task : VerifierTask) (log : List ℕ)
    (shown : Finding) → IsClaimOf told claim claimed task.statement → AuditFinds (Fits task.statement) prover task log shown
    → AuditFinds (AreSatisfying claimed) prover task log shown
finds_of_claim told claim claimed prover task log shown is finds =
    of_statement claimed prover task log shown (about_claim told claim claimed task.statement is) finds
