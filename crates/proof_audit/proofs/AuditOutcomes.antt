-- What is said of an audit gives what its record promises.
use Rattle.std.proofs.Common.{◌≡◌, ◌⊎◌, ◌∙◌, ℕ, List, Bool, Option, refl, ap, sym, inl, inr, arith}
use Rattle.zk_model.specs.Audit.{IsFoundIn}
use Rattle.zk_model.specs.Files.{ProverFile, VerifierFile, IsProverFile, AreDealt}
use Rattle.zk_model.specs.Finding as model
use Rattle.zk_model.specs.ServedVerifier.{VerifierTask}
use Rattle.zk_model.specs.declared.Side.TheVariants.{Prover, Verifier}
use Rattle.zk_port.specs.Changes.{change}
use Rattle.zk_port.specs.Files.{Files}
use Rattle.zk_port.specs.Shelves.{ShelfState}
use Rattle.arith_reader.specs.Laws.{TextsAreExact}
use Rattle.bristol_reader.specs.Laws.{OneCircuit}
use Rattle.element_file.specs.Laws.{ElementsAreExact}
use Rattle.dealer_files.specs.Dealt.{IsFirstApart}
use Rattle.dealer_files.proofs.Matching.{heads_of, match_of}
use Rattle.claim_files.specs.ArithFiles.{ArithStop, ElementsStop}
use Rattle.claim_files.specs.NamedClaims.{AreSatisfying, Claimed, IsClaimName, LacksStatement}
use Rattle.claim_files.specs.declared.claim_names.ClaimNames.{ClaimNames}
use Rattle.claim_files.specs.declared.claim_names.ClaimNames.TheVariants as names
use Rattle.claim_files.proofs.ClaimCauses.{statement_lacks}
use Rattle.proof_audit.specs.Audits.{AuditCause}
use Rattle.proof_audit.specs.Laws.{AcceptedLogsAreRight, OneAnswer}
use Rattle.proof_audit.specs.declared.fault.AuditFault.{AuditFault}
use Rattle.proof_audit.specs.declared.fault.AuditFault.TheVariants as fault
use Rattle.check_findings.specs.declared.finding.Finding.{Finding}
use Rattle.check_findings.specs.declared.finding.Finding.TheVariants.{Inputs, ChallengeRoot, KeyRoot, NotAccepted}
use Rattle.proof_audit.specs.AuditRuns.{AreFiles, audit_refusal, Audits, AuditLines, AuditMeans, AuditStop, FindsIn, HasAudit, IsAuditable, LacksProver, LacksVerifier, LacksLog, finding_status, found_status, finding_line}
use Rattle.proof_audit.specs.NamedAudits.{Audit, IsAuditName}
use Rattle.file_commands.specs.Effects.{ShelfChange, Effects, OnlyLoads, HasFailed, IsName, SomeFailed}
use Rattle.file_commands.specs.Stops.{ClaimStop, IsLoaded, PrintsMade, StatusMeans, after_sink_fault, stop_status}
use Rattle.file_commands.specs.declared.refusal.Refusal.{Refusal}
use Rattle.file_commands.specs.declared.refusal.Refusal.TheVariants as stop
use Rattle.file_commands.proofs.Asking.{loads_among, loads_both}
use Rattle.file_commands.proofs.Causes.{file_7, load_lacks}
use Rattle.file_commands.proofs.Means.{low_answers, stop_means, no_nine}

-- ---- what the status says

low_status : (finding : Finding) → after_sink_fault (finding_status finding) ≡ 4
low_status (Inputs inputs) = refl
low_status (ChallengeRoot section polynomial) = refl
low_status (KeyRoot polynomial) = refl
low_status NotAccepted = refl

one_of_two : (finding : Finding) → (finding_status finding ≡ 0) ⊎ (finding_status finding ≡ 1)
one_of_two (Inputs inputs) = inl refl
one_of_two (ChallengeRoot section polynomial) = inr refl
one_of_two (KeyRoot polynomial) = inr refl
one_of_two NotAccepted = inr refl

found_means : (audit : Audit) (run : Effects) (finding : Finding) → FindsIn run.shelf.old.told audit finding
    → PrintsMade (finding_status finding) (finding_line audit.claim finding) run.status run.sink → AuditMeans audit run
found_means audit run finding finds prints =
    elim (low_answers (finding_status finding) (finding_line audit.claim finding) run.status run.sink (low_status finding) prints) [
      | inl all ↦ elim (one_of_two finding) [
        | inl e ↦ inl (all.0 ∙ e, (finding, finds, e, all.1))
        | inr e ↦ inr (inl (all.0 ∙ e, (finding, finds, e, all.1)))
      ]
      | inr (inl failed) ↦ inr (inr (inr (inl (failed.0, inr failed.1))))
      | inr (inr at) ↦ inr (inr (inr (inr at)))
    ]

-- ---- why there is nothing to audit

-- a claim lacks its statement by no stop that neither a circuit nor elements stop by
module _ (why : Refusal) (unclaimed : (name : List ℕ) (public outputs : List Bool) (shelf : ShelfChange) → ClaimStop name public outputs shelf why → ⊥)
    (unread : (name : List ℕ) (shelf : ShelfChange) → ArithStop name shelf why → ⊥)
    (unsaid : (name : List ℕ) (need : ℕ) (shelf : ShelfChange) → ElementsStop name need shelf why → ⊥) where
  never_lacks : (claim : ClaimNames) (shelf : ShelfChange) → LacksStatement claim shelf why → ⊥
  never_lacks (names.Boolean claim) shelf cause = unclaimed claim.circuit claim.public claim.outputs shelf cause
  never_lacks (names.Arithmetic claim) shelf (inl cause) = unread claim.circuit shelf cause
  never_lacks (names.Arithmetic claim) shelf (inr cause) = unsaid claim.outputs cause.circuit.outputs shelf cause.is

pub lacks_claim : (audit : Audit) (shelf : ShelfChange) (why : Refusal) → LacksStatement audit.claim shelf why → AuditStop audit shelf why
lacks_claim audit shelf (stop.NotDealt unit) cause =
    absurd (never_lacks (stop.NotDealt unit) (λ n p o s is. is) (λ n s is. is) (λ n k s is. is) audit.claim shelf cause)
lacks_claim audit shelf (stop.BadLog place) cause =
    absurd (never_lacks (stop.BadLog place) (λ n p o s is. is) (λ n s is. is) (λ n k s is. is) audit.claim shelf cause)
lacks_claim audit shelf other cause = inl cause

pub lacks_prover : (audit : Audit) (shelf : ShelfChange) (why : Refusal) → LacksProver audit shelf why → AuditStop audit shelf why
lacks_prover audit shelf (stop.NotDealt unit) cause = absurd cause.2
lacks_prover audit shelf (stop.BadLog place) cause = absurd cause.2
lacks_prover audit shelf other cause = inr (inl cause)

pub lacks_verifier : (audit : Audit) (shelf : ShelfChange) (why : Refusal) → LacksVerifier audit shelf why → AuditStop audit shelf why
lacks_verifier audit shelf (stop.NotDealt unit) cause = absurd cause.4
lacks_verifier audit shelf (stop.BadLog place) cause = absurd cause.4
lacks_verifier audit shelf other cause = inr (inr (inl cause))

pub lacks_log : (audit : Audit) (shelf : ShelfChange) (why : Refusal) → LacksLog audit shelf why → AuditStop audit shelf why
lacks_log audit shelf (stop.NotDealt unit) cause = absurd cause.4
lacks_log audit shelf (stop.BadLog place) cause = absurd cause.4
lacks_log audit shelf other cause = inr (inr (inr cause))

-- why there is no finding
pub lacks_finding : (audit : Audit) (shelf : ShelfChange) (claimed : Claimed) (prover : ProverFile) (task : VerifierTask) (log : List ℕ)
    → AreFiles shelf.old.told audit claimed prover task → IsLoaded shelf.old.told audit.log log → (fault : AuditFault)
    → AuditCause prover task log fault → AuditStop audit shelf (audit_refusal fault)
lacks_finding audit shelf claimed prover task log files loaded (fault.NotDealt unit) cause =
    record { claimed = claimed; prover = prover; task = task; log = log; files = files; loaded = loaded; holds = cause }
lacks_finding audit shelf claimed prover task log files loaded (fault.LogFault place) cause =
    record { claimed = claimed; prover = prover; task = task; log = log; files = files; loaded = loaded; holds = cause }
lacks_finding audit shelf claimed prover task log files loaded fault.NoMemory cause = lacks_claim audit shelf stop.NoMemory (of_memory audit.claim)
  where
    of_memory : (claim : ClaimNames) → LacksStatement claim shelf stop.NoMemory
    of_memory (names.Boolean claim) = tt
    of_memory (names.Arithmetic claim) = inl tt

-- the log is asked for after the other files
pub loads_log : (audit : Audit) (a b c : ShelfState) → OnlyLoads (IsAuditName audit) (change a b) → OnlyLoads (IsName audit.log) (change b c)
    → OnlyLoads (IsAuditName audit) (change a c)
loads_log audit a b c one two =
    loads_both (IsAuditName audit) a b c one (loads_among (IsName audit.log) (IsAuditName audit) (change b c) (λ name is. inr (inr (inr is))) two)

-- ---- what it does not stop by

unasked : (audit : Audit) (shelf : ShelfChange) → ¬ AuditStop audit shelf stop.Usage
unasked audit shelf (inl cause) = never_lacks stop.Usage (λ n p o s is. is) (λ n s is. is) (λ n k s is. is) audit.claim shelf cause
unasked audit shelf (inr (inl cause)) = cause.2
unasked audit shelf (inr (inr (inl cause))) = cause.4
unasked audit shelf (inr (inr (inr cause))) = cause.4

undoored : (audit : Audit) (shelf : ShelfChange) → ¬ AuditStop audit shelf stop.DoorFailed
undoored audit shelf (inl cause) = never_lacks stop.DoorFailed (λ n p o s is. is) (λ n s is. is) (λ n k s is. is) audit.claim shelf cause
undoored audit shelf (inr (inl cause)) = cause.2
undoored audit shelf (inr (inr (inl cause))) = cause.4
undoored audit shelf (inr (inr (inr cause))) = cause.4

undisked : (audit : Audit) (shelf : ShelfChange) (count : ℕ) → ¬ AuditStop audit shelf (stop.JournalFailed count)
undisked audit shelf count (inl cause) =
    never_lacks (stop.JournalFailed count) (λ n p o s is. is) (λ n s is. is) (λ n k s is. is) audit.claim shelf cause
undisked audit shelf count (inr (inl cause)) = cause.2
undisked audit shelf count (inr (inr (inl cause))) = cause.4
undisked audit shelf count (inr (inr (inr cause))) = cause.4

satisfied : (audit : Audit) (shelf : ShelfChange) (output : ℕ) → ¬ AuditStop audit shelf (stop.Unsatisfied output)
satisfied audit shelf output (inl cause) =
    never_lacks (stop.Unsatisfied output) (λ n p o s is. is) (λ n s is. is) (λ n k s is. is) audit.claim shelf cause
satisfied audit shelf output (inr (inl cause)) = cause.2
satisfied audit shelf output (inr (inr (inl cause))) = cause.4
satisfied audit shelf output (inr (inr (inr cause))) = cause.4

small : (audit : Audit) (shelf : ShelfChange) (need units : ℕ) → ¬ AuditStop audit shelf (stop.TooLarge need units)
small audit shelf need units (inl cause) =
    never_lacks (stop.TooLarge need units) (λ n p o s is. is) (λ n s is. is) (λ n k s is. is) audit.claim shelf cause
small audit shelf need units (inr (inl cause)) = cause.2
small audit shelf need units (inr (inr (inl cause))) = cause.4
small audit shelf need units (inr (inr (inr cause))) = cause.4

claim_failed : (claim : ClaimNames) (shelf : ShelfChange) → LacksStatement claim shelf stop.ShelfFailed → SomeFailed (IsClaimName claim) shelf
claim_failed (names.Boolean claim) shelf cause = (claim.circuit, refl, cause)
claim_failed (names.Arithmetic claim) shelf (inl cause) = (claim.circuit, inl refl, cause)
claim_failed (names.Arithmetic claim) shelf (inr cause) = (claim.outputs, inr refl, cause.is)

failed : (audit : Audit) (shelf : ShelfChange) → AuditStop audit shelf stop.ShelfFailed → SomeFailed (IsAuditName audit) shelf
failed audit shelf (inl cause) = let found = claim_failed audit.claim shelf cause in (found.0, inl found.1, found.2)
failed audit shelf (inr (inl cause)) = (audit.prover, inr (inl refl), cause.2)
failed audit shelf (inr (inr (inl cause))) = (audit.verifier, inr (inr (inl refl)), cause.4)
failed audit shelf (inr (inr (inr cause))) = (audit.log, inr (inr (inr refl)), cause.4)

means : (audit : Audit) (run : Effects) → AuditLines audit run → AuditMeans audit run
means audit run (inl found) = found_means audit run found.0 found.1 found.2
means audit run (inr says) =
    of_stop (stop_means ⊥ (AuditStop audit run.shelf) (IsAuditName audit) run (unasked audit run.shelf) (undoored audit run.shelf)
    (undisked audit run.shelf) (satisfied audit run.shelf) (failed audit run.shelf) says)
  where
    of_stop : StatusMeans ⊥ (AuditStop audit run.shelf) (IsAuditName audit) run → AuditMeans audit run
    of_stop (inl m) = absurd m.1
    of_stop (inr (inl m)) = inr (inr (inl m))
    of_stop (inr (inr (inl m))) = inr (inr (inr (inl m)))
    of_stop (inr (inr (inr (inl at)))) = inr (inr (inr (inr at)))
    of_stop (inr (inr (inr (inr m)))) = absurd (no_nine (AuditStop audit run.shelf) (small audit run.shelf) m.1)

-- ---- on the log of an accepted session, where nothing fails

-- there are such files and such a log
abbrev found_there : {told : Option Files} {audit : Audit} {Holds : Claimed → ProverFile → VerifierTask → List ℕ → Type 0} → HasAudit told audit Holds
    → HasAudit told audit (λ claimed prover task log. Unit {0})
found_there found = record {
  claimed = found.claimed;
  prover = found.prover;
  task = found.task;
  log = found.log;
  files = found.files;
  loaded = found.loaded;
  holds = tt;
}

-- two findings of the session are one
same_finding : AcceptedLogsAreRight → OneAnswer → (audit : Audit) (shelf : ShelfChange) (only : model.Finding)
    → IsAuditable shelf.old.told audit only → (found : HasAudit shelf.old.told audit (λ claimed prover task log. Unit {0})) → (finding : model.Finding)
    → IsFoundIn (AreSatisfying found.claimed) found.prover found.task found.log finding → finding ≡ only
same_finding right one audit shelf only ready found finding is =
    let session = ready.found found.claimed found.prover found.task found.log found.files found.loaded in
    one found.claimed found.prover found.task found.log session.t finding only
    found.files.prover_file.says.1 found.files.verifier_file.says.1 session.dealt session.accepted is session.found

-- what is found there is that finding
found_is : AcceptedLogsAreRight → OneAnswer → (audit : Audit) (shelf : ShelfChange) (only : model.Finding)
    → IsAuditable shelf.old.told audit only → (finding : Finding) → FindsIn shelf.old.told audit finding → finding_status finding ≡ found_status only
found_is right one audit shelf only ready (Inputs inputs) finds =
    ap found_status (same_finding right one audit shelf only ready (found_there finds) _ finds.holds.1)
found_is right one audit shelf only ready (ChallengeRoot section polynomial) finds =
    ap found_status (same_finding right one audit shelf only ready (found_there finds) _ finds.holds.1)
found_is right one audit shelf only ready (KeyRoot polynomial) finds =
    ap found_status (same_finding right one audit shelf only ready (found_there finds) _ finds.holds.1)
found_is right one audit shelf only ready NotAccepted finds =
    let session = ready.found finds.claimed finds.prover finds.task finds.log finds.files finds.loaded in
    absurd ((right finds.task finds.log session.t finds.files.verifier_file.says.1 session.accepted).1 finds.holds.1)

-- the files are dealt together, and the log has no fault
unapart : (prover : ProverFile) (verifier : VerifierFile) (unit : ℕ) → IsProverFile prover → AreDealt prover verifier
    → ¬ IsFirstApart prover verifier unit
unapart prover verifier unit is_prover dealt (inl heads) = heads.0 (heads_of prover verifier dealt)
unapart prover verifier unit is_prover dealt (inr first) =
    first.unmatched (match_of prover verifier unit is_prover first.within dealt)

-- what texts and logs can say: one circuit each, one list of elements, one session
pub record AreExact : Type 0 where
  pub circuits : OneCircuit
  pub ariths : TextsAreExact
  pub elements : ElementsAreExact
  pub right : AcceptedLogsAreRight
  pub answer : OneAnswer

missing_7 : AreExact → (audit : Audit) (run : Effects) (finding : model.Finding) → IsAuditable run.shelf.old.told audit finding
    → ¬ HasFailed (IsAuditName audit) run → (why : Refusal)
    → LacksStatement audit.claim run.shelf why ⊎ LacksProver audit run.shelf why ⊎ LacksVerifier audit run.shelf why ⊎ LacksLog audit run.shelf why
    → stop_status why ≡ 7
missing_7 exact audit run finding ready calm why (inl cause) =
    ap stop_status (statement_lacks exact.circuits exact.ariths exact.elements audit.claim run.shelf ready.tells ready.claim
    (λ name is rose. calm (inl (name, inl is, rose))) why cause)
missing_7 exact audit run finding ready calm why (inr (inl cause)) =
    file_7 Prover audit.prover run.shelf ready.tells ready.prover_file (λ rose. calm (inl (audit.prover, inr (inl refl), rose))) why cause.2
missing_7 exact audit run finding ready calm why (inr (inr (inl cause))) =
    file_7 Verifier audit.verifier run.shelf ready.tells ready.verifier_file
    (λ rose. calm (inl (audit.verifier, inr (inr (inl refl)), rose))) why cause.4
missing_7 exact audit run finding ready calm why (inr (inr (inr cause))) =
    ap stop_status (load_lacks audit.log run.shelf ready.text ready.tells ready.loaded (λ rose. calm (inl (audit.log, inr (inr (inr refl)), rose))) why cause.4)

stop_7 : AreExact → (audit : Audit) (run : Effects) (finding : model.Finding) → IsAuditable run.shelf.old.told audit finding
    → ¬ HasFailed (IsAuditName audit) run → (why : Refusal) → AuditStop audit run.shelf why → stop_status why ≡ 7
stop_7 exact audit run finding ready calm (stop.NotDealt unit) cause =
    let session = ready.found cause.claimed cause.prover cause.task cause.log cause.files cause.loaded in
    absurd (unapart cause.prover cause.task.file unit cause.files.prover_file.says.1 session.dealt cause.holds)
stop_7 exact audit run finding ready calm (stop.BadLog place) cause =
    let session = ready.found cause.claimed cause.prover cause.task cause.log cause.files cause.loaded in
    absurd ((exact.right cause.task cause.log session.t cause.files.verifier_file.says.1 session.accepted).0 place cause.holds.1)
stop_7 exact audit run finding ready calm other cause = missing_7 exact audit run finding ready calm other cause

done : AreExact → (audit : Audit) (run : Effects) (finding : model.Finding)
    → IsAuditable run.shelf.old.told audit finding → ¬ HasFailed (IsAuditName audit) run → AuditMeans audit run
    → (run.status ≡ found_status finding) ⊎ (run.status ≡ 7)
done exact audit run finding ready calm (inl m) =
    inl (m.0 ∙ sym m.1.2 ∙ found_is exact.right exact.answer audit run.shelf finding ready m.1.0 m.1.1)
done exact audit run finding ready calm (inr (inl m)) =
    inl (m.0 ∙ sym m.1.2 ∙ found_is exact.right exact.answer audit run.shelf finding ready m.1.0 m.1.1)
done exact audit run finding ready calm (inr (inr (inl m))) =
    let e = m.1.2 ∙ stop_7 exact audit run finding ready calm m.1.0 m.1.1 in absurd (omega (arith, e))
done exact audit run finding ready calm (inr (inr (inr (inl m)))) = absurd (calm m.1)
done exact audit run finding ready calm (inr (inr (inr (inr at)))) = inr at

pub audits : AreExact → (audit : Audit) (run : Effects) → AuditLines audit run → OnlyLoads (IsAuditName audit) run.shelf → Audits audit run
audits exact audit run lines kept =
    let all = means audit run lines in record {
      lines = lines;
      kept = kept;
      means = all;
      done = λ finding ready calm. done exact audit run finding ready calm all;
    }
