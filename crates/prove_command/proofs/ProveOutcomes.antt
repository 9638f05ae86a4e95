-- What is said of a session of a prover gives what its record promises.
use Rattle.std.proofs.Common.{◌≡◌, ◌⊎◌, ◌-◌, ℕ, List, length, Bool, false, Option, None, Some, IfSome, Result, Ok, Err, get_or, refl, ap, sym, ◌∙◌, subst, inl, inr, arith}
use Rattle.std.proofs.lemmas.List.{length-append, length-drop}
use Rattle.std.specs.Prelude.{◌≢◌}
use Rattle.zk_model.specs.Arithmetic.{Arith, IsWellFormed, SatisfiesElements, first_output}
use Rattle.zk_model.specs.Circuit.{Circuit}
use Rattle.zk_model.specs.declared.Side.TheVariants.{Prover}
use Rattle.zk_port.specs.Counts.{Rose}
use Rattle.zk_port.specs.Links.{LinkState}
use Rattle.zk_port.specs.Files.{Files}
use Rattle.bristol_reader.specs.Laws.{OneCircuit}
use Rattle.arith_laws.proofs.OneList.{unmet}
use Rattle.arith_reader.specs.Laws.{TextsAreExact}
use Rattle.element_file.specs.Laws.{ElementsAreExact}
use Rattle.zk_model.specs.Transcript.{Grant}
use Rattle.zk_model.specs.declared.Span.{Span}
use Rattle.claim_store.specs.declared.ClaimFault.{ClaimFault}
use Rattle.claim_store.specs.declared.ClaimFault.TheVariants as claim
use Rattle.claim_store.specs.Causes.{AreFewClaims, AreMore, ClaimsStartAgain}
use Rattle.claim_store.proofs.Units.{ranges_one}
use Rattle.claim_store.specs.declared.fault.StoreFault.TheVariants as store
use Rattle.lease_journal.specs.declared.fault.StartFault.{StartFault}
use Rattle.lease_journal.specs.declared.fault.StartFault.TheVariants as start
use Rattle.session_core.specs.Jobs.{ProverJob}
use Rattle.session_rehearsal.proofs.Rehearsed.{sized_values}
use Rattle.session_prover.specs.Notes.{IsAskedRight, IsGrantRead}
use Rattle.session_prover.specs.Outcomes.{claim_outcome}
use Rattle.session_prover.specs.Sessions.{IsProverNote}
use Rattle.session_prover.specs.declared.note.ProverNote.{ProverNote}
use Rattle.session_prover.specs.declared.note.ProverOutcome.{ProverOutcome}
use Rattle.session_prover.specs.declared.note.ProverOutcome.TheVariants as ended
use Rattle.claim_files.specs.ArithFiles.{HasArith}
use Rattle.claim_files.proofs.ArithCauses.{arith_lacks, elements_lack, told_arith, told_elements}
use Rattle.file_commands.specs.ClaimedUnits.{AnswersClaim, KeepsClaims, MovesBy, asked_span}
use Rattle.file_commands.specs.Journals.{DiskChange, JournalStop, own_journal, IsClaimsFault, HasClaims}
use Rattle.file_commands.specs.Stops.{ConnectStop, HasCircuit, PrintsMade, stop_line, stop_status}
use Rattle.file_commands.specs.Effects.{ShelfChange, DoorChange, Effects, NameFailed, OnlyLoads, IsDone}
use Rattle.file_commands.specs.declared.refusal.Refusal.{Refusal}
use Rattle.file_commands.specs.declared.refusal.Refusal.TheVariants as stop
use Rattle.file_commands.proofs.Causes.{circuit_lacks, file_7, sound_7, told_circuit}
use Rattle.file_commands.proofs.Means.{any_answers, zero_answers}
use Rattle.prove_command.specs.BitsProofs.{BitsProofStop, IsSatisfied, WiresStop}
use Rattle.prove_command.specs.ElementsProofs.{ElementsProofStop, HasElements, HasSolution, SolvedStop, ValuesStop}
use Rattle.prove_command.specs.NamedProofs.{BitsProof, ElementsProof}
use Rattle.prove_command.specs.Proofs.{Proof}
use Rattle.prove_command.specs.ProveRuns.{AreFree, HasProveFailed, HasTruth, HoldsAsked, IsProvable, IsProveName, IsWithHonestVerifier, IsWitnessName}
use Rattle.prove_command.specs.ProveRuns.{ProveLines, ProveMeans, Proves, ProveStop, WitnessStop, proved_line, proved_status}
use Rattle.prove_command.specs.declared.proof.ProofNames.{ProofNames}
use Rattle.prove_command.specs.declared.proof.ProofNames.TheVariants as names

-- ---- what the status says

pub is_accepted : (outcome : ProverOutcome) → (outcome ≡ ended.Accepted) ⊎ (outcome ≢ ended.Accepted)
is_accepted ended.Accepted = inl refl
is_accepted (ended.Rejected code number) = inr (λ same. cc)
is_accepted (ended.PeerEnded at) = inr (λ same. cc)
is_accepted (ended.BadFrame place) = inr (λ same. cc)
is_accepted ended.BadGrant = inr (λ same. cc)
is_accepted (ended.PeerRefused code) = inr (λ same. cc)
is_accepted (ended.Broken first) = inr (λ same. cc)
is_accepted (ended.OutOfRange total) = inr (λ same. cc)
is_accepted (ended.Overlap earlier) = inr (λ same. cc)
is_accepted (ended.Full slots) = inr (λ same. cc)
is_accepted ended.Device = inr (λ same. cc)
is_accepted ended.Link = inr (λ same. cc)
is_accepted ended.NoMemory = inr (λ same. cc)

note_means : {L : Type 0} (proof : Proof) (note : ProverNote L) (disk : DiskChange) (door : DoorChange) (run : Effects)
    → PrintsMade (proved_status note.outcome) (proved_line note.granted disk.new.faults note.outcome) run.status run.sink
    → ProveMeans proof (Some note) disk door run
note_means proof note disk door run prints = elim (is_accepted note.outcome) [
  | inl same ↦ (elim (zero_answers (proved_line note.granted disk.new.faults note.outcome) run.status run.sink
      (subst (λ (n : ℕ). PrintsMade n (proved_line note.granted disk.new.faults note.outcome) run.status run.sink) (ap proved_status same) prints)) [
        | inl whole ↦ inl (whole.0, same, whole.1)
        | inr other ↦ inr (inr other)
      ])
  | inr differs ↦ (elim (any_answers (proved_status note.outcome) (proved_line note.granted disk.new.faults note.outcome) run.status run.sink prints) [
    | inl e ↦ inr (inl (e, differs))
    | inr other ↦ inr (inr other)
  ])
]

prove_means : {L : Type 0} (link_tells : L → LinkState) (proof : Proof) (note : Option (ProverNote L)) (disk : DiskChange) (door : DoorChange) (run : Effects)
    → ProveLines link_tells proof note disk door run → ProveMeans proof note disk door run
prove_means link_tells proof (Some note) disk door run says = note_means proof note disk door run says.1
prove_means link_tells proof None disk door run says = elim (any_answers (stop_status says.stop) (stop_line says.stop) run.status run.sink says.prints) [
  | inl e ↦ inl (says.stop, says.cause, e)
  | inr other ↦ inr other
]

-- ---- why a run stops: for want of memory alone

wires_lack : (proof : BitsProof) (circuit : Circuit) → IsSatisfied proof circuit → (why : Refusal) → WiresStop circuit proof why → stop_status why ≡ 7
wires_lack proof circuit ready (stop.ManyPublic inputs got) cause =
    let whole = length-append proof.public proof.bits in
    let fits = ready.inputs in
    let has = cause.has in
    let given = cause.given in
    let beyond = cause.beyond in
    absurd (omega (arith, whole, fits, has, given, beyond))
wires_lack proof circuit ready (stop.WrongBits need got) cause =
    let whole = length-append proof.public proof.bits in
    let fits = ready.inputs in
    let all : circuit.inputs - length proof.public ≡ length proof.bits = omega (arith, whole, fits) in
    absurd (cause.1.differ (cause.1.needed ∙ all ∙ sym cause.1.given))
wires_lack proof circuit ready (stop.WrongOutputs need got) cause = absurd (cause.3 (cause.1 ∙ sym ready.outputs ∙ sym cause.2))
wires_lack proof circuit ready (stop.Unsatisfied output) cause =
    absurd (cause.differs.differs (ap (λ (bits : List Bool). get_or bits output false) (sym (cause.only proof.outputs ready.satisfied))))
wires_lack proof circuit ready stop.NoMemory cause = refl
wires_lack proof circuit ready other cause = absurd cause

bits_7 : OneCircuit → (proof : BitsProof) (shelf : ShelfChange) → shelf.old.told ≢ None → HasCircuit shelf.old.told proof.circuit (IsSatisfied proof)
    → ¬ NameFailed proof.circuit shelf → (why : Refusal) → BitsProofStop proof shelf why → stop_status why ≡ 7
bits_7 one proof shelf tells ready calm why (inl cause) =
    ap stop_status (circuit_lacks one proof.circuit shelf ready.circuit tells ready.file calm why cause)
bits_7 one proof shelf tells ready calm why (inr found) =
    let same = told_circuit one shelf.old.told proof.circuit ready.circuit found.circuit tells ready.file found.file in
    wires_lack proof ready.circuit ready.is why (subst (λ (c : Circuit). WiresStop c proof why) same found.is)

-- outputs that a circuit gives are as many as it has
sized_outputs : (circuit : Arith) (values outputs : List ℕ) → IsWellFormed circuit → SatisfiesElements circuit values outputs
    → length outputs ≡ circuit.outputs
sized_outputs circuit values outputs formed satisfied =
    let left = length-drop (first_output circuit) satisfied.0 in
    let whole = satisfied.1.computed.whole in
    let fits = formed.outputs_within in
    let same = ap length satisfied.2 in
    omega (arith, left, whole, fits, same)

values_7 : (circuit : Arith) (values outputs : List ℕ) → IsWellFormed circuit → SatisfiesElements circuit values outputs → (why : Refusal)
    → ValuesStop circuit values outputs why → stop_status why ≡ 7
values_7 circuit values outputs formed satisfied (stop.Unsatisfied place) (inl failed) =
    absurd (unmet circuit values failed.assert failed.value formed failed.failed outputs satisfied)
values_7 circuit values outputs formed satisfied (stop.Unsatisfied place) (inr other) =
    absurd (other.differs.differs (ap (λ (l : List ℕ). get_or l place 0) (sym (other.only outputs satisfied))))
values_7 circuit values outputs formed satisfied stop.NoMemory cause = refl
values_7 circuit values outputs formed satisfied other cause = absurd cause

module _ (exact : ElementsAreExact) (proof : ElementsProof) (shelf : ShelfChange) (tells : shelf.old.told ≢ None) (circuit : Arith)
    (formed : IsWellFormed circuit) (ready : HasSolution shelf.old.told proof circuit) (calm : ¬ NameFailed proof.values shelf)
    (still : ¬ NameFailed proof.outputs shelf) (why : Refusal) where
  given_7 : (values : List ℕ) → values ≡ ready.values
      → HasElements shelf.old.told proof.outputs circuit.outputs (λ outputs. ValuesStop circuit values outputs why) → stop_status why ≡ 7
  given_7 values same found =
      let outputs = told_elements exact shelf.old.told proof.outputs ready.outputs found.elements tells ready.outputs_file found.file in
      values_7 circuit values found.elements formed
      (subst (λ (q : List ℕ × List ℕ). SatisfiesElements circuit q.0 q.1) (λ i. (sym same i, sym outputs i)) ready.satisfied) why found.is

  solved_7 : SolvedStop circuit proof shelf why → stop_status why ≡ 7
  solved_7 (inl cause) =
      ap stop_status (elements_lack exact proof.values circuit.inputs shelf ready.values tells ready.values_file
      (sized_values circuit ready.values ready.outputs formed ready.satisfied) calm why cause)
  solved_7 (inr found) = elim found.is [
    | inl cause ↦ ap stop_status (elements_lack exact proof.outputs circuit.outputs shelf ready.outputs tells ready.outputs_file
        (sized_outputs circuit ready.values ready.outputs formed ready.satisfied) still why cause)
    | inr given ↦ given_7 found.elements
        (told_elements exact shelf.old.told proof.values ready.values found.elements tells ready.values_file found.file) given
  ]

elements_7 : TextsAreExact → ElementsAreExact → (proof : ElementsProof) (shelf : ShelfChange) → shelf.old.told ≢ None
    → HasArith shelf.old.told proof.circuit (HasSolution shelf.old.told proof) → ((name : List ℕ) → IsWitnessName (names.Arithmetic proof) name → ¬ NameFailed name shelf)
    → (why : Refusal) → ElementsProofStop proof shelf why → stop_status why ≡ 7
elements_7 texts exact proof shelf tells ready calm why (inl cause) =
    ap stop_status (arith_lacks proof.circuit shelf ready.circuit tells ready.file (calm proof.circuit (inl refl)) why cause)
elements_7 texts exact proof shelf tells ready calm why (inr found) =
    let same = told_arith texts shelf.old.told proof.circuit ready.circuit found.circuit tells ready.file found.file in
    solved_7 exact proof shelf tells ready.circuit ready.file.says.is.well_formed ready.is (calm proof.values (inr (inl refl)))
    (calm proof.outputs (inr (inr refl))) why (subst (λ (c : Arith). SolvedStop c proof shelf why) same found.is)

witness_7 : OneCircuit → TextsAreExact → ElementsAreExact → (proof : ProofNames) (shelf : ShelfChange) → shelf.old.told ≢ None
    → HasTruth shelf.old.told proof → ((name : List ℕ) → IsWitnessName proof name → ¬ NameFailed name shelf) → (why : Refusal)
    → WitnessStop proof shelf why → stop_status why ≡ 7
witness_7 one texts exact (names.Boolean proof) shelf tells ready calm why cause = bits_7 one proof shelf tells ready (calm proof.circuit refl) why cause
witness_7 one texts exact (names.Arithmetic proof) shelf tells ready calm why cause = elements_7 texts exact proof shelf tells ready calm why cause

journal_7 : ClaimsStartAgain → (id : List ℕ) (total : ℕ) (disk : DiskChange) → HasClaims id total disk.old.content → ¬ Rose disk.old.faults disk.new.faults
    → (why : Refusal) → JournalStop (IsClaimsFault id total disk.old) disk why → stop_status why ≡ 7
journal_7 law id total disk has calm why cause = sound_7 (IsClaimsFault id total disk.old) disk sound calm why cause
  where
    sound : (fault : StartFault) → fault ≢ start.Device → ¬ IsClaimsFault id total disk.old fault
    sound fault other cause =
        elim (law id total has.begin has.slots has.claims has.bytes (store.Journal fault) has.holds has.says (cause has.bytes has.known)) [
          | inl device ↦ other (cc)
          | inr memory ↦ cc
        ]

connect_7 : (address : List ℕ) (patience : ℕ) (door : DoorChange) → ¬ Rose door.old.connect_faults door.new.connect_faults → (why : Refusal)
    → ConnectStop address patience door why → stop_status why ≡ 7
connect_7 address patience door calm stop.DoorFailed cause = absurd (calm cause.1)
connect_7 address patience door calm stop.NoMemory cause = refl
connect_7 address patience door calm other cause = absurd cause

stop_7 : OneCircuit → TextsAreExact → ElementsAreExact → ClaimsStartAgain → (proof : Proof) (disk : DiskChange) (door : DoorChange) (run : Effects)
    → IsProvable run.shelf.old.told disk.old proof → ¬ HasProveFailed proof disk door run → (why : Refusal) → ProveStop proof run.shelf disk door why
    → stop_status why ≡ 7
stop_7 one texts exact law proof disk door run ready calm why (inl (inl cause, unasked, unheard)) =
    witness_7 one texts exact proof.names run.shelf ready.tells ready.claim (λ name is rose. calm (inl (inl (name, inl is, rose)))) why cause
stop_7 one texts exact law proof disk door run ready calm why (inl (inr cause, unasked, unheard)) =
    file_7 Prover proof.file run.shelf ready.tells ready.file (λ rose. calm (inl (inl (proof.file, inr refl, rose)))) why cause.1
stop_7 one texts exact law proof disk door run ready calm why (inr lacks) = elim lacks.2.cause [
  | inl journal ↦ journal_7 law lacks.0.file.id lacks.0.file.params.total disk (ready.journal lacks.0 lacks.1)
      (λ rose. calm (inr (inl rose))) why journal.0
  | inr unheard ↦ connect_7 proof.address proof.timeout door (λ rose. calm (inr (inr rose))) why unheard
]

-- ---- a session with an honest verifier

some_is_none : {X : Type 0} {x : X} → Some x ≡ None → ⊥
some_is_none same = cc

ok_is_err : {span : Span} {fault : ClaimFault} → ◌≡◌ {A = Option (Result Span ClaimFault)} (Some (Ok span)) (Some (Err fault)) → ⊥
ok_is_err same = cc

-- ranges are few or more
few_or_more : (slots : ℕ) (claims : List Span) (s : Span) → AreFewClaims slots claims s → AreMore slots claims s → ⊥
few_or_more slots claims s few more =
    let same : few.ranges ≡ more.ranges = ranges_one 0 few.ranges more.ranges few.merged.rising more.merged.rising (λ unit. few.merged.same unit ∙ sym (more.merged.same unit)) in
    let low = few.few in
    let high = more.more in
    let sizes : length few.ranges ≡ length more.ranges = ap length same in
    omega (arith, low, high, sizes)

-- a claim that was refused had no memory
refused_memory : {L : Type 0} (link_tells : L → LinkState) (proof : Proof) (note : ProverNote L) (told : Option Files) (disk : DiskChange)
    (door : DoorChange) (asked : HoldsAsked link_tells proof note told disk door)
    → HasClaims asked.job.file.id asked.job.file.params.total disk.old.content → IsWithHonestVerifier link_tells told disk.old proof note
    → ¬ Rose disk.old.faults disk.new.faults → (fault : ClaimFault) → asked.holds.claim.answer ≡ Some (Err fault) → fault ≡ claim.NoMemory
refused_memory link_tells proof note told disk door asked has honest calm fault refused =
    of_asked asked.holds.is_note.granted_is.asked
  where
    job : ProverJob
    job = asked.job

    kept : KeepsClaims (own_journal proof.file) job.file.id job.file.params.total asked.holds.claim.asked asked.holds.claim.answer disk
    kept = asked.holds.kept

    of_cause : (given : Grant) → AreFree job.file.params.total kept.place.slots kept.used kept.claims given → (fault : ClaimFault)
        → AnswersClaim job.file.params.total kept.place.slots kept.used kept.claims (given.start, given.count) (Err fault) disk → fault ≡ claim.NoMemory
    of_cause given free (claim.Broken first) cause = absurd cause
    of_cause given free (claim.OutOfRange end) cause = let within = free.within in let beyond = cause.1 in absurd (omega (arith, within, beyond))
    of_cause given free (claim.Overlap earlier) cause = absurd (some_is_none (sym cause.0 ∙ free.apart))
    of_cause given free (claim.Full used) cause = elim free.room [
      | inl left ↦ absurd (let full = cause.1 in omega (arith, left, full))
      | inr few ↦ absurd (few_or_more kept.place.slots kept.claims (asked_span (given.start, given.count)) few cause.2)
    ]
    of_cause given free claim.Device cause = absurd (calm cause)
    of_cause given free claim.NoMemory cause = refl

    moved_by : (asked_for : Option (ℕ × ℕ)) (answer : Option (Result Span ClaimFault)) (units : ℕ × ℕ) (fault : ClaimFault)
        → asked_for ≡ Some units → answer ≡ Some (Err fault)
        → MovesBy job.file.id job.file.params.total kept.place kept.used kept.claims asked_for answer disk
        → AnswersClaim job.file.params.total kept.place.slots kept.used kept.claims units (Err fault) disk
    moved_by asked_for answer units fault was answered moved =
        (subst (λ (p : Option (ℕ × ℕ) × Option (Result Span ClaimFault)).
        MovesBy job.file.id job.file.params.total kept.place kept.used kept.claims p.0 p.1 disk) (λ i. (was i, answered i)) moved).cause

    free_of : (given : Grant) → IsGrantRead job note.log given → AreFree job.file.params.total kept.place.slots kept.used kept.claims given
    free_of given read =
        let first = kept.recovered has.bytes has.known in
        honest.free job asked.proved given read has.bytes has.known kept.place.begin kept.place.slots kept.used kept.claims
        first.holds first.says (kept.in_use has.bytes has.known)

    of_asked : IsAskedRight job asked.holds.claim note.log → fault ≡ claim.NoMemory
    of_asked (inl none) = absurd (some_is_none (sym refused ∙ none))
    of_asked (inr (given, read, inl claimed)) = absurd (ok_is_err (sym claimed.answer ∙ refused))
    of_asked (inr (given, read, inr other)) =
        of_cause given (free_of given read) fault
        (moved_by asked.holds.claim.asked asked.holds.claim.answer (given.start, given.count) fault other.1.asked refused kept.moved)

note_done : {L : Type 0} (link_tells : L → LinkState) (proof : Proof) (note : ProverNote L) (told : Option Files) (disk : DiskChange)
    (door : DoorChange) (asked : HoldsAsked link_tells proof note told disk door)
    → HasClaims asked.job.file.id asked.job.file.params.total disk.old.content → IsWithHonestVerifier link_tells told disk.old proof note
    → ¬ Rose disk.old.faults disk.new.faults → (note.outcome ≡ ended.Accepted) ⊎ (note.outcome ≡ ended.NoMemory)
note_done {L} link_tells proof note told disk door asked has honest calm = of_answer asked.holds.claim.answer refl
  where
    held : IsProverNote link_tells asked.job asked.holds.claim note
    held = asked.holds.is_note

    completed : ((fault : ClaimFault) → asked.holds.claim.answer ≡ Some (Err fault) → ⊥) → (note.outcome ≡ ended.Accepted) ⊎ (note.outcome ≡ ended.NoMemory)
    completed free =
        let peer = honest.honest asked.job asked.proved in
        held.complete peer.0 peer.2 peer.3 free
        (λ rose. honest.calm (subst (λ (n : ℕ). Rose n (link_tells note.link).faults) held.fresh.unfailed rose))

    of_answer : (answer : Option (Result Span ClaimFault)) → asked.holds.claim.answer ≡ answer
        → (note.outcome ≡ ended.Accepted) ⊎ (note.outcome ≡ ended.NoMemory)
    of_answer None is = completed (λ fault refused. some_is_none (sym refused ∙ is))
    of_answer (Some (Ok claimed)) is = completed (λ fault refused. ok_is_err (sym is ∙ refused))
    of_answer (Some (Err fault)) is =
        let memory = refused_memory link_tells proof note told disk door asked has honest calm fault is in
        inr ((held.answers.refused fault is).0 ∙ ap claim_outcome memory)

prove_is_done : {L : Type 0} (link_tells : L → LinkState) → OneCircuit → TextsAreExact → ElementsAreExact → ClaimsStartAgain → (proof : Proof) (note : Option (ProverNote L)) (disk : DiskChange)
    (door : DoorChange) (run : Effects) → ProveLines link_tells proof note disk door run → ProveMeans proof note disk door run
    → IsProvable run.shelf.old.told disk.old proof → ¬ HasProveFailed proof disk door run
    → IfSome note (IsWithHonestVerifier link_tells run.shelf.old.told disk.old proof) → IsDone run.status
prove_is_done {L} link_tells one texts exact law proof (Some note) disk door run says means ready calm honest =
    of_means means (note_done link_tells proof note run.shelf.old.told disk door says.0
    (ready.journal says.0.job says.0.proved) honest (λ rose. calm (inr (inl rose))))
  where
    of_means : ProveMeans proof (Some note) disk door run → (note.outcome ≡ ended.Accepted) ⊎ (note.outcome ≡ ended.NoMemory) → IsDone run.status
    of_means (inl whole) outcome = inl whole.0
    of_means (inr (inl other)) (inl same) = absurd (other.1 same)
    of_means (inr (inl other)) (inr same) = inr (other.0 ∙ ap proved_status same)
    of_means (inr (inr (inl failed))) outcome = absurd (calm (inl (inr failed.1)))
    of_means (inr (inr (inr seven))) outcome = inr seven
prove_is_done link_tells one texts exact law proof None disk door run says means ready calm honest = elim means [
  | inl stopped ↦ inr (stopped.2 ∙ stop_7 one texts exact law proof disk door run ready calm stopped.0 stopped.1)
  | inr other ↦ (elim other [ inl failed ↦ absurd (calm (inl (inr failed.1))) | inr seven ↦ inr seven ])
]

pub proves : {L : Type 0} (link_tells : L → LinkState) → OneCircuit → TextsAreExact → ElementsAreExact → ClaimsStartAgain → (proof : Proof) (note : Option (ProverNote L)) (disk : DiskChange)
    (door : DoorChange) (run : Effects) → ProveLines link_tells proof note disk door run → OnlyLoads (IsProveName proof) run.shelf
    → Proves link_tells proof note disk door run
proves link_tells one texts exact law proof note disk door run lines kept =
    let means = prove_means link_tells proof note disk door run lines in record {
      lines = lines;
      means = means;
      done = λ ready calm honest. prove_is_done link_tells one texts exact law proof note disk door run lines means ready calm honest;
      kept = kept;
    }
