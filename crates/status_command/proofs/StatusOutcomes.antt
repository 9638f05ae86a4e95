-- What is said of a status gives what its record promises.
use Rattle.std.proofs.Common.{◌≡◌, ◌⊎◌, ℕ, List, Option, None, Some, refl, ap, ◌∙◌, subst, inl, inr}
use Rattle.std.specs.Prelude.{◌≢◌}
use Rattle.zk_model.specs.declared.Side.{Side}
use Rattle.zk_model.specs.declared.Side.TheVariants.{Prover, Verifier}
use Rattle.zk_port.specs.Counts.{Rose}
use Rattle.bristol_reader.specs.Laws.{OneCircuit}
use Rattle.lease_journal.specs.declared.fault.StartFault.{StartFault}
use Rattle.lease_journal.specs.declared.fault.StartFault.TheVariants as start
use Rattle.lease_store.specs.Laws.{CeilingsStartAgain}
use Rattle.claim_store.specs.Causes.{ClaimsStartAgain}
use Rattle.claim_store.specs.declared.fault.StoreFault.TheVariants as store
use Rattle.dealer_files.specs.Faults.{IsDealtFile, IsFirstFileFault}
use Rattle.command_words.specs.Words.{StatusAsk}
use Rattle.file_commands.specs.Effects.{ShelfChange, Effects, NameFailed, OnlyLoads, IsDone}
use Rattle.file_commands.specs.Journals.{DiskChange, IsCeilingsFault, IsClaimsFault, JournalStop, OnlyReads}
use Rattle.file_commands.specs.Stops.{CircuitStop, FileStop, HasText, LoadStop, stop_line, stop_status}
use Rattle.file_commands.specs.declared.refusal.Refusal.{Refusal}
use Rattle.file_commands.specs.declared.refusal.Refusal.TheVariants as stop
use Rattle.file_commands.proofs.Causes.{circuit_lacks, file_7, sound_7, told_text}
use Rattle.file_commands.proofs.Journals.{opened_is_read}
use Rattle.file_commands.proofs.Means.{any_answers, file_status, zero_answers}
use Rattle.status_command.specs.StatusRuns.{DealtStop, HasAskedCircuit, HasJournalBy, HasReportFailed, IsJournalFaultBy, IsReportable, IsStatusName, LacksCircuit, ReportMeans, Reports, StatusLines, StatusStop, journal_side, side_of, status_journal}
use Rattle.status_command.specs.declared.dealing.Dealing.{Dealing}
use Rattle.status_command.proofs.Reporting.{untouched_is_read}

-- ---- what the status says

means : (ask : StatusAsk) (disk : DiskChange) (run : Effects) → StatusLines ask disk run → ReportMeans ask disk run
means ask disk run (inl says) = elim (zero_answers says.0 run.status run.sink says.2) [
  | inl whole ↦ inl (whole.0, says.0, says.1, whole.1)
  | inr other ↦ inr (inr other)
]
means ask disk run (inr says) = elim (any_answers (stop_status says.stop) (stop_line says.stop) run.status run.sink says.prints) [
  | inl e ↦ inr (inl (says.stop, says.cause, e))
  | inr other ↦ inr (inr other)
]

-- a status that a stop may have
abbrev IsStopStatus : ℕ → Type 0
IsStopStatus status = (status ≡ 3) ⊎ (status ≡ 4) ⊎ (status ≡ 5) ⊎ (status ≡ 7)

of_load : (name : List ℕ) (shelf : ShelfChange) (why : Refusal) → LoadStop name shelf why → IsStopStatus (stop_status why)
of_load name shelf stop.ShelfFailed cause = inr (inl refl)
of_load name shelf (stop.TooLong limit) cause = inl refl
of_load name shelf stop.NoMemory cause = inr (inr (inr refl))
of_load name shelf other cause = absurd cause

of_dealt : (name : List ℕ) (number : Option ℕ) (shelf : ShelfChange) (why : Refusal) → DealtStop name number shelf why
    → IsStopStatus (stop_status why)
of_dealt name number shelf (stop.BadFile fault) cause = elim (file_status fault) [ inl e ↦ inl e | inr e ↦ inr (inr (inr e)) ]
of_dealt name number shelf other cause = of_load name shelf other cause

of_circuit : (name : List ℕ) (shelf : ShelfChange) (why : Refusal) → CircuitStop name shelf why → IsStopStatus (stop_status why)
of_circuit name shelf (stop.BadText fault) cause = inl refl
of_circuit name shelf other cause = of_load name shelf other cause

of_asked : (asked : Option (List ℕ)) (shelf : ShelfChange) (why : Refusal) → LacksCircuit asked shelf why → IsStopStatus (stop_status why)
of_asked None shelf why lacks = absurd lacks
of_asked (Some name) shelf why lacks = of_circuit name shelf why lacks

of_journal : (Cause : StartFault → Type 0) (disk : DiskChange) (why : Refusal) → JournalStop Cause disk why → IsStopStatus (stop_status why)
of_journal Cause disk (stop.JournalFailed count) cause = inr (inr (inl refl))
of_journal Cause disk (stop.JournalShort need got) cause = inl refl
of_journal Cause disk (stop.JournalHeader place) cause = inl refl
of_journal Cause disk (stop.JournalBody slot) cause = inl refl
of_journal Cause disk stop.NoMemory cause = inr (inr (inr refl))
of_journal Cause disk other cause = absurd cause

of_stop : (ask : StatusAsk) (shelf : ShelfChange) (disk : DiskChange) (why : Refusal) → StatusStop ask shelf disk why → IsStopStatus (stop_status why)
of_stop ask shelf disk why (inl (inl lacks, stays)) = of_dealt ask.file ask.node shelf why lacks
of_stop ask shelf disk why (inl (inr lacks, stays)) = of_asked ask.circuit shelf why lacks.2
of_stop ask shelf disk why (inr lacks) = of_journal (IsJournalFaultBy (journal_side ask.node lacks.dealing.side) lacks.dealing disk.old) disk why lacks.cause

statuses : (ask : StatusAsk) (disk : DiskChange) (run : Effects) → ReportMeans ask disk run
    → (run.status ≡ 0) ⊎ (run.status ≡ 3) ⊎ (run.status ≡ 4) ⊎ (run.status ≡ 5) ⊎ (run.status ≡ 7)
statuses ask disk run (inl whole) = inl whole.0
statuses ask disk run (inr (inl stopped)) = elim (of_stop ask run.shelf disk stopped.0 stopped.1) [
  | inl three ↦ inr (inl (stopped.2 ∙ three))
  | inr (inl four) ↦ inr (inr (inl (stopped.2 ∙ four)))
  | inr (inr (inl five)) ↦ inr (inr (inr (inl (stopped.2 ∙ five))))
  | inr (inr (inr seven)) ↦ inr (inr (inr (inr (stopped.2 ∙ seven))))
]
statuses ask disk run (inr (inr (inl failed))) = inr (inr (inl failed.0))
statuses ask disk run (inr (inr (inr seven))) = inr (inr (inr (inr seven)))

-- ---- the disk is read alone

reads : (ask : StatusAsk) (disk : DiskChange) (run : Effects) → StatusLines ask disk run → OnlyReads (status_journal ask.file ask.node) disk
reads ask disk run (inl says) = opened_is_read (status_journal ask.file ask.node) disk says.1.opens
reads ask disk run (inr says) = elim says.cause [
  | inl lacks ↦ untouched_is_read (status_journal ask.file ask.node) disk lacks.1
  | inr lacks ↦ lacks.reads
]

-- ---- why a run stops: for want of memory alone

-- a stop is one of the side that is asked about of the bytes which stand there
of_side : (name : List ℕ) (number : Option ℕ) (shelf : ShelfChange) → shelf.old.told ≢ None
    → (dealt : HasText shelf.old.told name (λ bytes. IsDealtFile (side_of number bytes) bytes)) → (why : Refusal)
    → DealtStop name number shelf why → FileStop (side_of number dealt.text) name shelf why
of_side name number shelf tells dealt (stop.BadFile fault) cause =
    let same = told_text shelf.old.told name dealt.text cause.text tells dealt.loaded.stands cause.loaded.stands in
    record {
      text = cause.text;
      loaded = cause.loaded;
      says = subst (λ (side : Side). IsFirstFileFault side cause.text fault) (ap (side_of number) same) cause.says;
    }
of_side name number shelf tells dealt other cause = cause

dealt_7 : (name : List ℕ) (number : Option ℕ) (shelf : ShelfChange) → shelf.old.told ≢ None
    → HasText shelf.old.told name (λ bytes. IsDealtFile (side_of number bytes) bytes) → ¬ NameFailed name shelf → (why : Refusal)
    → DealtStop name number shelf why → stop_status why ≡ 7
dealt_7 name number shelf tells dealt calm why cause =
    file_7 (side_of number dealt.text) name shelf tells (record { text = dealt.text; loaded = dealt.loaded; says = dealt.says }) calm why
    (of_side name number shelf tells dealt why cause)

asked_7 : OneCircuit → (asked : Option (List ℕ)) (shelf : ShelfChange) → shelf.old.told ≢ None → HasAskedCircuit shelf.old.told asked
    → ((name : List ℕ) → asked ≡ Some name → ¬ NameFailed name shelf) → (why : Refusal) → LacksCircuit asked shelf why → stop_status why ≡ 7
asked_7 one None shelf tells has calm why lacks = absurd lacks
asked_7 one (Some name) shelf tells has calm why lacks =
    ap stop_status (circuit_lacks one name shelf has.0 tells has.1 (calm name refl) why lacks)

journal_7 : ClaimsStartAgain → CeilingsStartAgain → (side : Side) (dealing : Dealing) (disk : DiskChange)
    → HasJournalBy side dealing disk.old.content → ¬ Rose disk.old.faults disk.new.faults → (why : Refusal)
    → JournalStop (IsJournalFaultBy side dealing disk.old) disk why → stop_status why ≡ 7
journal_7 claims ceilings Prover dealing disk has calm why cause =
    sound_7 (IsClaimsFault dealing.id dealing.params.total disk.old) disk sound calm why cause
  where
    sound : (fault : StartFault) → fault ≢ start.Device → ¬ IsClaimsFault dealing.id dealing.params.total disk.old fault
    sound fault other cause =
        elim (claims dealing.id dealing.params.total has.begin has.slots has.claims has.bytes (store.Journal fault) has.holds has.says
        (cause has.bytes has.known)) [
          | inl device ↦ other (cc)
          | inr memory ↦ cc
        ]
journal_7 claims ceilings Verifier dealing disk has calm why cause =
    sound_7 (IsCeilingsFault dealing.id dealing.params.total disk.old) disk sound calm why cause
  where
    sound : (fault : StartFault) → fault ≢ start.Device → ¬ IsCeilingsFault dealing.id dealing.params.total disk.old fault
    sound fault other cause =
        other ((ceilings.said dealing.id dealing.params.total has.base has.bytes has.says).refused fault (cause has.bytes has.known))

stop_7 : OneCircuit → ClaimsStartAgain → CeilingsStartAgain → (ask : StatusAsk) (disk : DiskChange) (run : Effects)
    → IsReportable run.shelf.old.told disk.old ask → ¬ HasReportFailed ask disk run → (why : Refusal) → StatusStop ask run.shelf disk why
    → stop_status why ≡ 7
stop_7 one claims ceilings ask disk run ready calm why (inl (inl lacks, stays)) =
    dealt_7 ask.file ask.node run.shelf ready.tells ready.file (λ rose. calm (inl (inl (ask.file, inl refl, rose)))) why lacks
stop_7 one claims ceilings ask disk run ready calm why (inl (inr lacks, stays)) =
    asked_7 one ask.circuit run.shelf ready.tells ready.circuit (λ name is rose. calm (inl (inl (name, inr is, rose)))) why lacks.2
stop_7 one claims ceilings ask disk run ready calm why (inr lacks) =
    journal_7 claims ceilings (journal_side ask.node lacks.dealing.side) lacks.dealing disk (ready.journal lacks.dealing lacks.file) (λ rose. calm (inr rose)) why
    lacks.cause

done : OneCircuit → ClaimsStartAgain → CeilingsStartAgain → (ask : StatusAsk) (disk : DiskChange) (run : Effects)
    → IsReportable run.shelf.old.told disk.old ask → ¬ HasReportFailed ask disk run → ReportMeans ask disk run → IsDone run.status
done one claims ceilings ask disk run ready calm (inl whole) = inl whole.0
done one claims ceilings ask disk run ready calm (inr (inl stopped)) =
    inr (stopped.2 ∙ stop_7 one claims ceilings ask disk run ready calm stopped.0 stopped.1)
done one claims ceilings ask disk run ready calm (inr (inr (inl failed))) = absurd (calm (inl (inr failed.1)))
done one claims ceilings ask disk run ready calm (inr (inr (inr seven))) = inr seven

pub reports : OneCircuit → ClaimsStartAgain → CeilingsStartAgain → (ask : StatusAsk) (disk : DiskChange) (run : Effects)
    → StatusLines ask disk run → OnlyLoads (IsStatusName ask) run.shelf → Reports ask disk run
reports one claims ceilings ask disk run lines kept =
    let all = means ask disk run lines in record {
      lines = lines;
      kept = kept;
      reads = reads ask disk run lines;
      statuses = statuses ask disk run all;
      means = all;
      done = λ ready calm. done one claims ceilings ask disk run ready calm all;
    }
