-- What is said of a migration gives what its record promises.
use Rattle.std.proofs.Common.{◌≡◌, ◌⊎◌, ℕ, List, Some, refl, ◌∙◌, inl, inr}
use Rattle.std.specs.Prelude.{◌≢◌}
use Rattle.zk_model.specs.declared.JournalKind.{JournalKind}
use Rattle.zk_model.specs.declared.Side.{Side}
use Rattle.zk_port.specs.Counts.{Rose}
use Rattle.lease_journal.specs.declared.fault.StartFault.{StartFault}
use Rattle.lease_journal.specs.declared.fault.StartFault.TheVariants as start
use Rattle.claim_store.specs.declared.fault.StoreFault.TheVariants as store
use Rattle.journal_migration.specs.Migrating.{MayMigrate, SoundIsMigrated}
use Rattle.command_words.specs.Words.{MigrateAsk}
use Rattle.file_commands.specs.Effects.{ShelfChange, Effects, OnlyLoads, IsName, IsDone}
use Rattle.file_commands.specs.Journals.{DiskChange, JournalStop}
use Rattle.file_commands.specs.MigrateRuns.{HasMigrateFailed, IsMigratable, IsMigrationFault, MigrateLines, MigrateMeans, MigrateStop, Migrates, journal_kind, moved_line}
use Rattle.file_commands.specs.Stops.{FileStop, LoadStop, stop_line, stop_status}
use Rattle.file_commands.specs.declared.migrate_command.DealtUnits.{DealtUnits}
use Rattle.file_commands.specs.declared.refusal.Refusal.{Refusal}
use Rattle.file_commands.specs.declared.refusal.Refusal.TheVariants as stop
use Rattle.file_commands.proofs.Causes.{file_7, sound_7}
use Rattle.file_commands.proofs.Means.{any_answers, file_status, zero_answers}

-- ---- what the status says

means : (ask : MigrateAsk) (disk : DiskChange) (run : Effects) → MigrateLines ask disk run → MigrateMeans ask disk run
means ask disk run (inl says) = elim (zero_answers (moved_line says.0) run.status run.sink says.2) [
  | inl whole ↦ inl (whole.0, says.0, says.1, whole.1)
  | inr other ↦ inr (inr other)
]
means ask disk run (inr says) = elim (any_answers (stop_status says.stop) (stop_line says.stop) run.status run.sink says.prints) [
  | inl e ↦ inr (inl (says.stop, says.cause, e))
  | inr other ↦ inr (inr other)
]

-- a status that a stop may have
abbrev IsStopStatus : ℕ → Type 0
IsStopStatus status = (status ≡ 3) ⊎ (status ≡ 4) ⊎ (status ≡ 5) ⊎ (status ≡ 7)

of_load : (name : List ℕ) (shelf : ShelfChange) (why : Refusal) → LoadStop name shelf why → IsStopStatus (stop_status why)
of_load name shelf stop.ShelfFailed cause = inr (inl refl)
of_load name shelf (stop.TooLong limit) cause = inl refl
of_load name shelf stop.NoMemory cause = inr (inr (inr refl))
of_load name shelf other cause = absurd cause

of_file : (side : Side) (name : List ℕ) (shelf : ShelfChange) (why : Refusal) → FileStop side name shelf why → IsStopStatus (stop_status why)
of_file side name shelf (stop.BadFile fault) cause = elim (file_status fault) [ inl e ↦ inl e | inr e ↦ inr (inr (inr e)) ]
of_file side name shelf other cause = of_load name shelf other cause

of_journal : (Cause : StartFault → Type 0) (disk : DiskChange) (why : Refusal) → JournalStop Cause disk why → IsStopStatus (stop_status why)
of_journal Cause disk (stop.JournalFailed count) cause = inr (inr (inl refl))
of_journal Cause disk (stop.JournalShort need got) cause = inl refl
of_journal Cause disk (stop.JournalHeader place) cause = inl refl
of_journal Cause disk (stop.JournalBody slot) cause = inl refl
of_journal Cause disk stop.NoMemory cause = inr (inr (inr refl))
of_journal Cause disk other cause = absurd cause

of_stop : (ask : MigrateAsk) (shelf : ShelfChange) (disk : DiskChange) (why : Refusal) → MigrateStop ask shelf disk why → IsStopStatus (stop_status why)
of_stop ask shelf disk why (inl lacks) = of_file ask.side ask.file shelf why lacks.0
of_stop ask shelf disk why (inr stops) = of_journal (IsMigrationFault (journal_kind ask.side) stops.0 disk.old) disk why stops.2.cause

statuses : (ask : MigrateAsk) (disk : DiskChange) (run : Effects) → MigrateMeans ask disk run
    → (run.status ≡ 0) ⊎ (run.status ≡ 3) ⊎ (run.status ≡ 4) ⊎ (run.status ≡ 5) ⊎ (run.status ≡ 7)
statuses ask disk run (inl whole) = inl whole.0
statuses ask disk run (inr (inl stopped)) = elim (of_stop ask run.shelf disk stopped.0 stopped.1) [
  | inl three ↦ inr (inl (stopped.2 ∙ three))
  | inr (inl four) ↦ inr (inr (inl (stopped.2 ∙ four)))
  | inr (inr (inl five)) ↦ inr (inr (inr (inl (stopped.2 ∙ five))))
  | inr (inr (inr seven)) ↦ inr (inr (inr (inr (stopped.2 ∙ seven))))
]
statuses ask disk run (inr (inr (inl failed))) = inr (inr (inl failed.0))
statuses ask disk run (inr (inr (inr seven))) = inr (inr (inr (inr seven)))

-- ---- why a run stops: for want of memory alone

journal_7 : SoundIsMigrated → (kind : JournalKind) (dealt : DealtUnits) (disk : DiskChange) (bytes : List ℕ) → disk.old.content ≡ Some bytes
    → MayMigrate kind dealt.id dealt.total bytes → ¬ Rose disk.old.faults disk.new.faults
    → (why : Refusal) → JournalStop (IsMigrationFault kind dealt disk.old) disk why → stop_status why ≡ 7
journal_7 law kind dealt disk bytes known may calm why cause = sound_7 (IsMigrationFault kind dealt disk.old) disk sound calm why cause
  where
    sound : (fault : StartFault) → fault ≢ start.Device → ¬ IsMigrationFault kind dealt disk.old fault
    sound fault other cause = elim (law kind dealt.id dealt.total bytes (store.Journal fault) may (cause bytes known)) [
      | inl device ↦ other (cc)
      | inr memory ↦ cc
    ]

stop_7 : SoundIsMigrated → (ask : MigrateAsk) (disk : DiskChange) (run : Effects) → IsMigratable run.shelf.old.told disk.old ask
    → ¬ HasMigrateFailed ask disk run → (why : Refusal) → MigrateStop ask run.shelf disk why → stop_status why ≡ 7
stop_7 law ask disk run ready calm why (inl lacks) =
    file_7 ask.side ask.file run.shelf ready.tells ready.file (λ rose. calm (inl (inl (ask.file, refl, rose)))) why lacks.0
stop_7 law ask disk run ready calm why (inr stops) =
    journal_7 law (journal_kind ask.side) stops.0 disk ready.bytes ready.known (ready.journal stops.0 stops.1) (λ rose. calm (inr rose)) why stops.2.cause

done : SoundIsMigrated → (ask : MigrateAsk) (disk : DiskChange) (run : Effects) → IsMigratable run.shelf.old.told disk.old ask
    → ¬ HasMigrateFailed ask disk run → MigrateMeans ask disk run → IsDone run.status
done law ask disk run ready calm (inl whole) = inl whole.0
done law ask disk run ready calm (inr (inl stopped)) = inr (stopped.2 ∙ stop_7 law ask disk run ready calm stopped.0 stopped.1)
done law ask disk run ready calm (inr (inr (inl failed))) = absurd (calm (inl (inr failed.1)))
done law ask disk run ready calm (inr (inr (inr seven))) = inr seven

pub migrates : SoundIsMigrated → (ask : MigrateAsk) (disk : DiskChange) (run : Effects) → MigrateLines ask disk run → OnlyLoads (IsName ask.file) run.shelf
    → Migrates ask disk run
migrates law ask disk run lines kept =
    let all = means ask disk run lines in record {
      lines = lines;
      kept = kept;
      statuses = statuses ask disk run all;
      means = all;
      done = λ ready calm. done law ask disk run ready calm all;
    }
