use Rattle.std.specs.Prelude.{◌≢◌}
use Rattle.file_commands.specs.declared.refusal.Refusal.TheVariants.{JournalFailed}
use Rattle.std.proofs.Common.{ℕ, Err, sym, ap, ◌∙◌, subst}
use Rattle.zk_model.specs.declared.JournalKind.{JournalKind}
use Rattle.zk_port.specs.Counts.{Rose}
use Rattle.claim_store.specs.declared.fault.StoreFault.{StoreFault}
use Rattle.claim_store.specs.declared.fault.StoreFault.TheVariants as store
use Rattle.journal_migration.specs.Migrating.{MigrationCause}
use Rattle.file_commands.specs.Journals.{JournalStop, disk_change, own_journal}
use Rattle.file_commands.specs.MigrateRuns.{IsMigrationFault, MigratesJournal, MovesJournal, journal_kind}
use Rattle.file_commands.specs.declared.refusal.Refusal.{Refusal}
use Rattle.file_commands.proofs.Journals.{stops_start}
use Rattle.file_commands.proofs.Migrating.{journal_fault, migrates_journal, moves_journal, no_journal, not_device, stays_chosen}
use Rattle.file_commands.proofs.migrate_command.migrate_journal.Goals as goal

pub returns-in-Ok-clause-migrates : goal.returns-in-Ok-clause-migrates
returns-in-Ok-clause-migrates g c =
    let disk = disk_change (g.B.Disk.state c.args.journal.now) (g.B.Disk.state c.migrate.new.disk) in
    subst (λ (kind : JournalKind). MigratesJournal (own_journal c.args.name.now) kind c.args.dealt disk c.in-Ok.moved) c.journal_kind-kind.ensures
    (migrates_journal (own_journal c.args.name.now) c.journal_kind-kind.result c.args.dealt _ _ _ (g.met.B.Disk.counts_now c.args.journal.now)
    (g.met.B.Disk.only_now c.args.journal.now) c.in_default.ensures.opens c.migrate.ensures.chosen c.migrate.ensures.moves c.in-Ok.moved
    c.in-Ok.ensures.says c.in-Ok.ensures.durable c.in-Ok.ensures.faults.done)

pub returns-in-Err-NoMemory-clause-stop : goal.returns-in-Err-NoMemory-clause-stop
returns-in-Err-NoMemory-clause-stop g c =
    let disk = disk_change (g.B.Disk.state c.args.journal.now) (g.B.Disk.state c.migrate.new.disk) in
    record {
      moves = subst (λ (kind : JournalKind). MovesJournal (own_journal c.args.name.now) kind c.args.dealt disk) c.journal_kind-kind.ensures
          (moves_journal (own_journal c.args.name.now) c.journal_kind-kind.result c.args.dealt _ _ _ (g.met.B.Disk.counts_now c.args.journal.now)
          (g.met.B.Disk.only_now c.args.journal.now) c.in_default.ensures.opens c.migrate.ensures.chosen c.migrate.ensures.moves
          c.migrate.ensures.faults.later);
      refused = λ other. stays_chosen (g.B.Disk.state c.args.journal.now) _ _ (g.met.B.Disk.counts_now c.args.journal.now) c.in_default.ensures.opens.stays
          c.migrate.ensures.chosen (c.in-Err-NoMemory.ensures.refused (λ is. no_journal (sym c.in-Err-NoMemory.field-0-is ∙ is)));
      cause = tt;
    }

pub returns-in-Err-Journal-clause-stop : goal.returns-in-Err-Journal-clause-stop
returns-in-Err-Journal-clause-stop g c =
    let disk = disk_change (g.B.Disk.state c.args.journal.now) (g.B.Disk.state c.migrate.new.disk) in
    let fault = c.in-Err-Journal.fault in
    let opens = c.in_default.ensures.opens in
    let Cause = IsMigrationFault (journal_kind c.args.side) c.args.dealt disk.old in
    record {
      moves = subst (λ (kind : JournalKind). MovesJournal (own_journal c.args.name.now) kind c.args.dealt disk) c.journal_kind-kind.ensures
          (moves_journal (own_journal c.args.name.now) c.journal_kind-kind.result c.args.dealt _ _ _ (g.met.B.Disk.counts_now c.args.journal.now)
          (g.met.B.Disk.only_now c.args.journal.now) opens c.migrate.ensures.chosen c.migrate.ensures.moves c.migrate.ensures.faults.later);
      refused = λ other. stays_chosen (g.B.Disk.state c.args.journal.now) _ _ (g.met.B.Disk.counts_now c.args.journal.now) opens.stays
          c.migrate.ensures.chosen (c.in-Err-Journal.ensures.refused (λ is.
          not_device fault c.faults-count.result (λ count. subst (λ (why : Refusal). why ≢ JournalFailed count) c.start_stop.ensures (other count))
          (journal_fault fault (sym c.in-Err-Journal.field-0-is ∙ is))));
      cause = subst (λ (why : Refusal). JournalStop Cause disk why) (sym c.start_stop.ensures)
          (stops_start Cause disk fault c.faults-count.result c.faults-count.ensures
          (λ bytes known. subst (λ (n : JournalKind × StoreFault). MigrationCause n.0 c.args.dealt.id c.args.dealt.total bytes n.1)
          (λ i. (c.journal_kind-kind.ensures i, c.in-Err-Journal.field-0-is i))
          (c.in-Err-Journal.ensures.cause bytes (opens.stays.content ∙ known)))
          (λ device. subst (λ (n : ℕ). Rose n disk.new.faults) opens.still
          (c.in-Err-Journal.ensures.faults.device (ap (λ (e : StoreFault). Err e) (c.in-Err-Journal.field-0-is ∙ ap store.Journal device)))));
    }
