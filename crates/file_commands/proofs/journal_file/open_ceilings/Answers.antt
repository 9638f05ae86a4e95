use Rattle.std.proofs.Common.{ℕ, List, sym, ap, ◌∙◌, subst}
use Rattle.zk_model.specs.declared.JournalKind.TheVariants.{Ceilings}
use Rattle.zk_port.specs.Counts.{Rose}
use Rattle.lease_store.specs.Ceilings.{CeilingStartCause, HasCeilingHeader}
use Rattle.lease_store.specs.declared.fault.StoreFault.TheVariants as store
use Rattle.file_commands.specs.Journals.{JournalStop, disk_change, journal_name, IsCeilingsFault}
use Rattle.file_commands.specs.declared.refusal.Refusal.{Refusal}
use Rattle.file_commands.proofs.Journals.{opens_then, stops_start}
use Rattle.file_commands.proofs.journal_file.open_ceilings.Goals as goal

pub start-requires-clause-tidy : goal.start-requires-clause-tidy
start-requires-clause-tidy g c = λ bytes known. c.requires.disk.tidy bytes (sym c.in_default.ensures.opens.stays.content ∙ known) Ceilings _ _

pub returns-in-Ok-clause-opens : goal.returns-in-Ok-clause-opens
returns-in-Ok-clause-opens g c =
    let opens = c.in_default.ensures.opens in
    opens_then (journal_name c.args.name.now, c.args.access) (g.met.B.Disk.counts_now c.args.journal) opens.chosen opens.stays opens.still
    c.in-Ok.ensures.stays c.in-Ok.ensures.faults

pub returns-in-Ok-clause-header : goal.returns-in-Ok-clause-header
returns-in-Ok-clause-header g c = λ bytes known.
    subst (λ (id : List ℕ). HasCeilingHeader id c.in-Ok.opened.0.total bytes) c.id.ensures.id
    (c.in-Ok.ensures.header bytes known)

pub returns-in-Err-Journal-default-clause-stop : goal.returns-in-Err-Journal-default-clause-stop
returns-in-Err-Journal-default-clause-stop g c =
    let disk = disk_change (g.B.Disk.state c.args.journal) (g.B.Disk.state c.in-Err-Journal-default.disk) in
    let fault = c.in-Err-Journal-default.fault in
    let Cause = IsCeilingsFault c.args.file.now.id c.args.file.now.params.total disk.old in
    let still = c.in_default.ensures.opens.still in
    let is = c.in-Err-Journal-default.field-0-0-is in
    subst (λ (why : Refusal). JournalStop Cause disk why) (sym c.start_stop.ensures)
    (stops_start Cause disk fault c.faults-count.result c.faults-count.ensures
    (λ bytes known. subst (λ (n : List ℕ × ℕ). CeilingStartCause n.0 n.1 bytes fault) (λ i. (c.id.ensures.id i, c.total.ensures.total i))
    (c.in-Err-Journal-default.ensures.cause bytes (c.in_default.ensures.opens.stays.content ∙ known) fault is))
    (λ device. subst (λ (n : ℕ). Rose n disk.new.faults) still (c.in-Err-Journal-default.ensures.device (is ∙ ap store.Journal device))))

pub returns-in-Ok-clause-since : goal.returns-in-Ok-clause-since
returns-in-Ok-clause-since g c = g.met.B.Disk.only_now c.args.journal
