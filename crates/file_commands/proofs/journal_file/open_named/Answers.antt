use Rattle.std.proofs.Common.{ℕ, sym, ap, ◌∙◌, subst}
use Rattle.zk_model.specs.declared.JournalKind.TheVariants.{Claims}
use Rattle.zk_port.specs.Counts.{Rose}
use Rattle.claim_store.specs.Causes.{StoreCause}
use Rattle.claim_store.specs.declared.fault.StoreFault.{StoreFault}
use Rattle.claim_store.specs.declared.fault.StoreFault.TheVariants as store
use Rattle.file_commands.specs.Journals.{JournalStop, disk_change, IsClaimsFault}
use Rattle.file_commands.specs.declared.refusal.Refusal.{Refusal}
use Rattle.file_commands.proofs.Journals.{stops_start}
use Rattle.file_commands.proofs.journal_file.open_named.Goals as goal

pub start-requires-clause-tidy : goal.start-requires-clause-tidy
start-requires-clause-tidy g c = λ bytes known. c.requires.disk.tidy bytes (sym c.in_default.ensures.opens.stays.content ∙ known) Claims _ _

pub returns-in-Err-Journal-default-clause-stop : goal.returns-in-Err-Journal-default-clause-stop
returns-in-Err-Journal-default-clause-stop g c =
    let disk = disk_change (g.B.Disk.state c.args.journal) (g.B.Disk.state c.in-Err-Journal-default.disk) in
    let fault = c.in-Err-Journal-default.fault in
    let Cause = IsClaimsFault c.args.id.now c.args.total disk.old in
    let still = c.in_default.ensures.opens.still in
    subst (λ (why : Refusal). JournalStop Cause disk why) (sym c.start_stop.ensures)
    (stops_start Cause disk fault c.faults-count.result c.faults-count.ensures
    (λ bytes known. subst (λ (e : StoreFault). StoreCause c.args.id.now c.args.total bytes e)
    c.in-Err-Journal-default.field-0-0-is
    (c.in-Err-Journal-default.ensures.cause bytes (c.in_default.ensures.opens.stays.content ∙ known)))
    (λ device. subst (λ (n : ℕ). Rose n disk.new.faults) still (c.in-Err-Journal-default.ensures.device (c.in-Err-Journal-default.field-0-0-is ∙ ap store.Journal device))))
