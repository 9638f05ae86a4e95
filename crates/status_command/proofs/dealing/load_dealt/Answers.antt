use Rattle.frame_link.proofs.LineLemmas.{fails_at}
use Rattle.zk_port.specs.Changes.{change}
use Rattle.file_commands.specs.declared.refusal.Refusal.TheVariants.{BadFile}
use Rattle.status_command.proofs.Reporting.{dealt_of_bytes}
use Rattle.status_command.proofs.dealing.load_dealt.Goals as goal

pub returns-in_err-file-clause-stop : goal.returns-in_err-file-clause-stop
returns-in_err-file-clause-stop g c =
    let shelf = change (g.F.Shelf.state c.args.shelf.now) (g.F.Shelf.state c.load_file.new.shelf) in
    fails_at _ c.from_residual-in_err-file.result (BadFile c.in_err-file.field-0.0) c.from_residual-in_err-file.ensures.1
    (dealt_of_bytes c.args.name.now c.args.node shelf c.in_ok-bytes.bytes.items c.deref.result.now c.in_err-file.field-0.0 c.in_ok-bytes.ensures.loaded
    c.deref.ensures.value c.in_err-file.ensures.fault)
