use Rattle.frame_link.proofs.LineLemmas.{fails_at}
use Rattle.zk_model.specs.declared.Side.TheVariants.{Verifier}
use Rattle.zk_port.specs.Changes.{change}
use Rattle.file_commands.specs.declared.refusal.Refusal.TheVariants.{BadFile}
use Rattle.file_commands.proofs.Causes.{file_of_bytes, file_of_load}
use Rattle.file_commands.proofs.dealt_file.load_verifier.Goals as goal

pub returns-in_err-bytes-clause-stop : goal.returns-in_err-bytes-clause-stop
returns-in_err-bytes-clause-stop g c = fails_at _ c.from_residual.result c.in_err-bytes.field-0.0 c.from_residual.ensures.1 (file_of_load Verifier c.args.name.now (change (g.F.Shelf.state c.args.shelf.now) (g.F.Shelf.state c.load_file.new.shelf)) c.in_err-bytes.field-0.0 c.in_err-bytes.ensures.stop)

pub returns-in_err-file-clause-stop : goal.returns-in_err-file-clause-stop
returns-in_err-file-clause-stop g c = fails_at _ c.from_residual-in_err-file.result (BadFile c.in_err-file.field-0.0) c.from_residual-in_err-file.ensures.1 (file_of_bytes Verifier c.args.name.now (change (g.F.Shelf.state c.args.shelf.now) (g.F.Shelf.state c.load_file.new.shelf)) _ _ c.in_err-file.field-0.0 c.in_ok-bytes.ensures.loaded c.deref.ensures.value c.in_err-file.ensures.fault)
