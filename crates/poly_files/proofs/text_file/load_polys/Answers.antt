use Rattle.std.proofs.Common.{sym, subst, ◌∙◌, ap}
use Rattle.sha2.specs.Sha256.{sha256}
use Rattle.sha2.proofs.Facts256.{length-sha256}
use Rattle.zk_model.proofs.Octets.{sha256_octets}
use Rattle.frame_link.proofs.LineLemmas.{fails_at}
use Rattle.zk_model.specs.Bytes.{AreBytes}
use Rattle.zk_port.specs.Changes.{change}
use Rattle.file_commands.specs.Stops.{IsLoaded}
use Rattle.poly_files.proofs.PolyCauses.{poly_of_load, poly_of_text}
use Rattle.poly_files.proofs.text_file.load_polys.Goals as goal

pub returns-clause-octets : goal.returns-clause-octets
returns-clause-octets g c = subst (AreBytes 32) (sym c.digest-digest.ensures) (length-sha256 _, sha256_octets _)

pub returns-in_err-text-clause-stop : goal.returns-in_err-text-clause-stop
returns-in_err-text-clause-stop g c =
    let shelf = change (g.F.Shelf.state c.args.shelf.now) (g.F.Shelf.state c.load_file.new.shelf) in
    let why = c.in_err-text.field-0.0 in
    fails_at _ c.from_residual.result why c.from_residual.ensures.1 (poly_of_load c.args.name.now shelf why c.in_err-text.ensures.stop)

pub returns-in_err-polys-clause-stop : goal.returns-in_err-polys-clause-stop
returns-in_err-polys-clause-stop g c =
    let shelf = change (g.F.Shelf.state c.args.shelf.now) (g.F.Shelf.state c.load_file.new.shelf) in
    let why = c.in_err-polys.field-0.0 in
    fails_at _ c.from_residual-in_err-polys.result why c.from_residual-in_err-polys.ensures.1
    (poly_of_text c.args.name.now shelf c.deref.result.now why
    (subst (IsLoaded shelf.old.told c.args.name.now) (sym c.deref.ensures.value) c.in_ok-text.ensures.loaded) c.in_err-polys.ensures.stop)
