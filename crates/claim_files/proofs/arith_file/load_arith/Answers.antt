use Rattle.frame_link.proofs.LineLemmas.{fails_at}
use Rattle.zk_port.specs.Changes.{change}
use Rattle.claim_files.proofs.ArithCauses.{arith_of_load}
use Rattle.claim_files.proofs.arith_file.load_arith.Goals as goal

pub returns-in_err-text-clause-stop : goal.returns-in_err-text-clause-stop
returns-in_err-text-clause-stop g c =
    let shelf = change (g.F.Shelf.state c.args.shelf.now) (g.F.Shelf.state c.load_file.new.shelf) in
    fails_at _ c.from_residual.result c.in_err-text.field-0.0 c.from_residual.ensures.1
    (arith_of_load c.args.name.now shelf c.in_err-text.field-0.0 c.in_err-text.ensures.stop)
