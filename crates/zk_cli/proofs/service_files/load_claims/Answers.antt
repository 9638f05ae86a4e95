use Rattle.std.proofs.Common.{arith}
use Rattle.zk_port.specs.Changes.{change}
use Rattle.frame_link.proofs.LineLemmas.{fails_at}
use Rattle.file_commands.specs.declared.refusal.Refusal.TheVariants.{NoMemory}
use Rattle.zk_cli.proofs.Loading.{lacks_at, loads_at, memory_lacks, one_loaded}
use Rattle.zk_cli.proofs.service_files.load_claims.Goals as goal

pub returns-in_err-claim-clause-stop : goal.returns-in_err-claim-clause-stop
returns-in_err-claim-clause-stop g c =
    fails_at _ c.from_residual.result c.in_err-claim.field-0.0 c.from_residual.ensures.1
    (lacks_at (g.F.Shelf.state c.args.shelf.now) (g.F.Shelf.state c.loop-name.shelf) (g.F.Shelf.state c.load_claim.new.shelf) c.args.named.now
    c.loop-name.name-index c.loop-name.claims.items c.name-item.result c.in_err-claim.field-0.0 c.loop-name.invariant (omega arith) c.name-item.is
    c.in_err-claim.ensures.stop)

pub returns-in_err-claim-clause-kept : goal.returns-in_err-claim-clause-kept
returns-in_err-claim-clause-kept g c =
    loads_at (g.F.Shelf.state c.args.shelf.now) (g.F.Shelf.state c.loop-name.shelf) (g.F.Shelf.state c.load_claim.new.shelf) c.args.named.now
    c.loop-name.name-index c.loop-name.claims.items c.name-item.result c.loop-name.invariant (omega arith) c.name-item.is c.load_claim.ensures.kept

pub returns-in-Err-clause-stop : goal.returns-in-Err-clause-stop
returns-in-Err-clause-stop g c =
    lacks_at (g.F.Shelf.state c.args.shelf.now) (g.F.Shelf.state c.loop-name.shelf) (g.F.Shelf.state c.load_claim.new.shelf) c.args.named.now
    c.loop-name.name-index c.loop-name.claims.items c.name-item.result NoMemory c.loop-name.invariant (omega arith) c.name-item.is
    (memory_lacks c.name-item.result (change (g.F.Shelf.state c.loop-name.shelf) (g.F.Shelf.state c.load_claim.new.shelf)))

pub returns-in-Err-clause-kept : goal.returns-in-Err-clause-kept
returns-in-Err-clause-kept g c =
    loads_at (g.F.Shelf.state c.args.shelf.now) (g.F.Shelf.state c.loop-name.shelf) (g.F.Shelf.state c.load_claim.new.shelf) c.args.named.now
    c.loop-name.name-index c.loop-name.claims.items c.name-item.result c.loop-name.invariant (omega arith) c.name-item.is c.load_claim.ensures.kept

pub loop-name-preserved : goal.loop-name-preserved
loop-name-preserved g c =
    one_loaded (g.F.Shelf.state c.args.shelf.now) (g.F.Shelf.state c.loop-name.shelf) (g.F.Shelf.state c.load_claim.new.shelf) c.args.named.now
    c.loop-name.name-index c.loop-name.claims.items c.push.new.self.items c.name-item.result c.in_ok-claim.claim c.loop-name.invariant (omega arith)
    c.name-item.is c.in_ok-claim.ensures.claim c.in_ok-claim.ensures.quiet c.in-Ok.ensures.items
