use Rattle.zk_cli.proofs.Loading.{HasLoaded}
use Rattle.zk_cli.proofs.service_files.load_claims.Given as goal

abbrev pub invariant-loop-name : goal.invariant-loop-name
invariant-loop-name g l = HasLoaded (g.F.Shelf.state l.initial.shelf) (g.F.Shelf.state l.shelf) l.named l.name-index l.claims.items
