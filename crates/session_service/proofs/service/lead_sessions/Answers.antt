use Rattle.std.proofs.Common.{string_bytes, rules, subst}
use Rattle.std.specs.Option.{option_map}
use Rattle.zk_port.specs.Changes.{change}
use Rattle.zk_port.specs.Shelves.{ShelfState}
use Rattle.session_verifier.specs.ServiceLogs.{TriesLogs}
use Rattle.session_service.proofs.service.lead_sessions.Goals as goal

pub returns-clause-tried : goal.returns-clause-tried
returns-clause-tried g c =
    subst (λ (shelf : ShelfState). TriesLogs (option_map string_bytes c.args.options.now.logs) (change (g.F.Shelf.state c.args.shelf.now) shelf)
    c.serve_watched-watched.result.faults.failed) {x = g.F.Shelf.state c.serve_watched-watched.result.shelf.now} (search rules)
    c.serve_watched-watched.ensures.tried
