use Rattle.std.proofs.Common.{rules}
use Rattle.zk_port.specs.Counts.{is_failed}
use Rattle.file_commands.proofs.Storing.{refused_store}
use Rattle.file_commands.proofs.deal_command.store_file.Goals as goal

pub returns-in-Err-Failed-clause-kept : goal.returns-in-Err-Failed-clause-kept
returns-in-Err-Failed-clause-kept g c =
    refused_store c.args.name.now c.deref.result.now c.args.file (is_failed c.store.result) (g.F.Shelf.state c.args.shelf.now)
    (g.F.Shelf.state c.store.new.self) (search rules) (search rules) c.store.ensures.names (search rules)

pub returns-clause-kept : goal.returns-clause-kept
returns-clause-kept g c =
    refused_store c.args.name.now c.deref.result.now c.args.file (is_failed c.store.result) (g.F.Shelf.state c.args.shelf.now)
    (g.F.Shelf.state c.store.new.self) (search rules) (search rules) c.store.ensures.names (search rules)
