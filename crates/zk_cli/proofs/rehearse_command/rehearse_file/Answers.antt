use Rattle.std.proofs.Common.{ℕ, List, subst}
use Rattle.file_commands.specs.Stops.{CircuitStop}
use Rattle.frame_link.proofs.LineLemmas.{fails_at}
use Rattle.zk_port.specs.Changes.{change}
use Rattle.command_words.specs.Commands.{known_bits, rehearse_of}
use Rattle.zk_cli.proofs.RehearseOutcomes.{rehearse_of_circuit}
use Rattle.zk_cli.proofs.rehearse_command.rehearse_file.Goals as goal

pub returns-in_err-circuit-clause-stop : goal.returns-in_err-circuit-clause-stop
returns-in_err-circuit-clause-stop g c =
    let shelf = change (g.F.Shelf.state c.args.shelf.now) (g.F.Shelf.state c.load_circuit.new.shelf) in
    let ask = rehearse_of known_bits c.args.ask.now in
    fails_at _ c.from_residual.result c.in_err-circuit.field-0.0 c.from_residual.ensures.1
    (rehearse_of_circuit ask shelf c.in_err-circuit.field-0.0
    (subst (λ (name : List ℕ). CircuitStop name shelf c.in_err-circuit.field-0.0) c.deref.ensures c.in_err-circuit.ensures.stop))
