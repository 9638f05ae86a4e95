use Rattle.frame_link.proofs.LineLemmas.{fails_at}
use Rattle.zk_port.specs.Changes.{change}
use Rattle.command_words.specs.Words.{eval_ask}
use Rattle.file_commands.proofs.EvalOutcomes.{eval_of_circuit}
use Rattle.file_commands.proofs.eval_command.eval_file.Goals as goal

pub returns-in_err-circuit-clause-stop : goal.returns-in_err-circuit-clause-stop
returns-in_err-circuit-clause-stop g c =
    let shelf = change (g.F.Shelf.state c.args.shelf.now) (g.F.Shelf.state c.load_circuit.new.shelf) in
    fails_at _ c.from_residual.result c.in_err-circuit.field-0.0 c.from_residual.ensures.1
    (eval_of_circuit (eval_ask c.args.name.now c.args.bits.now) shelf c.in_err-circuit.field-0.0 c.in_err-circuit.ensures.stop)
