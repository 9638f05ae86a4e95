use Rattle.std.proofs.Common.{ℕ, subst}
use Rattle.zk_port.specs.Changes.{change}
use Rattle.prove_command.specs.ProveRuns.{proved_line, proved_status}
use Rattle.file_commands.specs.Stops.{PrintsMade}
use Rattle.command_words.specs.Commands.{prove_poly_of}
use Rattle.prove_poly.proofs.PolyOutcomes.{proves_poly}
use Rattle.prove_poly.proofs.poly_prover.run_prove_poly.Goals as goal

pub returns-in-Ok : goal.returns-in-Ok
returns-in-Ok g c =
    let note = c.in-Ok.note in
    let sink = change (g.O.Sink.state c.args.out.now) (g.O.Sink.state c.say_proved-status.new.out) in
    record {
      proves = proves_poly g.D.Link.Link.state (prove_poly_of c.args.ask.now) _ _ _ _ (
        c.in-Ok.ensures.holds,
        subst (λ (count : ℕ). PrintsMade (proved_status note.outcome) (proved_line note.granted count note.outcome) c.say_proved-status.result sink)
            c.faults-count.ensures c.say_proved-status.ensures,
      ) c.in-Ok.ensures.kept;
    }

pub returns-in-Err : goal.returns-in-Err
returns-in-Err g c = record {
  proves = proves_poly g.D.Link.Link.state (prove_poly_of c.args.ask.now) _ _ _ _
      (record { stop = c.in-Err.refusal; cause = c.in-Err.ensures.stop; prints = c.say_stop-status.ensures }) c.in-Err.ensures.kept;
}
