use Rattle.rehearse_poly.proofs.PolyOutcomes.{rehearses_made, rehearses_poly}
use Rattle.rehearse_poly.proofs.command.run_rehearse_poly.Goals as goal

pub returns-in-Ok : goal.returns-in-Ok
returns-in-Ok g c = record {
  rehearses = rehearses_made c.texts_are_exact.ensures c.elements_are_exact.ensures _ c.args.seed.now c.in-Ok.made _
      c.in-Ok.ensures.rehearsed c.say_rehearsal.ensures c.in-Ok.ensures.kept;
}

pub returns-in-Err : goal.returns-in-Err
returns-in-Err g c = record {
  rehearses = rehearses_poly c.texts_are_exact.ensures c.elements_are_exact.ensures _ c.args.seed.now _ _
      (record { stop = c.in-Err.stop; cause = c.in-Err.ensures.stop; prints = c.say_stop.ensures }) c.in-Err.ensures.kept;
}
