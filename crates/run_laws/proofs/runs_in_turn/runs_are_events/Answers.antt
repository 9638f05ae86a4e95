use Rattle.run_laws.proofs.MachineRuns.{runs_are_events}
use Rattle.run_laws.proofs.runs_in_turn.runs_are_events.Goals as goal

pub returns : goal.returns
returns g c = runs_are_events g.row.L.Denot g.B.Disk.state g.met.B.Disk.counts_now g.met.B.Disk.only_now
