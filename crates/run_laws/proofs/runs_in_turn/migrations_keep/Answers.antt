use Rattle.run_laws.proofs.MigrationsInTurn.{migrations_keep}
use Rattle.run_laws.proofs.runs_in_turn.migrations_keep.Goals as goal

pub returns : goal.returns
returns g c = migrations_keep g.B.Disk.state
