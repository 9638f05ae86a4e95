use Rattle.run_laws.proofs.CommandRows.{table_is}
use Rattle.run_laws.proofs.command_table.table_is.Goals as goal

pub returns : goal.returns
returns c = table_is
