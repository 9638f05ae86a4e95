use Rattle.run_laws.proofs.AcceptedLogs.{of_accepted_log}
use Rattle.run_laws.proofs.accepted_logs.headline_is_of_accepted_log.Goals as goal

pub returns : goal.returns
returns c = of_accepted_log c.no_error_solves.ensures
