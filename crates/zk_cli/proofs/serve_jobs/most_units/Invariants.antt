use Rattle.std.proofs.Common.{◌<◌}
use Rattle.zk_cli.proofs.serve_jobs.most_units.Given as goal

-- at least one
abbrev pub invariant-loop-n : goal.invariant-loop-n
invariant-loop-n l = 0 < l.most
