use Rattle.std.proofs.Common.{arith, refl, []}
use Rattle.lease_core.proofs.state.State.new.Goals as goal

pub returns-clause-reached : goal.returns-clause-reached
returns-clause-reached c = (c.args.total, c.args.passes, [], refl, grind arith)
