use Rattle.lease_core.proofs.Reached.{reached_is_consistent, answered_reached, answered_later}
use Rattle.lease_core.proofs.state.State.step.Goals as goal

pub returns-clause-safe : goal.returns-clause-safe
returns-clause-safe c r = let t = c.take.ensures in let now = answered_reached _ _ c.args.event _ t.taken t.refused r in (now, (reached_is_consistent _ now).1)

pub returns-clause-consistent : goal.returns-clause-consistent
returns-clause-consistent c r = let t = c.take.ensures in (reached_is_consistent _ (answered_reached _ _ c.args.event _ t.taken t.refused r)).0

pub returns-clause-stays_durable : goal.returns-clause-stays_durable
returns-clause-stays_durable c r = let t = c.take.ensures in answered_later _ _ c.args.event _ t.taken t.refused r
