use Rattle.lease_core.proofs.Reached.{reached_is_consistent}
use Rattle.lease_core.proofs.Runs.{reached, later}
use Rattle.lease_core.proofs.running.run.Goals as goal

pub returns-clause-safe : goal.returns-clause-safe
returns-clause-safe c r = let t = c.take_events.ensures.taken in let now = reached _ _ _ _ t.1 r in (now, (reached_is_consistent _ now).1)

pub returns-clause-consistent : goal.returns-clause-consistent
returns-clause-consistent c r = let t = c.take_events.ensures.taken in (reached_is_consistent _ (reached _ _ _ _ t.1 r)).0

pub returns-clause-stays_durable : goal.returns-clause-stays_durable
returns-clause-stays_durable c r = let t = c.take_events.ensures.taken in later _ _ _ _ t.1 r
