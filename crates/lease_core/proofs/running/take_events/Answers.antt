use Rattle.lease_core.proofs.Runs.{took_more}
use Rattle.lease_core.proofs.running.take_events.Goals as goal

pub loop-event-preserved : goal.loop-event-preserved
loop-event-preserved c =
    took_more _ _ _ _ _ _ _ c.loop-event.invariant c.loop-event-test.true c.if-not-branch.false c.in_ok-step.ensures.taken
