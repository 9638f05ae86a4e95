use Rattle.lease_core.specs.Kept.{TookFirst}
use Rattle.lease_core.proofs.running.take_events.Given as goal

abbrev pub invariant-loop-event : goal.invariant-loop-event
invariant-loop-event l = TookFirst l.initial.state l.events l.event-index l.state
