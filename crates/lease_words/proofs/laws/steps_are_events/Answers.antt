use Rattle.lease_words.proofs.Mirror.{start_is_event, draw_is_event, look_is_event, raise_is_event}
use Rattle.lease_words.proofs.laws.steps_are_events.Goals as goal

pub returns : goal.returns
returns c = record { start = start_is_event; draw = draw_is_event; look = look_is_event; raise = raise_is_event }
