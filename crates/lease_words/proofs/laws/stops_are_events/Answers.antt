use Rattle.lease_words.proofs.Storing.{crash_is_event}
use Rattle.lease_words.proofs.laws.stops_are_events.Goals as goal

pub returns : goal.returns
returns c = crash_is_event
