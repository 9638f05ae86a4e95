use Rattle.lease_words.proofs.Unmoved.{mark_is_no_event, marked_is_no_event, join_is_no_event}
use Rattle.lease_words.proofs.laws.other_steps_are_no_events.Goals as goal

pub returns : goal.returns
returns c = record { mark = mark_is_no_event; marked = marked_is_no_event; join = join_is_no_event }
