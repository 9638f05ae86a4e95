use Rattle.lease_words.proofs.Storing.{draw_is_unspent, stays_unspent, spend_is_event}
use Rattle.lease_words.proofs.laws.grants_are_events.Goals as goal

pub returns : goal.returns
returns c = record { drawn = draw_is_unspent; stays = stays_unspent; spend = spend_is_event }
