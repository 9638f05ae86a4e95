use Rattle.lease_words.proofs.Storing.{body_is_event, body_sync_is_event, gate_is_event, gate_sync_is_event, put_stays, put_ends}
use Rattle.lease_words.proofs.laws.puts_are_events.Goals as goal

pub returns : goal.returns
returns c = record { body = body_is_event; body_sync = body_sync_is_event; gate = gate_is_event; gate_sync = gate_sync_is_event; stays = put_stays; ends = put_ends }
