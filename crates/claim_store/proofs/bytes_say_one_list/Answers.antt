use Rattle.claim_store.proofs.Slots.{bytes_say_one_list}
use Rattle.claim_store.proofs.bytes_say_one_list.Goals as goal

pub returns : goal.returns
returns c = bytes_say_one_list
