-- What is sent, and what a message is to the one to whom it comes.
use Rattle.std.specs.Prelude.{ℕ, ◌+◌, ◌-◌, ◌*◌, ◌/◌, ◌^◌, min, Option, Some, None, List, slice_get, option_and_then}
use Rattle.lease_core.specs.Spans.{span}
use Rattle.zk_model.specs.declared.Span.{Span}
use Rattle.zk_model.specs.declared.messages.Block.{Block}
use Rattle.broker_core.specs.declared.message.Message.{Message}
use Rattle.broker_core.specs.declared.message.Message.TheVariants as message
use Rattle.zk_model.specs.declared.messages.Out.{Out}
use Rattle.zk_model.specs.declared.messages.Want.{Want}

-- what is there, or another value where nothing is
abbrev pub given : {A B : Type 0} → Option A → B → (A → B) → B
given None none some = none
given (Some x) none some = some x

-- the units of a Block
abbrev pub units_of : Block → Span
units_of b = span b.start (b.start + b.count)

-- the Block of a span; its count is a number of 32 bits
abbrev pub block_of : ℕ → ℕ → Span → Block
block_of node number s = record { node = node; number = number; start = s.start; count = min (s.end - s.start) (2 ^ 32 - 1) }

-- as many units as a lease has: the next multiple of 16
abbrev pub rounded : ℕ → ℕ
rounded count = (count + 15) / 16 * 16

-- it is a Want, a Block, or an Out
abbrev pub as_want : Message → Option Want
as_want (message.Want w) = Some w
as_want (message.Block b) = None
as_want (message.Out o) = None

abbrev pub as_block : Message → Option Block
as_block (message.Want w) = None
as_block (message.Block b) = Some b
as_block (message.Out o) = None

abbrev pub as_out : Message → Option Out
as_out (message.Want w) = None
as_out (message.Block b) = None
as_out (message.Out o) = Some o

-- the message at a place of all that were sent, where it is one of these
abbrev pub want_at : List Message → ℕ → Option Want
want_at sent i = option_and_then as_want (slice_get sent i)

abbrev pub block_at : List Message → ℕ → Option Block
block_at sent i = option_and_then as_block (slice_get sent i)

abbrev pub out_at : List Message → ℕ → Option Out
out_at sent i = option_and_then as_out (slice_get sent i)
