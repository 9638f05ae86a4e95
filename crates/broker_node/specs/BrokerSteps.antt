-- What the broker does with a Want, by what its lease answered.
use Rattle.std.specs.Prelude.{◌≡◌, ◌+◌, List, Option, Result, Ok, Err, MatchOption}
use Rattle.zk_model.specs.declared.Span.{Span}
use Rattle.lease_words.specs.declared.pass.Pass.{Pass}
use Rattle.zk_port.specs.Disks.{DiskState}
use Rattle.lease_store.specs.Leases.{Leased}
use Rattle.lease_store.specs.Stops.{WasStored}
use Rattle.lease_store.specs.declared.LeaseFault.{LeaseFault}
use Rattle.lease_store.specs.declared.LeaseFault.TheVariants as lease
use Rattle.broker_core.specs.Leases.{kept_after, kept_of, repeated}
use Rattle.broker_core.specs.Messages.{block_of, rounded}
use Rattle.broker_core.specs.declared.message.Kept.{Kept}
use Rattle.broker_core.specs.declared.message.LeaseEnd.TheVariants as end
use Rattle.zk_model.specs.declared.messages.Want.{Want}
use Rattle.broker_node.specs.declared.broker.Reply.{Reply}
use Rattle.broker_node.specs.declared.broker.Reply.TheVariants as reply

-- the reply to a Want whose lease answered so: an Out exactly where it was exhausted
abbrev pub reply_of : Want → Result Span LeaseFault → Result Reply LeaseFault
reply_of want (Ok s) = Ok (reply.Block (block_of want.node want.number s))
reply_of want (Err (lease.Exhausted at count total)) =
    Ok (reply.Out (record { node = want.node; number = want.number; at = at }))
reply_of want (Err lease.Device) = Err lease.Device
reply_of want (Err (lease.Broken first)) = Err (lease.Broken first)

-- the units of a Block end at or below a ceiling that was stored
abbrev pub IsStoredReply : {D : Type 0} → (D → DiskState) → Reply → Type 0
IsStoredReply state (reply.Block b) = WasStored state (b.start + b.count)
IsStoredReply state (reply.Out o) = Unit {0}

-- and what the broker then keeps
abbrev pub kept_with : List (Option Kept) → Want → Result Span LeaseFault → List (Option Kept)
kept_with kept want (Ok s) = kept_after kept want (end.Leased s)
kept_with kept want (Err fault) = kept

-- units were leased anew: one entry of the pass, of the rounded count
pub record IsLeasedFor (kept : List (Option Kept)) (p : Pass) (want : Want) (result : Result Reply LeaseFault) (now : List (Option Kept)) (q : Pass) : Type 0 where
  pub answer : Result Span LeaseFault
  pub leased : Leased p (rounded want.count) answer q
  pub replied : result ≡ reply_of want answer
  pub keeps : now ≡ kept_with kept want answer

-- a Want that comes again gets the same Block, and nothing changes; else units are leased anew
abbrev pub IsBrokerStep : List (Option Kept) → Pass → Want → Result Reply LeaseFault → List (Option Kept) → Pass → Type 0
IsBrokerStep kept p want result now q = MatchOption (repeated (kept_of kept want.node) want.number)
    (IsLeasedFor kept p want result now q)
    (λ s. (result ≡ Ok (reply.Block (block_of want.node want.number s))) × (now ≡ kept) × (q ≡ p))
