-- What a broker does, deed by deed, and what its journal keeps meanwhile.
use Rattle.std.specs.Prelude.{◌≡◌, ℕ, ◌+◌, ◌≤◌, Bool, true, cond, List, [], ◌∷◌, Option, None, Some, IsSomeAnd, Result, Ok, Err, flat_map, nat_lt, replicate}
use Rattle.zk_model.specs.declared.messages.Want.{Want}
use Rattle.zk_port.specs.Disks.{DiskState}
use Rattle.atomic_table.specs.Seated.{TableId}
use Rattle.lease_core.specs.Machine.{ceiling_for}
use Rattle.lease_words.specs.Calls.{IsFreshPass, entries_of, greatest_end}
use Rattle.lease_words.specs.declared.pass.Pass.{Pass}
use Rattle.lease_store.specs.declared.LeaseFault.{LeaseFault}
use Rattle.lease_store.specs.declared.LeaseFault.TheVariants.{Exhausted, Device, Broken}
use Rattle.broker_core.specs.Leases.{kept_of, repeated}
use Rattle.broker_core.specs.Messages.{rounded}
use Rattle.broker_core.specs.declared.message.Message.{Message}
use Rattle.broker_core.specs.declared.message.Message.TheVariants as message
use Rattle.broker_links.specs.declared.reply.Reply.{Reply}
use Rattle.broker_links.specs.declared.reply.Reply.TheVariants as reply
use Rattle.broker_node.specs.Steps.{DrawsInTurn}
use Rattle.broker_service.specs.Turns.{IsReplyStep, Keeping, keeping}

-- a broker that runs: where the units of its era begin, and what it keeps in memory, its one pass with it
pub record BrokerRun : Type 0 where
  pub base : ℕ
  pub keeps : Keeping

-- by these
abbrev pub broker_run : ℕ → Keeping → BrokerRun
broker_run base keeps = record { base = base; keeps = keeps }

-- A broker, whether it runs or not: the ceiling that its journal keeps, and the run, if there is one. What the journal keeps is what the
-- next start reads.
pub record BrokerParty : Type 0 where
  pub ceiling : ℕ
  pub run : Option BrokerRun

-- by these
abbrev pub broker_party : ℕ → Option BrokerRun → BrokerParty
broker_party ceiling run = record { ceiling = ceiling; run = run }

-- What a broker does: it starts over its journal with this pass, whatever it did before; a Want comes, it answers so and then keeps this (where
-- its disk failed, the journal keeps a ceiling for the units or not); or it stops within the lease for a Want that came, for which its
-- journal keeps a ceiling or not.
pub data BrokerDeed : Type 0 where
  starts : Pass → BrokerDeed
  replies : Want → Result Reply LeaseFault → Bool → Keeping → BrokerDeed
  stops : Want → Bool → BrokerDeed

-- ---- what a deed says

-- the ceiling that the journal keeps once units are granted that end here: the same, or where they end above it, the one that is stored for them
abbrev pub raised : ℕ → ℕ → ℕ → ℕ
raised total ceiling end = cond (nat_lt ceiling end) (ceiling_for total end) ceiling

-- and what it keeps once a Want was answered so, for which the units that were drawn, if any were, end here
abbrev pub ceiling_after : ℕ → ℕ → ℕ → Bool → Result Reply LeaseFault → ℕ
ceiling_after total ceiling end stored (Ok (reply.Block b)) = raised total ceiling (b.start + b.count)
ceiling_after total ceiling end stored (Ok (reply.Out o)) = ceiling
ceiling_after total ceiling end stored (Err Device) = cond stored (raised total ceiling end) ceiling
ceiling_after total ceiling end stored (Err (Broken first)) = ceiling
ceiling_after total ceiling end stored (Err (Exhausted at count whole)) = ceiling

-- where all that this pass drew in this era ends
abbrev pub drawn_end : ℕ → Keeping → ℕ
drawn_end base keeps = greatest_end base (entries_of keeps.pass)

-- The broker starts on the ceiling that its journal keeps, by a pass that is new, and keeps nothing of any of so many nodes.
pub record StartsAnew (total nodes : ℕ) (pass : Pass) (old new : BrokerParty) : Type 0 where
  pub table : TableId
  pub number : ℕ
  pub fresh : IsFreshPass table old.ceiling total number pass
  pub becomes : new ≡ broker_party old.ceiling (Some (broker_run old.ceiling (keeping (replicate nodes None) pass)))

-- A Want is answered by the broker's step, whose pass draws in turn, as no other draws.
pub record RepliesTo {C : Type 0} (state : C → DiskState) (total : ℕ) (want : Want) (answer : Result Reply LeaseFault) (stored : Bool) (now : Keeping)
    (run : BrokerRun) (old new : BrokerParty) : Type 0 where
  pub step : IsReplyStep state want answer run.keeps now
  pub turn : DrawsInTurn run.base run.keeps.pass now.pass
  pub becomes : new ≡ broker_party (ceiling_after total old.ceiling (drawn_end run.base now) stored answer) (Some (broker_run run.base now))

-- A lease for the Want may store a ceiling: the Want is not one that comes again, and the units are within the total.
pub record MayStore (total : ℕ) (want : Want) (run : BrokerRun) : Type 0 where
  pub anew : repeated (kept_of run.keeps.kept want.node) want.number ≡ None
  pub free : run.keeps.pass.kept ≡ None
  pub within : drawn_end run.base run.keeps + rounded want.count ≤ total

-- The broker stops within the lease for a Want.
pub record StopsWithin (total : ℕ) (want : Want) (stored : Bool) (run : BrokerRun) (old new : BrokerParty) : Type 0 where
  pub may : stored ≡ true → MayStore total want run
  pub becomes : new ≡ broker_party (cond stored (raised total old.ceiling (drawn_end run.base run.keeps + rounded want.count)) old.ceiling) None

-- what a deed does to the broker of so many nodes, over a file of so many units
abbrev pub IsBrokerDeed : {C : Type 0} → (C → DiskState) → ℕ → ℕ → BrokerDeed → BrokerParty → BrokerParty → Type 0
IsBrokerDeed state total nodes (starts pass) old new = StartsAnew total nodes pass old new
IsBrokerDeed state total nodes (replies want answer stored now) old new =
    IsSomeAnd old.run (λ run. RepliesTo state total want answer stored now run old new)
IsBrokerDeed state total nodes (stops want stored) old new =
    IsSomeAnd old.run (λ run. StopsWithin total want stored run old new)

-- deeds one after another
abbrev pub AreBrokerDeeds : {C : Type 0} → (C → DiskState) → ℕ → ℕ → List BrokerDeed → BrokerParty → BrokerParty → Type 0
AreBrokerDeeds state total nodes [] old new = new ≡ old
AreBrokerDeeds state total nodes (d ∷ deeds) old new =
    (mid : BrokerParty) × IsBrokerDeed state total nodes d old mid × AreBrokerDeeds state total nodes deeds mid new

-- a deed within a run; where the disk failed in its lease, the journal keeps a ceiling for the units, or not
abbrev pub IsWithinService : Bool → BrokerDeed → Type 0
IsWithinService stored (starts pass) = ⊥
IsWithinService stored (replies want answer keeps now) = keeps ≡ stored
IsWithinService stored (stops want keeps) = ⊥

-- ---- what came, and what is sent

-- the Want that came
abbrev pub wanted_in : BrokerDeed → List Want
wanted_in (starts pass) = []
wanted_in (replies want answer stored now) = want ∷ []
wanted_in (stops want stored) = want ∷ []

-- the message of an answer; none where the lease was refused
abbrev pub message_of : Result Reply LeaseFault → List Message
message_of (Ok (reply.Block b)) = message.Block b ∷ []
message_of (Ok (reply.Out o)) = message.Out o ∷ []
message_of (Err fault) = []

-- what is sent
abbrev pub replied_in : BrokerDeed → List Message
replied_in (starts pass) = []
replied_in (replies want answer stored now) = message_of answer
replied_in (stops want stored) = []

-- those of many deeds, in order
abbrev pub all_wanted : List BrokerDeed → List Want
all_wanted deeds = flat_map wanted_in deeds

abbrev pub all_replied : List BrokerDeed → List Message
all_replied deeds = flat_map replied_in deeds
