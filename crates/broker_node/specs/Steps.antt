-- The broker's step as an event of the world.
use Rattle.std.specs.Prelude.{◌≡◌, ◌⊎◌, ℕ, ◌≤◌, true, List, [], ◌∷◌, ◌++◌, length, AllPairs, Option, Some, Result, Ok, Err}
use Rattle.zk_model.specs.declared.messages.Want.{Want}
use Rattle.lease_core.specs.Machine.{Machine}
use Rattle.lease_words.specs.Calls.{AreGathered, RisesFrom, entries_of, greatest_end, known_of}
use Rattle.lease_words.specs.Views.{end_of}
use Rattle.lease_words.specs.declared.pass.Pass.{Pass}
use Rattle.lease_words.specs.declared.view.Entry.{Entry}
use Rattle.lease_store.specs.Leases.{PassGoesOn}
use Rattle.lease_store.specs.declared.LeaseFault.{LeaseFault}
use Rattle.lease_store.specs.declared.LeaseFault.TheVariants as lease
use Rattle.broker_core.specs.Leases.{steps_for}
use Rattle.broker_core.specs.Messages.{want_at}
use Rattle.broker_core.specs.Sound.{IsSound}
use Rattle.broker_core.specs.Worlds.{WorldState, after_event, is_node, may_happen}
use Rattle.broker_core.specs.declared.event.BrokerEvent.{BrokerEvent}
use Rattle.broker_core.specs.declared.event.BrokerEvent.TheVariants as event
use Rattle.broker_core.specs.declared.message.Kept.{Kept}
use Rattle.broker_core.specs.declared.message.Message.{Message}
use Rattle.broker_core.specs.declared.message.Message.TheVariants as message
use Rattle.broker_node.specs.BrokerSteps.{IsBrokerStep}
use Rattle.broker_node.specs.Ties.{HasPass}
use Rattle.broker_node.specs.declared.broker.Reply.{Reply}
use Rattle.broker_node.specs.declared.broker.Reply.TheVariants as reply

-- The world's lease machine is the broker's store, whose one pass is this one, and whose era began at this unit: its next unit is the one after all
-- that the pass drew.
pub record IsServedBy (base : ℕ) (m : Machine) (p : Pass) : Type 0 where
  pub pass : HasPass m p
  pub next : m.next ≡ greatest_end base (entries_of p)

-- what the pass drew in between begins where all that it drew before ends, as nobody else draws
abbrev pub DrawsInTurn : ℕ → Pass → Pass → Type 0
DrawsInTurn base p q = (e : Entry) → entries_of q ≡ entries_of p ++ e ∷ [] → greatest_end base (entries_of p) ≡ e.start

-- each entry begins at or after the end of those before it
abbrev pub AreRising : List Entry → Type 0
AreRising entries = AllPairs (λ d e. end_of d ≤ e.start) entries

-- A step of a pass leaves its entries rising (`rises` says of each what it is to those before). At the end of a store that had this pass alone, they
-- tile, so that each draw was in turn.
pub record TurnsAreSeen : Type 0 where
  pub fresh : AreRising []
  pub goes : (p q : Pass) (e : Entry) → AreRising (entries_of p) → RisesFrom p q → entries_of q ≡ entries_of p ++ e ∷ [] → AreRising (entries_of q)
  pub closed : (base ceiling mark : ℕ) (p q last : Pass) (later : List Entry)
      → AreGathered base ceiling mark (last ∷ []) → AreRising (entries_of last) → entries_of last ≡ entries_of q ++ later
      → DrawsInTurn base p q

-- the event is possible, and then the broker keeps this, has sent this more, and its store and pass go on
pub record IsBrokerEvent (base : ℕ) (w : WorldState) (e : BrokerEvent) (now : List (Option Kept)) (more : List Message) (q : Pass) : Type 0 where
  pub possible : may_happen w e ≡ true
  pub kept : (after_event w e).kept ≡ now
  pub sent : (after_event w e).sent ≡ w.sent ++ more
  pub serves : IsServedBy base (after_event w e).lease q

-- no put stands after the event where none stood before
abbrev pub LeavesNoPut : WorldState → BrokerEvent → Type 0
LeavesNoPut w e = w.lease.stage ≡ 0 → (after_event w e).lease.stage ≡ 0

-- Which event it is, by what the step answers. Where a call of the disk failed, it is that event after any number of the lease's steps, from the
-- draw on: the one to which the put had come, or the draw alone, which leaves no put.
abbrev pub IsStepEvent : ℕ → WorldState → ℕ → Want → Result Reply LeaseFault → List (Option Kept) → Pass → Type 0
IsStepEvent base w i want (Ok (reply.Block b)) now q =
    IsBrokerEvent base w (event.ToBroker i) now (message.Block b ∷ []) q × LeavesNoPut w (event.ToBroker i)
IsStepEvent base w i want (Ok (reply.Out o)) now q =
    IsBrokerEvent base w (event.ToBroker i) now (message.Out o ∷ []) q × LeavesNoPut w (event.ToBroker i)
IsStepEvent base w i want (Err lease.Device) now q =
    ((steps : ℕ) → 1 ≤ steps → steps ≤ length (steps_for w.lease w.kept want) → IsBrokerEvent base w (event.BrokerFail i steps) now [] q)
    × (1 ≤ length (steps_for w.lease w.kept want)) × LeavesNoPut w (event.BrokerFail i 1)
IsStepEvent base w i want (Err (lease.Broken first)) now q =
    IsBrokerEvent base w (event.BrokerFail i 1) now [] q × LeavesNoPut w (event.BrokerFail i 1)
IsStepEvent base w i want (Err (lease.Exhausted at count total)) now q = ⊥

-- Where a Want comes to the broker, what `broker_step` does is an event of the world. Its premises: the pass draws in turn; and no put stands in
-- the world, or the pass sees no ceiling above the one that the world shows.
abbrev pub BrokerStepIsEvent : Type 0
BrokerStepIsEvent =
    (base : ℕ) (w : WorldState) (i : ℕ) (want : Want) (p q : Pass) (result : Result Reply LeaseFault) (now : List (Option Kept))
    → IsSound w → IsServedBy base w.lease p → want_at w.sent i ≡ Some want → is_node w want.node ≡ true
    → IsBrokerStep w.kept p want result now q → PassGoesOn p q
    → DrawsInTurn base p q → ((w.lease.stage ≡ 0) ⊎ (known_of q ≤ w.lease.shown))
    → IsStepEvent base w i want result now q
