-- What a broker and its nodes keep through every list of events.
use Rattle.std.specs.Prelude.{◌≡◌, ℕ, ◌<◌, ◌≤◌, Bool, true, false, List, [], length, take, slice_index_or}
use Rattle.lease_core.specs.Machine.{Machine, durable}
use Rattle.lease_core.specs.declared.event.Event.{Event}
use Rattle.lease_core.specs.Spans.{AreApart, EndBy}
use Rattle.broker_core.specs.Leases.{TookSome, steps_for}
use Rattle.broker_core.specs.Messages.{given}
use Rattle.broker_core.specs.Worlds.{WorldState, after_event, after_events, may_all_happen, may_happen, want_to, world_at_first}
use Rattle.broker_core.specs.declared.event.BrokerEvent.{BrokerEvent}
use Rattle.broker_core.specs.declared.event.BrokerEvent.TheVariants as event

-- no two spans that the nodes spent have a unit in common, and none ends above the broker's durable ceiling
pub record IsSafe (w : WorldState) : Type 0 where
  pub spent : AreApart w.spent
  pub durable : EndBy (durable w.lease) w.spent

-- after any events that are possible in their order, whatever the links do with messages, and whoever crashes
abbrev pub UnitsAreSpentOnce : Type 0
UnitsAreSpentOnce =
    (total nodes : ℕ) (events : List BrokerEvent)
    → may_all_happen (world_at_first total nodes) events ≡ true
    → IsSafe (after_events (world_at_first total nodes) events)

-- possible events lead from the first world to this one
abbrev pub IsLed : WorldState → Type 0
IsLed w =
    (total : ℕ) × (nodes : ℕ) × (events : List BrokerEvent)
    × (may_all_happen (world_at_first total nodes) events ≡ true)
    × (w ≡ after_events (world_at_first total nodes) events)

-- the event was possible and took place, or was not and nothing changed
abbrev pub IsTaken : WorldState → BrokerEvent → Bool → WorldState → Type 0
IsTaken w e true now = (may_happen w e ≡ true) × (now ≡ after_event w e)
IsTaken w e false now = (may_happen w e ≡ false) × (now ≡ w)

-- the first k events were possible in their order, and took place
abbrev pub TookFirst : WorldState → List BrokerEvent → ℕ → WorldState → Type 0
TookFirst w events k now =
    (k ≤ length events) × (may_all_happen w (take k events) ≡ true) × (now ≡ after_events w (take k events))

-- all events took place, or those before the first one that is not possible
abbrev pub Took : WorldState → List BrokerEvent → Bool → WorldState → Type 0
Took w events true now = TookFirst w events (length events) now
Took w events false now = (k : ℕ) × (e : BrokerEvent)
    × TookFirst w events k now
    × (k < length events)
    × (slice_index_or events k e ≡ e)
    × (may_happen now e ≡ false)

-- the steps that an event makes of a lease, all of its Want's or so many of the first
abbrev pub lease_of : WorldState → BrokerEvent → List Event
lease_of w (event.ToBroker i) = given (want_to w.sent (length w.nodes) i) [] (steps_for w.lease w.kept)
lease_of w (event.BrokerCut i steps body gate) =
    given (want_to w.sent (length w.nodes) i) [] (λ want. take steps (steps_for w.lease w.kept want))
lease_of w (event.BrokerFail i steps) =
    given (want_to w.sent (length w.nodes) i) [] (λ want. take steps (steps_for w.lease w.kept want))
lease_of w (event.Ask node n) = []
lease_of w (event.ToNode i) = []
lease_of w (event.Spend node n) = []
lease_of w (event.NodeCrash node) = []
lease_of w (event.NodeCut i kept) = []
lease_of w (event.NodeFail i kept) = []
lease_of w (event.BrokerCrash body gate) = []

-- memory ran out in an event: at most the first steps of its lease took place, and nothing else changed
abbrev pub IsCutOff : WorldState → BrokerEvent → WorldState → Type 0
IsCutOff w e now = (m : Machine) × TookSome w.lease (lease_of w e) m × (now ≡ record w { lease = m })

-- memory ran out in one of these events: those before it took place
abbrev pub IsStoppedIn : WorldState → List BrokerEvent → WorldState → Type 0
IsStoppedIn w events now = (k : ℕ) × (e : BrokerEvent) × (before : WorldState)
    × TookFirst w events k before
    × (k < length events)
    × (slice_index_or events k e ≡ e)
    × IsCutOff before e now
