-- What the lease machine keeps through every list of events.
use Rattle.std.specs.Prelude.{◌≡◌, ℕ, ◌<◌, ◌≤◌, Bool, true, false, List, ◌++◌, length, take, slice_index_or}
use Rattle.lease_core.specs.Spans.{AreApart, EndBy}
use Rattle.lease_core.specs.Machine.{Machine, machine_at_first, durable, is_possible, after, after_all, are_possible}
use Rattle.lease_core.specs.declared.event.Event.{Event}
use Rattle.lease_core.specs.declared.event.Event.TheVariants.{Spend, Crash}
use Rattle.zk_model.specs.declared.Span.{Span}

-- No two spent spans have a unit in common, and none ends above the durable ceiling; a span that may be spent
-- starts at or above the era's base; no two claims have a unit in common
pub record IsSafe (m : Machine) : Type 0 where
  pub spent : AreApart m.spent
  pub durable : EndBy (durable m) m.spent
  pub based : (pass : ℕ) (s : Span) → is_possible m (Spend pass s) ≡ true → m.base ≤ s.start
  pub claims : AreApart m.claims

-- After any events that are possible in their order the machine is safe; and after any more, what was spent
-- by then still ends at or below the durable ceiling
abbrev pub LeasesAreSafe : Type 0
LeasesAreSafe =
    (total passes : ℕ) (events more : List Event)
    → are_possible (machine_at_first total passes) (events ++ more) ≡ true
    → IsSafe (after_all (machine_at_first total passes) events)
    × EndBy
    (durable (after_all (machine_at_first total passes) (events ++ more)))
    (after_all (machine_at_first total passes) events).spent

-- events that are possible in their order lead to the machine from the first one
abbrev pub IsReached : Machine → Type 0
IsReached m =
    (total : ℕ) × (passes : ℕ) × (events : List Event)
    × (are_possible (machine_at_first total passes) events ≡ true)
    × (m ≡ after_all (machine_at_first total passes) events)

-- the event was possible and took place, or was not and nothing changed
abbrev pub IsTaken : Machine → Event → Bool → Machine → Type 0
IsTaken m e true now = (is_possible m e ≡ true) × (now ≡ after m e)
IsTaken m e false now = (is_possible m e ≡ false) × (now ≡ m)

-- a crash whose put left this gate, whatever bytes it left before it
abbrev pub IsCrash : Machine → ℕ → Bool → Machine → Type 0
IsCrash m gate b now = (body : List ℕ) → IsTaken m (Crash body gate) b now

-- the first k events were possible in their order, and took place
abbrev pub TookFirst : Machine → List Event → ℕ → Machine → Type 0
TookFirst m events k now =
    (k ≤ length events)
    × (are_possible m (take k events) ≡ true)
    × (now ≡ after_all m (take k events))

-- all events took place, or those before the first one that is not possible
abbrev pub Took : Machine → List Event → Bool → Machine → Type 0
Took m events true now = TookFirst m events (length events) now
Took m events false now = (k : ℕ) × (e : Event)
    × TookFirst m events k now
    × (k < length events)
    × (slice_index_or events k e ≡ e)
    × (is_possible now e ≡ false)
