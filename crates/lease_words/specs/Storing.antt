-- What a store does beside the steps on the words, as events of the lease machine: puts, grants and crashes.
use Rattle.std.specs.Prelude.{◌≡◌, ◌≢◌, ℕ, ◌<◌, ◌≤◌, true, false, List, [], ◌∷◌, ◌++◌, ⊤}
use Rattle.lease_core.specs.Spans.{has_span, EndBy}
use Rattle.lease_core.specs.Machine.{Machine, durable, ceiling_for, is_possible, after}
use Rattle.lease_core.specs.Kept.{IsReached}
use Rattle.lease_core.specs.declared.event.Moment.{Moment}
use Rattle.lease_core.specs.declared.event.Moment.TheVariants.{Body, BodySync, Gate, GateSync}
use Rattle.lease_core.specs.declared.event.Event.{Event}
use Rattle.lease_core.specs.declared.event.Event.TheVariants.{Begin, Draw, Look, Put, Raise, Spend, Claim, Crash}
use Rattle.lease_words.specs.Views.{entry, end_of, own, IsPassView, after_draw}
use Rattle.lease_words.specs.Rule.{AreWordsKept}
use Rattle.lease_words.specs.Leased.{Sits}
use Rattle.lease_words.specs.Events.{span_drawn, Mirrors}
use Rattle.lease_words.specs.declared.view.Bounds.{Bounds}
use Rattle.lease_words.specs.declared.view.Entry.{Entry}
use Rattle.lease_words.specs.declared.view.View.{View}

-- ---- grants

-- this is the newest of a pass's entries, and the machine has not spent its span
pub record IsUnspent (m : Machine) (entries : List Entry) (e : Entry) : Type 0 where
  pub before : List Entry
  pub newest : entries ≡ before ++ e ∷ []
  pub unspent : has_span (span_drawn e) m.spent ≡ false

-- what a pass has just drawn is unspent
abbrev pub DrawIsUnspent : Type 0
DrawIsUnspent =
    (b : Bounds) (next shown : ℕ) (views : List View) (v : View) (count : ℕ) (m : Machine)
    → IsReached m
    → 0 < count
    → Mirrors b next shown views m
    → IsUnspent
    (after m (Draw (own v).number count))
    (after_draw v next count).entries
    (entry (own v).number next count)

-- no grant of this pass
abbrev pub IsNoSpendOf : ℕ → Event → Type 0
IsNoSpendOf pass (Spend other s) = other ≢ pass
IsNoSpendOf pass Begin = ⊤
IsNoSpendOf pass (Draw other n) = ⊤
IsNoSpendOf pass (Look other) = ⊤
IsNoSpendOf pass (Put moment) = ⊤
IsNoSpendOf pass Raise = ⊤
IsNoSpendOf pass (Claim s) = ⊤
IsNoSpendOf pass (Crash body gate) = ⊤

-- it stays unspent through every event but a grant of its own pass
abbrev pub StaysUnspent : Type 0
StaysUnspent =
    (b : Bounds) (next shown : ℕ) (views : List View)
    → (seat : ℕ) (v : View) (e : Entry) (event : Event) (m : Machine)
    → IsReached m
    → Sits views seat v
    → IsPassView v
    → Mirrors b next shown views m
    → IsUnspent m v.entries e
    → is_possible m event ≡ true
    → IsNoSpendOf (own v).number event
    → IsUnspent (after m event) v.entries e

-- for each pass that sits at kept words, and its newest entry, which the machine has not spent
abbrev pub ForNewest : (Bounds → ℕ → ℕ → List View → View → Entry → Machine → Type 0) → Type 0
ForNewest Holds =
    (b : Bounds) (next shown mark : ℕ) (views : List View) (seat : ℕ) (v : View) (e : Entry) (m : Machine)
    → AreWordsKept b next shown mark views
    → Sits views seat v
    → IsPassView v
    → IsUnspent m v.entries e
    → Holds b next shown views v e m

-- a grant of the newest entry is the event Spend, where it ends at or below the ceiling that the pass knows
abbrev pub SpendIsEvent : Type 0
SpendIsEvent = ForNewest (λ b next shown views v e m.
    end_of e ≤ (own v).known
    → Mirrors b next shown views m
    → (is_possible m (Spend (own v).number (span_drawn e)) ≡ true)
    × Mirrors b next shown views (after m (Spend (own v).number (span_drawn e))))

-- ---- puts

-- so many moments of a put of this ceiling are over, and these are the ceilings in the slots
pub record IsPutAt (moments ceiling : ℕ) (slots : List ℕ) (m : Machine) : Type 0 where
  pub moments_are : m.stage ≡ moments
  pub ceiling_is : m.ceiling ≡ ceiling
  pub slots_are : m.slots ≡ slots

-- writing a slot's body is the event Body of a pass whose newest entry is unspent and ends above the ceiling shown, where no
-- put is under way; the body's ceiling is the entry's end, rounded up
abbrev pub BodyIsEvent : Type 0
BodyIsEvent = ForNewest (λ b next shown views v e m.
    shown < end_of e
    → end_of e ≤ b.total
    → m.stage ≡ 0
    → Mirrors b next shown views m
    → (is_possible m (Put (Body (own v).number)) ≡ true)
    × Mirrors b next shown views (after m (Put (Body (own v).number)))
    × IsPutAt 1 (ceiling_for b.total (end_of e)) m.slots (after m (Put (Body (own v).number))))

-- the next call of a put, so many moments of which are over, is this event, and then holds this of the put's ceiling, of the ceilings
-- that were in the slots, and of the machine
abbrev pub IsNextOf : ℕ → Moment → (ℕ → List ℕ → Machine → Type 0) → Type 0
IsNextOf moments call Then =
    (b : Bounds) (next shown ceiling : ℕ) (views : List View) (slots : List ℕ) (m : Machine)
    → IsPutAt moments ceiling slots m
    → Mirrors b next shown views m
    → (is_possible m (Put call) ≡ true)
    × Mirrors b next shown views (after m (Put call))
    × Then ceiling slots (after m (Put call))

-- syncing the body is the event BodySync
abbrev pub BodySyncIsEvent : Type 0
BodySyncIsEvent = IsNextOf 1 BodySync (IsPutAt 2)

-- writing the slot's gate is the event Gate
abbrev pub GateIsEvent : Type 0
GateIsEvent = IsNextOf 2 Gate (IsPutAt 3)

-- syncing it is the event GateSync: the ceiling is in the slots, and is what `RaiseIsEvent` asks for
abbrev pub GateSyncIsEvent : Type 0
GateSyncIsEvent =
    IsNextOf 3 GateSync (λ ceiling slots m. IsPutAt 4 ceiling (slots ++ ceiling ∷ []) m × (durable m ≡ ceiling))

-- an event of a pass, or a claim
abbrev pub IsBesidePut : Event → Type 0
IsBesidePut (Draw pass n) = ⊤
IsBesidePut (Look pass) = ⊤
IsBesidePut (Spend pass s) = ⊤
IsBesidePut (Claim s) = ⊤
IsBesidePut Begin = ⊥
IsBesidePut (Put moment) = ⊥
IsBesidePut Raise = ⊥
IsBesidePut (Crash body gate) = ⊥

-- a put that is under way is as it was after what passes do in between
abbrev pub PutStays : Type 0
PutStays =
    (moments ceiling : ℕ) (slots : List ℕ) (event : Event) (m : Machine)
    → IsBesidePut event
    → IsPutAt moments ceiling slots m
    → IsPutAt moments ceiling slots (after m event)

-- a raise ends the put, and a start has none
abbrev pub PutEnds : Type 0
PutEnds =
    (moments ceiling : ℕ) (slots : List ℕ) (m : Machine)
    → IsPutAt moments ceiling slots m
    → IsPutAt 0 ceiling slots (after m Raise) × IsPutAt 0 ceiling slots (after m Begin)

-- ---- crashes

-- A store that was up and showed this ceiling stopped, and the slot of its put has this gate (it is open where that is 90)
pub record IsStoreStopped (shown gate : ℕ) (m now : Machine) : Type 0 where
  pub down : now.up ≡ false
  pub total : now.total ≡ m.total
  pub passes : now.passes ≡ m.passes
  pub spent : now.spent ≡ m.spent
  pub claims : now.claims ≡ m.claims
  -- the durable ceiling is the one shown; or the put's, where its gate was synced, or is written and open
  pub unwritten : m.stage < 3 → durable now ≡ shown
  pub shut : m.stage ≡ 3 → gate ≢ 90 → durable now ≡ shown
  pub opened : m.stage ≡ 3 → gate ≡ 90 → durable now ≡ m.ceiling
  pub synced : m.stage ≡ 4 → durable now ≡ m.ceiling
  -- it is at or above the one shown, and what was spent ends at or below it
  pub above : shown ≤ durable now
  pub granted : EndBy (durable now) m.spent

-- a stop, in order or not, is the event Crash
abbrev pub CrashIsEvent : Type 0
CrashIsEvent =
    (b : Bounds) (next shown : ℕ) (views : List View) (body : List ℕ) (gate : ℕ) (m : Machine)
    → IsReached m
    → Mirrors b next shown views m
    → (is_possible m (Crash body gate) ≡ true) × IsStoreStopped shown gate m (after m (Crash body gate))
