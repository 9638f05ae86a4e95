-- The steps on the words as events of the lease machine.
use Rattle.std.specs.Prelude.{◌≡◌, ℕ, ◌+◌, ◌<◌, ◌≤◌, true, false, cond, List, [], ◌∷◌, map, length, nat_eq, slice_index, slice_set, All, filter}
use Rattle.lease_core.specs.Spans.{span}
use Rattle.lease_core.specs.Machine.{Machine, durable, is_possible, after}
use Rattle.zk_model.specs.declared.Span.{Span}
use Rattle.lease_core.specs.declared.event.Drawn.{Drawn}
use Rattle.lease_core.specs.declared.event.Event.TheVariants.{Begin, Draw, Look, Raise}
use Rattle.lease_words.specs.Views.{end_of, entry_overshoots, own, spent_view, IsPassView, after_draw, after_look, after_marked, after_raise, after_mark, after_join}
use Rattle.lease_words.specs.Rule.{AreWordsKept, passes_made}
use Rattle.lease_words.specs.Leased.{Sits}
use Rattle.lease_words.specs.declared.view.Bounds.{Bounds}
use Rattle.lease_words.specs.declared.view.Entry.{Entry}
use Rattle.lease_words.specs.declared.view.Report.{Report}
use Rattle.lease_words.specs.declared.view.View.{View}
use Rattle.zk_model.specs.declared.limits.TheConstants.{MAX_UNITS}

-- the span of a draw
abbrev pub span_drawn : Entry → Span
span_drawn e = span e.start (end_of e)

-- the spans that a pass drew, in order
abbrev pub drawn_by : ℕ → List Drawn → List Span
drawn_by pass [] = []
drawn_by pass (d ∷ ds) = cond (nat_eq d.pass pass) (d.span ∷ drawn_by pass ds) (drawn_by pass ds)

-- the machine drew for the pass what the pass knows
abbrev pub HasDrawn : Machine → View → Type 0
HasDrawn m v = drawn_by (own v).number m.drawn ≡ map span_drawn v.entries

-- the ceiling that the machine has for the pass is the one that the pass knows
abbrev pub HasKnown : Machine → View → Type 0
HasKnown m v = slice_index m.known (own v).number ≡ (own v).known

-- the pass has not drawn, and knows the base
abbrev pub IsUndrawn : Bounds → ℕ → View → Type 0
IsUndrawn b passes v = (v.entries ≡ []) × ((own v).known ≡ b.base) × ((own v).number < passes)

-- the machine's next unit and ceiling are the words, and what it holds of each pass is what the pass knows
pub record Mirrors (b : Bounds) (next shown : ℕ) (views : List View) (m : Machine) : Type 0 where
  pub up : m.up ≡ true
  pub total : m.total ≡ b.total
  pub base : m.base ≡ b.base
  pub passes : m.passes ≡ passes_made views
  pub next_is : m.next ≡ next
  pub shown_is : m.shown ≡ shown
  pub all_known : length m.known ≡ m.passes
  pub drawn : (seat : ℕ) (v : View) → Sits views seat v → IsPassView v → HasDrawn m v
  pub known : (seat : ℕ) (v : View) → Sits views seat v → IsPassView v → HasKnown m v

-- the start is the event Begin: the machine is not up, and its durable ceiling is the base
abbrev pub StartIsEvent : Type 0
StartIsEvent =
    (b : Bounds) (views : List View) (m : Machine)
    → m.up ≡ false
    → durable m ≡ b.base
    → m.total ≡ b.total
    → m.passes ≡ passes_made views
    → ((seat : ℕ) (v : View) → Sits views seat v → IsPassView v → IsUndrawn b m.passes v)
    → (is_possible m Begin ≡ true) × Mirrors b b.base b.base views (after m Begin)

-- a draw is the event Draw
abbrev pub DrawIsEvent : Type 0
DrawIsEvent =
    (b : Bounds) (next shown mark : ℕ) (views : List View)
    → (seat : ℕ) (v : View) (count : ℕ) (m : Machine)
    → AreWordsKept b next shown mark views
    → Sits views seat v
    → IsPassView v
    → entry_overshoots b.total v.entries ≡ 0
    → 0 < count
    → count ≤ MAX_UNITS
    → Mirrors b next shown views m
    → (is_possible m (Draw (own v).number count) ≡ true)
    × Mirrors b (next + count) shown
    (slice_set views seat (after_draw v next count))
    (after m (Draw (own v).number count))

-- a look is the event Look
abbrev pub LookIsEvent : Type 0
LookIsEvent =
    (b : Bounds) (next shown mark : ℕ) (views : List View) (seat : ℕ) (v : View) (m : Machine)
    → AreWordsKept b next shown mark views
    → Sits views seat v
    → IsPassView v
    → Mirrors b next shown views m
    → (is_possible m (Look (own v).number) ≡ true)
    × Mirrors b next shown
    (slice_set views seat (after_look v shown))
    (after m (Look (own v).number))

-- a raise is the event Raise, where it is to the ceiling of a put that has come to its end
abbrev pub RaiseIsEvent : Type 0
RaiseIsEvent =
    (b : Bounds) (next shown mark : ℕ) (views : List View) (seat : ℕ) (v : View) (to : ℕ) (m : Machine)
    → AreWordsKept b next shown mark views
    → Sits views seat v
    → v.journal ≡ true
    → m.stage ≡ 4
    → m.ceiling ≡ to
    → Mirrors b next shown views m
    → (is_possible m Raise ≡ true)
    × Mirrors b next to (slice_set views seat (after_raise v to)) (after m Raise)

-- ---- steps that are no events: the machine stays as it is

-- what the machine holds of a pass that was taken in is its report, and its entries among these
abbrev pub HasTakenIn : Machine → List Entry → Report → Type 0
HasTakenIn m entries r =
    (drawn_by r.number m.drawn ≡ map span_drawn (filter (λ e. nat_eq e.pass r.number) entries))
    × (slice_index m.known r.number ≡ r.known)

-- what the machine holds of each pass that the journal's seat took in is what that pass knew
abbrev pub MirrorsTakenIn : List View → Machine → Type 0
MirrorsTakenIn views m =
    (seat : ℕ) (v : View) → Sits views seat v → v.journal ≡ true → All (HasTakenIn m v.entries) v.reports

-- setting the mark is no event
abbrev pub MarkIsNoEvent : Type 0
MarkIsNoEvent =
    (b : Bounds) (next shown : ℕ) (views : List View) (seat : ℕ) (v : View) (first : ℕ) (m : Machine)
    → Sits views seat v
    → v.journal ≡ true
    → Mirrors b next shown views m
    → Mirrors b next shown (slice_set views seat (after_mark v first)) m

-- looking at the mark is no event, whatever is found
abbrev pub MarkedIsNoEvent : Type 0
MarkedIsNoEvent =
    (b : Bounds) (next shown : ℕ) (views : List View) (seat : ℕ) (v : View) (found : ℕ) (m : Machine)
    → Sits views seat v
    → IsPassView v
    → Mirrors b next shown views m
    → Mirrors b next shown (slice_set views seat (after_marked v found)) m

-- taking in a pass is no event; and where the machine mirrors the passes taken in before, it mirrors this one among them
abbrev pub JoinIsNoEvent : Type 0
JoinIsNoEvent =
    (b : Bounds) (next shown mark : ℕ) (views : List View)
    → (seat other : ℕ) (v w : View) (m : Machine)
    → AreWordsKept b next shown mark views
    → Sits views seat v
    → v.journal ≡ true
    → Sits views other w
    → IsPassView w
    → Mirrors b next shown views m
    → Mirrors b next shown (slice_set (slice_set views seat (after_join v w)) other spent_view) m
    × (MirrorsTakenIn views m
    → MirrorsTakenIn (slice_set (slice_set views seat (after_join v w)) other spent_view) m)
