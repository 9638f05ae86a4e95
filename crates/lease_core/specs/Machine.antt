-- The lease machine: what is shared and what is stored, and what each event does to it.
use Rattle.std.specs.Prelude.{ℕ, ◌+◌, ◌*◌, ◌/◌, min, Bool, true, false, not, cond, ◌&&◌, Option, None, Some, List, [], ◌∷◌, ◌++◌, replicate, slice_set, nat_eq, nat_lt, nat_le}
use Rattle.std.specs.List.{list_any}
use Rattle.lease_core.specs.Spans.{span, same_span, has_span, meets_any}
use Rattle.zk_model.specs.declared.Span.{Span}
use Rattle.lease_core.specs.declared.event.Drawn.{Drawn}
use Rattle.lease_core.specs.declared.event.Moment.{Moment}
use Rattle.lease_core.specs.declared.event.Moment.TheVariants.{Body, BodySync, Gate, GateSync}
use Rattle.lease_core.specs.declared.event.Event.{Event}
use Rattle.lease_core.specs.declared.event.Event.TheVariants.{Begin, Draw, Look, Put, Raise, Spend, Claim, Crash}
use Rattle.zk_model.specs.declared.limits.TheConstants.{MAX_UNITS}

-- How many units and passes there are; the ceilings in the journal's slots; whether the store is up; where its
-- era began, the unit after the last one drawn, and the ceiling shown; how many moments of a put are over (0 for
-- no put) and its ceiling; the spans drawn in this era, in order, each with its pass; the ceiling that each pass
-- knows; what was spent and what was claimed over all eras
pub record Machine : Type 0 where
  pub total : ℕ
  pub passes : ℕ
  pub slots : List ℕ
  pub up : Bool
  pub base : ℕ
  pub next : ℕ
  pub shown : ℕ
  pub stage : ℕ
  pub ceiling : ℕ
  pub drawn : List Drawn
  pub known : List ℕ
  pub spent : List Span
  pub claims : List Span

-- the machine before its first era
abbrev pub machine_at_first : ℕ → ℕ → Machine
machine_at_first total passes = record {
  total = total;
  passes = passes;
  slots = [];
  up = false;
  base = 0;
  next = 0;
  shown = 0;
  stage = 0;
  ceiling = 0;
  drawn = [];
  known = replicate passes 0;
  spent = [];
  claims = [];
}

-- the last of these, or 0
abbrev pub last_of : List ℕ → ℕ
last_of [] = 0
last_of (x ∷ []) = x
last_of (x ∷ y ∷ ys) = last_of (y ∷ ys)

-- the ceiling that stands on the disk
abbrev pub durable : Machine → ℕ
durable m = last_of m.slots

-- the first of the two that is there
abbrev pub or_else : Option Span → Option Span → Option Span
or_else None b = b
or_else (Some a) b = Some a

-- the last span that a pass drew
abbrev pub last_drawn : ℕ → List Drawn → Option Span
last_drawn pass [] = None
last_drawn pass (d ∷ ds) = or_else (last_drawn pass ds) (cond (nat_eq d.pass pass) (Some d.span) None)

-- whether the pass drew a span that ends above the total
abbrev pub is_passed : ℕ → ℕ → List Drawn → Bool
is_passed total pass drawn = list_any (λ d. nat_eq d.pass pass && nat_lt total d.span.end) drawn

-- whether the pass has a last span, which is not spent and passes a test
abbrev pub is_open : Option Span → List Span → (Span → Bool) → Bool
is_open None spent test = false
is_open (Some s) spent test = not (has_span s spent) && test s

-- where the span ends
abbrev pub last_end : Option Span → ℕ
last_end None = 0
last_end (Some s) = s.end

-- up to the next multiple of 16, and at most the total
abbrev pub ceiling_for : ℕ → ℕ → ℕ
ceiling_for total end = min total ((end + 15) / 16 * 16)

-- whether a moment of a put is possible in an era
abbrev pub may_put : Machine → Moment → Bool
may_put m (Body pass) =
    nat_lt pass m.passes
    && (nat_eq m.stage 0
    && is_open (last_drawn pass m.drawn) m.spent (λ s. nat_lt m.shown s.end && nat_le s.end m.total))
may_put m BodySync = nat_eq m.stage 1
may_put m Gate = nat_eq m.stage 2
may_put m GateSync = nat_eq m.stage 3

-- whether an event is possible
abbrev pub is_possible : Machine → Event → Bool
is_possible m Begin = not m.up
is_possible m (Draw pass n) =
    m.up
    && (nat_lt pass m.passes && ((nat_le 1 n && nat_le n MAX_UNITS) && not (is_passed m.total pass m.drawn)))
is_possible m (Look pass) = m.up && nat_lt pass m.passes
is_possible m (Put moment) = m.up && may_put m moment
is_possible m Raise = m.up && nat_eq m.stage 4
is_possible m (Spend pass s) =
    m.up
    && (nat_lt pass m.passes
    && is_open (last_drawn pass m.drawn) m.spent (λ t. same_span t s && nat_le s.end m.shown))
is_possible m (Claim s) = (nat_lt s.start s.end && nat_le s.end m.total) && not (meets_any s m.claims)
is_possible m (Crash body gate) = m.up

-- the machine after a moment of a put
abbrev pub put_on : Machine → Moment → Machine
put_on m (Body pass) = record m {
  stage = 1;
  ceiling = ceiling_for m.total (last_end (last_drawn pass m.drawn));
}
put_on m BodySync = record m { stage = 2 }
put_on m Gate = record m { stage = 3 }
put_on m GateSync = record m { stage = 4; slots = m.slots ++ m.ceiling ∷ [] }

-- the put's ceiling stands in the journal
abbrev pub with_slot : Machine → Machine
with_slot m = record m { slots = m.slots ++ m.ceiling ∷ [] }

-- the machine after an event that is possible
abbrev pub after : Machine → Event → Machine
after m Begin = record m {
  up = true;
  base = durable m;
  next = durable m;
  shown = durable m;
  stage = 0;
  drawn = [];
  known = replicate m.passes (durable m);
}
after m (Draw pass n) = record m {
  next = m.next + n;
  drawn = m.drawn ++ record { pass = pass; span = span m.next (m.next + n) } ∷ [];
}
after m (Look pass) = record m { known = slice_set m.known pass m.shown }
after m (Put moment) = put_on m moment
after m Raise = record m { stage = 0; shown = m.ceiling }
after m (Spend pass s) = record m { spent = m.spent ++ s ∷ [] }
after m (Claim s) = record m { claims = m.claims ++ s ∷ [] }
after m (Crash body gate) = record m {
  up = false;
  stage = 0;
  slots = cond (nat_eq m.stage 3 && nat_eq gate 90) (m.slots ++ m.ceiling ∷ []) m.slots;
}

-- the machine after these events
abbrev pub after_all : Machine → List Event → Machine
after_all m [] = m
after_all m (e ∷ es) = after_all (after m e) es

-- whether each is possible when its turn comes
abbrev pub are_possible : Machine → List Event → Bool
are_possible m [] = true
are_possible m (e ∷ es) = is_possible m e && are_possible (after m e) es
