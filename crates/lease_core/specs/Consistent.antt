-- What holds of every machine that possible events lead to.
use Rattle.std.specs.Prelude.{◌≡◌, ◌<◌, ◌≤◌, ◌⊎◌, true, false, List, map, length, All, Contains}
use Rattle.lease_core.specs.Spans.{AreApart, EndBy, IsWithin}
use Rattle.lease_core.specs.Machine.{Machine, durable, is_possible, after}
use Rattle.lease_core.specs.Kept.{IsReached, IsSafe}
use Rattle.zk_model.specs.declared.Span.{Span}
use Rattle.lease_core.specs.declared.event.Drawn.{Drawn}
use Rattle.lease_core.specs.declared.event.Event.{Event}

-- the spans of these draws
abbrev pub spans_of : List Drawn → List Span
spans_of drawn = map (λ d. d.span) drawn

-- The invariant. Where the store is not up, its era is the last one, as the crash left it
pub record IsConsistent (m : Machine) : Type 0 where
  -- the ceiling shown is durable, and the durable one is at most the total
  pub shown_durable : m.shown ≤ durable m
  pub durable_total : durable m ≤ m.total
  -- a put has four moments, and none is under way while the store is not up
  pub moments : m.stage ≤ 4
  pub no_put : m.up ≡ false → m.stage ≡ 0
  -- its ceiling is above the one shown and at most the total
  pub ceiling_above : 0 < m.stage → m.shown < m.ceiling
  pub ceiling_total : 0 < m.stage → m.ceiling ≤ m.total
  -- before its last moment the durable ceiling is the one shown, and after that the put's
  pub durable_before : m.up ≡ true → m.stage < 4 → durable m ≡ m.shown
  pub durable_after : m.stage ≡ 4 → durable m ≡ m.ceiling
  -- spans drawn in the era have no unit in common, and lie from its base up to the next unit
  pub drawn_apart : AreApart (spans_of m.drawn)
  pub drawn_within : All (IsWithin m.base m.next) (spans_of m.drawn)
  pub drawn_passes : All (λ d. d.pass < m.passes) m.drawn
  pub base_next : m.base ≤ m.next
  -- each pass knows a ceiling from the base up to the one shown
  pub base_shown : m.base ≤ m.shown
  pub all_known : length m.known ≡ m.passes
  pub known_shown : All (λ k. (m.base ≤ k) × (k ≤ m.shown)) m.known
  -- spent spans have no unit in common, and end at or below the ceiling shown and the durable one
  pub spent_apart : AreApart m.spent
  pub spent_units : All (λ s. s.start < s.end) m.spent
  pub spent_shown : EndBy m.shown m.spent
  pub spent_durable : EndBy (durable m) m.spent
  -- each was drawn in the era, or ends at or below its base
  pub spent_drawn : All (λ s. Contains (spans_of m.drawn) s ⊎ (s.end ≤ m.base)) m.spent
  -- claims have no unit in common, and end at or below the total
  pub claims_apart : AreApart m.claims
  pub claims_within : All (IsWithin 0 m.total) m.claims

-- a machine that possible events lead to is consistent and safe
abbrev pub ReachedIsConsistent : Type 0
ReachedIsConsistent = (m : Machine) → IsReached m → IsConsistent m × IsSafe m

-- and so is the machine after one more; what was spent ends at or below the durable ceiling then too
abbrev pub ReachedGoesOn : Type 0
ReachedGoesOn =
    (m : Machine) (e : Event)
    → IsReached m
    → is_possible m e ≡ true
    → IsReached (after m e) × EndBy (durable (after m e)) m.spent
