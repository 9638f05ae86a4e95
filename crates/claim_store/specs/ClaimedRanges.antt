-- The units of claims as ranges: what the prover's journal says, whatever the order and the number of its bodies.
use Rattle.std.specs.Prelude.{◌≡◌, ℕ, ◌+◌, ◌<◌, ◌≤◌, List, [], ◌∷◌, map, Bool, ◌&&◌, nat_le, nat_lt}
use Rattle.std.specs.List.{list_any}
use Rattle.zk_model.specs.declared.Span.{Span}

-- the span that a body says
abbrev pub claim_of : ℕ × ℕ → Span
claim_of body = record { start = body.0; end = body.1 }

-- those that bodies say, in their order
abbrev pub claims_of : List (ℕ × ℕ) → List Span
claims_of bodies = map claim_of bodies

-- the unit is one of the span's
abbrev pub has_unit : ℕ → Span → Bool
has_unit unit s = nat_le s.start unit && nat_lt unit s.end

-- it is one of those of any of these
abbrev pub is_claimed : List Span → ℕ → Bool
is_claimed spans unit = list_any (has_unit unit) spans

-- each has a unit; the first begins at or above a bound, and each other one above the end of the one before it: they rise, and no two touch
abbrev pub RiseFrom : ℕ → List Span → Type 0
RiseFrom low [] = Unit {0}
RiseFrom low (s ∷ spans) = (low ≤ s.start) × (s.start < s.end) × RiseFrom (s.end + 1) spans

-- the ranges of claims: they rise, no two touch, and their units are those of the claims
pub record AreMerged (claims ranges : List Span) : Type 0 where
  pub rising : RiseFrom 0 ranges
  pub same : (unit : ℕ) → is_claimed ranges unit ≡ is_claimed claims unit
