-- How a span is taken up among ranges.
use Rattle.std.specs.Prelude.{ℕ, ◌<◌, ◌≤◌, List, [], ◌∷◌, length, slice_index_or, nat_eq, nat_lt, if◌then◌else◌}
use Rattle.zk_model.specs.declared.Span.{Span}
use Rattle.lease_core.specs.Spans.{span}

-- a span before these ranges: one with the first, where that begins at its end
abbrev pub before_ranges : Span → List Span → List Span
before_ranges s [] = s ∷ []
before_ranges s (r ∷ ranges) = if nat_eq s.end r.start then span s.start r.end ∷ ranges else s ∷ r ∷ ranges

-- a span among these ranges, none of which ends before it begins: one with the first, where that ends at its start
abbrev pub among_ranges : Span → List Span → List Span
among_ranges s [] = s ∷ []
among_ranges s (r ∷ ranges) =
    if nat_eq r.end s.start then before_ranges (span r.start s.end) ranges else before_ranges s (r ∷ ranges)

-- these ranges with a span that meets none of them: one with those that touch it
abbrev pub with_span : Span → List Span → List Span
with_span s [] = s ∷ []
with_span s (r ∷ ranges) = if nat_lt r.end s.start then r ∷ with_span s ranges else among_ranges s (r ∷ ranges)

-- the place of a span among ranges of which it meets none: those before it end at or before its start, and those behind it don't
pub record IsPlaceAmong (s : Span) (ranges : List Span) (at : ℕ) : Type 0 where
  pub within : at ≤ length ranges
  pub before : (k : ℕ) (d : Span) → k < at → (slice_index_or ranges k d).end ≤ s.start
  pub behind : (k : ℕ) (d : Span) → at ≤ k → k < length ranges → s.start < (slice_index_or ranges k d).end
