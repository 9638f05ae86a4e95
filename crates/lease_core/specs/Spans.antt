-- Spans of units, and lists of them.
use Rattle.std.specs.Prelude.{ℕ, ◌<◌, ◌≤◌, ◌⊎◌, Bool, ◌&&◌, List, All, AllPairs, nat_eq, nat_lt}
use Rattle.std.specs.List.{list_any}
use Rattle.zk_model.specs.declared.Span.{Span}

abbrev pub span : ℕ → ℕ → Span
span start end = record { start = start; end = end }

abbrev pub same_span : Span → Span → Bool
same_span a b = nat_eq a.start b.start && nat_eq a.end b.end

-- the two have a unit in common
abbrev pub meets : Span → Span → Bool
meets a b = nat_lt a.start b.end && nat_lt b.start a.end

abbrev pub has_span : Span → List Span → Bool
has_span a spans = list_any (λ s. same_span s a) spans

abbrev pub meets_any : Span → List Span → Bool
meets_any a spans = list_any (λ s. meets s a) spans

-- one ends where the other starts, or before
abbrev pub IsApart : Span → Span → Type 0
IsApart a b = (a.end ≤ b.start) ⊎ (b.end ≤ a.start)

-- no two of these have a unit in common
abbrev pub AreApart : List Span → Type 0
AreApart spans = AllPairs IsApart spans

-- each ends at or below a bound
abbrev pub EndBy : ℕ → List Span → Type 0
EndBy bound spans = All (λ s. s.end ≤ bound) spans

-- it has a unit, and all its units lie from low up to high
abbrev pub IsWithin : ℕ → ℕ → Span → Type 0
IsWithin low high s = (low ≤ s.start) × (s.start < s.end) × (s.end ≤ high)
