-- Ranges with a span that meets none of them.
use Rattle.std.proofs.Common.{◌≡◌, ℕ, suc, ◌+◌, ◌-◌, ◌<◌, ◌≤◌, ◌⊎◌, inl, inr, max, Bool, true, false, ◌||◌, List, [], ◌∷◌, ◌++◌, length, get_or, sum_by, All, nat_eq, nat_lt, if◌then◌else◌, refl, ap, sym, ◌∙◌, arith}
use Rattle.std.proofs.lemmas.Bool.{or_parts, and_cases, ltb-true, ltb-false, lt-ltb, le-ltb, eqb-true, eqb-false}
use Rattle.std.proofs.lemmas.Bool.Decides.{nat_tests}
use Rattle.std.proofs.lemmas.List.Folds.{list_any-append}
use Rattle.std.proofs.lemmas.List.Sums.{sum_by-cons}
use Rattle.zk_model.specs.declared.Span.{Span}
use Rattle.claim_store.specs.ClaimedRanges.{AreMerged, RiseFrom, has_unit, is_claimed}
use Rattle.lease_core.specs.Spans.{IsApart, meets, meets_any, span}
use Rattle.claim_store.specs.Ranges.{among_ranges, before_ranges, with_span}

-- a span that doesn't meet another is apart from it
pub apart_of : (r s : Span) → meets r s ≡ false → IsApart r s
apart_of r s none = by (and_cases (nat_lt r.start s.end) (nat_lt s.start r.end) none) where
  by : ((nat_lt r.start s.end ≡ false) ⊎ (nat_lt s.start r.end ≡ false)) → IsApart r s
  by (inl e) = inr (ltb-false r.start s.end e)
  by (inr e) = inl (ltb-false s.start r.end e)

-- a span touches the next one, or not
by_touch : (a b : ℕ) (P : Bool → Type 0) → (a ≡ b → P true) → ((a ≡ b → ⊥) → P false) → P (nat_eq a b)
by_touch a b P touch apart = by (nat_eq a b) refl where
  by : (t : Bool) → nat_eq a b ≡ t → P (nat_eq a b)
  by true e = rw e (touch (eqb-true a b e))
  by false e = rw e (apart (eqb-false a b e))

-- ---- they rise

before_rises : (low : ℕ) (s : Span) (ranges : List Span) → low ≤ s.start → s.start < s.end → RiseFrom s.end ranges → RiseFrom low (before_ranges s ranges)
before_rises low s [] above some rise = (above, some, tt)
before_rises low s (r ∷ ranges) above some rise = by_touch s.end r.start
    (λ t. RiseFrom low (if t then span s.start r.end ∷ ranges else s ∷ r ∷ ranges))
    (λ touch. (above, omega (arith, touch, some, rise.1), rise.2))
    (λ apart. (above, some, (omega (arith, apart, rise.0), rise.1, rise.2)))

-- those after a range that ends before a span, or where it starts, lie behind it, where they don't meet it
behind_span : (low : ℕ) (s : Span) (ranges : List Span) → RiseFrom low ranges → s.start < low → meets_any s ranges ≡ false → RiseFrom s.end ranges
behind_span low s [] rise below none = tt
behind_span low s (r ∷ ranges) rise below none = by (apart_of r s (or_parts (meets r s) (meets_any s ranges) none).0) where
  by : IsApart r s → RiseFrom s.end (r ∷ ranges)
  by (inl ahead) = absurd (omega (arith, ahead, rise.0, rise.1, below))
  by (inr behind) = (behind, rise.1, rise.2)

among_rises : (low : ℕ) (s : Span) (ranges : List Span) → low ≤ s.start → s.start < s.end → RiseFrom low ranges → meets_any s ranges ≡ false
    → ((d : Span) → 0 < length ranges → s.start ≤ (get_or ranges 0 d).end) → RiseFrom low (among_ranges s ranges)
among_rises low s [] above some rise none reach = (above, some, tt)
among_rises low s (r ∷ ranges) above some rise none reach = by_touch r.end s.start
    (λ t. RiseFrom low (if t then before_ranges (span r.start s.end) ranges else before_ranges s (r ∷ ranges)))
    (λ touch. before_rises low (span r.start s.end) ranges rise.0 (omega (arith, rise.1, touch, some)) (behind_span (r.end + 1) s ranges rise.2 (omega (arith, touch)) rest))
    (λ apart. before_rises low s (r ∷ ranges) above some (ahead (apart_of r s (or_parts (meets r s) (meets_any s ranges) none).0) apart))
  where
    rest : meets_any s ranges ≡ false
    rest = (or_parts (meets r s) (meets_any s ranges) none).1

    ahead : IsApart r s → (r.end ≡ s.start → ⊥) → RiseFrom s.end (r ∷ ranges)
    ahead (inl e) apart = absurd (omega (arith, e, apart, reach r (omega arith)))
    ahead (inr e) apart = (e, rise.1, rise.2)

pub with_rises : (low : ℕ) (s : Span) (ranges : List Span) → low ≤ s.start → s.start < s.end → RiseFrom low ranges → meets_any s ranges ≡ false
    → RiseFrom low (with_span s ranges)
with_rises low s [] above some rise none = (above, some, tt)
with_rises low s (r ∷ ranges) above some rise none =
    by (nat_lt r.end s.start) refl (λ behind. with_rises (r.end + 1) s ranges behind some rise.2 (or_parts (meets r s) (meets_any s ranges) none).1)
  where
    by : (b : Bool) → nat_lt r.end s.start ≡ b → (r.end + 1 ≤ s.start → RiseFrom (r.end + 1) (with_span s ranges)) → RiseFrom low (with_span s (r ∷ ranges))
    by true e more = rw e (rise.0, rise.1, more (omega (arith, ltb-true r.end s.start e)))
    by false e more = rw e (among_rises low s (r ∷ ranges) above some rise none (λ d inside. ltb-false r.end s.start e))

-- ---- they have the units of both

-- each ends at or behind its start
abbrev pub HaveEnds : List Span → Type 0
HaveEnds [] = Unit {0}
HaveEnds (s ∷ spans) = (s.start ≤ s.end) × HaveEnds spans

ends_of : (low : ℕ) (ranges : List Span) → RiseFrom low ranges → HaveEnds ranges
ends_of low [] rise = tt
ends_of low (r ∷ ranges) rise = (omega (arith, rise.1), ends_of (r.end + 1) ranges rise.2)

-- two spans, one of which begins where the other ends, have the units of one
joined_unit : (unit a b c : ℕ) → a ≤ b → b ≤ c → has_unit unit (span a c) ≡ (has_unit unit (span a b) || has_unit unit (span b c))
joined_unit unit a b c low high = grind (arith, nat_tests)

or_assoc : (a b c : Bool) → ((a || b) || c) ≡ (a || (b || c))
or_assoc true b c = refl
or_assoc false b c = refl

or_swap : (a b c : Bool) → (a || (b || c)) ≡ (b || (a || c))
or_swap true true c = refl
or_swap true false c = refl
or_swap false true c = refl
or_swap false false c = refl

or_turn : (a b : Bool) → (a || b) ≡ (b || a)
or_turn true true = refl
or_turn true false = refl
or_turn false true = refl
or_turn false false = refl

-- one span for two, at the head of a list
joined_units : (unit a b c : ℕ) (ranges : List Span) → a ≤ b → b ≤ c
    → is_claimed (span a c ∷ ranges) unit ≡ is_claimed (span a b ∷ span b c ∷ ranges) unit
joined_units unit a b c ranges low high =
    ap (λ t. t || is_claimed ranges unit) (joined_unit unit a b c low high)
    ∙ or_assoc (has_unit unit (span a b)) (has_unit unit (span b c)) (is_claimed ranges unit)

before_units : (s : Span) (ranges : List Span) (unit : ℕ) → s.start < s.end → HaveEnds ranges → is_claimed (before_ranges s ranges) unit ≡ is_claimed (s ∷ ranges) unit
before_units s [] unit some all = refl
before_units s (r ∷ ranges) unit some all = by_touch s.end r.start
    (λ t. is_claimed (if t then span s.start r.end ∷ ranges else s ∷ r ∷ ranges) unit ≡ is_claimed (s ∷ r ∷ ranges) unit)
    (λ touch.
    joined_units unit s.start s.end r.end ranges (omega (arith, some)) (omega (arith, touch, all.0))
    ∙ ap (λ n. is_claimed (s ∷ span n r.end ∷ ranges) unit) touch)
    (λ apart. refl)

among_units : (s : Span) (ranges : List Span) (unit : ℕ) → s.start < s.end → HaveEnds ranges → is_claimed (among_ranges s ranges) unit ≡ is_claimed (s ∷ ranges) unit
among_units s [] unit some all = refl
among_units s (r ∷ ranges) unit some all = by_touch r.end s.start
    (λ t. is_claimed (if t then before_ranges (span r.start s.end) ranges else before_ranges s (r ∷ ranges)) unit ≡ is_claimed (s ∷ r ∷ ranges) unit)
    (λ touch.
    before_units (span r.start s.end) ranges unit (omega (arith, all.0, touch, some)) all.1
    ∙ joined_units unit r.start r.end s.end ranges all.0 (omega (arith, touch, some))
    ∙ ap (λ n. is_claimed (r ∷ span n s.end ∷ ranges) unit) touch
    ∙ or_swap (has_unit unit r) (has_unit unit s) (is_claimed ranges unit))
    (λ apart. before_units s (r ∷ ranges) unit some all)

pub with_units : (s : Span) (ranges : List Span) (unit : ℕ) → s.start < s.end → HaveEnds ranges → is_claimed (with_span s ranges) unit ≡ is_claimed (s ∷ ranges) unit
with_units s [] unit some all = refl
with_units s (r ∷ ranges) unit some all = by (nat_lt r.end s.start) refl (with_units s ranges unit some all.1) where
  by : (b : Bool) → nat_lt r.end s.start ≡ b → is_claimed (with_span s ranges) unit ≡ is_claimed (s ∷ ranges) unit
      → is_claimed (with_span s (r ∷ ranges)) unit ≡ is_claimed (s ∷ r ∷ ranges) unit
  by true e more = rw e (ap (λ t. has_unit unit r || t) more
      ∙ or_swap (has_unit unit r) (has_unit unit s) (is_claimed ranges unit))
  by false e more = rw e (among_units s (r ∷ ranges) unit some all)

-- the merged ranges of claims and of one more that meets none of them
pub merged_more : (claims ranges : List Span) (s : Span) → AreMerged claims ranges → s.start < s.end → meets_any s ranges ≡ false
    → AreMerged (claims ++ s ∷ []) (with_span s ranges)
merged_more claims ranges s merged some none = record {
  rising = with_rises 0 s ranges (omega arith) some merged.rising none;
  same = λ unit.
      with_units s ranges unit some (ends_of 0 ranges merged.rising)
      ∙ ap (λ t. has_unit unit s || t) (merged.same unit)
      ∙ or_turn (has_unit unit s) (is_claimed claims unit)
      ∙ ap (λ t. is_claimed claims unit || t) (sym (or_turn (has_unit unit s) false))
      ∙ sym (list_any-append (has_unit unit) claims (s ∷ []));
}

-- ranges are those of themselves
pub merged_self : (ranges : List Span) → RiseFrom 0 ranges → AreMerged ranges ranges
merged_self ranges rise = record { rising = rise; same = λ unit. refl }

-- the ranges of ranges with a span are those of the claims with it
pub merged_through : (claims ranges next : List Span) (s : Span) → AreMerged claims ranges → AreMerged (ranges ++ s ∷ []) next → AreMerged (claims ++ s ∷ []) next
merged_through claims ranges next s merged more = record {
  rising = more.rising;
  same = λ unit.
      more.same unit
      ∙ list_any-append (has_unit unit) ranges (s ∷ [])
      ∙ ap (λ t. t || is_claimed (s ∷ []) unit) (merged.same unit)
      ∙ sym (list_any-append (has_unit unit) claims (s ∷ []));
}

-- ---- how many units and how many ranges

-- how many units spans have, each counted by itself
abbrev pub units_of : List Span → ℕ
units_of spans = sum_by (λ s. s.end - s.start) spans

before_count : (s : Span) (ranges : List Span) → s.start < s.end → HaveEnds ranges → units_of (before_ranges s ranges) ≡ (s.end - s.start) + units_of ranges
before_count s [] some all = sum_by-cons (λ (c : Span). c.end - c.start) s []
before_count s (r ∷ ranges) some all = by_touch s.end r.start
    (λ t. units_of (if t then span s.start r.end ∷ ranges else s ∷ r ∷ ranges) ≡ (s.end - s.start) + units_of (r ∷ ranges))
    (λ touch. omega (
      arith,
      some,
      all.0,
      touch,
      sum_by-cons (λ (c : Span). c.end - c.start) (span s.start r.end) ranges,
      sum_by-cons (λ (c : Span). c.end - c.start) r ranges,
    ))
    (λ apart. sum_by-cons (λ (c : Span). c.end - c.start) s (r ∷ ranges))

among_count : (s : Span) (ranges : List Span) → s.start < s.end → HaveEnds ranges → units_of (among_ranges s ranges) ≡ (s.end - s.start) + units_of ranges
among_count s [] some all = sum_by-cons (λ (c : Span). c.end - c.start) s []
among_count s (r ∷ ranges) some all = by_touch r.end s.start
    (λ t. units_of (if t then before_ranges (span r.start s.end) ranges else before_ranges s (r ∷ ranges)) ≡ (s.end - s.start) + units_of (r ∷ ranges))
    (λ touch. omega (
      arith,
      some,
      all.0,
      touch,
      before_count (span r.start s.end) ranges (omega (arith, all.0, touch, some)) all.1,
      sum_by-cons (λ (c : Span). c.end - c.start) r ranges,
    ))
    (λ apart. before_count s (r ∷ ranges) some all)

pub with_count : (s : Span) (ranges : List Span) → s.start < s.end → HaveEnds ranges → units_of (with_span s ranges) ≡ (s.end - s.start) + units_of ranges
with_count s [] some all = sum_by-cons (λ (c : Span). c.end - c.start) s []
with_count s (r ∷ ranges) some all = by (nat_lt r.end s.start) refl (with_count s ranges some all.1) where
  by : (b : Bool) → nat_lt r.end s.start ≡ b → units_of (with_span s ranges) ≡ (s.end - s.start) + units_of ranges
      → units_of (with_span s (r ∷ ranges)) ≡ (s.end - s.start) + units_of (r ∷ ranges)
  by true e more = rw e (omega (
    arith,
    more,
    sum_by-cons (λ (c : Span). c.end - c.start) r (with_span s ranges),
    sum_by-cons (λ (c : Span). c.end - c.start) r ranges,
  ))
  by false e more = rw e (among_count s (r ∷ ranges) some all)

pub with_units_count : (s : Span) (ranges : List Span) → s.start < s.end → RiseFrom 0 ranges → units_of (with_span s ranges) ≡ (s.end - s.start) + units_of ranges
with_units_count s ranges some rise = with_count s ranges some (ends_of 0 ranges rise)

-- one range more at most
before_length : (s : Span) (ranges : List Span) → length (before_ranges s ranges) ≤ length ranges + 1
before_length s [] = omega arith
before_length s (r ∷ ranges) = by_touch s.end r.start (λ t. length (if t then span s.start r.end ∷ ranges else s ∷ r ∷ ranges) ≤ length (r ∷ ranges) + 1)
    (λ touch. omega arith) (λ apart. omega arith)

among_length : (s : Span) (ranges : List Span) → length (among_ranges s ranges) ≤ length ranges + 1
among_length s [] = omega arith
among_length s (r ∷ ranges) = by_touch r.end s.start
    (λ t. length (if t then before_ranges (span r.start s.end) ranges else before_ranges s (r ∷ ranges)) ≤ length (r ∷ ranges) + 1)
    (λ touch. omega (arith, before_length (span r.start s.end) ranges)) (λ apart. before_length s (r ∷ ranges))

pub with_length : (s : Span) (ranges : List Span) → length (with_span s ranges) ≤ length ranges + 1
with_length s [] = omega arith
with_length s (r ∷ ranges) = by (nat_lt r.end s.start) refl (with_length s ranges) where
  by : (b : Bool) → nat_lt r.end s.start ≡ b → length (with_span s ranges) ≤ length ranges + 1 → length (with_span s (r ∷ ranges)) ≤ length (r ∷ ranges) + 1
  by true e more = rw e (omega (arith, more))
  by false e more = rw e (among_length s (r ∷ ranges))

-- ranges up to a total have no more units than it
pub few_units : (low total : ℕ) (ranges : List Span) → RiseFrom low ranges → All (λ s. (s.start < s.end) × (s.end ≤ total)) ranges
    → low + units_of ranges ≤ max low total
few_units low total [] rise all = omega arith
few_units low total (r ∷ ranges) rise all =
    omega (
      arith,
      rise.0,
      rise.1,
      (all 0 r (omega arith)).1,
      sum_by-cons (λ (c : Span). c.end - c.start) r ranges,
      few_units (r.end + 1) total ranges rise.2 (λ k d below. all (suc k) d (omega (arith, below))),
    )

-- ---- where a span goes

-- behind ranges that end before it begins
pub with_behind : (s : Span) (front back : List Span) → All (λ r. r.end < s.start) front → with_span s (front ++ back) ≡ front ++ with_span s back
with_behind s [] back all = refl
with_behind s (r ∷ front) back all =
    let here : nat_lt r.end s.start ≡ true = lt-ltb r.end s.start (all 0 r (omega arith)) in
    rw here (ap (λ l. r ∷ l) (with_behind s front back (λ k d below. all (suc k) d (omega (arith, below)))))

pub with_among : (s : Span) (ranges : List Span) → ((d : Span) → 0 < length ranges → s.start ≤ (get_or ranges 0 d).end) → with_span s ranges ≡ among_ranges s ranges
with_among s [] reach = refl
with_among s (r ∷ ranges) reach = let here : nat_lt r.end s.start ≡ false = le-ltb r.end s.start (reach r (omega arith)) in rw here refl
