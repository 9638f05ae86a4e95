-- Units of spans, and spans that have one in common.
use Rattle.std.proofs.Common.{◌≡◌, ℕ, zero, suc, ◌+◌, ◌<◌, ◌≤◌, ◌⊎◌, inl, inr, ⊎_elim, Bool, true, false, ◌||◌, List, [], ◌∷◌, length, get_or, All, refl, ap, sym, ◌∙◌, subst, arith}
use Rattle.std.proofs.lemmas.Bool.{or_cases, or_left, or_right, true≢false, cases_lt}
use Rattle.std.proofs.lemmas.List.Folds.{list_any_at}
use Rattle.std.proofs.lemmas.Bool.Decides.{nat_tests}
use Rattle.zk_model.specs.declared.Span.{Span}
use Rattle.claim_store.specs.ClaimedRanges.{AreMerged, RiseFrom, has_unit, is_claimed}
use Rattle.lease_core.specs.Spans.{AreApart, meets, meets_any, span}
use Rattle.claim_store.specs.Claims.{AreClaims}

-- each has a unit
abbrev pub HaveUnits : List Span → Type 0
HaveUnits spans = All (λ s. s.start < s.end) spans

pub have_units_rest : (s : Span) (spans : List Span) → HaveUnits (s ∷ spans) → HaveUnits spans
have_units_rest s spans all k d below = all (suc k) d (omega (arith, below))

pub rising_have_units : (low : ℕ) (ranges : List Span) → RiseFrom low ranges → HaveUnits ranges
rising_have_units low [] rise k d below = absurd (omega arith)
rising_have_units low (r ∷ ranges) rise zero d below = rise.1
rising_have_units low (r ∷ ranges) rise (suc k) d below = rising_have_units (r.end + 1) ranges rise.2 k d (omega (arith, below))

-- a unit is between the ends of its span
pub unit_within : (unit : ℕ) (s : Span) → has_unit unit s ≡ true → (s.start ≤ unit) × (unit < s.end)
unit_within unit s has = grind (arith, nat_tests)

pub within_unit : (unit : ℕ) (s : Span) → s.start ≤ unit → unit < s.end → has_unit unit s ≡ true
within_unit unit s low high = grind (arith, nat_tests)

-- ---- spans that meet

meets_from : (r s : Span) (unit : ℕ) → has_unit unit r ≡ true → has_unit unit s ≡ true → meets r s ≡ true
meets_from r s unit one other = grind (arith, nat_tests)

-- a unit of a span and of one of these: they meet
pub unit_met : (s : Span) (spans : List Span) (unit : ℕ) → has_unit unit s ≡ true → is_claimed spans unit ≡ true → meets_any s spans ≡ true
unit_met s [] unit has claimed = absurd (cc)
unit_met s (r ∷ spans) unit has claimed = ⊎_elim
    (λ here. or_left (meets r s) (meets_any s spans) (meets_from r s unit here has))
    (λ later. or_right (meets r s) (meets_any s spans) (unit_met s spans unit has later))
    (or_cases (has_unit unit r) (is_claimed spans unit) claimed)

-- a unit that a span has in common with one of these
pub record CommonUnit (s : Span) (spans : List Span) : Type 0 where
  pub unit : ℕ
  pub has : has_unit unit s ≡ true
  pub claimed : is_claimed spans unit ≡ true

first_common : (r s : Span) → r.start < r.end → s.start < s.end → meets r s ≡ true → (unit : ℕ) × (has_unit unit s ≡ true) × (has_unit unit r ≡ true)
first_common r s one other met = by (cases_lt r.start s.start) where
  by : ((r.start < s.start) ⊎ (s.start ≤ r.start)) → (unit : ℕ) × (has_unit unit s ≡ true) × (has_unit unit r ≡ true)
  by (inl below) = (s.start, grind (arith, nat_tests), grind (arith, nat_tests))
  by (inr above) = (r.start, grind (arith, nat_tests), grind (arith, nat_tests))

pub met_unit : (s : Span) (spans : List Span) → s.start < s.end → HaveUnits spans → meets_any s spans ≡ true → CommonUnit s spans
met_unit s [] some all met = absurd (cc)
met_unit s (r ∷ spans) some all met = ⊎_elim
    (λ here.
    let common = first_common r s (all 0 r (omega arith)) some here in
    record { unit = common.0; has = common.1; claimed = or_left (has_unit common.0 r) (is_claimed spans common.0) common.2 })
    (λ later.
    let common = met_unit s spans some (have_units_rest r spans all) later in
    record { unit = common.unit; has = common.has; claimed = or_right (has_unit common.unit r) (is_claimed spans common.unit) common.claimed })
    (or_cases (meets r s) (meets_any s spans) met)

-- spans of the same units meet the same spans
pub same_met : (s : Span) (some others : List Span) → s.start < s.end → HaveUnits some → HaveUnits others
    → ((unit : ℕ) → is_claimed some unit ≡ is_claimed others unit) → meets_any s some ≡ meets_any s others
same_met s some others any all all_others same = by (meets_any s some) (meets_any s others) refl refl where
  by : (a b : Bool) → meets_any s some ≡ a → meets_any s others ≡ b → meets_any s some ≡ meets_any s others
  by true true one other = one ∙ sym other
  by false false one other = one ∙ sym other
  by true false one other =
      let common = met_unit s some any all one in
      absurd (true≢false (sym (unit_met s others common.unit common.has (sym (same common.unit) ∙ common.claimed)) ∙ other))
  by false true one other =
      let common = met_unit s others any all_others other in
      absurd (true≢false (sym (unit_met s some common.unit common.has (same common.unit ∙ common.claimed)) ∙ one))

-- ---- ranges

outside : (unit : ℕ) (s : Span) → ((unit < s.start) ⊎ (s.end ≤ unit)) → has_unit unit s ≡ false
outside unit s (inl below) = grind (arith, nat_tests)
outside unit s (inr above) = grind (arith, nat_tests)

-- a unit below them is none of theirs
pub none_below : (low : ℕ) (ranges : List Span) (unit : ℕ) → RiseFrom low ranges → unit < low → is_claimed ranges unit ≡ false
none_below low [] unit rise below = refl
none_below low (r ∷ ranges) unit rise below =
    let rest : is_claimed ranges unit ≡ false = none_below (r.end + 1) ranges unit rise.2 (omega (arith, rise.0, rise.1, below)) in
    let first : has_unit unit r ≡ false = outside unit r (inl (omega (arith, rise.0, below))) in
    rw (first, rest) refl

-- in the first range, or in a later one
cases_unit : (r : Span) (ranges : List Span) (unit : ℕ) → is_claimed (r ∷ ranges) unit ≡ true → (has_unit unit r ≡ true) ⊎ (is_claimed ranges unit ≡ true)
cases_unit r ranges unit claimed = or_cases (has_unit unit r) (is_claimed ranges unit) claimed

-- a unit of ranges that rise is at or above the bound
unit_above : (low : ℕ) (ranges : List Span) (unit : ℕ) → RiseFrom low ranges → is_claimed ranges unit ≡ true → low ≤ unit
unit_above low ranges unit rise claimed = by (cases_lt unit low) where
  by : ((unit < low) ⊎ (low ≤ unit)) → low ≤ unit
  by (inl below) = absurd (true≢false (sym claimed ∙ none_below low ranges unit rise below))
  by (inr above) = above

first_claimed : (low : ℕ) (r : Span) (ranges : List Span) → RiseFrom low (r ∷ ranges) → is_claimed (r ∷ ranges) r.start ≡ true
first_claimed low r ranges rise = or_left (has_unit r.start r) (is_claimed ranges r.start) (within_unit r.start r (omega arith) rise.1)

-- the unit behind the first range is none of theirs
end_free : (low : ℕ) (r : Span) (ranges : List Span) → RiseFrom low (r ∷ ranges) → is_claimed (r ∷ ranges) r.end ≡ false
end_free low r ranges rise = rw (outside r.end r (inr (omega arith)), none_below (r.end + 1) ranges r.end rise.2 (omega arith)) refl

-- Ranges of the same units begin at the same unit: the first unit of one is at or above the first range of the other.
starts_above : (low : ℕ) (r q : Span) (rs qs : List Span) → RiseFrom low (r ∷ rs) → RiseFrom low (q ∷ qs)
    → ((unit : ℕ) → is_claimed (r ∷ rs) unit ≡ is_claimed (q ∷ qs) unit) → q.start ≤ r.start
starts_above low r q rs qs rise other same =
    unit_above q.start (q ∷ qs) r.start (omega arith, other.1, other.2) (sym (same r.start) ∙ first_claimed low r rs rise)

-- and the first of each ends at the same unit
ends_above : (low : ℕ) (r q : Span) (rs qs : List Span) → RiseFrom low (r ∷ rs) → RiseFrom low (q ∷ qs)
    → ((unit : ℕ) → is_claimed (r ∷ rs) unit ≡ is_claimed (q ∷ qs) unit) → r.start ≡ q.start → q.end ≤ r.end
ends_above low r q rs qs rise other same starts = by (cases_lt r.end q.end) where
  by : ((r.end < q.end) ⊎ (q.end ≤ r.end)) → q.end ≤ r.end
  by (inl below) =
      let has : is_claimed (q ∷ qs) r.end ≡ true = or_left (has_unit r.end q) (is_claimed qs r.end) (within_unit r.end q (omega (arith, starts, rise.1)) below) in
      absurd (true≢false (sym (same r.end ∙ has) ∙ end_free low r rs rise))
  by (inr above) = above

same_span : (r q : Span) → r.start ≡ q.start → r.end ≡ q.end → r ≡ q
same_span r q starts ends = λ i. span (starts i) (ends i)

rest_same : (low : ℕ) (r : Span) (rs qs : List Span) → RiseFrom (r.end + 1) rs → RiseFrom (r.end + 1) qs
    → ((unit : ℕ) → is_claimed (r ∷ rs) unit ≡ is_claimed (r ∷ qs) unit) → (unit : ℕ) → is_claimed rs unit ≡ is_claimed qs unit
rest_same low r rs qs rise other same unit = by (cases_lt unit (r.end + 1)) where
  by : ((unit < r.end + 1) ⊎ (r.end + 1 ≤ unit)) → is_claimed rs unit ≡ is_claimed qs unit
  by (inl below) = none_below (r.end + 1) rs unit rise below ∙ sym (none_below (r.end + 1) qs unit other below)
  by (inr above) =
      let none : has_unit unit r ≡ false = outside unit r (inr (omega (arith, above))) in
      sym (ap (λ b. b || is_claimed rs unit) none) ∙ same unit ∙ ap (λ b. b || is_claimed qs unit) none

-- ranges of the same units are the same
pub ranges_one : (low : ℕ) (rs qs : List Span) → RiseFrom low rs → RiseFrom low qs → ((unit : ℕ) → is_claimed rs unit ≡ is_claimed qs unit) → rs ≡ qs
ranges_one low [] [] rise other same = refl
ranges_one low [] (q ∷ qs) rise other same = absurd (true≢false (sym (first_claimed low q qs other) ∙ sym (same q.start)))
ranges_one low (r ∷ rs) [] rise other same = absurd (true≢false (sym (first_claimed low r rs rise) ∙ same r.start))
ranges_one low (r ∷ rs) (q ∷ qs) rise other same =
    let back : (unit : ℕ) → is_claimed (q ∷ qs) unit ≡ is_claimed (r ∷ rs) unit = λ unit. sym (same unit) in
    let starts : r.start ≡ q.start = omega (arith, starts_above low r q rs qs rise other same, starts_above low q r qs rs other rise back) in
    let ends : r.end ≡ q.end = omega (arith, ends_above low r q rs qs rise other same starts, ends_above low q r qs rs other rise back (sym starts)) in
    let first : q ≡ r = sym (same_span r q starts ends) in
    let rest_rise : RiseFrom (r.end + 1) qs = subst (λ n. RiseFrom (n + 1) qs) (sym ends) other.2 in
    let same_rest : (unit : ℕ) → is_claimed (r ∷ rs) unit ≡ is_claimed (r ∷ qs) unit = subst (λ p. (unit : ℕ) → is_claimed (r ∷ rs) unit ≡ is_claimed (p ∷ qs) unit) first same in
    let rest : rs ≡ qs = ranges_one (r.end + 1) rs qs rise.2 rest_rise (rest_same low r rs qs rise.2 rest_rise same_rest) in
    ap (λ l. r ∷ l) rest ∙ ap (λ p. p ∷ qs) (sym first)

-- ---- claims

pub at_or_above : (low : ℕ) (ranges : List Span) → RiseFrom low ranges → (k : ℕ) (d : Span) → k < length ranges → low ≤ (get_or ranges k d).start
at_or_above low [] rise k d below = absurd (omega arith)
at_or_above low (r ∷ ranges) rise zero d below = rise.0
at_or_above low (r ∷ ranges) rise (suc k) d below =
    omega (arith, rise.0, rise.1, at_or_above (r.end + 1) ranges rise.2 k d (omega (arith, below)))

pub rising_apart : (low : ℕ) (ranges : List Span) → RiseFrom low ranges → AreApart ranges
rising_apart low [] rise i j d before inside = absurd (omega (arith, inside))
rising_apart low (r ∷ ranges) rise zero zero d before inside = absurd (omega (arith, before))
rising_apart low (r ∷ ranges) rise zero (suc j) d before inside =
    inl (omega (arith, at_or_above (r.end + 1) ranges rise.2 j d (omega (arith, inside))))
rising_apart low (r ∷ ranges) rise (suc i) zero d before inside = absurd (omega (arith, before))
rising_apart low (r ∷ ranges) rise (suc i) (suc j) d before inside =
    rising_apart (r.end + 1) ranges rise.2 i j d (omega (arith, before)) (omega (arith, inside))

-- the units of a span of these are claimed
unit_at : (spans : List Span) (k : ℕ) (d : Span) (unit : ℕ) → k < length spans → has_unit unit (get_or spans k d) ≡ true → is_claimed spans unit ≡ true
unit_at spans k d unit below has = list_any_at (has_unit unit) spans k d below has

-- units of spans up to a total are below it
unit_low : (total : ℕ) (spans : List Span) (unit : ℕ) → All (λ s. (s.start < s.end) × (s.end ≤ total)) spans → is_claimed spans unit ≡ true → unit < total
unit_low total [] unit all claimed = absurd (cc)
unit_low total (s ∷ spans) unit all claimed = ⊎_elim
    (λ here. omega (arith, (unit_within unit s here).1, (all 0 s (omega arith)).1))
    (λ later. unit_low total spans unit (λ k d below. all (suc k) d (omega (arith, below))) later)
    (or_cases (has_unit unit s) (is_claimed spans unit) claimed)

-- the ranges of claims are claims of the same total
pub merged_sound : (total : ℕ) (claims ranges : List Span) → AreClaims total claims → AreMerged claims ranges → AreClaims total ranges
merged_sound total claims ranges are merged = record {
  apart = rising_apart 0 ranges merged.rising;
  within = λ k d below.
      let some = rising_have_units 0 ranges merged.rising k d below in (
        some,
        ends_low (get_or ranges k d) some (λ unit has. unit_low total claims unit are.within (sym (merged.same unit) ∙ unit_at ranges k d unit below has)),
      );
}
  where
    ends_low : (s : Span) → s.start < s.end → ((unit : ℕ) → has_unit unit s ≡ true → unit < total) → s.end ≤ total
    ends_low s some low = by s.end refl where
      by : (end : ℕ) → s.end ≡ end → s.end ≤ total
      by zero is = absurd (omega (arith, some, is))
      by (suc last) is = omega (arith, low last (within_unit last s (omega (arith, some, is)) (omega (arith, is))), is)
