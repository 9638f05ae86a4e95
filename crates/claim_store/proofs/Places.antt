-- Where a span stands among ranges.
use Rattle.std.proofs.Common.{◌≡◌, ℕ, zero, suc, ◌+◌, ◌-◌, ◌<◌, ◌≤◌, true, false, Some, None, List, [], ◌∷◌, ◌++◌, length, get_or, take, drop, set, nat_eq, refl, ap, sym, ◌∙◌, subst, arith}
use Rattle.std.specs.List.Sorted.{IsNonDecreasingBy}
use Rattle.std.proofs.lemmas.Bool.{eq-eqb, ne_eqb}
use Rattle.std.proofs.lemmas.Bool.Decides.{nat_tests}
use Rattle.std.proofs.lemmas.List.{drop_more, get_or-drop, get_or-take, length-drop, length-take-le, set_split, take-append-drop}
use Rattle.zk_model.specs.declared.Span.{Span}
use Rattle.claim_store.specs.ClaimedRanges.{RiseFrom}
use Rattle.lease_core.specs.Spans.{meets, span}
use Rattle.claim_store.specs.Claims.{first_met}
use Rattle.claim_store.specs.Ranges.{IsPlaceAmong, among_ranges, before_ranges, with_span}
use Rattle.claim_store.proofs.Joining.{with_among, with_behind}
use Rattle.claim_store.proofs.Units.{at_or_above, rising_have_units}

-- the ends of ranges rise, each above the start of the next
pub ends_rise : (low : ℕ) (ranges : List Span) → RiseFrom low ranges → IsNonDecreasingBy (λ (s : Span). s.end) ranges
ends_rise low [] rise i j d order inside = absurd (omega (arith, inside))
ends_rise low (r ∷ ranges) rise zero zero d order inside = omega arith
ends_rise low (r ∷ ranges) rise zero (suc j) d order inside =
    omega (arith, at_or_above (r.end + 1) ranges rise.2 j d (omega (arith, inside)), rising_have_units (r.end + 1) ranges rise.2 j d (omega (arith, inside)))
ends_rise low (r ∷ ranges) rise (suc i) zero d order inside = absurd (omega (arith, order))
ends_rise low (r ∷ ranges) rise (suc i) (suc j) d order inside = ends_rise (r.end + 1) ranges rise.2 i j d (omega (arith, order)) (omega (arith, inside))

pub ends_before : (low : ℕ) (ranges : List Span) → RiseFrom low ranges → (i j : ℕ) (d : Span) → i < j → j < length ranges → (get_or ranges i d).end < (get_or ranges j d).start
ends_before low [] rise i j d order inside = absurd (omega (arith, inside))
ends_before low (r ∷ ranges) rise zero zero d order inside = absurd (omega (arith, order))
ends_before low (r ∷ ranges) rise zero (suc j) d order inside = omega (arith, at_or_above (r.end + 1) ranges rise.2 j d (omega (arith, inside)))
ends_before low (r ∷ ranges) rise (suc i) zero d order inside = absurd (omega (arith, order))
ends_before low (r ∷ ranges) rise (suc i) (suc j) d order inside = ends_before (r.end + 1) ranges rise.2 i j d (omega (arith, order)) (omega (arith, inside))

-- ---- the first that is met

not_met : (r s : Span) → r.end ≤ s.start → meets r s ≡ false
not_met r s before = grind (arith, nat_tests)

not_met_behind : (r s : Span) → s.end ≤ r.start → meets r s ≡ false
not_met_behind r s behind = grind (arith, nat_tests)

met : (r s : Span) → s.start < r.end → r.start < s.end → meets r s ≡ true
met r s one other = grind (arith, nat_tests)

-- ranges that end before it are not met
pub met_skip : (s : Span) (ranges : List Span) (at : ℕ) → ((k : ℕ) (d : Span) → k < at → (get_or ranges k d).end ≤ s.start) → first_met s ranges ≡ first_met s (drop at ranges)
met_skip s ranges zero before = refl
met_skip s [] (suc at) before = refl
met_skip s (r ∷ ranges) (suc at) before =
    let here : meets r s ≡ false = not_met r s (before 0 r (omega arith)) in
    rw here (met_skip s ranges at (λ k d below. before (suc k) d (omega (arith, below))))

met_none : (s : Span) (low : ℕ) (ranges : List Span) → RiseFrom low ranges → s.end ≤ low → first_met s ranges ≡ None
met_none s low [] rise below = refl
met_none s low (r ∷ ranges) rise below =
    let here : meets r s ≡ false = not_met_behind r s (omega (arith, rise.0, below)) in
    rw here (met_none s (r.end + 1) ranges rise.2 (omega (arith, rise.0, rise.1, below)))

rising_drop : (low : ℕ) (ranges : List Span) (at : ℕ) (d : Span) → RiseFrom low ranges → at < length ranges → RiseFrom (get_or ranges at d).start (drop at ranges)
rising_drop low [] at d rise inside = absurd (omega (arith, inside))
rising_drop low (r ∷ ranges) zero d rise inside = (omega arith, rise.1, rise.2)
rising_drop low (r ∷ ranges) (suc at) d rise inside = rising_drop (r.end + 1) ranges at d rise.2 (omega (arith, inside))

pub met_found : (s : Span) (ranges : List Span) (at : ℕ) (d : Span) → ((k : ℕ) (d : Span) → k < at → (get_or ranges k d).end ≤ s.start) → at < length ranges
    → s.start < (get_or ranges at d).end → (get_or ranges at d).start < s.end → first_met s ranges ≡ Some (get_or ranges at d)
met_found s ranges at d before inside one other =
    let here : meets (get_or ranges at d) s ≡ true = met (get_or ranges at d) s one other in
    met_skip s ranges at before ∙ ap (first_met s) (drop_more ranges at d inside) ∙ rw here refl

pub met_not : (s : Span) (ranges : List Span) (at : ℕ) (d : Span) → RiseFrom 0 ranges → ((k : ℕ) (d : Span) → k < at → (get_or ranges k d).end ≤ s.start) → at < length ranges
    → s.end ≤ (get_or ranges at d).start → first_met s ranges ≡ None
met_not s ranges at d rise before inside behind =
    met_skip s ranges at before ∙ met_none s (get_or ranges at d).start (drop at ranges) (rising_drop 0 ranges at d rise inside) behind

pub met_no_more : (s : Span) (ranges : List Span) (at : ℕ) → ((k : ℕ) (d : Span) → k < at → (get_or ranges k d).end ≤ s.start) → length ranges ≤ at → first_met s ranges ≡ None
met_no_more s ranges at before past = met_skip s ranges at before ∙ ap (first_met s) (none_left ranges at past) where
  none_left : (ranges : List Span) (at : ℕ) → length ranges ≤ at → drop at ranges ≡ []
  none_left [] zero past = refl
  none_left [] (suc at) past = refl
  none_left (r ∷ ranges) zero past = absurd (omega (arith, past))
  none_left (r ∷ ranges) (suc at) past = none_left ranges at (omega (arith, past))

-- ---- those that touch it

-- it stands at the place up to which ranges end at or before its start
pub is_place : (s : Span) (ranges : List Span) (at : ℕ) → at ≤ length ranges → ((k : ℕ) (d : Span) → k < at → (get_or ranges k d).end ≤ s.start)
    → ((k : ℕ) (d : Span) → at ≤ k → k < length ranges → s.start < (get_or ranges k d).end) → IsPlaceAmong s ranges at
is_place s ranges at within before behind = record { within = within; before = before; behind = behind }

-- the front of the ranges up to a place at which one ends at or behind the start
split_at : (s : Span) (ranges : List Span) (at : ℕ) → at ≤ length ranges → ((k : ℕ) (d : Span) → k < at → (get_or ranges k d).end < s.start)
    → ((d : Span) → at < length ranges → s.start ≤ (get_or ranges at d).end) → with_span s ranges ≡ take at ranges ++ among_ranges s (drop at ranges)
split_at s ranges at within before reach =
    ap (with_span s) (sym (take-append-drop at ranges))
    ∙ with_behind s (take at ranges) (drop at ranges) (λ k d below.
    let low : k < at = omega (arith, below, length-take-le at ranges within) in
    subst (λ (r : Span). r.end < s.start) (sym (get_or-take at ranges k d low)) (before k d low))
    ∙ ap (λ l. take at ranges ++ l) (with_among s (drop at ranges) (λ d some.
    subst (λ (r : Span). s.start ≤ r.end) (sym (get_or-drop at ranges 0 d)) (reach_there d some)))
  where
    itself : (n : ℕ) → n ≡ n + 0
    itself n = omega arith

    reach_there : (d : Span) → 0 < length (drop at ranges) → s.start ≤ (get_or ranges (at + 0) d).end
    reach_there d some = subst (λ n. s.start ≤ (get_or ranges n d).end) (itself at) (reach d (omega (arith, some, length-drop at ranges)))

get_any : (l : List Span) (k : ℕ) (a b : Span) → k < length l → get_or l k a ≡ get_or l k b
get_any [] k a b inside = absurd (omega arith)
get_any (x ∷ l) zero a b inside = refl
get_any (x ∷ l) (suc k) a b inside = get_any l k a b (omega (arith, inside))

-- where the last before the place doesn't end at the start, all end before it
pub apart_before : (s : Span) (ranges : List Span) (at : ℕ) (d : Span) → RiseFrom 0 ranges → IsPlaceAmong s ranges at
    → ((get_or ranges (at - 1) d).end ≡ s.start → ⊥) → (k : ℕ) (e : Span) → k < at → (get_or ranges k e).end < s.start
apart_before s ranges at d rise place apart k e below =
    let inside : at - 1 < length ranges = omega (arith, below, place.within) in
    let last : (get_or ranges (at - 1) e).end ≤ s.start = place.before (at - 1) e (omega (arith, below)) in
    let other : (get_or ranges (at - 1) e).end ≡ (get_or ranges (at - 1) d).end = ap (λ (r : Span). r.end) (get_any ranges (at - 1) e d inside) in
    let rises : (get_or ranges k e).end ≤ (get_or ranges (at - 1) e).end = ends_rise 0 ranges rise k (at - 1) e (omega (arith, below)) inside in
    let less : (get_or ranges (at - 1) e).end < s.start = strict last (λ same. apart (sym other ∙ same)) in
    omega (arith, rises, less)
  where
    strict : {a b : ℕ} → a ≤ b → (a ≡ b → ⊥) → a < b
    strict le ne = omega (arith, le, ne)

-- one that ends where the span starts
pub touches_before : (s : Span) (ranges : List Span) (at last : ℕ) (d : Span) → RiseFrom 0 ranges → s.start < s.end → IsPlaceAmong s ranges at → last + 1 ≡ at → (get_or ranges last d).end ≡ s.start
    → with_span s ranges ≡ take last ranges ++ before_ranges (span (get_or ranges last d).start s.end) (drop at ranges)
touches_before s ranges at last d rise some place is touch =
    let inside : last < length ranges = omega (arith, place.within, is) in
    let here : nat_eq (get_or ranges last d).end s.start ≡ true = eq-eqb (get_or ranges last d).end s.start touch in
    split_at s ranges last (omega (arith, inside)) (earlier inside) (λ e more. place_end e inside)
    ∙ ap (λ l. take last ranges ++ among_ranges s l) (drop_more ranges last d inside)
    ∙ ap (λ n. take last ranges ++ among_ranges s (get_or ranges last d ∷ drop n ranges)) is
    ∙ rw here refl
  where
    same_at : (e : Span) → last < length ranges → get_or ranges last e ≡ get_or ranges last d
    same_at e inside = get_any ranges last e d inside

    place_end : (e : Span) → last < length ranges → s.start ≤ (get_or ranges last e).end
    place_end e inside = subst (λ (r : Span). s.start ≤ r.end) (sym (same_at e inside)) (omega (arith, touch))

    earlier : last < length ranges → (k : ℕ) (e : Span) → k < last → (get_or ranges k e).end < s.start
    earlier inside k e below =
        let before = ends_before 0 ranges rise k last e below inside in
        let units = rising_have_units 0 ranges rise last e inside in
        omega (arith, before, units, ap (λ (r : Span). r.end) (same_at e inside), touch)

-- none does
pub none_before : (s : Span) (ranges : List Span) (at : ℕ) → s.start < s.end → IsPlaceAmong s ranges at
    → ((k : ℕ) (d : Span) → k < at → (get_or ranges k d).end < s.start) → with_span s ranges ≡ take at ranges ++ before_ranges s (drop at ranges)
none_before s ranges at some place apart =
    split_at s ranges at place.within apart (λ d inside. omega (arith, place.behind at d (omega arith) inside))
    ∙ ap (λ l. take at ranges ++ l) (no_touch (drop at ranges) (λ d more.
    subst (λ (r : Span). s.start < r.end) (sym (get_or-drop at ranges 0 d)) (there d more)))
  where
    there : (d : Span) → 0 < length (drop at ranges) → s.start < (get_or ranges (at + 0) d).end
    there d more = place.behind (at + 0) d (omega arith) (omega (arith, more, length-drop at ranges))

    no_touch : (l : List Span) → ((d : Span) → 0 < length l → s.start < (get_or l 0 d).end) → among_ranges s l ≡ before_ranges s l
    no_touch [] after = refl
    no_touch (r ∷ l) after =
        let here : nat_eq r.end s.start ≡ false = ne_eqb r.end s.start (λ e. omega (arith, e, after r (omega arith))) in
        rw here refl

-- one that starts where the span ends, or none
pub touches_behind : (t : Span) (ranges : List Span) (at : ℕ) (d : Span) → at < length ranges → (get_or ranges at d).start ≡ t.end
    → before_ranges t (drop at ranges) ≡ span t.start (get_or ranges at d).end ∷ drop (at + 1) ranges
touches_behind t ranges at d inside touch =
    let here : nat_eq t.end (get_or ranges at d).start ≡ true = eq-eqb t.end (get_or ranges at d).start (sym touch) in
    ap (before_ranges t) (drop_more ranges at d inside) ∙ rw here refl

pub none_behind : (t : Span) (ranges : List Span) (at : ℕ) (d : Span) → at < length ranges → ((get_or ranges at d).start ≡ t.end → ⊥)
    → before_ranges t (drop at ranges) ≡ t ∷ drop at ranges
none_behind t ranges at d inside apart =
    let here : nat_eq t.end (get_or ranges at d).start ≡ false = ne_eqb t.end (get_or ranges at d).start (λ e. apart (sym e)) in
    ap (before_ranges t) (drop_more ranges at d inside) ∙ rw here refl ∙ ap (λ l. t ∷ l) (sym (drop_more ranges at d inside))

pub no_more_behind : (t : Span) (ranges : List Span) (at : ℕ) → length ranges ≤ at → before_ranges t (drop at ranges) ≡ t ∷ drop at ranges
no_more_behind t ranges zero past = empty ranges past where
  empty : (l : List Span) → length l ≤ 0 → before_ranges t l ≡ t ∷ l
  empty [] none = refl
  empty (r ∷ l) none = absurd (omega (arith, none))
no_more_behind t [] (suc at) past = refl
no_more_behind t (r ∷ ranges) (suc at) past = no_more_behind t ranges at (omega (arith, past))

-- ---- in place

-- one range in place of another
pub one_joined : (ranges : List Span) (at : ℕ) (s : Span) → at < length ranges → set ranges at s ≡ take at ranges ++ s ∷ drop (at + 1) ranges
one_joined ranges at s inside = set_split ranges at s inside ∙ ap (λ n. take at ranges ++ s ∷ drop n ranges) (next at) where
  next : (n : ℕ) → suc n ≡ n + 1
  next n = omega arith

-- one range in place of two
pub two_joined : (ranges : List Span) (at : ℕ) (s : Span) → at < length ranges → take (suc at) (set ranges at s) ++ drop (suc (suc at)) (set ranges at s) ≡ take at ranges ++ s ∷ drop (suc (suc at)) ranges
two_joined [] at s inside = absurd (omega (arith, inside))
two_joined (r ∷ ranges) zero s inside = refl
two_joined (r ∷ ranges) (suc at) s inside = ap (λ l. r ∷ l) (two_joined ranges at s (omega (arith, inside)))
