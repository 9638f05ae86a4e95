-- A pass that alone draws from its store draws in turn.
use Rattle.std.proofs.Common.{◌≡◌, ℕ, zero, suc, ◌+◌, ◌<◌, ◌≤◌, max, List, [], ◌∷◌, ◌++◌, length, get_or, All, refl, sym, ap, ◌∙◌, subst, arith}
use Rattle.std.specs.List.{AllPairs, flat_map}
use Rattle.std.proofs.lemmas.List.{append_assoc, append-nil}
use Rattle.std.proofs.lemmas.List.Sums.{sum_by-cons}
use Rattle.std.proofs.lemmas.List.Quantifiers.{all_pairs_push}
use Rattle.lease_words.specs.Calls.{AreGathered, RisesFrom, entries_of, greatest_end}
use Rattle.lease_words.specs.Views.{end_of, units_drawn}
use Rattle.lease_words.specs.declared.pass.Pass.{Pass}
use Rattle.lease_words.specs.declared.view.Entry.{Entry}
use Rattle.broker_node.specs.Steps.{AreRising, DrawsInTurn, TurnsAreSeen}

-- the first begins at or above a bound, and each other one at or after the end of the one before it
abbrev Chain : ℕ → List Entry → Type 0
Chain low [] = Unit {0}
Chain low (e ∷ es) = (low ≤ e.start) × Chain (end_of e) es

-- the end of the last, or the bound
abbrev end_from : ℕ → List Entry → ℕ
end_from low [] = low
end_from low (e ∷ es) = end_from (end_of e) es

rest_rising : (e : Entry) (es : List Entry) → AreRising (e ∷ es) → AreRising es
rest_rising e es r i j d less l = r (suc i) (suc j) d (omega (arith, less)) (omega (arith, l))

chained : (low : ℕ) (es : List Entry) → All (λ e. low ≤ e.start) es → AreRising es → Chain low es
chained low [] above r = tt
chained low (e ∷ es) above r =
    (above 0 e (omega arith), chained (end_of e) es (λ k d l. r 0 (suc k) d (omega arith) (omega (arith, l))) (rest_rising e es r))

low_end : (low : ℕ) (es : List Entry) → Chain low es → low + units_drawn es ≤ end_from low es
low_end low [] c = omega arith
low_end low (e ∷ es) c =
    let sum = sum_by-cons (λ (x : Entry). x.count) e es in let rest = low_end (end_of e) es c.1 in let first = c.0 in
    omega (arith, sum, rest, first)

above_low : (low : ℕ) (es : List Entry) → Chain low es → low ≤ end_from low es
above_low low es c = let more = low_end low es c in omega (arith, more)

-- the greatest end is that of the last
greatest_from : (low : ℕ) (es : List Entry) → Chain low es → (base : ℕ) → base ≤ low → max low (greatest_end base es) ≡ end_from low es
greatest_from low [] c base under = omega (arith, under)
greatest_from low (e ∷ es) c base under =
    let first = c.0 in
    let rest = greatest_from (end_of e) es c.1 base (omega (arith, under, first)) in
    let above = above_low (end_of e) es c.1 in
    omega (arith, rest, first, above)

-- where they count all units up to that end, the first of what follows begins where those before it end
tight : (low : ℕ) (before : List Entry) (e : Entry) (later : List Entry) → Chain low (before ++ e ∷ later) → low + units_drawn (before ++ e ∷ later) ≡ end_from low (before ++ e ∷ later)
    → end_from low before ≡ e.start
tight low [] e later c full =
    let sum = sum_by-cons (λ (x : Entry). x.count) e later in let rest = low_end (end_of e) later c.1 in let first = c.0 in
    omega (arith, sum, rest, first, full)
tight low (d ∷ before) e later c full =
    let sum = sum_by-cons (λ (x : Entry). x.count) d (before ++ e ∷ later) in let rest = low_end (end_of d) (before ++ e ∷ later) c.1 in let first = c.0 in
    tight (end_of d) before e later c.1 (omega (arith, sum, rest, first, full))

front : (low : ℕ) (before more : List Entry) → Chain low (before ++ more) → Chain low before
front low [] more c = tt
front low (d ∷ before) more c = (c.0, front (end_of d) before more c.1)

in_turn : (base : ℕ) (before : List Entry) (e : Entry) (later : List Entry) → Chain base (before ++ e ∷ later)
    → base + units_drawn (before ++ e ∷ later) ≡ greatest_end base (before ++ e ∷ later) → greatest_end base before ≡ e.start
in_turn base before e later c full =
    let all = greatest_from base (before ++ e ∷ later) c base (omega arith) in
    let least = base_low base (before ++ e ∷ later) in
    let some = greatest_from base before (front base before (e ∷ later) c) base (omega arith) in
    let some_least = base_low base before in
    let is = tight base before e later c (omega (arith, full, all, least)) in
    omega (arith, is, some, some_least) where
      base_low : (low : ℕ) (es : List Entry) → low ≤ greatest_end low es
      base_low low [] = omega arith
      base_low low (x ∷ es) = let more = base_low low es in omega (arith, more)

pub turns_are_seen : TurnsAreSeen
turns_are_seen = record {
  fresh = λ i j d less l. absurd (omega (arith, l));
  goes = λ p q e r rises is. subst AreRising (sym is) (all_pairs_push (λ (d e : Entry). end_of d ≤ e.start) (entries_of p) e r (rises e is));
  closed = λ base ceiling mark p q last later gathered r is e mine.
      let one : flat_map entries_of (last ∷ []) ≡ entries_of last = append-nil (entries_of last) in
      let all : entries_of last ≡ entries_of p ++ e ∷ later = is ∙ ap (λ (xs : List Entry). xs ++ later) mine ∙ append_assoc (entries_of p) (e ∷ []) later in
      let whole : flat_map entries_of (last ∷ []) ≡ entries_of p ++ e ∷ later = one ∙ all in
      let above = subst (All (λ (d : Entry). base ≤ d.start)) whole gathered.above in
      let rising = subst AreRising all r in
      in_turn base (entries_of p) e later (chained base (entries_of p ++ e ∷ later) above rising)
      (subst (λ (xs : List Entry). base + units_drawn xs ≡ greatest_end base xs) whole gathered.tile);
}
