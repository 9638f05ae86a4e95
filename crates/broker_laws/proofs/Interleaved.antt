-- What is interleaved has the same items, in another order.
use Rattle.std.proofs.Common.{◌≡◌, ℕ, zero, suc, ◌≤◌, ◌⊎◌, inl, inr, List, [], ◌∷◌, ◌++◌, get_or, refl, sym, ap, ◌∙◌, subst, arith}
use Rattle.std.specs.List.{All, Contains, flat_map}
use Rattle.std.proofs.lemmas.Grind.{flat_map-append}
use Rattle.std.proofs.lemmas.List.{append_assoc}
use Rattle.std.proofs.lemmas.List.Elements.{All-contains, Contains-append_cases, Contains-append_left, Contains-append_right, Contains-get_or}
use Rattle.zk_model.specs.declared.Span.{Span}
use Rattle.zk_port.specs.Disks.{DiskState}
use Rattle.lease_core.specs.Spans.{AreApart, IsApart}
use Rattle.broker_core.proofs.Lists.{in_none}
use Rattle.broker_laws.specs.Histories.{units_by, units_in}
use Rattle.broker_laws.specs.Laws.{DrawsNoUnitTwice}
use Rattle.broker_laws.specs.Runs.{AreInterleaved, RunsDrawOnce}
use Rattle.broker_laws.proofs.Histories.{histories_draw_once}

-- ---- spans of which no two have a unit in common

-- each of the first is apart from each of the second
abbrev AreAcross : List Span → List Span → Type 0
AreAcross xs ys = (x y : Span) → Contains xs x → Contains ys y → IsApart x y

turned : (x y : Span) → IsApart x y → IsApart y x
turned x y (inl h) = inr h
turned x y (inr h) = inl h

abbrev Pairs : List Span → Type 0
Pairs [] = Unit {0}
Pairs (x ∷ xs) = ((y : Span) → Contains xs y → IsApart x y) × Pairs xs

to_pairs : (xs : List Span) → AreApart xs → Pairs xs
to_pairs [] a = tt
to_pairs (x ∷ xs) a = (
  λ y h. subst (λ (z : Span). IsApart x z) h.2 (a 0 (suc h.0) y (omega arith) (let l = h.1 in omega (arith, l))),
  to_pairs xs (λ i j d less l. a (suc i) (suc j) d (omega (arith, less)) (omega (arith, l))),
)

from_pairs : (xs : List Span) → Pairs xs → AreApart xs
from_pairs [] p i j d less l = absurd (omega (arith, l))
from_pairs (x ∷ xs) p i zero d less l = absurd (omega (arith, less))
from_pairs (x ∷ xs) p zero (suc j) d less l = p.0 (get_or xs j d) (Contains-get_or xs j d (omega (arith, l)))
from_pairs (x ∷ xs) p (suc i) (suc j) d less l = from_pairs xs p.1 i j d (omega (arith, less)) (omega (arith, l))

contains_first : (x : Span) (xs : List Span) → Contains (x ∷ xs) x
contains_first x xs = (0, omega arith, refl)

contains_later : (x y : Span) (xs : List Span) → Contains xs y → Contains (x ∷ xs) y
contains_later x y xs (k, l, is) = (suc k, omega (arith, l), is)

join : (xs ys : List Span) → Pairs xs → Pairs ys → AreAcross xs ys → Pairs (xs ++ ys)
join [] ys p q across = q
join (x ∷ xs) ys p q across = (
  λ y h. by_part y (Contains-append_cases xs ys y h),
  join xs ys p.1 q (λ a b in_a in_b. across a b (contains_later x a xs in_a) in_b),
) where
  by_part : (y : Span) → (Contains xs y ⊎ Contains ys y) → IsApart x y
  by_part y (inl h) = p.0 y h
  by_part y (inr h) = across x y (contains_first x xs) h

record Parts (xs ys : List Span) : Type 0 where
  first : Pairs xs
  second : Pairs ys
  across : AreAcross xs ys

parts : (xs ys : List Span) → Pairs (xs ++ ys) → Parts xs ys
parts [] ys p = record { first = tt; second = p; across = λ x y h k. absurd (in_none x h) }
parts (x ∷ xs) ys p =
    let more = parts xs ys p.1 in record {
      first = (λ y h. p.0 y (Contains-append_left xs ys y h), more.first);
      second = more.second;
      across = λ a b in_a in_b. by_place more.across a b in_a in_b;
    } where
      by_place : AreAcross xs ys → (a b : Span) → Contains (x ∷ xs) a → Contains ys b → IsApart a b
      by_place later a b (zero, l, is) in_b = subst (λ (z : Span). IsApart z b) is (p.0 b (Contains-append_right xs ys b in_b))
      by_place later a b (suc k, l, is) in_b = later a b (k, omega (arith, l), is) in_b

-- some more, in the middle
insert_pairs : (first more last : List Span) → Pairs more → Pairs (first ++ last) → AreAcross more (first ++ last) → Pairs (first ++ (more ++ last))
insert_pairs first more last own p across =
    let s = parts first last p in
    join first (more ++ last) s.first
    (join more last own s.second (λ x y in_x in_y. across x y in_x (Contains-append_right first last y in_y)))
    (λ x y in_x in_y. by_part x y in_x (Contains-append_cases more last y in_y)) where
      by_part : (x y : Span) → Contains first x → (Contains more y ⊎ Contains last y) → IsApart x y
      by_part x y in_x (inl h) = turned y x (across y x h (Contains-append_left first last x in_x))
      by_part x y in_x (inr h) = (parts first last p).across x y in_x h

-- ---- interleaved lists

module _ {X : Type 0} (of : X → List Span) where
  -- all spans of a list, and of a list of lists
  abbrev spans : List X → List Span
  spans xs = flat_map of xs

  abbrev all_spans : List (List X) → List Span
  all_spans runs = flat_map spans runs

  -- what is interleaved is among these, and is apart where they are
  record IsAmong (few all : List Span) : Type 0 where
    among : (s : Span) → Contains few s → Contains all s
    apart : Pairs all → Pairs few

  nothing : (runs : List (List X)) → All (λ run. run ≡ []) runs → all_spans runs ≡ []
  nothing [] h = refl
  nothing (run ∷ runs) h = (λ i. spans (h 0 run (omega arith) i) ++ all_spans runs) ∙ nothing runs (λ k d l. h (suc k) d (omega (arith, l)))

  split : (before : List (List X)) (run : List X) (after : List (List X)) → all_spans (before ++ run ∷ after) ≡ all_spans before ++ (spans run ++ all_spans after)
  split before run after = flat_map-append spans before (run ∷ after)

  -- one item more, which is the first of one of the lists
  one_more : (x : X) (xs : List X) (before : List (List X)) (rest : List X) (after runs : List (List X)) → runs ≡ before ++ (x ∷ rest) ∷ after
      → IsAmong (all_spans (before ++ rest ∷ after)) (spans xs) → IsAmong (all_spans runs) (of x ++ spans xs)
  one_more x xs before rest after runs are so_far =
      subst (λ (few : List Span). IsAmong few (of x ++ spans xs)) (sym whole) (record {
        among = λ s h. find s (Contains-append_cases first (of x ++ last) s h);
        apart = λ p. let q = parts (of x) (spans xs) p in
            insert_pairs first (of x) last q.first (known.apart q.second) (λ a b in_a in_b. q.across a b in_a (known.among b in_b));
      }) where
        first : List Span
        first = all_spans before

        last : List Span
        last = spans rest ++ all_spans after

        whole : all_spans runs ≡ first ++ (of x ++ last)
        whole = ap (λ (rs : List (List X)). all_spans rs) are ∙ split before (x ∷ rest) after
            ∙ ap (λ (ss : List Span). first ++ ss) (append_assoc (of x) (spans rest) (all_spans after))

        known : IsAmong (first ++ last) (spans xs)
        known = subst (λ (few : List Span). IsAmong few (spans xs)) (split before rest after) so_far

        find_last : (s : Span) → (Contains (of x) s ⊎ Contains last s) → Contains (of x ++ spans xs) s
        find_last s (inl h) = Contains-append_left (of x) (spans xs) s h
        find_last s (inr h) = Contains-append_right (of x) (spans xs) s (known.among s (Contains-append_right first last s h))

        find : (s : Span) → (Contains first s ⊎ Contains (of x ++ last) s) → Contains (of x ++ spans xs) s
        find s (inl h) = Contains-append_right (of x) (spans xs) s (known.among s (Contains-append_left first last s h))
        find s (inr h) = find_last s (Contains-append_cases (of x) last s h)

  interleaved : (runs : List (List X)) (xs : List X) → AreInterleaved runs xs → IsAmong (all_spans runs) (spans xs)
  interleaved runs [] h = subst (λ (few : List Span). IsAmong few []) (sym (nothing runs h)) (record { among = λ s k. k; apart = λ p. p })
  interleaved runs (x ∷ xs) (before, rest, after, are, more) = one_more x xs before rest after runs are (interleaved (before ++ rest ∷ after) xs more)

-- the first of two lists
pub draws_first : (ceiling : ℕ) (xs ys : List Span) → DrawsNoUnitTwice ceiling (xs ++ ys) → DrawsNoUnitTwice ceiling xs
draws_first ceiling xs ys once = record {
  apart = from_pairs xs (parts xs ys (to_pairs (xs ++ ys) once.apart)).first;
  durable = λ k d l. All-contains (λ (s : Span). s.end ≤ ceiling) (xs ++ ys) (get_or xs k d) once.durable
      (Contains-append_left xs ys (get_or xs k d) (Contains-get_or xs k d l));
}

pub runs_draw_once : {B C : Type 0} (node_disk : B → DiskState) (broker_disk : C → DiskState) → RunsDrawOnce node_disk broker_disk
runs_draw_once node_disk broker_disk total nodes history last runs happened mixed =
    let once = histories_draw_once node_disk broker_disk total nodes history last happened in
    let among = interleaved units_by runs history mixed in
    record {
      apart = from_pairs (flat_map units_in runs) (among.apart (to_pairs (units_in history) once.apart));
      durable = λ k d l. All-contains (λ (s : Span). s.end ≤ last.broker.ceiling) (units_in history) (get_or (flat_map units_in runs) k d) once.durable
          (among.among (get_or (flat_map units_in runs) k d) (Contains-get_or (flat_map units_in runs) k d l));
    }
