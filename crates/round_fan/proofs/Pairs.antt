-- The pairs of neighbouring units grow unit by unit.
use Rattle.std.proofs.Common.{◌≡◌, ℕ, zero, suc, ◌+◌, ◌*◌, ◌<◌, List, [], ◌∷◌, ◌++◌, length, refl, sym, ◌∙◌, ap, subst, arith, append-nil, length-append, Vec, Global}
use Rattle.std.specs.Prelude.{slice_index_or}
use Rattle.std.proofs.lemmas.List.{length-map, map-append, get_or_append_left, get_or-append-add}
use Rattle.zk_model.specs.Mac.{Pair}
use Rattle.zk_model.specs.Files.{ProverFile, correlations_per_unit}
use Rattle.zk_model.specs.Transcript.{TreeReply}
use Rattle.round_fan.specs.Fans.{lists_of, AreRoundUnits, AreRoundPairs, ArePairsFrom, ArePairs}
use Rattle.round_fan.proofs.Units.{units_as, units_joined, counts}

-- of neighbours
from_both : (file : ProverFile) (s : ℕ) (xs ys : List (List TreeReply)) (a b : List Pair)
    → ArePairsFrom file s xs a → ArePairsFrom file (s + length xs) ys b → ArePairsFrom file s (xs ++ ys) (a ++ b)
from_both file s xs ys a b front back =
    subst (λ n. AreRoundUnits (λ i unit. AreRoundPairs file (s + i) (slice_index_or (xs ++ ys) i []) unit) n (a ++ b)) (sym (length-append xs ys))
    (units_joined (λ i unit. AreRoundPairs file (s + i) (slice_index_or (xs ++ ys) i []) unit) (length xs) (length ys) a b
    (units_as _ _ (length xs) a (λ i unit below is. subst (λ t. AreRoundPairs file (s + i) t unit) (sym (get_or_append_left xs ys [] i below)) is) front)
    (units_as _ _ (length ys) b (λ i unit below is.
    subst (λ (q : ℕ × List TreeReply). AreRoundPairs file q.0 q.1 unit)
    (λ k. (far i k, sym (get_or-append-add xs ys i []) k)) is) back))
  where
    far : (i : ℕ) → s + length xs + i ≡ s + (length xs + i)
    far i = omega arith

-- the pairs of later units behind them
pub pairs_more : (file : ProverFile) (s : ℕ) (xs ys : List (Vec TreeReply Global)) (a b : List Pair) → ArePairs file s xs a → ArePairs file (s + length xs) ys b
    → ArePairs file s (xs ++ ys) (a ++ b)
pairs_more file s xs ys a b front back = record {
  made = subst (λ l. ArePairsFrom file s l (a ++ b)) (sym (map-append (λ (v : Vec TreeReply Global). v.items) xs ys))
      (from_both file s (lists_of xs) (lists_of ys) a b front.made
      (subst (λ n. ArePairsFrom file (s + n) (lists_of ys) b) (sym (length-map xs (λ (v : Vec TreeReply Global). v.items))) back.made));
  count = length-append a b ∙ (λ i. front.count i + back.count i) ∙ counts (length xs) (length ys) (correlations_per_unit file.params)
      ∙ ap (λ n. n * correlations_per_unit file.params) (sym (length-append xs ys));
}

-- the pairs of one unit
pub one_unit : (file : ProverFile) (unit : ℕ) (trees : Vec TreeReply Global) (pairs : List Pair)
    → AreRoundPairs file unit trees.items pairs → length pairs ≡ correlations_per_unit file.params → ArePairs file unit (trees ∷ []) pairs
one_unit file unit trees pairs are counted = record {
  made = record { units = pairs ∷ []; one_each = refl; each = each; joined = sym (append-nil pairs) };
  count = counted ∙ once (correlations_per_unit file.params);
}
  where
    once : (c : ℕ) → c ≡ 1 * c
    once c = omega arith

    each : (i : ℕ) → i < 1 → AreRoundPairs file (unit + i) (slice_index_or (trees.items ∷ []) i []) (slice_index_or (pairs ∷ []) i [])
    each zero below = subst (λ n. AreRoundPairs file n trees.items pairs) (omega arith) are
    each (suc i) below = absurd (omega (arith, below))
