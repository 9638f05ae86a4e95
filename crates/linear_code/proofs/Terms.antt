-- Sums of base elements, one after another.
use Rattle.std.proofs.Common.{◌≡◌, ℕ, ◌+◌, ◌*◌, ◌<◌, ◌≤◌, List, length, map, take, get_or, sum_by, slice_index, sym, ◌∙◌, ap, arith}
use Rattle.std.proofs.lemmas.List.{get_or-map}
use Rattle.std.proofs.lemmas.List.Sums.{sum_by_more}
use Rattle.zk_model.specs.Field.{prime}
use Rattle.zk_model.specs.Mac.{Pair}

-- the sum over the first places, and a bound on it
pub record IsSum (elements places : List ℕ) (index total : ℕ) : Type 0 where
  pub sum : total ≡ sum_by (slice_index elements) (take index places)
  pub bound : total ≤ index * prime

-- one place more
pub sum_more : (elements places : List ℕ) (index total term now : ℕ) → index < length places → term < prime
    → term ≡ slice_index elements (get_or places index 0) → now ≡ total + term
    → IsSum elements places index total → IsSum elements places (index + 1) now
sum_more elements places index total term now below small is added far = record {
  sum = added ∙ (λ i. far.sum i + is i) ∙ sym (sum_by_more (slice_index elements) places index 0 below);
  bound = omega (arith, small, added, far.bound);
}

-- a part of the pair at a place
pub pair_term : (g : Pair → ℕ) (pairs : List Pair) (place : ℕ) (pair : Pair) → place < length pairs
    → pair ≡ get_or pairs place pair → g pair ≡ slice_index (map g pairs) place
pair_term g pairs place pair below is = ap g is ∙ sym (get_or-map g pairs place pair 0 below)
