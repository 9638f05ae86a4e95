-- Corrections that are made in the places of given values.
use Rattle.std.proofs.Common.{◌≡◌, ◌≢◌, ℕ, ◌+◌, ◌<◌, ◌≤◌, List, length, get_or, set, arith, sym, ◌∙◌, subst, below_more, get_or-set_other, get_or-set_same, length-set}
use Rattle.std.proofs.lemmas.Grind.{get_or_default_zero}
use Rattle.std.proofs.lemmas.List.{ext_get_or}
use Rattle.std.proofs.lemmas.List.Elements.{All-from_get_or}
use Rattle.std.specs.Prelude.{All, slice_index}
use Rattle.zk_model.specs.Field.{IsElement, ◌-ₚ◌}
use Rattle.zk_model.specs.HonestProver.{honest_corrections}
use Rattle.zk_model.specs.Mac.{Pair}
use Rattle.wire_auth.proofs.Correcting.{one_more}
use Rattle.wire_auth.proofs.Lengths.{correction_at, length-honest_corrections}

-- the first n given values are elements, and their corrections stand in their places
pub record AreCorrected (given : List ℕ) (dealt : List Pair) (now : List ℕ) (n : ℕ) : Type 0 where
  pub whole : length now ≡ length given
  pub made : (k : ℕ) → k < n → get_or now k 0 ≡ get_or (honest_corrections given dealt) k 0
  pub left : (k : ℕ) → n ≤ k → get_or now k 0 ≡ get_or given k 0
  pub elements : (k : ℕ) → k < n → IsElement (slice_index given k)

-- one more
pub corrected_next : (given : List ℕ) (dealt : List Pair) (now : List ℕ) (n value : ℕ) (pair : Pair) → n < length now
    → length given ≤ length dealt → value ≡ get_or now n value → pair ≡ get_or dealt n pair → IsElement value
    → AreCorrected given dealt now n → AreCorrected given dealt (set now n (value -ₚ pair.x)) (n + 1)
corrected_next given dealt now n value pair below enough at pair_at is far = record {
  whole = length-set now n (value -ₚ pair.x) ∙ far.whole;
  made = below_more _ _
      (λ k less. let other : k ≢ n = omega arith in get_or-set_other now n k (value -ₚ pair.x) 0 other ∙ far.made k less)
      (get_or-set_same now n (value -ₚ pair.x) 0 below ∙ (λ i. value_is i -ₚ (pair_at i).x)
      ∙ sym (correction_at given dealt n pair (omega (arith, below, far.whole)) (omega (arith, below, far.whole, enough))));
  left = λ k more. let other : k ≢ n = omega arith in get_or-set_other now n k (value -ₚ pair.x) 0 other ∙ far.left k (omega (arith, more));
  elements = one_more (λ k. IsElement (slice_index given k)) n far.elements (subst IsElement value_is is);
}
  where
    value_is : value ≡ get_or given n 0
    value_is = at ∙ get_or_default_zero now n value below ∙ far.left n (omega arith)

-- all of them
pub all_corrected : (given : List ℕ) (dealt : List Pair) (now : List ℕ) (n : ℕ) → length given ≤ length dealt → length now ≤ n
    → AreCorrected given dealt now n → now ≡ honest_corrections given dealt
all_corrected given dealt now n enough end far =
    ext_get_or 0 now (honest_corrections given dealt) (far.whole ∙ sym (length-honest_corrections given dealt enough))
    (λ k below. far.made k (omega (arith, below, end)))

pub all_elements : (given : List ℕ) (dealt : List Pair) (now : List ℕ) (n : ℕ) → length now ≤ n → AreCorrected given dealt now n → All IsElement given
all_elements given dealt now n end far = All-from_get_or IsElement given 0 (λ k below. far.elements k (omega (arith, below, end, far.whole)))
