-- What a prover says of constraints stands where it may.
use Rattle.std.proofs.Common.{◌≡◌, ℕ, List, zip, All, length, sym, subst}
use Rattle.std.proofs.lemmas.List.Elements.{All-map}
use Rattle.mersenne_field.proofs.FieldLaws.{reduced}
use Rattle.zk_model.specs.Field.{IsElement, ◌+ₚ◌}
use Rattle.zk_model.specs.Frames.{AreElements}
use Rattle.zk_model.specs.Mac.{Pair}
use Rattle.poly_model.specs.Constraints.{Constraints}
use Rattle.poly_model.specs.ConstraintCheck.{added, honest_sums}

-- sums of coefficients are elements
added_elements : (some others : List ℕ) → All IsElement (added some others)
added_elements some others = All-map IsElement (λ q. q.0 +ₚ q.1) (zip some others) (λ n d below. reduced _)

-- what an honest prover sends are as many elements as it says
pub sums_fit : (constraints : Constraints) (pairs : List Pair) (challenge : ℕ) (masks : List Pair) (count : ℕ) (sums : List ℕ)
    → sums ≡ honest_sums constraints pairs challenge masks → length sums ≡ count → AreElements count sums
sums_fit constraints pairs challenge masks count sums are counted = record {
  counted = counted;
  ranged = subst (All IsElement) (sym are) (added_elements _ _);
}
