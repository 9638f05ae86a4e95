-- Pairs of elements as one list of elements, and back.
use Rattle.std.proofs.Common.{◌≡◌, ℕ, zero, suc, ◌*◌, List, [], ◌∷◌, ◌++◌, flat_map, length, refl, ap, arith}
use Rattle.std.specs.List.{AllByRecursion}
use Rattle.zk_model.specs.Field.{IsElement}
use Rattle.zk_model.specs.Bytes.{element_bytes}
use Rattle.proof_frames.specs.Frames.{sums_payload, flattened}

pub flattened_bytes : (sums : List (ℕ × ℕ)) → flat_map element_bytes (flattened sums) ≡ sums_payload sums
flattened_bytes [] = refl
flattened_bytes (both ∷ sums) = ap (λ l. element_bytes both.0 ++ (element_bytes both.1 ++ l)) (flattened_bytes sums)

pub length-flattened : (sums : List (ℕ × ℕ)) → length (flattened sums) ≡ 2 * length sums
length-flattened [] = refl
length-flattened (both ∷ sums) = omega (arith, length-flattened sums)

pub flattened_elements : (sums : List (ℕ × ℕ)) → AllByRecursion (λ both. IsElement both.0 × IsElement both.1) sums → AllByRecursion IsElement (flattened sums)
flattened_elements [] all = tt
flattened_elements (both ∷ sums) all = (all.0.0, (all.0.1, flattened_elements sums all.1))

-- elements two by two; a last one alone is left out
abbrev pub paired : List ℕ → List (ℕ × ℕ)
paired [] = []
paired (x ∷ []) = []
paired (x ∷ y ∷ elements) = (x, y) ∷ paired elements

pub flattened_paired : (sections : ℕ) (elements : List ℕ) → length elements ≡ 2 * sections → flattened (paired elements) ≡ elements
flattened_paired sections [] even = refl
flattened_paired zero (x ∷ []) even = absurd (omega arith)
flattened_paired (suc sections) (x ∷ []) even = absurd (omega arith)
flattened_paired zero (x ∷ y ∷ elements) even = absurd (omega arith)
flattened_paired (suc sections) (x ∷ y ∷ elements) even = ap (λ l. x ∷ y ∷ l) (flattened_paired sections elements (omega arith))

pub paired_elements : (sums : List (ℕ × ℕ)) → AllByRecursion IsElement (flattened sums) → AllByRecursion (λ both. IsElement both.0 × IsElement both.1) sums
paired_elements [] all = tt
paired_elements (both ∷ sums) all = ((all.0, all.1.0), paired_elements sums all.1.1)
