-- So many corrections, made one after another.
use Rattle.std.proofs.Common.{◌≡◌, ◌<◌, ◌≤◌, ◌+◌, ◌∙◌, ℕ, zero, suc, List, [], ◌∷◌, All, arith, length, take, ap, refl, sym, subst, ⊎_elim}
use Rattle.std.proofs.lemmas.Bool.{cases_lt}
use Rattle.std.proofs.lemmas.List.{take_all, get_or-take, length-map}
use Rattle.std.proofs.lemmas.List.Elements.{All-map}
use Rattle.std.specs.Prelude.{Bool, ◌&&◌, slice_index}
use Rattle.zk_model.specs.Bits.{from_bit}
use Rattle.zk_model.specs.Boolean.{bits_of_products}
use Rattle.zk_model.specs.Circuit.{bit_of}
use Rattle.zk_model.specs.declared.Product.{Product}
use Rattle.zk_model.specs.Field.{IsElement, ◌-ₚ◌}
use Rattle.zk_model.specs.HonestProver.{honest_corrections}
use Rattle.zk_model.specs.Mac.{Pair, macs_of, corrected_pairs}
use Rattle.zk_model.specs.Program.{Program}
use Rattle.zk_model.specs.Check.{ArePairsOf}
use Rattle.circuit_laws.proofs.BitsSolve.{bit_element}
use Rattle.field_program.specs.Programs.{IsSmallProgram}
use Rattle.wire_auth.specs.Values.{wires_made, given_from, given_made, numbers_carried}
use Rattle.wire_auth.specs.Walks.{side_made}
use Rattle.wire_auth.proofs.BothWalks.{values_made, macs_made}
use Rattle.wire_auth.proofs.Joined.{joined_is_corrected, are_pairs}
use Rattle.wire_auth.proofs.Lengths.{length-honest_corrections}

-- one more of the given values is an element
pub one_more : (P : ℕ → Type 0) (n : ℕ) → ((k : ℕ) → k < n → P k) → P n → (k : ℕ) → k < n + 1 → P k
one_more P n before now k below = ⊎_elim
    (λ less. before k less)
    (λ past. let same : n ≡ k = omega (arith, past, below) in subst P same now)
    (cases_lt k n)

-- all corrections to given values, once as many are made as there are
pub all_made : (given corrections : List ℕ) (dealt : List Pair) (count n : ℕ) → length given ≡ count → count ≤ length dealt → count ≤ n
    → corrections ≡ take n (honest_corrections given dealt)
    → (corrections ≡ honest_corrections given dealt) × (length corrections ≡ count)
all_made given corrections dealt count n sized enough end far =
    let all = length-honest_corrections given dealt (omega (arith, sized, enough)) in
    let are = far ∙ take_all n (honest_corrections given dealt) (omega (arith, sized, all, end)) in
    (are, ap length are ∙ all ∙ sized)

-- the first given values are the inputs
pub first_values : (inputs given : List ℕ) (k count : ℕ) → k < count → take count given ≡ inputs → slice_index inputs k ≡ slice_index given k
first_values inputs given k count below same = ap (λ l. slice_index l k) (sym same) ∙ get_or-take count given k 0 below

-- so their corrections are the first
pub first_corrections : (inputs given : List ℕ) (dealt : List Pair) (some count : ℕ) → some ≤ count → take count given ≡ inputs
    → take some (honest_corrections inputs dealt) ≡ take some (honest_corrections given dealt)
first_corrections inputs given dealt some count few same = ap (λ l. take some (honest_corrections l dealt)) (sym same) ∙ by given dealt some count few
  where
    by : (given : List ℕ) (dealt : List Pair) (some count : ℕ) → some ≤ count
        → take some (honest_corrections (take count given) dealt) ≡ take some (honest_corrections given dealt)
    by given dealt zero count few = none (honest_corrections (take count given) dealt) ∙ sym (none (honest_corrections given dealt))
      where
        none : (l : List ℕ) → take 0 l ≡ []
        none [] = refl
        none (x ∷ l) = refl
    by given dealt (suc some) zero few = absurd (omega (arith, few))
    by [] dealt (suc some) (suc count) few = refl
    by (x ∷ given) [] (suc some) (suc count) few = refl
    by (x ∷ given) (pair ∷ dealt) (suc some) (suc count) few = ap (λ l. (x -ₚ pair.x) ∷ l) (by given dealt some count (omega (arith, few)))

-- they make the given values' pairs of the dealt ones
pub walked_given : (program : Program) (public inputs corrections : List ℕ) (dealt : List Pair)
    → All IsElement (given_from program (wires_made program public inputs))
    → corrections ≡ honest_corrections (given_from program (wires_made program public inputs)) dealt
    → (side_made program public inputs dealt).pairs.given ≡ corrected_pairs dealt corrections
walked_given program public inputs corrections dealt elements are =
    joined_is_corrected (given_from program (wires_made program public inputs)) dealt elements ∙ ap (corrected_pairs dealt) (sym are)

-- which go along the steps
pub walked_pairs : (program : Program) (public inputs : List ℕ) (dealt : List Pair) → IsSmallProgram program → length public ≡ program.public
    → length inputs ≡ program.inputs → program.givens ≤ length dealt → ArePairsOf program public (side_made program public inputs dealt).pairs
walked_pairs program public inputs dealt held p few enough =
    are_pairs program public inputs (wires_made program public inputs) (numbers_carried 0 program public (take program.givens (macs_of dealt))) dealt
    held.counted enough ((values_made program public inputs held p few).carried.whole ∙ sym (macs_made program public dealt held p enough).whole)
    (values_made program public inputs held p few) (macs_made program public dealt held p enough)

-- ---- of bits

abbrev product_bit : List Bool → Product → ℕ
product_bit bits product = from_bit (bit_of bits product.a && bit_of bits product.b)

pub length-bits_of_products : (products : List Product) (bits : List Bool) → length (bits_of_products products bits) ≡ length products
length-bits_of_products products bits = length-map products (product_bit bits)

pub bits_are_elements : (products : List Product) (bits : List Bool) → All IsElement (bits_of_products products bits)
bits_are_elements products bits = All-map IsElement (product_bit bits) products (λ k d below. bit_element _)

-- Corrections to given values, however these are known, are those of a walk where it makes the same
pub known_walked : (program : Program) (public inputs given corrections : List ℕ) (dealt : List Pair)
    → given_made program public inputs ≡ given → All IsElement given → corrections ≡ honest_corrections given dealt
    → (corrections ≡ honest_corrections (given_made program public inputs) dealt)
    × ((side_made program public inputs dealt).pairs.given ≡ corrected_pairs dealt corrections)
unfolding given_made
known_walked program public inputs given corrections dealt made elements are =
    let walked = are ∙ ap (λ (l : List ℕ). honest_corrections l dealt) (sym made) in
    (walked, walked_given program public inputs corrections dealt (subst (All IsElement) (sym made) elements) walked)
