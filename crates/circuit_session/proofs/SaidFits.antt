-- What a prover says of a circuit stands where it may.
use Rattle.std.proofs.Common.{◌≡◌, ℕ, List, zip, length, All, sym, subst}
use Rattle.std.specs.List.{range_with_len}
use Rattle.std.proofs.lemmas.List.Elements.{All-map}
use Rattle.std.proofs.lemmas.List.FromFn.{length-map-range_with_len}
use Rattle.mersenne_field.proofs.FieldLaws.{reduced}
use Rattle.zk_model.specs.Field.{IsElement, ◌-ₚ◌}
use Rattle.zk_model.specs.Frames.{AreElements, AreSums}
use Rattle.zk_model.specs.HonestProver.{honest_corrections}
use Rattle.zk_model.specs.Mac.{Pair, pair_at}
use Rattle.zk_model.specs.Program.{Program}
use Rattle.zk_model.specs.Program.{section_count}
use Rattle.zk_model.specs.Check.{WirePairs, all_sums, honest_sums, section_triples}

-- corrections are elements
corrections_are_elements : (given : List ℕ) (pairs : List Pair) → All IsElement (honest_corrections given pairs)
corrections_are_elements given pairs = All-map IsElement (λ q. q.0 -ₚ q.1.x) (zip given pairs) (λ n d below. reduced _)

pub corrections_fit : (given : List ℕ) (pairs : List Pair) (count : ℕ) (corrections : List ℕ)
    → corrections ≡ honest_corrections given pairs → length corrections ≡ count → AreElements count corrections
corrections_fit given pairs count corrections are counted =
    record { counted = counted; ranged = subst (All IsElement) (sym are) (corrections_are_elements given pairs) }

-- sums of all sections are as many pairs of elements
pub sums_fit : (program : Program) (section_length challenge : ℕ) (pairs : WirePairs) (masks : List Pair) (both : List (ℕ × ℕ))
    → both ≡ all_sums program section_length challenge pairs masks → AreSums (section_count program section_length) both
sums_fit program section_length challenge pairs masks both are = subst (AreSums (section_count program section_length)) (sym are) (record {
  counted = length-map-range_with_len _ 0 _;
  ranged = All-map (λ (q : ℕ × ℕ). IsElement q.0 × IsElement q.1)
      (λ s. honest_sums challenge (section_triples program section_length pairs s) (pair_at masks s))
      (range_with_len 0 _) (λ n d below. (reduced _, reduced _));
})
