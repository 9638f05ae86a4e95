-- How many corrections, pairs and keys there are.
use Rattle.std.proofs.Common.{◌≡◌, ℕ, zero, suc, ◌<◌, ◌≤◌, ◌+◌, List, [], ◌∷◌, ◌++◌, length, take, get_or, zip, arith, ap, refl, sym, ◌∙◌}
use Rattle.std.proofs.lemmas.List.{length-map, take_more}
use Rattle.std.proofs.lemmas.Slice.Zip.{length-zip}
use Rattle.zk_model.specs.Mac.{Pair, corrected_key, corrected_keys}
use Rattle.zk_model.specs.Field.{◌-ₚ◌}
use Rattle.zk_model.specs.HonestProver.{honest_corrections}

pub length-honest_corrections : (given : List ℕ) (pairs : List Pair) → length given ≤ length pairs → length (honest_corrections given pairs) ≡ length given
length-honest_corrections given pairs enough =
    let zipped = length-zip given pairs in
    length-map (zip given pairs) (λ q. q.0 -ₚ q.1.x) ∙ omega (arith, zipped)

pub correction_at : (values : List ℕ) (dealt : List Pair) (i : ℕ) (pair : Pair) → i < length values → i < length dealt
    → get_or (honest_corrections values dealt) i 0 ≡ get_or values i 0 -ₚ (get_or dealt i pair).x
correction_at [] dealt i pair below within = elim below [ ]
correction_at (x ∷ values) [] i pair below within = elim within [ ]
correction_at (x ∷ values) (p ∷ dealt) zero pair below within = refl
correction_at (x ∷ values) (p ∷ dealt) (suc i) pair below within =
    correction_at values dealt i pair (omega (arith, below)) (omega (arith, within))

pub next_correction : (values : List ℕ) (dealt : List Pair) (i value : ℕ) (pair : Pair) → i < length values → length values ≤ length dealt
    → value ≡ get_or values i 0 → pair ≡ get_or dealt i pair
    → take (i + 1) (honest_corrections values dealt) ≡ take i (honest_corrections values dealt) ++ (value -ₚ pair.x) ∷ []
next_correction values dealt i value pair below enough at pair_at =
    let within : i < length (honest_corrections values dealt) = omega (arith, below, length-honest_corrections values dealt enough) in
    take_more (honest_corrections values dealt) i 0 within
    ∙ ap (λ n. take i (honest_corrections values dealt) ++ n ∷ [])
    (correction_at values dealt i pair below (omega (arith, below, enough)) ∙ (λ j. at_is j -ₚ (pair_is j).x))
  where
    at_is : get_or values i 0 ≡ value
    at_is = sym at

    pair_is : get_or dealt i pair ≡ pair
    pair_is = sym pair_at

pub counted_keys : (key : ℕ) (keys corrections given : List ℕ) → length corrections ≤ length keys → given ≡ corrected_keys key keys corrections
    → length given ≡ length corrections
counted_keys key keys corrections given enough is =
    let zipped = length-zip keys corrections in
    ap length is ∙ length-map (zip keys corrections) (λ q. corrected_key key q.0 q.1) ∙ omega (arith, zipped)
