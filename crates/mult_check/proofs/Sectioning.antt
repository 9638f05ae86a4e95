-- Sums of sections, one after another.
use Rattle.std.proofs.Common.{◌≡◌, ℕ, zero, suc, ◌+◌, ◌<◌, List, [], ◌∷◌, ◌++◌, length, map, get_or, ap, sym, ◌∙◌, subst, arith}
use Rattle.std.specs.List.{range_with_len}
use Rattle.std.proofs.lemmas.List.{length-map}
use Rattle.std.proofs.lemmas.List.FromFn.{map-range_with_len_more, length-range_with_len}
use Rattle.zk_model.specs.Mac.{Pair, pair_at}
use Rattle.zk_model.specs.Program.{Program}
use Rattle.zk_model.specs.Check.{Triple, WirePairs, honest_sums, product_triple, section_of, section_triples}
use Rattle.wire_auth.specs.Sides.{ProverSide}
use Rattle.mult_check.specs.Parts.{AreSumsOf, PairSums}
use Rattle.mult_check.proofs.Streaming.{section_of_walk}

-- the mask at a place
mask_at : (masks : List Pair) (s : ℕ) (mask : Pair) → s < length masks → mask ≡ get_or masks s mask → mask ≡ pair_at masks s
mask_at [] s mask below item = absurd (omega arith)
mask_at (m ∷ masks) zero mask below item = item
mask_at (m ∷ masks) (suc s) mask below item = mask_at masks s mask (omega arith) item

-- the sums of one section more
pub sums_next : (f : ℕ → Pair → ℕ × ℕ) (masks : List Pair) (s : ℕ) (mask : Pair) (both : ℕ × ℕ) (before now : List (ℕ × ℕ))
    → s < length masks → mask ≡ get_or masks s mask → both ≡ f s mask → now ≡ before ++ both ∷ []
    → before ≡ map (λ s. f s (pair_at masks s)) (range_with_len 0 s)
    → now ≡ map (λ s. f s (pair_at masks s)) (range_with_len 0 (s + 1))
sums_next f masks s mask both before now below item summed pushed far =
    pushed ∙ (λ i. far i ++ (summed ∙ ap (f s) (mask_at masks s mask below item)) i ∷ [])
    ∙ sym (map-range_with_len_more (λ (s : ℕ). f s (pair_at masks s)) 0 s s (omega arith))

-- as many sums as sections
pub sums_count : (f : ℕ → ℕ × ℕ) (s : ℕ) (sums : List (ℕ × ℕ)) → sums ≡ map f (range_with_len 0 s) → length sums ≡ s
sums_count f s sums are = ap length are ∙ length-map (range_with_len 0 s) f ∙ length-range_with_len 0 s

-- the sums of one section more, from those of a part that begins with none
pub sums_of_part : (program : Program) (pairs : WirePairs) (s g challenge : ℕ) (masks : List Pair) (none part : PairSums) (mask : Pair) (both : ℕ × ℕ) (before now : List (ℕ × ℕ))
    → s < length masks → mask ≡ get_or masks s mask → AreSumsOf challenge [] none → AreSumsOf none.challenge (section_triples program g pairs s) part
    → ((challenge : ℕ) (triples : List Triple) → AreSumsOf challenge triples part → both ≡ honest_sums challenge triples mask)
    → now ≡ before ++ both ∷ []
    → before ≡ map (λ s. honest_sums challenge (section_triples program g pairs s) (pair_at masks s)) (range_with_len 0 s)
    → now ≡ map (λ s. honest_sums challenge (section_triples program g pairs s) (pair_at masks s)) (range_with_len 0 (s + 1))
sums_of_part program pairs s g challenge masks none part mask both before now below item begun over gives =
    sums_next (λ s mask. honest_sums challenge (section_triples program g pairs s) mask) masks s mask both before now below item
    (gives challenge (section_triples program g pairs s) (subst (λ n. AreSumsOf n (section_triples program g pairs s) part) begun.challenge_is over))

-- the same along a walk
pub sums_walked : (side old : ProverSide) (s g challenge : ℕ) (masks : List Pair) (none part : PairSums) (mask : Pair) (both : ℕ × ℕ) (before now : List (ℕ × ℕ))
    → side ≡ old → s < length masks → mask ≡ get_or masks s mask → AreSumsOf challenge [] none
    → AreSumsOf none.challenge (section_of g s (map (product_triple side.pairs) side.program.products)) part
    → ((challenge : ℕ) (triples : List Triple) → AreSumsOf challenge triples part → both ≡ honest_sums challenge triples mask)
    → now ≡ before ++ both ∷ []
    → before ≡ map (λ s. honest_sums challenge (section_triples old.program g old.pairs s) (pair_at masks s)) (range_with_len 0 s)
    → now ≡ map (λ s. honest_sums challenge (section_triples old.program g old.pairs s) (pair_at masks s)) (range_with_len 0 (s + 1))
sums_walked side old s g challenge masks none part mask both before now same below item begun over =
    sums_of_part old.program old.pairs s g challenge masks none part mask both before now below item begun
    (subst (λ (l : List Triple). AreSumsOf none.challenge l part)
    (section_of_walk (λ (at : ProverSide). product_triple at.pairs) (λ (at : ProverSide). at.program.products) side old g s same) over)
