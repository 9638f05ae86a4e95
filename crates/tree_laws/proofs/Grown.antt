-- A tree that grows from a root, without one leaf, meets its own level sums on the sides away from that leaf.
use Rattle.std.proofs.Common.{◌≡◌, ℕ, zero, suc, ◌+◌, ◌-◌, ◌*◌, ◌/◌, ◌%◌, ◌^◌, ◌<◌, Bool, true, false, not, nat_eq, List, [], ◌∷◌, ◌++◌, map, length, slice_index_or, if◌then◌else◌, refl, sym, ◌∙◌, ap, arith, add-one, pow-suc, div-one, fold, ne_eqb, eq-eqb}
use Rattle.std.proofs.Math.Nat.{div-div-eq-div-mul}
use Rattle.std.specs.List.{range_with_len}
use Rattle.std.proofs.lemmas.List.{length-map, get_or-map}
use Rattle.std.proofs.lemmas.List.FromFn.{length-map-range_with_len, get_or-map-range_with_len}
use Rattle.zk_model.proofs.Octets.{node_bytes}
use Rattle.tree_laws.proofs.Xors.{same_range}
use Rattle.zk_model.specs.Bits.{from_bit}
use Rattle.zk_model.specs.Bytes.{AreBytes, xor_all}
use Rattle.zk_model.specs.Tree.{child_of, path_to, node_at, leaf_at, level_sum, ancestor, side_away, IsPunctured}
use Rattle.zk_model.specs.Extension.{place_of}

-- ---- the sides of a path

-- the number that sides go on to, without the digits of those sides
start_of : (n : ℕ) (sides : List Bool) → fold (λ n side. 2 * n + from_bit side) n sides / 2 ^ length sides ≡ n
start_of n [] = div-one n
start_of n (side ∷ sides) =
    ap (λ k. fold (λ n side. 2 * n + from_bit side) (2 * n + from_bit side) sides / k) (pow-suc 2 (length sides))
    ∙ sym (div-div-eq-div-mul (fold (λ n side. 2 * n + from_bit side) (2 * n + from_bit side) sides) (2 ^ length sides) 2)
    ∙ ap (λ k. k / 2) (start_of (2 * n + from_bit side) sides)
    ∙ halves side
  where
    halves : (side : Bool) → (2 * n + from_bit side) / 2 ≡ n
    halves false = omega arith
    halves true = omega arith

-- the digit of a level is the side of that level
digit_is : (n : ℕ) (sides : List Bool) (level : ℕ) → level < length sides
    → fold (λ n side. 2 * n + from_bit side) n sides / 2 ^ (length sides - (level + 1)) % 2 ≡ from_bit (slice_index_or sides level false)
digit_is n [] level below = absurd (omega (arith, below))
digit_is n (side ∷ sides) zero below =
    ap (λ k. fold (λ n side. 2 * n + from_bit side) (2 * n + from_bit side) sides / 2 ^ k % 2) all
    ∙ ap (λ k. k % 2) (start_of (2 * n + from_bit side) sides)
    ∙ low side
  where
    all : suc (length sides) - (0 + 1) ≡ length sides
    all = omega arith

    low : (side : Bool) → (2 * n + from_bit side) % 2 ≡ from_bit side
    low false = omega arith
    low true = omega arith
digit_is n (side ∷ sides) (suc level) below =
    ap (λ k. fold (λ n side. 2 * n + from_bit side) (2 * n + from_bit side) sides / 2 ^ k % 2) less
    ∙ digit_is (2 * n + from_bit side) sides level (omega (arith, below))
  where
    less : suc (length sides) - (suc level + 1) ≡ length sides - (level + 1)
    less = omega arith

-- away from the place whose path goes away from each choice is the choice
pub away_is_choice : (h : ℕ) (choices : List Bool) (level : ℕ) → length choices ≡ h → level < h
    → from_bit (slice_index_or choices level false) ≡ side_away h (place_of (map not choices)) level
away_is_choice h choices level count below =
    other (slice_index_or choices level false) (ancestor h (place_of (map not choices)) (level + 1) % 2)
    (ap (λ k. place_of (map not choices) / 2 ^ (k - (level + 1)) % 2) (sym count ∙ sym (length-map choices not))
    ∙ digit_is 0 (map not choices) level (omega (arith, length-map choices not, count, below))
    ∙ ap from_bit (get_or-map not choices level false false (omega (arith, count, below))))
  where
    other : (side : Bool) (n : ℕ) → n ≡ from_bit (not side) → from_bit side ≡ 1 - n
    other false n is = omega (arith, is)
    other true n is = omega (arith, is)

-- ---- children

-- the path to a child is that to its parent, and a side
path_more : (h j : ℕ) (side : Bool) → path_to (suc h) (2 * j + from_bit side) ≡ path_to h j ++ side ∷ []
path_more zero j side = ap (λ b. b ∷ []) (ap (λ k. nat_eq (k % 2) 1) (div-one (2 * j + from_bit side)) ∙ low side)
  where
    one_more : (2 * j + 0) % 2 ≡ 0
    one_more = omega arith

    odd : (2 * j + 1) % 2 ≡ 1
    odd = omega arith

    low : (side : Bool) → nat_eq ((2 * j + from_bit side) % 2) 1 ≡ side
    low false = ap (λ k. nat_eq k 1) one_more
    low true = ap (λ k. nat_eq k 1) odd
path_more (suc h) j side = λ i. nat_eq (first i % 2) 1 ∷ path_more h j side i
  where
    halves : (side : Bool) → (2 * j + from_bit side) / 2 ≡ j
    halves false = omega arith
    halves true = omega arith

    swapped : 2 ^ suc h ≡ 2 * 2 ^ h
    swapped = let next = pow-suc 2 h in omega (arith, next)

    first : (2 * j + from_bit side) / 2 ^ suc h ≡ j / 2 ^ h
    first = ap (λ k. (2 * j + from_bit side) / k) swapped ∙ sym (div-div-eq-div-mul (2 * j + from_bit side) 2 (2 ^ h))
        ∙ ap (λ k. k / 2 ^ h) (halves side)

-- the node at the end of a longer path is a child
node_more : (root : List ℕ) (sides : List Bool) (side : Bool) → node_at root (sides ++ side ∷ []) ≡ child_of side (node_at root sides)
node_more root [] side = refl
node_more root (first ∷ sides) side = node_more (child_of first root) sides side

-- so children of the grown tree are the halves of their parents' digests
pub grown_halves : (root : List ℕ) (level j : ℕ) (side : Bool)
    → node_at root (path_to (level + 1) (2 * j + from_bit side)) ≡ child_of side (node_at root (path_to level j))
grown_halves root level j side =
    ap (λ l. node_at root (path_to l (2 * j + from_bit side))) (add-one level)
    ∙ ap (node_at root) (path_more level j side) ∙ node_more root (path_to level j) side

-- ---- the leaves

-- all leaves, with 0 at one place
abbrev pub leaves_without : ℕ → List ℕ → ℕ → List ℕ
leaves_without alpha root h = map (λ j. if nat_eq j alpha then 0 else leaf_at root h j) (range_with_len 0 (2 ^ h))

-- the grown tree, without one leaf, meets the level sums of the choices
pub grown_punctured : (h : ℕ) (root : List ℕ) (choices : List Bool) (sums : List (List ℕ)) → AreBytes 16 root → length choices ≡ h
    → place_of (map not choices) < 2 ^ h
    → ((level : ℕ) → level < h → slice_index_or sums level [] ≡ level_sum root level (slice_index_or choices level false))
    → IsPunctured h (place_of (map not choices)) sums (leaves_without (place_of (map not choices)) root h)
grown_punctured h root choices sums bytes count inside given = record {
  node = λ level j. node_at root (path_to level j);
  bytes = λ level j deep below not_it. node_bytes root (path_to level j) bytes;
  halves = λ level j side deep below not_it. grown_halves root level j side;
  summed = λ level below. ap xor_all (same_range
      (λ j. node_at root (path_to (level + 1) (2 * j + side_away h (place_of (map not choices)) level)))
      (λ j. child_of (slice_index_or choices level false) (node_at root (path_to level j)))
      0 (2 ^ level)
      (λ j low high. ap (λ k. node_at root (path_to (level + 1) (2 * j + k))) (sym (away_is_choice h choices level count below))
      ∙ grown_halves root level j (slice_index_or choices level false)))
      ∙ sym (given level below);
  whole = length-map-range_with_len leaf 0 (2 ^ h);
  others = λ j below not_it. get_or-map-range_with_len leaf 0 (2 ^ h) j j 0 below (omega arith)
      ∙ ap (λ (b : Bool). if b then 0 else leaf_at root h j) (ne_eqb j alpha not_it);
  missing = get_or-map-range_with_len leaf 0 (2 ^ h) alpha alpha 0 inside (omega arith)
      ∙ ap (λ (b : Bool). if b then 0 else leaf_at root h alpha) (eq-eqb alpha alpha refl);
}
  where
    alpha : ℕ
    alpha = place_of (map not choices)

    leaf : ℕ → ℕ
    leaf j = if nat_eq j alpha then 0 else leaf_at root h j
