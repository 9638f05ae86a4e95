-- The leaves that are found of a tree without the path to one leaf, and the sums that are held of its levels.
use Rattle.std.proofs.Common.{◌≡◌, ◌≢◌, ℕ, zero, suc, ◌+◌, ◌-◌, ◌*◌, ◌/◌, ◌%◌, ◌^◌, ◌<◌, ◌≤◌, ◌⊎◌, inl, inr, Bool, true, false, nat_eq, if◌then◌else◌, List, [], ◌∷◌, map, length, get_or, drop, replicate, fold, refl, subst, sym, ◌∙◌, ap, arith, add-one, pow-suc, pow-add, div-one}
use Rattle.std.specs.List.{range_with_len}
use Rattle.std.proofs.Math.Nat.{div-div-eq-div-mul, mul-le-mul_right}
use Rattle.std.proofs.lemmas.Bool.{cases_lt}
use Rattle.std.proofs.lemmas.List.{length-replicate, get_or-drop, get_or-map, get_or-replicate, get_or_default}
use Rattle.std.proofs.lemmas.List.FromFn.{get_or-map-range_with_len, length-map-range_with_len}
use Rattle.std.proofs.lemmas.Nat.{div-mul-add, pow_pos}
use Rattle.std.proofs.lemmas.Simd.{map-map}
use Rattle.tree_laws.proofs.Ancestors.{same_or_not, parent, ancestor_below, side_of, other_child, other_side, child_below, parent_below}
use Rattle.tree_laws.proofs.FoundTrees.{punctured_exists}
use Rattle.tree_laws.proofs.Xors.{same_range}
use Rattle.zk_model.specs.Bits.{from_bit}
use Rattle.zk_model.specs.Bytes.{LeftRight, AreBytes, xor_bytes, xor_all}
use Rattle.zk_model.specs.Tree.{child_of, leaf_value, ancestor, side_away, IsPunctured}
use Rattle.ggm_tree.specs.Rows.{children_of, nodes_below, sums_with, level_in, nothing}
use Rattle.ggm_tree.specs.Found.{sibling_of, sibling_node, AreLeavesFilled}
use Rattle.ggm_tree.proofs.Ranges.{xor_range, outside, AreLong, outside_long, outside_back, outside_front, found_apart, from_sum}
use Rattle.ggm_tree.proofs.Trees.{children_range, below_last, no_sums}

-- ---- places

-- a place in a block
in_block : (j w s : ℕ) → s * w ≤ j → j < s * w + w → j / w ≡ s
in_block j w s low high =
    let split : j ≡ s * w + (j - s * w) = omega (arith, low) in
    ap (λ k. k / w) split ∙ div-mul-add s w (j - s * w) (omega (arith, low, high))

-- a place outside of a block
not_in_block : (j w s : ℕ) → j / w ≢ s → (j < s * w) ⊎ (s * w + w ≤ j)
not_in_block j w s other = by_first (cases_lt j (s * w))
  where
    by_second : s * w ≤ j → (j < s * w + w) ⊎ (s * w + w ≤ j) → (j < s * w) ⊎ (s * w + w ≤ j)
    by_second low (inl high) = absurd (other (in_block j w s low high))
    by_second low (inr past) = inr past

    by_first : (j < s * w) ⊎ (s * w ≤ j) → (j < s * w) ⊎ (s * w + w ≤ j)
    by_first (inl below) = inl below
    by_first (inr low) = by_second low (cases_lt j (s * w + w))

-- the block of the ancestor some levels up
ancestor_up : (h alpha level m : ℕ) → level + m ≤ h → ancestor h alpha (level + m) / 2 ^ m ≡ ancestor h alpha level
ancestor_up h alpha level m deep =
    let rest : h - (level + m) + m ≡ h - level = omega arith in
    div-div-eq-div-mul alpha (2 ^ (h - (level + m))) (2 ^ m)
    ∙ ap (λ n. alpha / n) (sym (pow-add 2 (h - (level + m)) m)) ∙ ap (λ n. alpha / 2 ^ n) rest

-- blocks of a level lie within the level
block_inside : (level m s : ℕ) → s < 2 ^ level → s * 2 ^ m + 2 ^ m ≤ 2 ^ (level + m)
block_inside level m s inside =
    let most : (s + 1) * 2 ^ m ≤ 2 ^ level * 2 ^ m = mul-le-mul_right (2 ^ m) (omega (arith, inside)) in
    omega (arith, most, pow-add 2 level m)

-- ---- the nodes below one that is no ancestor

below_node : (h alpha : ℕ) (sums : List (List ℕ)) (found : List ℕ) (tree : IsPunctured h alpha sums found) (level s : ℕ) → s < 2 ^ level
    → s ≢ ancestor h alpha level → (m : ℕ) → level + m ≤ h
    → nodes_below (tree.node level s ∷ []) m ≡ map (tree.node (level + m)) (range_with_len (s * 2 ^ m) (2 ^ m))
unfolding nodes_below
below_node h alpha sums found tree level s inside other zero deep =
    let here : level ≡ level + 0 = omega arith in let place : s ≡ s * 2 ^ 0 = omega arith in
    (λ i. tree.node (here i) (place i) ∷ [])
below_node h alpha sums found tree level s inside other (suc m) deep =
    below_last (tree.node level s ∷ []) m
    ∙ ap children_of (below_node h alpha sums found tree level s inside other m (omega (arith, deep)))
    ∙ children_range (tree.node (level + m)) (tree.node (level + suc m)) (s * 2 ^ m) (2 ^ m) made
    ∙ (λ i. map (tree.node (level + suc m)) (range_with_len (twice_place i) (twice i)))
  where
    twice : 2 * 2 ^ m ≡ 2 ^ suc m
    twice = let next = pow-suc 2 m in omega (arith, next)

    twice_place : 2 * (s * 2 ^ m) ≡ s * 2 ^ suc m
    twice_place = let next = ap (λ n. s * n) twice in omega (arith, next)

    made : (j : ℕ) (side : Bool) → s * 2 ^ m ≤ j → j < s * 2 ^ m + 2 ^ m
        → tree.node (level + suc m) (2 * j + from_bit side) ≡ child_of side (tree.node (level + m) j)
    made j side low high =
        let next : level + suc m ≡ level + m + 1 = omega arith in
        ap (λ l. tree.node l (2 * j + from_bit side)) next
        ∙ tree.halves (level + m) j side (omega (arith, deep)) (omega (arith, high, block_inside level m s inside))
        (λ e. other (sym (in_block j (2 ^ m) s low high) ∙ ap (λ k. k / 2 ^ m) e ∙ ancestor_up h alpha level m (omega (arith, deep))))

-- ---- what is found and held

-- the children of a level on a side
abbrev pub side_node : (ℕ → ℕ → List ℕ) → ℕ → Bool → ℕ → List ℕ
side_node node level side j = node (level + 1) (2 * j + from_bit side)

abbrev pub side_in : LeftRight → Bool → List ℕ
side_in both side = if side then both.right else both.left

-- Of every tree that has these sums and lacks the path to one leaf, the leaves that are not below the ancestor in a level
-- are there, and of each level below the XOR of the nodes not below it. The sums so far are nodes.
pub record IsFound (h alpha level : ℕ) (sums : List (List ℕ)) (held : List LeftRight) (leaves : List ℕ) : Type 0 where
  pub long : length leaves ≡ 2 ^ h
  pub held_long : length held ≡ 16
  pub octets : (k : ℕ) → k < level → AreBytes 16 (get_or sums k [])
  pub missing : (j : ℕ) → j / 2 ^ (h - level) ≡ ancestor h alpha level → get_or leaves j 0 ≡ 0
  pub others : (found : List ℕ) (tree : IsPunctured h alpha sums found) (j : ℕ) → j < 2 ^ h → j / 2 ^ (h - level) ≢ ancestor h alpha level
      → get_or leaves j 0 ≡ leaf_value (tree.node h j)
  pub summed : (found : List ℕ) (tree : IsPunctured h alpha sums found) (m : ℕ) (side : Bool) → level + m < h
      → side_in (level_in held (level + m)) side
      ≡ outside (side_node tree.node (level + m) side) (ancestor h alpha level * 2 ^ m) (2 ^ m) (2 ^ (level + m))

-- the nodes of a level outside of the block below an ancestor are nodes
nodes_long : (h alpha : ℕ) (sums : List (List ℕ)) (found : List ℕ) (tree : IsPunctured h alpha sums found) (level m : ℕ) (side : Bool)
    → level + m < h → AreLong (side_node tree.node (level + m) side) (ancestor h alpha level * 2 ^ m) (2 ^ m) (2 ^ (level + m))
nodes_long h alpha sums found tree level m side deep j below aside =
    (tree.bytes (level + m + 1) (2 * j + from_bit side) (omega (arith, deep)) (child_below (level + m) j (from_bit side) below (small side)) apart).0
  where
    small : (side : Bool) → from_bit side ≤ 1
    small false = omega arith
    small true = omega arith

    half : (side : Bool) → (2 * j + from_bit side) / 2 ≡ j
    half false = omega arith
    half true = omega arith

    within : j ≡ ancestor h alpha (level + m) → ⊥
    within e =
        let up : j / 2 ^ m ≡ ancestor h alpha level = ap (λ k. k / 2 ^ m) e ∙ ancestor_up h alpha level m (omega (arith, deep)) in
        let low : ancestor h alpha level * 2 ^ m ≤ j = omega (arith, ap (λ k. k * 2 ^ m) up) in
        aside low (omega (arith, ap (λ k. k * 2 ^ m) up, pow_pos m))

    apart : 2 * j + from_bit side ≢ ancestor h alpha (level + m + 1)
    apart e = within (sym (half side) ∙ ap (λ k. k / 2) e ∙ parent h alpha (level + m) deep)

-- ---- the sibling

-- the sibling of the ancestor in the next level
abbrev pub place_at : ℕ → ℕ → ℕ → ℕ
place_at h alpha level = ancestor h alpha (level + 1)

side_is : (n : ℕ) → n < 2 → from_bit (nat_eq n 0) ≡ 1 - n
side_is zero below = refl
side_is (suc zero) below = refl
side_is (suc (suc n)) below = absurd (omega (arith, below))

sibling_found : (h alpha level : ℕ) (sums : List (List ℕ)) (held : List LeftRight) (leaves : List ℕ) → alpha < 2 ^ h → level < h
    → IsFound h alpha level sums held leaves → (found : List ℕ) (tree : IsPunctured h alpha sums found)
    → sibling_node (place_at h alpha level) (get_or sums level []) (level_in held level) ≡ tree.node (level + 1) (sibling_of (place_at h alpha level))
sibling_found h alpha level sums held leaves inside lower so_far found tree =
    ap (λ node. xor_bytes node (get_or sums level [])) here
    ∙ found_apart node p (2 ^ level) (get_or sums level []) (ancestor_below h alpha level inside (omega (arith, lower))) aside spared summed
    ∙ ap (tree.node (level + 1)) (sym at)
  where
    place : ℕ
    place = place_at h alpha level

    p : ℕ
    p = ancestor h alpha level

    side : Bool
    side = nat_eq (place % 2) 0

    node : ℕ → List ℕ
    node = side_node tree.node level side

    digit : from_bit side ≡ side_away h alpha level
    digit = side_is (place % 2) (omega arith)

    at : sibling_of place ≡ 2 * p + from_bit side
    at = (λ i. 2 * parent h alpha level lower i + sym digit i)

    none : level + 0 ≡ level
    none = omega arith

    one : p * 2 ^ 0 ≡ p
    one = omega arith

    here : side_in (level_in held level) side ≡ outside node p 1 (2 ^ level)
    here = ap (λ l. side_in (level_in held l) side) (sym none) ∙ so_far.summed found tree 0 side (omega (arith, lower))
        ∙ (λ i. outside (side_node tree.node (none i) side) (one i) 1 (2 ^ none i))

    aside : AreLong node p 1 (2 ^ level)
    aside = subst (λ (l : ℕ). AreLong (side_node tree.node l side) p 1 (2 ^ l)) none
        (subst (λ (k : ℕ). AreLong (side_node tree.node (level + 0) side) k 1 (2 ^ (level + 0))) one
        (nodes_long h alpha sums found tree level 0 side (omega (arith, lower))))

    spared : length (node p) ≡ 16
    spared = subst (λ (n : ℕ). length (tree.node (level + 1) (2 * p + n)) ≡ 16) (sym digit)
        (tree.bytes (level + 1) (2 * p + side_away h alpha level) (omega (arith, lower))
        (child_below level p (side_away h alpha level) (ancestor_below h alpha level inside (omega (arith, lower))) (omega arith))
        (other_side p place)).0

    summed : xor_range node 0 (2 ^ level) ≡ get_or sums level []
    summed = ap (λ n. xor_all (map (λ j. tree.node (level + 1) (2 * j + n)) (range_with_len 0 (2 ^ level)))) digit ∙ tree.summed level lower

-- the place of the sibling
sibling_inside : (h alpha level : ℕ) → alpha < 2 ^ h → level < h → sibling_of (place_at h alpha level) < 2 ^ (level + 1)
sibling_inside h alpha level inside lower =
    child_below level (place_at h alpha level / 2) (1 - place_at h alpha level % 2)
    (parent_below level (place_at h alpha level) (ancestor_below h alpha (level + 1) inside (omega (arith, lower)))) (omega arith)

-- the nodes below it
sibling_row : (h alpha level : ℕ) (sums : List (List ℕ)) (held : List LeftRight) (leaves : List ℕ) → alpha < 2 ^ h → level < h
    → IsFound h alpha level sums held leaves → (found : List ℕ) (tree : IsPunctured h alpha sums found) (m : ℕ) → level + 1 + m ≤ h
    → nodes_below (sibling_node (place_at h alpha level) (get_or sums level []) (level_in held level) ∷ []) m
    ≡ map (tree.node (level + 1 + m)) (range_with_len (sibling_of (place_at h alpha level) * 2 ^ m) (2 ^ m))
sibling_row h alpha level sums held leaves inside lower so_far found tree m deep =
    ap (λ node. nodes_below (node ∷ []) m) (sibling_found h alpha level sums held leaves inside lower so_far found tree)
    ∙ below_node h alpha sums found tree (level + 1) (sibling_of (place_at h alpha level)) (sibling_inside h alpha level inside lower)
    (other_side (place_at h alpha level / 2) (place_at h alpha level)) m deep

-- the block of the ancestor, and that of its sibling, are the two halves of the block above them
both_halves : (node : ℕ → List ℕ) (a place w n : ℕ) → place / 2 ≡ a → a * (w + w) + (w + w) ≤ n → AreLong node (place * w) w n
    → xor_bytes (outside node (a * (w + w)) (w + w) n) (xor_range node (sibling_of place * w) w) ≡ outside node (place * w) w n
both_halves node a place w n over inside each = by_side (side_of (place % 2) (omega arith))
  where
    by_side : (side : Bool) × (from_bit side ≡ place % 2)
        → xor_bytes (outside node (a * (w + w)) (w + w) n) (xor_range node (sibling_of place * w) w) ≡ outside node (place * w) w n
    by_side (false, even) =
        let sibling : sibling_of place ≡ 2 * a + 1 = omega (arith, over, even) in
        let here : place ≡ 2 * a = omega (arith, over, even) in
        let place_of : place * w ≡ a * (w + w) = omega (arith, ap (λ k. k * w) here) in
        let sibling_place : sibling_of place * w ≡ a * (w + w) + w = ap (λ k. k * w) sibling ∙ omega arith in
        ap (λ k. xor_bytes (outside node (a * (w + w)) (w + w) n) (xor_range node k w)) sibling_place
        ∙ outside_back node (a * (w + w)) w n inside (subst (λ (k : ℕ). AreLong node k w n) place_of each)
        ∙ ap (λ k. outside node k w n) (sym place_of)
    by_side (true, odd) =
        let sibling : sibling_of place ≡ 2 * a = omega (arith, over, odd) in
        let here : place ≡ 2 * a + 1 = omega (arith, over, odd) in
        let place_of : place * w ≡ a * (w + w) + w = omega (arith, ap (λ k. k * w) here) in
        let sibling_place : sibling_of place * w ≡ a * (w + w) = ap (λ k. k * w) sibling ∙ omega arith in
        ap (λ k. xor_bytes (outside node (a * (w + w)) (w + w) n) (xor_range node k w)) sibling_place
        ∙ outside_front node (a * (w + w)) w n inside (subst (λ (k : ℕ). AreLong node k w n) place_of each)
        ∙ ap (λ k. outside node k w n) (sym place_of)

-- a side of sums to which a row's children are added
side_with : (side : Bool) (sums : LeftRight) (row : List (List ℕ))
    → side_in (sums_with sums row) side ≡ fold xor_bytes (side_in sums side) (map (child_of side) row)
side_with false sums row = refl
side_with true sums row = refl

-- ---- one level more

-- what is held then
held_more : (h alpha level : ℕ) (sums : List (List ℕ)) (held after : List LeftRight) (leaves filled : List ℕ) → alpha < 2 ^ h → level < h
    → AreLeavesFilled level (h - (level + 1)) (place_at h alpha level) (get_or sums level []) held after leaves filled
    → IsFound h alpha level sums held leaves → (found : List ℕ) (tree : IsPunctured h alpha sums found) (m : ℕ) (side : Bool) → level + 1 + m < h
    → side_in (level_in after (level + 1 + m)) side
    ≡ outside (side_node tree.node (level + 1 + m) side) (place_at h alpha level * 2 ^ m) (2 ^ m) (2 ^ (level + 1 + m))
held_more h alpha level sums held after leaves filled inside lower done so_far found tree m side deep =
    ap (λ both. side_in both side) (sym (get_or-drop (level + 1) after m none) ∙ done.added.added m (omega (arith, deep)))
    ∙ side_with side (level_in (drop (level + 1) held) m)
    (nodes_below (sibling_node (place_at h alpha level) (get_or sums level []) (level_in held level) ∷ []) m)
    ∙ (λ i. fold xor_bytes (side_in (get_or-drop (level + 1) held m none i) side)
    (map (child_of side) (sibling_row h alpha level sums held leaves inside lower so_far found tree m (omega (arith, deep)) i)))
    ∙ ap (fold xor_bytes (side_in (level_in held (level + 1 + m)) side)) children
    ∙ from_sum (map node (range_with_len (sibling * 2 ^ m) (2 ^ m))) (side_in (level_in held (level + 1 + m)) side) before_long
    ∙ ap (λ sum. xor_bytes sum (xor_range node (sibling * 2 ^ m) (2 ^ m))) before
    ∙ both_halves node (ancestor h alpha level) (place_at h alpha level) (2 ^ m) (2 ^ (level + 1 + m)) (parent h alpha level lower) room
    (nodes_long h alpha sums found tree (level + 1) m side deep)
  where
    none : LeftRight
    none = record { left = []; right = [] }

    node : ℕ → List ℕ
    node = side_node tree.node (level + 1 + m) side

    sibling : ℕ
    sibling = sibling_of (place_at h alpha level)

    above_inside : ancestor h alpha level < 2 ^ level
    above_inside = ancestor_below h alpha level inside (omega (arith, lower))

    same : level + (m + 1) ≡ level + 1 + m
    same = omega arith

    twice : 2 ^ (m + 1) ≡ 2 ^ m + 2 ^ m
    twice = let next = pow-suc 2 m in omega (arith, next, ap (λ n. 2 ^ n) (add-one m))

    before : side_in (level_in held (level + 1 + m)) side
        ≡ outside node (ancestor h alpha level * (2 ^ m + 2 ^ m)) (2 ^ m + 2 ^ m) (2 ^ (level + 1 + m))
    before = ap (λ l. side_in (level_in held l) side) (sym same) ∙ so_far.summed found tree (m + 1) side (omega (arith, deep))
        ∙ (λ i. outside (side_node tree.node (same i) side) (ancestor h alpha level * twice i) (twice i) (2 ^ same i))

    before_long : length (side_in (level_in held (level + 1 + m)) side) ≡ 16
    before_long = ap (λ l. length (side_in (level_in held l) side)) (sym same)
        ∙ ap length (so_far.summed found tree (m + 1) side (omega (arith, deep)))
        ∙ outside_long (side_node tree.node (level + (m + 1)) side) (ancestor h alpha level * 2 ^ (m + 1)) (2 ^ (m + 1)) (2 ^ (level + (m + 1)))
        (block_inside level (m + 1) (ancestor h alpha level) above_inside)
        (nodes_long h alpha sums found tree level (m + 1) side (omega (arith, deep)))

    room : ancestor h alpha level * (2 ^ m + 2 ^ m) + (2 ^ m + 2 ^ m) ≤ 2 ^ (level + 1 + m)
    room = subst (λ (l : ℕ). ancestor h alpha level * (2 ^ m + 2 ^ m) + (2 ^ m + 2 ^ m) ≤ 2 ^ l) same
        (subst (λ (w : ℕ). ancestor h alpha level * w + w ≤ 2 ^ (level + (m + 1))) twice
        (block_inside level (m + 1) (ancestor h alpha level) above_inside))

    children : map (child_of side) (map (tree.node (level + 1 + m)) (range_with_len (sibling * 2 ^ m) (2 ^ m)))
        ≡ map node (range_with_len (sibling * 2 ^ m) (2 ^ m))
    children = map-map (child_of side) (tree.node (level + 1 + m)) (range_with_len (sibling * 2 ^ m) (2 ^ m))
        ∙ same_range (λ j. child_of side (tree.node (level + 1 + m) j)) node (sibling * 2 ^ m) (2 ^ m)
        (λ j low high. sym (tree.halves (level + 1 + m) j side deep
        (omega (arith, high, block_inside (level + 1) m sibling (sibling_inside h alpha level inside lower)))
        (λ e. other_side (place_at h alpha level / 2) (place_at h alpha level)
        (sym (in_block j (2 ^ m) sibling low high) ∙ ap (λ k. k / 2 ^ m) e ∙ ancestor_up h alpha (level + 1) m (omega (arith, deep))))))

-- the leaves that are found then
leaf_more : (h alpha level : ℕ) (sums : List (List ℕ)) (held after : List LeftRight) (leaves filled : List ℕ) → alpha < 2 ^ h → level < h
    → AreLeavesFilled level (h - (level + 1)) (place_at h alpha level) (get_or sums level []) held after leaves filled
    → IsFound h alpha level sums held leaves → (found : List ℕ) (tree : IsPunctured h alpha sums found) (j : ℕ) → j < 2 ^ h
    → j / 2 ^ (h - (level + 1)) ≢ place_at h alpha level → get_or filled j 0 ≡ leaf_value (tree.node h j)
leaf_more h alpha level sums held after leaves filled inside lower done so_far found tree j below away =
    by_sibling (same_or_not (j / w) sibling)
  where
    deep : ℕ
    deep = h - (level + 1)

    w : ℕ
    w = 2 ^ (h - (level + 1))

    sibling : ℕ
    sibling = sibling_of (place_at h alpha level)

    whole : level + 1 + (h - (level + 1)) ≡ h
    whole = omega (arith, lower)

    up : j / w / 2 ≡ j / 2 ^ (h - level)
    up = parent h j level lower

    by_sibling : (j / w ≡ sibling) ⊎ (j / w ≢ sibling) → get_or filled j 0 ≡ leaf_value (tree.node h j)
    by_sibling (inl is) =
        let block = ap (λ k. k * w) is in
        let low : sibling * w ≤ j = omega (arith, block) in
        let high : j < sibling * w + w = omega (arith, block, pow_pos (h - (level + 1))) in
        let place : sibling * w + (j - sibling * w) ≡ j = omega (arith, low) in
        ap (λ k. get_or filled k 0) (sym place) ∙ done.written (j - sibling * w) (omega (arith, low, high))
        ∙ ap (λ row. get_or (map leaf_value row) (j - sibling * w) 0)
        (sibling_row h alpha level sums held leaves inside lower so_far found tree deep (omega (arith, lower)))
        ∙ get_or-map leaf_value (map (tree.node (level + 1 + deep)) (range_with_len (sibling * w) w)) (j - sibling * w) [] 0
        (omega (arith, low, high, length-map-range_with_len (tree.node (level + 1 + deep)) (sibling * w) w))
        ∙ ap leaf_value (get_or-map-range_with_len (tree.node (level + 1 + deep)) (sibling * w) w (j - sibling * w) j [] (omega (arith, low, high)) place
        ∙ ap (λ l. tree.node l j) whole)
    by_sibling (inr other) = done.kept j (not_in_block j w sibling other)
        ∙ so_far.others found tree j below (λ e. other (sym (other_child (j / w) (place_at h alpha level) away
        (up ∙ e ∙ sym (parent h alpha level lower)))))

-- all of it
pub found_more : (h alpha level below place : ℕ) (sums : List (List ℕ)) (held after : List LeftRight) (leaves filled : List ℕ) → alpha < 2 ^ h
    → level < h → below ≡ h - 1 - level → place ≡ alpha / 2 ^ (h - 1 - level) → length after ≡ length held → length filled ≡ length leaves
    → AreBytes 16 (get_or sums level []) → AreLeavesFilled level below place (get_or sums level []) held after leaves filled
    → IsFound h alpha level sums held leaves → IsFound h alpha (level + 1) sums after filled
found_more h alpha level below place sums held after leaves filled inside lower under at held_same same octets done so_far = record {
  long = same ∙ so_far.long;
  held_long = held_same ∙ so_far.held_long;
  octets = λ k under. by_last k under (same_or_not k level);
  missing = λ j is. here.kept j (not_in_block j (2 ^ (h - (level + 1))) (sibling_of (place_at h alpha level))
      (λ e. other_side (place_at h alpha level / 2) (place_at h alpha level) (sym e ∙ is)))
      ∙ so_far.missing j (sym (parent h j level lower) ∙ ap (λ k. k / 2) is ∙ parent h alpha level lower);
  others = leaf_more h alpha level sums held after leaves filled inside lower here so_far;
  summed = held_more h alpha level sums held after leaves filled inside lower here so_far;
}
  where
    less : h - 1 - level ≡ h - (level + 1)
    less = omega arith

    here : AreLeavesFilled level (h - (level + 1)) (place_at h alpha level) (get_or sums level []) held after leaves filled
    here = subst (λ (n : ℕ). AreLeavesFilled level n (place_at h alpha level) (get_or sums level []) held after leaves filled) (under ∙ less)
        (subst (λ (p : ℕ). AreLeavesFilled level below p (get_or sums level []) held after leaves filled) (at ∙ ap (λ n. alpha / 2 ^ n) less) done)

    by_last : (k : ℕ) → k < level + 1 → (k ≡ level) ⊎ (k ≢ level) → AreBytes 16 (get_or sums k [])
    by_last k under (inl it) = subst (λ (i : ℕ). AreBytes 16 (get_or sums i [])) (sym it) octets
    by_last k under (inr other) = so_far.octets k (omega (arith, under, other))

-- at first nothing is found or held
pub found_none : (h alpha : ℕ) (sums : List (List ℕ)) (held : List LeftRight) (none : LeftRight) (leaves : List ℕ) → alpha < 2 ^ h → h ≤ 16
    → none ≡ no_sums → held ≡ replicate 16 none → leaves ≡ replicate (2 ^ h) 0 → IsFound h alpha 0 sums held leaves
found_none h alpha sums held none leaves inside high nothing_yet is are = record {
  long = ap length are ∙ length-replicate (2 ^ h) 0;
  held_long = ap length is ∙ length-replicate 16 none;
  octets = λ k below. absurd (omega (arith, below));
  missing = λ j below_it. ap (λ list. get_or list j 0) are ∙ zero_there (2 ^ h) j;
  others = λ found tree j below other. absurd (other (div-below j below ∙ sym top));
  summed = λ found tree m side deep. ap (λ both. side_in both side) (ap (λ list. level_in list (0 + m)) is
      ∙ get_or-replicate 16 (0 + m) none (record { left = []; right = [] }) (omega (arith, deep, high)) ∙ nothing_yet)
      ∙ side_none side
      ∙ (λ i. outside_none (side_node tree.node (0 + m) side) (2 ^ m) i)
      ∙ (λ i. outside (side_node tree.node (0 + m) side) (low m i) (2 ^ m) (2 ^ same m i));
}
  where
    top : ancestor h alpha 0 ≡ 0
    top = omega (arith, ancestor_below h alpha 0 inside (omega arith))

    div-below : (j : ℕ) → j < 2 ^ h → j / 2 ^ (h - 0) ≡ 0
    div-below j below = omega (arith, ancestor_below h j 0 below (omega arith))

    zero_there : (n j : ℕ) → ◌≡◌ {A = ℕ} (get_or (replicate n 0) j 0) 0
    zero_there zero j = refl
    zero_there (suc n) zero = refl
    zero_there (suc n) (suc j) = zero_there n j

    side_none : (side : Bool) → side_in no_sums side ≡ nothing
    side_none false = refl
    side_none true = refl

    low : (m : ℕ) → 0 ≡ ancestor h alpha 0 * 2 ^ m
    low m = omega (arith, ap (λ k. k * 2 ^ m) top)

    same : (m : ℕ) → m ≡ 0 + m
    same m = omega arith

    outside_none : (node : ℕ → List ℕ) (w : ℕ) → nothing ≡ outside node 0 w w
    outside_none node w =
        let rest : w - (0 + w) ≡ 0 = omega arith in
        sym (ap (λ k. xor_bytes nothing (xor_range node (0 + w) k)) rest)

-- at last all leaves are found
pub found_all : (h alpha : ℕ) (sums : List (List ℕ)) (held : List LeftRight) (leaves : List ℕ) → alpha < 2 ^ h → length sums ≡ h
    → IsFound h alpha h sums held leaves → IsPunctured h alpha sums leaves
found_all h alpha sums held leaves inside count all = record {
  node = tree.1.node;
  bytes = tree.1.bytes;
  halves = tree.1.halves;
  summed = tree.1.summed;
  whole = all.long;
  others = λ j below other. all.others tree.0 tree.1 j below (λ e. other (sym (last j) ∙ e ∙ last alpha));
  missing = all.missing alpha refl;
}
  where
    tree : (found : List ℕ) × IsPunctured h alpha sums found
    tree = punctured_exists h alpha sums inside count
        (λ k d below. subst (AreBytes 16) (get_or_default sums k [] d below) (all.octets k (omega (arith, below, count))))

    last : (j : ℕ) → j / 2 ^ (h - h) ≡ j
    last j = let none : h - h ≡ 0 = omega arith in ap (λ n. j / 2 ^ n) none ∙ div-one j

-- the sibling's leaves have room
pub sibling_room : (h alpha level : ℕ) → alpha < 2 ^ h → level < h
    → sibling_of (alpha / 2 ^ (h - 1 - level)) * 2 ^ (h - 1 - level) + 2 ^ (h - 1 - level) ≤ 2 ^ h
sibling_room h alpha level inside lower =
    let less : h - 1 - level ≡ h - (level + 1) = omega arith in
    let whole : level + 1 + (h - (level + 1)) ≡ h = omega (arith, lower) in
    subst (λ (n : ℕ). sibling_of (alpha / 2 ^ n) * 2 ^ n + 2 ^ n ≤ 2 ^ h) (sym less)
    (subst (λ (n : ℕ). sibling_of (place_at h alpha level) * 2 ^ (h - (level + 1)) + 2 ^ (h - (level + 1)) ≤ 2 ^ n) whole
    (block_inside (level + 1) (h - (level + 1)) (sibling_of (place_at h alpha level)) (sibling_inside h alpha level inside lower)))
