-- Whatever sums of 16 bytes are given, one for each level, there is a tree without the path to a leaf that has them: level
-- by level, children are halves of digests, and the one whose parent is missing is what the sum leaves of the others.
use Rattle.std.proofs.Common.{◌≡◌, ◌≢◌, ℕ, zero, suc, ◌+◌, ◌*◌, ◌/◌, ◌%◌, ◌^◌, ◌<◌, ◌≤◌, ◌⊎◌, inl, inr, Bool, true, false, nat_eq, List, [], map, length, slice_index_or, if◌then◌else◌, replicate, refl, sym, ◌∙◌, ap, subst, arith, add-one, fold, ne_eqb, eq-eqb}
use Rattle.std.specs.List.{AllByRecursion, range_with_len}
use Rattle.std.proofs.lemmas.List.Elements.{All-from_recursion}
use Rattle.std.proofs.lemmas.List.FromFn.{length-map-range_with_len, get_or-map-range_with_len}
use Rattle.tree_laws.proofs.Ancestors.{same_or_not, ancestor_below, side_of, halved}
use Rattle.zk_model.proofs.Octets.{child_bytes}
use Rattle.tree_laws.proofs.Xors.{xor_length, same_range, range_all, last_of_all, add_nothing, nothing_added, around, sum_are_bytes}
use Rattle.tree_laws.specs.Trees.{PuncturedExists}
use Rattle.zk_model.specs.Bits.{from_bit}
use Rattle.zk_model.specs.Bytes.{AreBytes, xor_bytes, xor_all}
use Rattle.zk_model.specs.Tree.{child_of, leaf_value, ancestor, side_away}

-- 16 bytes of 0
abbrev nothing : List ℕ
nothing = replicate 16 0

-- ---- a sum with one item that is told apart

-- the items of a function, with another one at a place
abbrev with_at : ℕ → List ℕ → (ℕ → List ℕ) → ℕ → List ℕ
with_at p x f j = if nat_eq j p then x else f j

-- at that place it is the other one
with_at-here : (p : ℕ) (x : List ℕ) (f : ℕ → List ℕ) (j : ℕ) → j ≡ p → with_at p x f j ≡ x
with_at-here p x f j is = ap (λ (b : Bool). if b then x else f j) (eq-eqb j p is)

-- and at all others it is the function's
with_at-else : (p : ℕ) (x : List ℕ) (f : ℕ → List ℕ) (j : ℕ) → j ≢ p → with_at p x f j ≡ f j
with_at-else p x f j not_it = ap (λ (b : Bool). if b then x else f j) (ne_eqb j p not_it)

-- the item at the place is added last
told_apart : (f : ℕ → List ℕ) (p a n : ℕ) (x sum : List ℕ) → length sum ≡ 16
    → ((j : ℕ) → length (f j) ≡ 16) → a ≤ p → p < a + n
    → fold xor_bytes sum (map (with_at p x f) (range_with_len a n))
    ≡ xor_bytes (fold xor_bytes sum (map (with_at p nothing f) (range_with_len a n))) x
told_apart f p a zero x sum whole long low high = absurd (omega (arith, low, high))
told_apart f p a (suc n) x sum whole long low high =
    by_first (same_or_not a p)
    (λ not_it. told_apart f p (a + 1) n x (xor_bytes sum (f a)) (xor_length 16 sum (f a) whole (long a)) long
    (past low not_it) (omega (arith, high)))
  where
    rest : List ℕ → List (List ℕ)
    rest item = map (with_at p item f) (range_with_len (a + 1) n)

    past : a ≤ p → a ≢ p → a + 1 ≤ p
    past at_least not_it = omega (arith, at_least, not_it)

    by_first : (a ≡ p) ⊎ (a ≢ p)
        → (a ≢ p → fold xor_bytes (xor_bytes sum (f a)) (rest x) ≡ xor_bytes (fold xor_bytes (xor_bytes sum (f a)) (rest nothing)) x)
        → fold xor_bytes (xor_bytes sum (with_at p x f a)) (rest x)
        ≡ xor_bytes (fold xor_bytes (xor_bytes sum (with_at p nothing f a)) (rest nothing)) x
    by_first (inl is) later =
        let after : rest x ≡ rest nothing = same_range (with_at p x f) (with_at p nothing f) (a + 1) n
        (λ j l h. let not_it : j ≢ p = λ e. omega (arith, l, e, is) in with_at-else p x f j not_it ∙ sym (with_at-else p nothing f j not_it)) in
        ap (λ item. fold xor_bytes (xor_bytes sum item) (rest x)) (with_at-here p x f a is)
        ∙ ap (fold xor_bytes (xor_bytes sum x)) after
        ∙ last_of_all (rest nothing) sum x
        ∙ ap (λ start. xor_bytes (fold xor_bytes start (rest nothing)) x)
        (sym (ap (xor_bytes sum) (with_at-here p nothing f a is ∙ ap (λ k. replicate k 0) (sym whole)) ∙ add_nothing sum))
    by_first (inr not_it) later =
        ap (λ item. fold xor_bytes (xor_bytes sum item) (rest x)) (with_at-else p x f a not_it)
        ∙ later not_it
        ∙ ap (λ item. xor_bytes (fold xor_bytes (xor_bytes sum item) (rest nothing)) x) (sym (with_at-else p nothing f a not_it))

-- ---- the nodes

-- a side as a digit, again
abbrev side_at : ℕ → Bool
side_at n = nat_eq n 1

side_at-is : (side : Bool) → side_at (from_bit side) ≡ side
side_at-is false = refl
side_at-is true = refl

-- what a sum leaves of the children of a level on a side, the one whose parent is missing apart
abbrev left_over : ℕ → ℕ → Bool → List ℕ → (ℕ → List ℕ) → List ℕ
left_over level missing side sum row =
    fold xor_bytes sum (map (with_at missing nothing (λ k. child_of side (row k))) (range_with_len 0 (2 ^ level)))

-- the children of a level on the side away from the leaf have this side
abbrev away : ℕ → ℕ → ℕ → Bool
away h alpha level = side_at (side_away h alpha level)

-- the nodes, level by level
found_node : ℕ → ℕ → List (List ℕ) → ℕ → ℕ → List ℕ
found_node h alpha sums zero j = nothing
found_node h alpha sums (suc level) j =
    with_at (ancestor h alpha level)
    (left_over level (ancestor h alpha level) (away h alpha level) (slice_index_or sums level []) (found_node h alpha sums level))
    (λ k. child_of (side_at (j % 2)) (found_node h alpha sums level k)) (j / 2)

-- the node below, as one level more
found_node-suc : (h alpha : ℕ) (sums : List (List ℕ)) (level j : ℕ) → found_node h alpha sums (level + 1) j
    ≡ with_at (ancestor h alpha level)
    (left_over level (ancestor h alpha level) (away h alpha level) (slice_index_or sums level []) (found_node h alpha sums level))
    (λ k. child_of (side_at (j % 2)) (found_node h alpha sums level k)) (j / 2)
unfolding found_node
found_node-suc h alpha sums level j = ap (λ l. found_node h alpha sums l j) (add-one level)

-- ---- what they are

-- the 16 bytes of 0 are bytes
nothing_bytes : AreBytes 16 nothing
nothing_bytes = (refl, All-from_recursion (λ byte. byte < 256) nothing (range_nothing 16))
  where
    range_nothing : (n : ℕ) → AllByRecursion (λ byte. byte < 256) (replicate n 0)
    range_nothing zero = tt
    range_nothing (suc n) = (omega arith, range_nothing n)

-- what a sum leaves is bytes
left_over_bytes : (level missing : ℕ) (side : Bool) (sum : List ℕ) (row : ℕ → List ℕ) → AreBytes 16 sum
    → AreBytes 16 (left_over level missing side sum row)
left_over_bytes level missing side sum row are =
    sum_are_bytes 16 (map item (range_with_len 0 (2 ^ level))) sum are
    (range_all (AreBytes 16) item 0 (2 ^ level) (λ j low high. each j (same_or_not j missing)))
  where
    item : ℕ → List ℕ
    item = with_at missing nothing (λ k. child_of side (row k))

    each : (j : ℕ) → (j ≡ missing) ⊎ (j ≢ missing) → AreBytes 16 (item j)
    each j (inl is) = subst (AreBytes 16) (sym (with_at-here missing nothing (λ k. child_of side (row k)) j is)) nothing_bytes
    each j (inr not_it) =
        subst (AreBytes 16) (sym (with_at-else missing nothing (λ k. child_of side (row k)) j not_it)) (child_bytes side (row j))

-- all nodes are bytes
found_bytes : (h alpha : ℕ) (sums : List (List ℕ)) (level j : ℕ) → ((level : ℕ) → level < h → AreBytes 16 (slice_index_or sums level []))
    → level ≤ h → AreBytes 16 (found_node h alpha sums level j)
unfolding found_node
found_bytes h alpha sums zero j are deep = nothing_bytes
found_bytes h alpha sums (suc level) j are deep = by_parent (same_or_not (j / 2) (ancestor h alpha level))
  where
    over : List ℕ
    over = left_over level (ancestor h alpha level) (away h alpha level) (slice_index_or sums level []) (found_node h alpha sums level)

    child : ℕ → List ℕ
    child k = child_of (side_at (j % 2)) (found_node h alpha sums level k)

    by_parent : (j / 2 ≡ ancestor h alpha level) ⊎ (j / 2 ≢ ancestor h alpha level)
        → AreBytes 16 (with_at (ancestor h alpha level) over child (j / 2))
    by_parent (inl is) = subst (AreBytes 16) (sym (with_at-here (ancestor h alpha level) over child (j / 2) is))
        (left_over_bytes level (ancestor h alpha level) (away h alpha level) (slice_index_or sums level []) (found_node h alpha sums level)
        (are level (omega (arith, deep))))
    by_parent (inr not_it) = subst (AreBytes 16) (sym (with_at-else (ancestor h alpha level) over child (j / 2) not_it))
        (child_bytes (side_at (j % 2)) (found_node h alpha sums level (j / 2)))

-- the children of a node that is no ancestor are the halves of its digest
found_halves : (h alpha : ℕ) (sums : List (List ℕ)) (level j : ℕ) (side : Bool) → j ≢ ancestor h alpha level
    → found_node h alpha sums (level + 1) (2 * j + from_bit side) ≡ child_of side (found_node h alpha sums level j)
found_halves h alpha sums level j side not_it =
    found_node-suc h alpha sums level (2 * j + from_bit side)
    ∙ with_at-else (ancestor h alpha level) over child ((2 * j + from_bit side) / 2) (λ e. not_it (sym (whole side) ∙ e))
    ∙ (λ i. child_of (digit i) (found_node h alpha sums level (whole side i)))
  where
    over : List ℕ
    over = left_over level (ancestor h alpha level) (away h alpha level) (slice_index_or sums level []) (found_node h alpha sums level)

    child : ℕ → List ℕ
    child k = child_of (side_at ((2 * j + from_bit side) % 2)) (found_node h alpha sums level k)

    whole : (side : Bool) → (2 * j + from_bit side) / 2 ≡ j
    whole false = omega arith
    whole true = omega arith

    low : (side : Bool) → (2 * j + from_bit side) % 2 ≡ from_bit side
    low false = omega arith
    low true = omega arith

    digit : side_at ((2 * j + from_bit side) % 2) ≡ side
    digit = ap side_at (low side) ∙ side_at-is side

-- the children of a level on the side away from the leaf have the given sum
found_summed : (h alpha : ℕ) (sums : List (List ℕ)) (level : ℕ) → alpha < 2 ^ h → level < h
    → ((level : ℕ) → level < h → AreBytes 16 (slice_index_or sums level []))
    → xor_all (map (λ j. found_node h alpha sums (level + 1) (2 * j + side_away h alpha level)) (range_with_len 0 (2 ^ level)))
    ≡ slice_index_or sums level []
found_summed h alpha sums level inside below are =
    ap xor_all (same_range (λ j. found_node h alpha sums (level + 1) (2 * j + side_away h alpha level))
    (with_at missing over child) 0 (2 ^ level) (λ j low high. node_is j))
    ∙ told_apart child missing 0 (2 ^ level) over nothing refl (λ j. (child_bytes (away h alpha level) (row j)).0)
    (omega arith) (let top = ancestor_below h alpha level inside (omega (arith, below)) in omega (arith, top))
    ∙ ap (xor_bytes others) from_sum
    ∙ around others sum (others_long ∙ sym long)
  where
    missing : ℕ
    missing = ancestor h alpha level

    row : ℕ → List ℕ
    row = found_node h alpha sums level

    sum : List ℕ
    sum = slice_index_or sums level []

    long : length sum ≡ 16
    long = (are level below).0

    over : List ℕ
    over = left_over level missing (away h alpha level) sum row

    child : ℕ → List ℕ
    child k = child_of (away h alpha level) (row k)

    items : List (List ℕ)
    items = map (with_at missing nothing child) (range_with_len 0 (2 ^ level))

    others : List ℕ
    others = fold xor_bytes nothing items

    others_long : length others ≡ 16
    others_long = (left_over_bytes level missing (away h alpha level) nothing row nothing_bytes).0

    from_sum : over ≡ xor_bytes others sum
    from_sum = ap (λ start. fold xor_bytes start items) (sym (nothing_added sum long)) ∙ last_of_all items nothing sum

    digit : (n : ℕ) → n ≤ 1 → (side : Bool) × (from_bit side ≡ n)
    digit n small = side_of n (omega (arith, small))

    side : (side : Bool) × (from_bit side ≡ side_away h alpha level)
    side = digit (side_away h alpha level) (omega arith)

    parity : (j : ℕ) (side : Bool) → (2 * j + from_bit side) % 2 ≡ from_bit side
    parity j false = omega arith
    parity j true = omega arith

    node_is : (j : ℕ) → found_node h alpha sums (level + 1) (2 * j + side_away h alpha level) ≡ with_at missing over child j
    node_is j = found_node-suc h alpha sums level (2 * j + side_away h alpha level)
        ∙ (λ i. with_at missing over (λ k. child_of (side_at (odd i)) (row k)) (halved j (ancestor h alpha (level + 1) % 2) i))
      where
        odd : (2 * j + side_away h alpha level) % 2 ≡ side_away h alpha level
        odd = ap (λ n. (2 * j + n) % 2) (sym side.1) ∙ parity j side.0 ∙ side.1

-- ---- the leaves

-- there is a tree without the path to a leaf, whatever the sums are
pub punctured_exists : PuncturedExists
punctured_exists h alpha sums inside count are = (
  map leaf (range_with_len 0 (2 ^ h)),
  record {
    node = found_node h alpha sums;
    bytes = λ level j deep below not_it. found_bytes h alpha sums level j each deep;
    halves = λ level j side deep below not_it. found_halves h alpha sums level j side not_it;
    summed = λ level below. found_summed h alpha sums level inside below each;
    whole = length-map-range_with_len leaf 0 (2 ^ h);
    others = λ j below not_it. get_or-map-range_with_len leaf 0 (2 ^ h) j j 0 below (omega arith)
        ∙ ap (λ (b : Bool). if b then 0 else leaf_value (found_node h alpha sums h j)) (ne_eqb j alpha not_it);
    missing = get_or-map-range_with_len leaf 0 (2 ^ h) alpha alpha 0 inside (omega arith)
        ∙ ap (λ (b : Bool). if b then 0 else leaf_value (found_node h alpha sums h alpha)) (eq-eqb alpha alpha refl);
  },
)
  where
    each : (level : ℕ) → level < h → AreBytes 16 (slice_index_or sums level [])
    each level below = are level [] (omega (arith, count, below))

    leaf : ℕ → ℕ
    leaf j = if nat_eq j alpha then 0 else leaf_value (found_node h alpha sums h j)
