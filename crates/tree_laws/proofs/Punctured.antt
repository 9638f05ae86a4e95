-- The sums of a tree without the path to one leaf determine its leaves.
use Rattle.std.proofs.Common.{◌≡◌, ◌≢◌, ℕ, zero, suc, ◌+◌, ◌-◌, ◌*◌, ◌/◌, ◌%◌, ◌^◌, ◌<◌, ◌≤◌, ◌⊎◌, inl, inr, Bool, List, map, length, slice_index, replicate, refl, sym, ◌∙◌, ap, subst, arith, add-one}
use Rattle.std.proofs.Math.Nat.{div-one}
use Rattle.std.specs.Prelude.{fold}
use Rattle.std.specs.List.{range_with_len}
use Rattle.std.proofs.lemmas.List.{ext_get_or}
use Rattle.tree_laws.proofs.Ancestors.{same_or_not, parent, ancestor_below, child_place, other_child, halved, other_side, child_below, parent_below}
use Rattle.tree_laws.proofs.Xors.{cancel_last, either_order, xor_length, same_start, same_range, long_range}
use Rattle.zk_model.specs.Bits.{from_bit}
use Rattle.zk_model.specs.Bytes.{xor_bytes}
use Rattle.zk_model.specs.Tree.{child_of, leaf_value, ancestor, side_away, IsPunctured}
use Rattle.tree_laws.specs.Trees.{OnePunctured}

-- ---- sums

-- nodes with the same sum that are the same at all places but one are the same there
same_at_last : (f g : ℕ → List ℕ) (p a n : ℕ) (sum : List ℕ) → length sum ≡ 16
    → ((j : ℕ) → a ≤ j → j < a + n → length (f j) ≡ 16) → ((j : ℕ) → a ≤ j → j < a + n → length (g j) ≡ 16)
    → ((j : ℕ) → a ≤ j → j < a + n → j ≢ p → f j ≡ g j) → a ≤ p → p < a + n
    → fold xor_bytes sum (map f (range_with_len a n)) ≡ fold xor_bytes sum (map g (range_with_len a n)) → f p ≡ g p
same_at_last f g p a zero sum whole left right others low high same = absurd (omega (arith, low, high))
same_at_last f g p a (suc n) sum whole left right others low high same =
    by_first (same_or_not a p)
    (λ not. same_at_last f g p (a + 1) n (xor_bytes sum (f a)) (xor_length 16 sum (f a) whole left_first)
    (λ j l h. left j (omega (arith, l)) (omega (arith, h))) (λ j l h. right j (omega (arith, l)) (omega (arith, h)))
    (λ j l h. others j (omega (arith, l)) (omega (arith, h)))
    (strict low not) (omega (arith, high))
    (same ∙ ap (λ node. fold xor_bytes (xor_bytes sum node) (map g (range_with_len (a + 1) n))) (sym (others a (omega arith) (omega arith) not))))
  where
    left_first : length (f a) ≡ 16
    left_first = left a (omega arith) (omega arith)

    right_first : length (g a) ≡ 16
    right_first = right a (omega arith) (omega arith)

    strict : a ≤ p → a ≢ p → a + 1 ≤ p
    strict l n = omega (arith, l, n)

    by_first : (a ≡ p) ⊎ (a ≢ p) → (a ≢ p → f p ≡ g p) → f p ≡ g p
    by_first (inl is) later =
        let rest : map f (range_with_len (a + 1) n) ≡ map g (range_with_len (a + 1) n) =
        same_range f g (a + 1) n (λ j l h. others j (omega (arith, l)) (omega (arith, h)) (λ e. omega (arith, l, e, is))) in
        let began : xor_bytes sum (f a) ≡ xor_bytes sum (g a) =
        same_start (map g (range_with_len (a + 1) n)) (xor_bytes sum (f a)) (xor_bytes sum (g a))
        (long_range g (a + 1) n (λ j l h. right j (omega (arith, l)) (omega (arith, h))))
        (xor_length 16 sum (f a) whole left_first) (xor_length 16 sum (g a) whole right_first)
        (ap (fold xor_bytes (xor_bytes sum (f a))) (sym rest) ∙ same) in
        subst (λ (k : ℕ). f k ≡ g k) is
        (cancel_last (f a) (g a) sum (left_first ∙ sym whole) (right_first ∙ sym whole) (either_order (f a) sum ∙ began ∙ either_order sum (g a)))
    by_first (inr not) later = later not

-- ---- nodes

-- one level's nodes determine the next one's whose parents are no ancestor
next_nodes : (h alpha : ℕ) (sums : List (List ℕ)) (some others : List ℕ)
    → (left : IsPunctured h alpha sums some) (right : IsPunctured h alpha sums others) (level : ℕ) → level < h
    → ((j : ℕ) → j < 2 ^ level → j ≢ ancestor h alpha level → left.node level j ≡ right.node level j)
    → (j : ℕ) → j < 2 ^ (level + 1) → j / 2 ≢ ancestor h alpha level → left.node (level + 1) j ≡ right.node (level + 1) j
next_nodes h alpha sums some others left right level deep above j below not =
    subst (λ (k : ℕ). left.node (level + 1) k ≡ right.node (level + 1) k) side.1
    (left.halves level (j / 2) side.0 deep inside not ∙ ap (child_of side.0) (above (j / 2) inside not)
    ∙ sym (right.halves level (j / 2) side.0 deep inside not))
  where
    side : (side : Bool) × (2 * (j / 2) + from_bit side ≡ j)
    side = child_place j

    inside : j / 2 < 2 ^ level
    inside = parent_below level j below

-- one level's nodes determine the next one's, the one of which the sum tells among them
level_nodes : (h alpha : ℕ) (sums : List (List ℕ)) (some others : List ℕ) → alpha < 2 ^ h
    → (left : IsPunctured h alpha sums some) (right : IsPunctured h alpha sums others) (level : ℕ) → level < h
    → ((j : ℕ) → j < 2 ^ level → j ≢ ancestor h alpha level → left.node level j ≡ right.node level j)
    → (j : ℕ) → j < 2 ^ (level + 1) → j ≢ ancestor h alpha (level + 1) → left.node (level + 1) j ≡ right.node (level + 1) j
level_nodes h alpha sums some others inside left right level lower above j within away = by_parent (same_or_not (j / 2) (ancestor h alpha level))
  where
    known : (j : ℕ) → j < 2 ^ (level + 1) → j / 2 ≢ ancestor h alpha level → left.node (level + 1) j ≡ right.node (level + 1) j
    known = next_nodes h alpha sums some others left right level lower above

    aside : ℕ → ℕ
    aside k = 2 * k + side_away h alpha level

    aside_below : (k : ℕ) → k < 2 ^ level → aside k < 2 ^ (level + 1)
    aside_below k below = child_below level k (side_away h alpha level) below (omega arith)

    aside_not : (k : ℕ) → aside k ≢ ancestor h alpha (level + 1)
    aside_not k same = other_side k (ancestor h alpha (level + 1)) same

    spared : left.node (level + 1) (aside (ancestor h alpha level)) ≡ right.node (level + 1) (aside (ancestor h alpha level))
    spared = same_at_last (λ k. left.node (level + 1) (aside k)) (λ k. right.node (level + 1) (aside k)) (ancestor h alpha level) 0 (2 ^ level)
        (replicate 16 0) refl
        (λ k low high. (left.bytes (level + 1) (aside k) (omega (arith, lower)) (aside_below k (omega (arith, high))) (aside_not k)).0)
        (λ k low high. (right.bytes (level + 1) (aside k) (omega (arith, lower)) (aside_below k (omega (arith, high))) (aside_not k)).0)
        (λ k low high other. known (aside k) (aside_below k (omega (arith, high)))
        (λ e. other (sym (halved k (ancestor h alpha (level + 1) % 2)) ∙ e)))
        (omega arith) (let top = ancestor_below h alpha level inside (omega (arith, lower)) in omega (arith, top))
        (left.summed level lower ∙ sym (right.summed level lower))

    by_parent : (j / 2 ≡ ancestor h alpha level) ⊎ (j / 2 ≢ ancestor h alpha level) → left.node (level + 1) j ≡ right.node (level + 1) j
    by_parent (inr not_it) = known j within not_it
    by_parent (inl it) = subst (λ (k : ℕ). left.node (level + 1) k ≡ right.node (level + 1) k)
        (ap aside (sym (parent h alpha level lower)) ∙ other_child j (ancestor h alpha (level + 1)) away (it ∙ sym (parent h alpha level lower))) spared

-- the nodes of all levels that are no ancestor
same_nodes : (h alpha : ℕ) (sums : List (List ℕ)) (some others : List ℕ) → alpha < 2 ^ h
    → (left : IsPunctured h alpha sums some) (right : IsPunctured h alpha sums others)
    → (level : ℕ) → level ≤ h → (j : ℕ) → j < 2 ^ level → j ≢ ancestor h alpha level → left.node level j ≡ right.node level j
same_nodes h alpha sums some others inside left right zero deep j below not =
    let top : ancestor h alpha 0 < 2 ^ 0 = ancestor_below h alpha 0 inside deep in
    absurd (not (omega (arith, below, top)))
same_nodes h alpha sums some others inside left right (suc level) deep j below not =
    subst (λ (l : ℕ). j < 2 ^ l → j ≢ ancestor h alpha l → left.node l j ≡ right.node l j) (add-one level)
    (level_nodes h alpha sums some others inside left right level (omega (arith, deep))
    (same_nodes h alpha sums some others inside left right level (omega (arith, deep))) j)
    below not

-- the sums determine the leaves
pub one_punctured : OnePunctured
one_punctured h alpha sums some others inside left right =
    ext_get_or 0 some others (left.whole ∙ sym right.whole) (λ j below. at j (omega (arith, below, left.whole)) (same_or_not j alpha))
  where
    last : ancestor h alpha h ≡ alpha
    last = let none : h - h ≡ 0 = omega arith in ap (λ n. alpha / 2 ^ n) none ∙ div-one alpha

    at : (j : ℕ) → j < 2 ^ h → (j ≡ alpha) ⊎ (j ≢ alpha) → slice_index some j ≡ slice_index others j
    at j below (inl is) = ap (slice_index some) is ∙ left.missing ∙ sym right.missing ∙ ap (slice_index others) (sym is)
    at j below (inr not) = left.others j below not
        ∙ ap leaf_value (same_nodes h alpha sums some others inside left right h (omega arith) j below (λ e. not (e ∙ last)))
        ∙ sym (right.others j below not)
