-- The leaves that are left of a walk.
use Rattle.std.proofs.Common.{◌≡◌, ◌≢◌, ℕ, zero, suc, ◌+◌, ◌-◌, ◌<◌, ◌≤◌, true, false, List, [], ◌∷◌, ◌++◌, map, length, get_or, set, append-nil, append_assoc, get_or-set_other, get_or-set_same, below_more, refl, subst, sym, ◌∙◌, ap, arith}
use Rattle.std.proofs.lemmas.List.{map-append}
use Rattle.zk_model.specs.Tree.{child_of, leaf_value, tree_leaves}
use Rattle.ggm_tree.specs.Rows.{nodes_below}
use Rattle.ggm_tree.specs.Pending.{leaves_left}
use Rattle.ggm_tree.proofs.Below.{below_append}
use Rattle.ggm_tree.proofs.Trees.{leaves_root}

-- the leaves below a node are those below its children
leaves_apart : (node : List ℕ) (height : ℕ)
    → tree_leaves node (suc height) ≡ tree_leaves (child_of false node) height ++ tree_leaves (child_of true node) height
unfolding nodes_below
leaves_apart node height =
    sym (leaves_root node (suc height))
    ∙ ap (map leaf_value) (below_append (child_of false node ∷ []) (child_of true node ∷ []) height)
    ∙ map-append leaf_value (nodes_below (child_of false node ∷ []) height) (nodes_below (child_of true node ∷ []) height)
    ∙ (λ i. leaves_root (child_of false node) height i ++ leaves_root (child_of true node) height i)

-- what is left depends on the held nodes alone
left_same : (nodes others : List (List ℕ)) (heights levels : List ℕ) (held : ℕ) → ((k : ℕ) → k < held → get_or others k [] ≡ get_or nodes k [])
    → ((k : ℕ) → k < held → get_or levels k 0 ≡ get_or heights k 0) → leaves_left others levels held ≡ leaves_left nodes heights held
unfolding leaves_left
left_same nodes others heights levels zero same level = refl
left_same nodes others heights levels (suc held) same level =
    (λ i. tree_leaves (same held (omega arith) i) (level held (omega arith) i)
    ++ left_same nodes others heights levels held (λ k below. same k (omega (arith, below))) (λ k below. level k (omega (arith, below))) i)

-- at first all leaves are left
pub left_first : (root : List ℕ) (height : ℕ) (nodes : List (List ℕ)) (heights : List ℕ)
    → leaves_left (root ∷ nodes) (height ∷ heights) 1 ≡ tree_leaves root height
unfolding leaves_left
left_first root height nodes heights = append-nil (tree_leaves root height)

-- and at last none
pub left_none : (nodes : List (List ℕ)) (heights : List ℕ) (held : ℕ) → held ≡ 0 → leaves_left nodes heights held ≡ []
unfolding leaves_left
left_none nodes heights held none = ap (leaves_left nodes heights) none

-- one node is taken
pub left_taken : (nodes : List (List ℕ)) (heights : List ℕ) (held : ℕ) → held ≢ 0
    → leaves_left nodes heights held
    ≡ tree_leaves (get_or nodes (held - 1) []) (get_or heights (held - 1) 0) ++ leaves_left nodes heights (held - 1)
unfolding leaves_left
left_taken nodes heights zero some = absurd (some refl)
left_taken nodes heights (suc held) some = let less : held ≡ suc held - 1 = omega arith in
    ap (λ k. tree_leaves (get_or nodes k []) (get_or heights k 0) ++ leaves_left nodes heights k) less

-- a node is parted: its right child is held, and its left one is next
pub left_parted : (nodes : List (List ℕ)) (heights : List ℕ) (held height above next : ℕ) (node left right : List ℕ) → held < length nodes
    → held < length heights → above ≡ suc height → next ≡ held + 1 → left ≡ child_of false node → right ≡ child_of true node
    → tree_leaves left height ++ leaves_left (set nodes held right) (set heights held height) next
    ≡ tree_leaves node above ++ leaves_left nodes heights held
unfolding leaves_left
left_parted nodes heights held height above next node left right room levels up one first second =
    ap (λ k. tree_leaves left height ++ leaves_left (set nodes held right) (set heights held height) k) more
    ∙ (λ i. tree_leaves (first i) height ++ (tree_leaves ((get_or-set_same nodes held right [] room ∙ second) i) (get_or-set_same heights held height 0 levels i)
    ++ left_same nodes (set nodes held right) heights (set heights held height) held
    (λ k below. get_or-set_other nodes held k right [] (λ e. omega (arith, e, below)))
    (λ k below. get_or-set_other heights held k height 0 (λ e. omega (arith, e, below))) i))
    ∙ sym (append_assoc (tree_leaves (child_of false node) height) (tree_leaves (child_of true node) height) (leaves_left nodes heights held))
    ∙ ap (λ leaves. leaves ++ leaves_left nodes heights held) (sym (leaves_apart node height) ∙ ap (tree_leaves node) (sym up))
  where
    more : next ≡ suc held
    more = omega (arith, one)

-- the heights below stay low where one more is held
pub low_more : (heights : List ℕ) (held height : ℕ) → held < length heights → held + height ≤ 16
    → ((k : ℕ) → k < held → k + get_or heights k 0 ≤ 16) → (k : ℕ) → k < held + 1 → k + get_or (set heights held height) k 0 ≤ 16
low_more heights held height inside room low =
    below_more _ held (λ k below. subst (λ (n : ℕ). k + n ≤ 16) (sym (get_or-set_other heights held k height 0 (λ e. omega (arith, e, below)))) (low k below))
    (subst (λ (n : ℕ). held + n ≤ 16) (sym (get_or-set_same heights held height 0 inside)) room)
