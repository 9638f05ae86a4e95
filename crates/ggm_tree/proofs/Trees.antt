-- What is below a root is its tree.
use Rattle.std.proofs.Common.{◌≡◌, ℕ, zero, suc, ◌+◌, ◌*◌, ◌^◌, ◌<◌, ◌≤◌, Bool, true, false, List, [], ◌∷◌, ◌++◌, map, length, get_or, set, take, drop, replicate, append-nil, get_or-set_other, get_or-set_same, below_more, fold, refl, sym, ◌∙◌, ap, arith, pow-suc, add-one}
use Rattle.std.specs.List.{range_with_len}
use Rattle.std.proofs.lemmas.List.{drop_all, take_all, get_or-replicate}
use Rattle.std.proofs.lemmas.List.FromFn.{fill_by_all}
use Rattle.std.proofs.lemmas.Simd.{map-map}
use Rattle.tree_laws.proofs.Grown.{grown_halves}
use Rattle.zk_model.specs.Bits.{from_bit}
use Rattle.zk_model.specs.Bytes.{LeftRight, xor_bytes}
use Rattle.zk_model.specs.Tree.{child_of, path_to, node_at, leaf_value, level_sum, tree_leaves}
use Rattle.ggm_tree.specs.Rows.{children_of, nodes_below, leaves_below, sums_with, level_in, nothing, AreAdded}
use Rattle.ggm_tree.specs.Sums.{sums_of, tree_sums}

-- the children of what stands at each place of a range stand at each place of twice that range
pub children_range : (above below : ℕ → List ℕ) (a n : ℕ)
    → ((j : ℕ) (side : Bool) → a ≤ j → j < a + n → below (2 * j + from_bit side) ≡ child_of side (above j))
    → children_of (map above (range_with_len a n)) ≡ map below (range_with_len (2 * a) (2 * n))
children_range above below a zero made = refl
children_range above below a (suc n) made =
    (λ i. sym first i ∷ sym second i
    ∷ children_range above below (a + 1) n (λ j side low high. made j side (omega (arith, low)) (omega (arith, high))) i)
    ∙ ap (λ k. below (2 * a) ∷ below (2 * a + 1) ∷ map below (range_with_len k (2 * n))) next
    ∙ ap (λ k. map below (range_with_len (2 * a) k)) (sym twice)
  where
    first : below (2 * a) ≡ child_of false (above a)
    first = let none : 2 * a ≡ 2 * a + 0 = omega arith in ap below none ∙ made a false (omega arith) (omega arith)

    second : below (2 * a + 1) ≡ child_of true (above a)
    second = made a true (omega arith) (omega arith)

    next : 2 * (a + 1) ≡ 2 * a + 1 + 1
    next = omega arith

    twice : 2 * suc n ≡ suc (suc (2 * n))
    twice = omega arith

-- one level more below a row is the children of what is below it
pub below_last : (row : List (List ℕ)) (height : ℕ) → nodes_below row (suc height) ≡ children_of (nodes_below row height)
unfolding nodes_below
below_last row zero = refl
below_last row (suc height) = below_last (children_of row) height

-- the nodes below a root
pub below_root : (root : List ℕ) (height : ℕ)
    → nodes_below (root ∷ []) height ≡ map (λ j. node_at root (path_to height j)) (range_with_len 0 (2 ^ height))
unfolding nodes_below
below_root root zero = refl
below_root root (suc height) =
    below_last (root ∷ []) height ∙ ap children_of (below_root root height)
    ∙ children_range (λ j. node_at root (path_to height j)) (λ j. node_at root (path_to (suc height) j)) 0 (2 ^ height)
    (λ j side low high. ap (λ l. node_at root (path_to l (2 * j + from_bit side))) (sym (add-one height)) ∙ grown_halves root height j side)
    ∙ ap (λ n. map (λ j. node_at root (path_to (suc height) j)) (range_with_len 0 n)) twice
  where
    twice : 2 * 2 ^ height ≡ 2 ^ suc height
    twice = let next = pow-suc 2 height in omega (arith, next)

-- and their leaves
pub leaves_root : (root : List ℕ) (height : ℕ) → leaves_below (root ∷ []) height ≡ tree_leaves root height
leaves_root root height =
    ap (map leaf_value) (below_root root height) ∙ map-map leaf_value (λ j. node_at root (path_to height j)) (range_with_len 0 (2 ^ height))

-- and the sums of a level
side_root : (root : List ℕ) (level : ℕ) (side : Bool)
    → fold xor_bytes nothing (map (child_of side) (nodes_below (root ∷ []) level)) ≡ level_sum root level side
side_root root level side =
    ap (λ row. fold xor_bytes nothing (map (child_of side) row)) (below_root root level)
    ∙ ap (fold xor_bytes nothing) (map-map (child_of side) (λ j. node_at root (path_to level j)) (range_with_len 0 (2 ^ level)))

abbrev pub no_sums : LeftRight
no_sums = record { left = nothing; right = nothing }

pub sums_root : (root : List ℕ) (height : ℕ) (before after : List LeftRight) (level : ℕ) → AreAdded (root ∷ []) height before after
    → level < height → level_in before level ≡ no_sums → level_in after level ≡ sums_of root level
sums_root root height before after level added below none =
    added.added level below ∙ ap (λ sums. sums_with sums (nodes_below (root ∷ []) level)) none
    ∙ (λ i. record { left = side_root root level false i; right = side_root root level true i })

-- a list of the sums of all levels
pub all_sums : (root : List ℕ) (height : ℕ) (before after : List LeftRight) → AreAdded (root ∷ []) height before after
    → length after ≡ height → ((level : ℕ) → level < height → level_in before level ≡ no_sums) → after ≡ tree_sums root height
all_sums root height before after added count none =
    fill_by_all (sums_of root) after height (record { left = []; right = [] }) count
    (λ level below. sums_root root height before after level added below (none level below))

-- ---- buffers

-- what a buffer holds after a write to all of it is what was written
pub written : {X : Type 0} → (n : ℕ) (old now new : List X) → n ≡ length old → now ≡ old → length new ≡ length now
    → take n (new ++ drop (length new) old) ≡ new
written n old now new whole is same =
    ap (λ rest. take n (new ++ rest)) (drop_all (length new) old (omega (arith, long))) ∙ ap (take n) (append-nil new)
    ∙ take_all n new (omega (arith, whole, long))
  where
    long : length new ≡ length old
    long = same ∙ ap length is

-- a list of sums of nothing
pub none_at : (height : ℕ) (none : LeftRight) (now before : List LeftRight) → none ≡ no_sums → before ≡ replicate height none → now ≡ before
    → (level : ℕ) → level < height → level_in now level ≡ no_sums
none_at height none now before is are same level below =
    ap (λ sums. level_in sums level) (same ∙ are) ∙ get_or-replicate height level none (record { left = []; right = [] }) below ∙ is

-- and an array of them
pub array_at : (none : LeftRight) (level : ℕ) → none ≡ no_sums → level < 16 → level_in (replicate 16 none) level ≡ no_sums
array_at none level is below = get_or-replicate 16 level none (record { left = []; right = [] }) below ∙ is

-- one more node of a list is written
pub node_written : (nodes : List (List ℕ)) (level : ℕ) (node : List ℕ) (f : ℕ → List ℕ) → level < length nodes
    → ((k : ℕ) → k < level → get_or nodes k [] ≡ f k) → node ≡ f level
    → (k : ℕ) → k < level + 1 → get_or (set nodes level node) k [] ≡ f k
node_written nodes level node f inside so_far is =
    below_more _ level (λ k below. get_or-set_other nodes level k node [] (λ e. omega (arith, e, below)) ∙ so_far k below)
    (get_or-set_same nodes level node [] inside ∙ is)
