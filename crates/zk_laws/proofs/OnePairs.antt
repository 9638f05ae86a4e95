-- What stands before the challenge determines the pairs that the prover sees.
use Rattle.std.proofs.Common.{◌≡◌, ℕ, suc, ◌+◌, ◌*◌, ◌^◌, ◌<◌, ◌≤◌, Bool, true, false, not, List, [], ◌∷◌, map, take, drop, length, slice_index, slice_index_or, refl, sym, ◌∙◌, ap, subst, arith, pow-suc, le_refl}
use Rattle.std.specs.Prelude.{flat_map, fold}
use Rattle.std.proofs.lemmas.List.{length-map, ext_get_or}
use Rattle.std.proofs.lemmas.Nat.{mul-le}
use Rattle.tree_laws.proofs.Punctured.{one_punctured}
use Rattle.zk_laws.specs.SeenPairs.{OnePairs}
use Rattle.zk_model.specs.Bits.{from_bit}
use Rattle.zk_model.specs.Mac.{Pair, values_of, macs_of}
use Rattle.zk_model.specs.Extension.{noise_vector, code_outputs}
use Rattle.zk_model.specs.Files.{ProverUnit, prover_unit}
use Rattle.zk_model.specs.Correlations.{LevelView, TreeView, UnitRound, chosen_side, chosen_sum, hidden_place, IsNoiseOf, IsExtension, IsUnitView, tree_view, unit_rounds}
use Rattle.zk_model.specs.declared.Params.{Params}

-- ---- places

-- over plain numbers, with a power and the next one
less : (f m n w v : ℕ) → v ≡ w * 2 → f < (m + 1) * w → m ≤ 2 * n + 1 → f < (n + 1) * v
less f m n w v next below most =
    let more : (m + 1) * w ≤ (2 * n + 2) * w = mul-le (m + 1) w (2 * n + 2) w (omega (arith, most)) (le_refl w) in
    let doubled : (n + 1) * v ≡ (2 * n + 2) * w = ap (λ k. (n + 1) * k) next ∙ omega arith in
    omega (arith, below, more, doubled)

-- the number that sides go on to is below that of the next number with as many
place_from : (n : ℕ) (sides : List Bool) → fold (λ n side. 2 * n + from_bit side) n sides < (n + 1) * 2 ^ length sides
place_from n [] = omega arith
place_from n (false ∷ sides) =
    let rest = place_from (2 * n + 0) sides in
    less (fold (λ n side. 2 * n + from_bit side) (2 * n + 0) sides) (2 * n + 0) n (2 ^ length sides) (2 ^ suc (length sides))
    (pow-suc 2 (length sides)) rest (omega arith)
place_from n (true ∷ sides) =
    let rest = place_from (2 * n + 1) sides in
    less (fold (λ n side. 2 * n + from_bit side) (2 * n + 1) sides) (2 * n + 1) n (2 ^ length sides) (2 ^ suc (length sides))
    (pow-suc 2 (length sides)) rest (omega arith)

-- the hidden place is one of the leaves
pub hidden_below : (levels : List LevelView) → hidden_place levels < 2 ^ length levels
hidden_below levels =
    let sides : List Bool = map (λ level. not (chosen_side level)) levels in
    let below = place_from 0 sides in
    let all : (0 + 1) * 2 ^ length sides ≡ 2 ^ length levels = ap (λ n. 1 * 2 ^ n) (length-map levels _) ∙ omega arith in
    subst (λ (n : ℕ). hidden_place levels < n) all below

-- ---- pairs

-- a tree has one noise vector
one_noise : (tree : TreeView) (some others : List Pair) → IsNoiseOf tree some → IsNoiseOf tree others → some ≡ others
one_noise tree some others left right =
    left.2
    ∙ ap (noise_vector (hidden_place tree.levels) tree.base tree.base_correction tree.leaf_offset)
    (one_punctured (length tree.levels) (hidden_place tree.levels) (map chosen_sum tree.levels) left.0 right.0 (hidden_below tree.levels)
    left.1 right.1)
    ∙ sym right.2

-- values and MACs determine pairs
pairs_from : (some others : List Pair) → values_of some ≡ values_of others → macs_of some ≡ macs_of others → some ≡ others
pairs_from [] [] values macs = refl
pairs_from [] (b ∷ others) values macs = let count = ap length values in absurd (omega (arith, count))
pairs_from (a ∷ some) [] values macs = let count = ap length values in absurd (omega (arith, count))
pairs_from (a ∷ some) (b ∷ others) values macs =
    let x : a.x ≡ b.x = ap (λ l. slice_index l 0) values in
    let m : a.m ≡ b.m = ap (λ l. slice_index l 0) macs in
    let rest : some ≡ others = pairs_from some others (ap (drop 1) values) (ap (drop 1) macs) in
    λ i. record { x = x i; m = m i } ∷ rest i

-- a round makes one list of pairs
one_extension : (params : Params) (code_seed : List ℕ) (unit : ProverUnit) (round : UnitRound) (some others : List Pair)
    → IsExtension params code_seed unit round some → IsExtension params code_seed unit round others → some ≡ others
one_extension params code_seed unit round some others left right = pairs_from some others
    (left.values ∙ ap (λ e. code_outputs code_seed (values_of (take params.base unit.pairs)) (flat_map values_of e)) noise ∙ sym right.values)
    (left.macs ∙ ap (λ e. code_outputs code_seed (macs_of (take params.base unit.pairs)) (flat_map macs_of e)) noise ∙ sym right.macs)
  where
    noise : left.noise ≡ right.noise
    noise = ext_get_or [] left.noise right.noise (left.count ∙ sym right.count)
        (λ t below. let inside : t < params.trees = omega (arith, below, left.count) in
        one_noise (tree_view params unit round t) (slice_index_or left.noise t []) (slice_index_or right.noise t [])
        (left.each t inside) (right.each t inside))

-- a unit has one list of pairs
one_unit : (params : Params) (code_seed : List ℕ) (unit : ProverUnit) (rounds : List UnitRound) (some others : List Pair)
    → IsUnitView params code_seed unit rounds some → IsUnitView params code_seed unit rounds others → some ≡ others
one_unit params code_seed unit [] some others left right = left ∙ sym right
one_unit params code_seed unit (round ∷ []) some others left right = one_extension params code_seed unit round some others left right
one_unit params code_seed unit (round ∷ next ∷ more) some others left right = absurd left

-- a session has one list of pairs
pub one_pairs : OnePairs
one_pairs file setup some others left right = left.joined ∙ ap (flat_map (λ unit. unit)) units ∙ sym right.joined
  where
    units : left.units ≡ right.units
    units = ext_get_or [] left.units right.units (left.count ∙ sym right.count)
        (λ i below. let inside : i < setup.grant.count = omega (arith, below, left.count) in
        one_unit file.params file.code_seed (prover_unit file (setup.grant.start + i)) (unit_rounds setup.rounds i)
        (slice_index_or left.units i []) (slice_index_or right.units i []) (left.each i inside) (right.each i inside))
