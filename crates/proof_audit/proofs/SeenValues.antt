-- The values of the pairs that a round makes, read of the prover's file and its asks.
use Rattle.std.proofs.Common.{◌≡◌, ℕ, suc, ◌+◌, ◌-◌, ◌*◌, ◌%◌, ◌^◌, ◌<◌, Bool, true, false, List, [], ◌∷◌, ◌++◌, length, flat_map, map, take, drop, get_or, nat_eq, refl, sym, ◌∙◌, ap, subst, arith, mod-eq_of_lt}
use Rattle.std.specs.Prelude.{if◌then◌else◌}
use Rattle.std.specs.List.{range_with_len, enumerate_from}
use Rattle.std.proofs.Math.Pow.{pow-lt}
use Rattle.std.proofs.lemmas.List.FromFn.{length-map-range_with_len}
use Rattle.zk_model.specs.Field.{◌+ₚ◌}
use Rattle.zk_model.specs.Bytes.{AreBytes}
use Rattle.zk_model.specs.Mac.{Pair, values_of}
use Rattle.zk_model.specs.Extension.{code_outputs}
use Rattle.zk_model.specs.Files.{Transfer, ProverUnit, ProverFile, AreParams, AreTransfers, AreWithinLimits, IsProverFile, IsProverUnit, prover_unit, unit_transfers}
use Rattle.zk_model.specs.Correlations.{LevelView, TreeView, UnitRound, hidden_place, tree_view, IsNoiseOf, IsExtension}
use Rattle.zk_model.specs.declared.Kind.{Kind}
use Rattle.zk_model.specs.declared.Kind.TheVariants.{Extended}
use Rattle.zk_model.specs.declared.Params.{Params}
use Rattle.vole_extend.specs.Rounds.{ask_at, reply_at}
use Rattle.proof_audit.specs.SeenValues.{only_at, tree_values, noise_values, unit_values}
use Rattle.vole_extend.proofs.AskedAny.{place_hidden}
use Rattle.vole_extend.proofs.Pieces.{piece_is}

-- ---- the transfers of a tree

-- the unit of this number is one of the file's
pub unit_is : (file : ProverFile) (unit : ℕ) → IsProverFile file → unit < file.params.total → IsProverUnit file.params (prover_unit file unit)
unit_is file unit is within = is.units unit (record { pairs = []; trees = [] }) (omega (arith, is.count, within))

-- the transfers of a tree, a range of those of its unit
pub tree_transfers_are : (file : ProverFile) (unit tree size : ℕ) (flat : List Transfer) → IsProverFile file → unit < file.params.total
    → tree < file.params.trees → size ≡ file.params.height → flat ≡ unit_transfers (prover_unit file unit)
    → take (tree * size + size - tree * size) (drop (tree * size) flat) ≡ get_or (prover_unit file unit).trees tree []
tree_transfers_are file unit tree size flat is within below sized are =
    ap (λ k. take k (drop (tree * size) flat)) (apart (tree * size) size)
    ∙ ap (λ l. take size (drop (tree * size) l)) are
    ∙ piece_is size (prover_unit file unit).trees tree (λ i inside. (dealt.1 i [] inside).0 ∙ sym sized) (omega (arith, dealt.0, below))
  where
    apart : (a b : ℕ) → a + b - a ≡ b
    apart a b = omega arith

    dealt : AreTransfers file.params (λ transfer. AreBytes 16 transfer.pad) (prover_unit file unit).trees
    dealt = (unit_is file unit is within).trees

-- ---- counts

-- the height of an extended file is small
pub height_fits : (params : Params) → AreParams params → params.kind ≡ Extended → params.height < 32
height_fits params are extended = let limits = subst (λ (kind : Kind). AreWithinLimits kind params) extended are.limits in omega (arith, limits.1)

-- so as many leaves are counted in 32 bits
pub leaves_counted : (height : ℕ) → height < 32 → 1 * 2 ^ height % 4294967296 ≡ 2 ^ height
leaves_counted height below = let less = pow-lt below in ap (λ n. n % 4294967296) (once (2 ^ height)) ∙ mod-eq_of_lt less
  where
    once : (n : ℕ) → 1 * n ≡ n
    once n = omega arith

-- ---- the values of pairs that are seen

-- of a choice
choice_value : (side : Bool) (hidden other : Pair) → (if side then hidden else other).x ≡ (if side then hidden.x else other.x)
choice_value false hidden other = refl
choice_value true hidden other = refl

-- of noise from place k on, whatever was found: 0, but at the hidden place
noise_from : (place k : ℕ) (hidden : Pair) (found : List ℕ)
    → values_of (map (λ entry. if nat_eq entry.0 place then hidden else record { x = 0; m = entry.1 }) (enumerate_from k found))
    ≡ map (λ j. if nat_eq j place then hidden.x else 0) (range_with_len k (length found))
noise_from place k hidden [] = refl
noise_from place k hidden (leaf ∷ found) = λ i.
    choice_value (nat_eq k place) hidden (record { x = 0; m = leaf }) i ∷ noise_from place (k + 1) hidden found i

-- of the noise of a tree
tree_noise_values : (params : Params) (unit : ProverUnit) (round : UnitRound) (tree : ℕ) (entries : List Pair)
    → length (get_or unit.trees tree []) ≡ params.height → IsNoiseOf (tree_view params unit round tree) entries
    → values_of entries ≡ tree_values params unit tree (ask_at round.asks tree)
tree_noise_values params unit round tree entries count is =
    ap values_of is.2
    ∙ noise_from (hidden_place levels) 0 (record { x = view.base.x +ₚ view.base_correction; m = _ }) is.0
    ∙ (λ i. only_at ((is.1.whole ∙ ap (λ n. 2 ^ n) (length-map-range_with_len _ 0 params.height)) i)
    (sym (place_hidden params.height (get_or unit.trees tree []) (ask_at round.asks tree) (reply_at round.replies tree) count) i)
    (view.base.x +ₚ view.base_correction))
  where
    view : TreeView
    view = tree_view params unit round tree

    levels : List LevelView
    levels = view.levels

-- lists of pairs, joined, have the values of each
pub values_joined : (f : ℕ → List ℕ) (start : ℕ) (parts : List (List Pair))
    → ((i : ℕ) → i < length parts → values_of (get_or parts i []) ≡ f (start + i))
    → flat_map values_of parts ≡ flat_map f (range_with_len start (length parts))
values_joined f start [] each = refl
values_joined f start (part ∷ parts) each = λ i.
    first i ++ values_joined f (start + 1) parts (λ k below. each (suc k) (omega (arith, below)) ∙ ap f (next k)) i
  where
    first : values_of part ≡ f start
    first = each 0 (omega arith) ∙ ap f (omega arith)

    next : (k : ℕ) → start + suc k ≡ start + 1 + k
    next k = omega arith

-- of a unit's pairs
pub extension_values : (params : Params) (code_seed : List ℕ) (unit : ProverUnit) (round : UnitRound) (pairs : List Pair) → IsProverUnit params unit
    → IsExtension params code_seed unit round pairs → values_of pairs ≡ unit_values params code_seed unit round.asks
extension_values params code_seed unit round pairs is made =
    made.values ∙ ap (code_outputs code_seed (values_of (take params.base unit.pairs))) noise
  where
    noise : flat_map values_of made.noise ≡ noise_values params unit round.asks params.trees
    noise = values_joined (λ tree. tree_values params unit tree (ask_at round.asks tree)) 0 made.noise
        (λ tree below. let inside : tree < params.trees = omega (arith, below, made.count) in
        tree_noise_values params unit round tree (get_or made.noise tree []) (is.trees.1 tree [] (omega (arith, inside, is.trees.0))).0 (made.each tree inside)
        ∙ ap (λ t. tree_values params unit t (ask_at round.asks t)) (start tree))
        ∙ ap (noise_values params unit round.asks) made.count
      where
        start : (n : ℕ) → n ≡ 0 + n
        start n = omega arith
