-- Whatever the verifier replied, the prover sees pairs: each of its trees has leaves, and the code makes pairs of them.
use Rattle.std.proofs.Common.{◌≡◌, ℕ, zero, suc, ◌+◌, ◌<◌, Bool, true, false, List, [], ◌∷◌, map, take, length, slice_index_or, refl, sym, ◌∙◌, ap, subst, arith, zip}
use Rattle.std.specs.Prelude.{All, flat_map}
use Rattle.std.specs.List.{AllByRecursion, range_with_len}
use Rattle.std.proofs.lemmas.List.{length-map, get_or-map}
use Rattle.std.proofs.lemmas.List.Elements.{recursion_from_All}
use Rattle.std.proofs.lemmas.List.FromFn.{length-enumerate_from, length-map-range_with_len, get_or-map-range_with_len}
use Rattle.tree_laws.proofs.FoundTrees.{punctured_exists}
use Rattle.zk_laws.proofs.OnePairs.{hidden_below}
use Rattle.tree_laws.proofs.Joined.{joined_parts}
use Rattle.zk_laws.proofs.WholePairs.{granted_unit}
use Rattle.tree_laws.proofs.Xors.{xor_are_bytes}
use Rattle.zk_laws.specs.SeenPairs.{PairsExist}
use Rattle.zk_model.specs.Bytes.{LeftRight, AreBytes, AreBothBytes}
use Rattle.zk_model.specs.Mac.{Pair, values_of, macs_of}
use Rattle.zk_model.specs.Extension.{choice_of, noise_vector, code_outputs}
use Rattle.zk_model.specs.Files.{Transfer, ProverUnit, IsProverUnit, rounds_of, prover_unit}
use Rattle.zk_model.specs.Transcript.{Grant, TreeAsk, TreeReply, Round, IsTreeReply, IsRound}
use Rattle.zk_model.specs.Correlations.{LevelView, TreeView, UnitRound, chosen_side, chosen_sum, hidden_place, IsNoiseOf, IsExtension, IsUnitView, level_view, tree_view, unit_rounds}
use Rattle.zk_model.specs.declared.Kind.{Kind}
use Rattle.zk_model.specs.declared.Kind.TheVariants.{Direct, Extended}
use Rattle.zk_model.specs.declared.Params.{Params}

-- ---- one tree

-- of two lists of bytes either is one
chosen_bytes : (n : ℕ) (side : Bool) (both : LeftRight) → AreBothBytes n both → AreBytes n (choice_of side both)
chosen_bytes n false both are = are.0
chosen_bytes n true both are = are.1

-- the pads and the messages of a tree are 16 bytes, level by level
record AreLevels (height : ℕ) (transfers : List Transfer) (reply : TreeReply) : Type 0 where
  dealt : length transfers ≡ height
  pads : All (λ (transfer : Transfer). AreBytes 16 transfer.pad) transfers
  replied : length reply.messages ≡ height
  messages : All (AreBothBytes 16) reply.messages

-- so the sums that the prover finds are 16 bytes
sums_bytes : (height : ℕ) (transfers : List Transfer) (ask : TreeAsk) (reply : TreeReply) → AreLevels height transfers reply
    → All (AreBytes 16) (map chosen_sum (map (level_view transfers ask reply) (range_with_len 0 height)))
sums_bytes height transfers ask reply are n d below =
    subst (AreBytes 16) (sym (get_or-map chosen_sum levels n (level_view transfers ask reply n) d (omega (arith, within, count))
    ∙ ap chosen_sum (get_or-map-range_with_len (level_view transfers ask reply) 0 height n n (level_view transfers ask reply n) within (omega arith))))
    (xor_are_bytes 16 (choice_of (chosen_side level) level.messages) level.transfer.pad
    (chosen_bytes 16 (chosen_side level) level.messages (are.messages n (record { left = []; right = [] }) (omega (arith, within, are.replied))))
    (are.pads n (record { bit = false; pad = [] }) (omega (arith, within, are.dealt))))
  where
    levels : List LevelView
    levels = map (level_view transfers ask reply) (range_with_len 0 height)

    count : length levels ≡ height
    count = length-map-range_with_len _ 0 height

    within : n < height
    within = omega (arith, below, length-map levels chosen_sum, count)

    level : LevelView
    level = level_view transfers ask reply n

-- a tree whose sums are 16 bytes has noise
noise_exists : (tree : TreeView) → All (AreBytes 16) (map chosen_sum tree.levels) → (entries : List Pair) × IsNoiseOf tree entries
noise_exists tree are =
    let found = punctured_exists (length tree.levels) (hidden_place tree.levels) (map chosen_sum tree.levels) (hidden_below tree.levels)
    (length-map tree.levels chosen_sum) are in
    (noise_vector (hidden_place tree.levels) tree.base tree.base_correction tree.leaf_offset found.0, (found.0, found.1, refl))

-- ---- one unit

-- pairs of values and MACs
abbrev paired : List ℕ → List ℕ → List Pair
paired xs ms = map (λ q. record { x = q.0; m = q.1 }) (zip xs ms)

-- have those values
paired_values : (xs ms : List ℕ) → length xs ≡ length ms → values_of (paired xs ms) ≡ xs
paired_values [] [] same = refl
paired_values [] (m ∷ ms) same = refl
paired_values (x ∷ xs) [] same = absurd (omega (arith, same))
paired_values (x ∷ xs) (m ∷ ms) same = ap (λ l. x ∷ l) (paired_values xs ms (omega (arith, same)))

-- and those MACs
paired_macs : (xs ms : List ℕ) → length xs ≡ length ms → macs_of (paired xs ms) ≡ ms
paired_macs [] [] same = refl
paired_macs [] (m ∷ ms) same = absurd (omega (arith, same))
paired_macs (x ∷ xs) [] same = refl
paired_macs (x ∷ xs) (m ∷ ms) same = ap (λ l. m ∷ l) (paired_macs xs ms (omega (arith, same)))

-- the code has an output for each entry
output_count : (code_seed base entries : List ℕ) → length (code_outputs code_seed base entries) ≡ length entries
output_count code_seed base entries = length-map _ _ ∙ length-enumerate_from 0 entries

-- where there is an item for each number, there is a list of them
listed : {A : Type 0} (P : ℕ → A → Type 0) (d : A) (n : ℕ) → ((i : ℕ) → i < n → (x : A) × P i x)
    → (xs : List A) × (length xs ≡ n) × ((i : ℕ) → i < n → P i (slice_index_or xs i d))
listed P d zero each = ([], refl, λ i below. absurd (omega (arith, below)))
listed {A} P d (suc n) each =
    joined (each 0 (omega arith)) (listed (λ i. P (suc i)) d n (λ i below. each (suc i) (omega (arith, below))))
  where
    joined : (x : A) × P 0 x → (xs : List A) × (length xs ≡ n) × ((i : ℕ) → i < n → P (suc i) (slice_index_or xs i d))
        → (xs : List A) × (length xs ≡ suc n) × ((i : ℕ) → i < suc n → P i (slice_index_or xs i d))
    joined first rest = (first.0 ∷ rest.0, ap suc rest.1, at)
      where
        at : (i : ℕ) → i < suc n → P i (slice_index_or (first.0 ∷ rest.0) i d)
        at zero below = first.1
        at (suc i) below = rest.2 i (omega (arith, below))

-- where each tree has noise, there are pairs that a round makes
extension_exists : (params : Params) (code_seed : List ℕ) (unit : ProverUnit) (round : UnitRound)
    → ((t : ℕ) → t < params.trees → (entries : List Pair) × IsNoiseOf (tree_view params unit round t) entries)
    → (pairs : List Pair) × IsExtension params code_seed unit round pairs
extension_exists params code_seed unit round noisy = (
  paired xs ms,
  record {
    noise = noise.0;
    count = noise.1;
    each = noise.2;
    values = paired_values xs ms same;
    macs = paired_macs xs ms same;
  },
)
  where
    noise : (noise : List (List Pair)) × (length noise ≡ params.trees)
        × ((t : ℕ) → t < params.trees → IsNoiseOf (tree_view params unit round t) (slice_index_or noise t []))
    noise = listed (λ t entries. IsNoiseOf (tree_view params unit round t) entries) [] params.trees noisy

    xs : List ℕ
    xs = code_outputs code_seed (values_of (take params.base unit.pairs)) (flat_map values_of noise.0)

    ms : List ℕ
    ms = code_outputs code_seed (macs_of (take params.base unit.pairs)) (flat_map macs_of noise.0)

    entries : (part : Pair → ℕ) → length (flat_map (map part) noise.0) ≡ length (flat_map (λ entries. entries) noise.0)
    entries part = ap length (joined_parts part noise.0) ∙ length-map _ part

    same : length xs ≡ length ms
    same = output_count code_seed (values_of (take params.base unit.pairs)) (flat_map values_of noise.0)
        ∙ entries (λ pair. pair.x) ∙ sym (entries (λ pair. pair.m))
        ∙ sym (output_count code_seed (macs_of (take params.base unit.pairs)) (flat_map macs_of noise.0))

-- the replies of a unit in a round are those of its trees
abbrev AreReplies : Params → UnitRound → Type 0
AreReplies params round = (length round.replies ≡ params.trees) × All (IsTreeReply params.height) round.replies

-- so each of its trees has noise
tree_noise : (params : Params) (unit : ProverUnit) (round : UnitRound) (t : ℕ) → IsProverUnit params unit → AreReplies params round
    → t < params.trees → (entries : List Pair) × IsNoiseOf (tree_view params unit round t) entries
tree_noise params unit round t is are below =
    noise_exists (tree_view params unit round t)
    (sums_bytes params.height (slice_index_or unit.trees t []) (slice_index_or round.asks t (record { flips = []; base_correction = 0 }))
    (slice_index_or round.replies t (record { messages = []; leaf_offset = 0 }))
    (record { dealt = dealt.0; pads = dealt.1; replied = replied.count; messages = replied.messages }))
  where
    dealt : (length (slice_index_or unit.trees t []) ≡ params.height)
        × All (λ (transfer : Transfer). AreBytes 16 transfer.pad) (slice_index_or unit.trees t [])
    dealt = is.trees.1 t [] (omega (arith, is.trees.0, below))

    replied : IsTreeReply params.height (slice_index_or round.replies t (record { messages = []; leaf_offset = 0 }))
    replied = are.1 t (record { messages = []; leaf_offset = 0 }) (omega (arith, are.0, below))

-- a unit has pairs, whatever its kind
unit_pairs_exist : (params : Params) (kind : Kind) (code_seed : List ℕ) (unit : ProverUnit) (rounds : List UnitRound)
    → IsProverUnit (record params { kind = kind }) unit → length rounds ≡ rounds_of kind
    → AllByRecursion (AreReplies (record params { kind = kind })) rounds
    → (pairs : List Pair) × IsUnitView (record params { kind = kind }) code_seed unit rounds pairs
unit_pairs_exist params Direct code_seed unit [] is count are = (unit.pairs, refl)
unit_pairs_exist params Direct code_seed unit (round ∷ rounds) is count are = absurd (omega (arith, count))
unit_pairs_exist params Extended code_seed unit [] is count are = absurd (omega (arith, count))
unit_pairs_exist params Extended code_seed unit (round ∷ []) is count are =
    extension_exists (record params { kind = Extended }) code_seed unit round
    (λ t below. tree_noise (record params { kind = Extended }) unit round t is are.0 below)
unit_pairs_exist params Extended code_seed unit (round ∷ next ∷ more) is count are = absurd (omega (arith, count))

-- ---- a session

-- the replies of unit i in all rounds
unit_replies : (params : Params) (grant : Grant) (i : ℕ) (rounds : List Round) → i < grant.count
    → AllByRecursion (IsRound params grant) rounds → AllByRecursion (AreReplies params) (unit_rounds rounds i)
unit_replies params grant i [] below are = tt
unit_replies params grant i (round ∷ rounds) below are =
    (are.0.replies.1 i [] (omega (arith, below, are.0.replies.0)), unit_replies params grant i rounds below are.1)

-- whatever the replies hold, the prover sees pairs
pub pairs_exist : PairsExist
pairs_exist file setup is are = (flat_map (λ unit. unit) units.0, record { units = units.0; count = units.1; each = units.2; joined = refl })
  where
    IsView : ℕ → List Pair → Type 0
    IsView i pairs =
        IsUnitView file.params file.code_seed (prover_unit file (setup.grant.start + i)) (unit_rounds setup.rounds i) pairs

    each : (i : ℕ) → i < setup.grant.count → (pairs : List Pair) × IsView i pairs
    each i below = unit_pairs_exist file.params file.params.kind file.code_seed (prover_unit file (setup.grant.start + i))
        (unit_rounds setup.rounds i) (granted_unit file setup i is are below) (length-map setup.rounds _ ∙ are.count)
        (unit_replies file.params setup.grant i setup.rounds below
        (recursion_from_All (IsRound file.params setup.grant) setup.rounds are.each))

    units : (units : List (List Pair)) × (length units ≡ setup.grant.count)
        × ((i : ℕ) → i < setup.grant.count → IsView i (slice_index_or units i []))
    units = listed IsView [] setup.grant.count each
