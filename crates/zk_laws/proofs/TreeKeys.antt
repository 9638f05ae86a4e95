-- The transfers give the prover the level sums that it chose, and so its noise vector is the one that the leaves fit.
use Rattle.std.proofs.Common.{◌≡◌, ℕ, zero, suc, ◌*◌, ◌^◌, ◌<◌, Bool, true, false, not, List, [], ◌∷◌, map, length, slice_index_or, replicate, refl, sym, ◌∙◌, ap, subst, arith, fold, All}
use Rattle.std.specs.List.{AllByRecursion, AllZip, range_with_len}
use Rattle.std.proofs.lemmas.List.{length-map, get_or-map}
use Rattle.std.proofs.lemmas.Simd.{map-map}
use Rattle.std.proofs.lemmas.List.FromFn.{length-map-range_with_len, get_or-map-range_with_len}
use Rattle.tree_laws.proofs.Grown.{grown_punctured, leaves_without}
use Rattle.zk_model.proofs.Octets.{child_bytes, seed_bytes}
use Rattle.zk_laws.proofs.OnePairs.{hidden_below}
use Rattle.tree_laws.proofs.Punctured.{one_punctured}
use Rattle.zk_laws.proofs.TreeNoise.{noise_keys_fit}
use Rattle.tree_laws.proofs.Xors.{twice, xor_length, long_range}
use Rattle.zk_model.specs.Bits.{exclusive_or}
use Rattle.zk_model.specs.Bytes.{LeftRight, AreBothBytes, xor_bytes}
use Rattle.zk_model.specs.Mac.{Pair, fitting_key}
use Rattle.zk_model.specs.Tree.{child_of, path_to, node_at, tree_leaves, level_sum, IsPunctured}
use Rattle.zk_model.specs.Extension.{choice_of, masked_messages, unmasked_message, place_of, leaf_offset_of, noise_vector}
use Rattle.zk_model.specs.Files.{Transfer, VerifierFile, verifier_unit}
use Rattle.zk_model.specs.Transcript.{TreeAsk}
use Rattle.zk_model.specs.Correlations.{LevelView, TreeView, chosen_side, chosen_sum, hidden_place, IsNoiseOf, level_view, tree_root}
use Rattle.zk_model.specs.Replies.{level_pads, level_sums, tree_base_key, tree_reply}

-- what holds of two lists, place by place, holds at a place
pub all_zip_at : {A B : Type 0} (R : A → B → Type 0) (xs : List A) (ys : List B) (i : ℕ) (d : A) (e : B) → AllZip R xs ys → i < length xs
    → R (slice_index_or xs i d) (slice_index_or ys i e)
all_zip_at R [] ys i d e all below = absurd (omega (arith, below))
all_zip_at R (x ∷ xs) [] i d e all below = absurd all
all_zip_at R (x ∷ xs) (y ∷ ys) zero d e all below = all.0
all_zip_at R (x ∷ xs) (y ∷ ys) (suc i) d e all below = all_zip_at R xs ys i d e all.1 (omega (arith, below))

-- ---- one transfer

-- bytes under a pad, the pad taken off
pad_off : (a b : List ℕ) → length a ≡ length b → xor_bytes (xor_bytes a b) b ≡ a
pad_off [] b same = refl
pad_off (x ∷ a) [] same = absurd (omega (arith, same))
pad_off (x ∷ a) (y ∷ b) same = λ i. twice x y i ∷ pad_off a b (omega (arith, same)) i

-- two of 16 bytes
abbrev AreLong : LeftRight → Type 0
AreLong both = (length both.left ≡ 16) × (length both.right ≡ 16)

-- the prover's pad uncovers the message that it chose
uncovers : (bit flip : Bool) (pad : List ℕ) (pads messages : LeftRight) → pad ≡ choice_of bit pads → AreLong pads → AreLong messages
    → unmasked_message pad (exclusive_or flip bit) (masked_messages pads flip messages) ≡ choice_of (exclusive_or flip bit) messages
uncovers false false pad pads messages is long sums =
    ap (xor_bytes (xor_bytes messages.left pads.left)) is ∙ pad_off messages.left pads.left (sums.0 ∙ sym long.0)
uncovers true false pad pads messages is long sums =
    ap (xor_bytes (xor_bytes messages.right pads.right)) is ∙ pad_off messages.right pads.right (sums.1 ∙ sym long.1)
uncovers false true pad pads messages is long sums =
    ap (xor_bytes (xor_bytes messages.right pads.left)) is ∙ pad_off messages.right pads.left (sums.1 ∙ sym long.0)
uncovers true true pad pads messages is long sums =
    ap (xor_bytes (xor_bytes messages.left pads.right)) is ∙ pad_off messages.left pads.right (sums.0 ∙ sym long.1)

-- ---- level sums

-- the XOR of nodes of 16 bytes is 16 bytes long
fold_long : (nodes : List (List ℕ)) (sum : List ℕ) → AllByRecursion (λ node. length node ≡ 16) nodes → length sum ≡ 16
    → length (fold xor_bytes sum nodes) ≡ 16
fold_long [] sum long whole = whole
fold_long (node ∷ nodes) sum long whole = fold_long nodes (xor_bytes sum node) long.1 (xor_length 16 sum node whole long.0)

-- and so is a level sum
level_long : (root : List ℕ) (level : ℕ) (side : Bool) → length (level_sum root level side) ≡ 16
level_long root level side = fold_long (map child (range_with_len 0 (2 ^ level))) (replicate 16 0)
    (long_range child 0 (2 ^ level) (λ j low high. (child_bytes side (node_at root (path_to level j))).0)) refl
  where
    child : ℕ → List ℕ
    child j = child_of side (node_at root (path_to level j))

-- of both sums of a level, the one of a side
chosen_level : (root : List ℕ) (level : ℕ) (side : Bool) → choice_of side (level_sums root level) ≡ level_sum root level side
chosen_level root level false = refl
chosen_level root level true = refl

-- ---- one tree

-- a transfer takes its pad from the two of a level
abbrev pub HasPad : Transfer → LeftRight → Type 0
HasPad transfer pads = transfer.pad ≡ choice_of transfer.bit pads

-- the verifier's pads for a tree
abbrev pub tree_pads : VerifierFile → ℕ → ℕ → List LeftRight
tree_pads verifier unit t = slice_index_or (verifier_unit verifier unit).trees t []

-- what the prover has of a tree is what the verifier's file has of it
pub record TreeMatches (verifier : VerifierFile) (unit t : ℕ) (base : Pair) (transfers : List Transfer) : Type 0 where
  pub count : length transfers ≡ verifier.params.height
  pub pad_count : length (tree_pads verifier unit t) ≡ verifier.params.height
  pub pads : All (AreBothBytes 16) (tree_pads verifier unit t)
  pub matched : AllZip HasPad transfers (tree_pads verifier unit t)
  pub base_fits : tree_base_key verifier unit t ≡ fitting_key verifier.key base

-- the levels of a tree to whose ask the verifier's file replied
abbrev pub answered_levels : VerifierFile → ℕ → ℕ → List Transfer → TreeAsk → List LevelView
answered_levels verifier unit t transfers ask =
    map (level_view transfers ask (tree_reply verifier unit t ask)) (range_with_len 0 verifier.params.height)

-- and the tree
abbrev pub answered_tree : VerifierFile → ℕ → ℕ → Pair → List Transfer → TreeAsk → TreeView
answered_tree verifier unit t base transfers ask = record {
  base = base;
  base_correction = ask.base_correction;
  levels = answered_levels verifier unit t transfers ask;
  leaf_offset = (tree_reply verifier unit t ask).leaf_offset;
}

-- the sum that the prover finds at a level is that of the tree
sum_is : (verifier : VerifierFile) (unit t : ℕ) (base : Pair) (transfers : List Transfer) (ask : TreeAsk) (level : ℕ)
    → TreeMatches verifier unit t base transfers → level < verifier.params.height
    → chosen_sum (level_view transfers ask (tree_reply verifier unit t ask) level)
    ≡ level_sum (tree_root verifier unit t) level (chosen_side (level_view transfers ask (tree_reply verifier unit t ask) level))
sum_is verifier unit t base transfers ask level is below =
    ap (unmasked_message transfer.pad (exclusive_or flip transfer.bit)) replied
    ∙ uncovers transfer.bit flip transfer.pad pads (level_sums root level)
    (all_zip_at HasPad transfers (tree_pads verifier unit t) level none neither is.matched (omega (arith, is.count, below)))
    (long.0.0, long.1.0) (level_long root level false, level_long root level true)
    ∙ chosen_level root level (exclusive_or flip transfer.bit)
  where
    none : Transfer
    none = record { bit = false; pad = [] }

    neither : LeftRight
    neither = record { left = []; right = [] }

    root : List ℕ
    root = tree_root verifier unit t

    transfer : Transfer
    transfer = slice_index_or transfers level none

    flip : Bool
    flip = slice_index_or ask.flips level false

    pads : LeftRight
    pads = level_pads verifier unit t level

    long : AreBothBytes 16 pads
    long = is.pads level neither (omega (arith, is.pad_count, below))

    replied : slice_index_or (tree_reply verifier unit t ask).messages level neither ≡ masked_messages pads flip (level_sums root level)
    replied = get_or-map-range_with_len _ 0 verifier.params.height level level neither below (omega arith)

-- so all sums are those of the tree
sums_are : (verifier : VerifierFile) (unit t : ℕ) (base : Pair) (transfers : List Transfer) (ask : TreeAsk) (level : ℕ)
    → TreeMatches verifier unit t base transfers → level < verifier.params.height
    → slice_index_or (map chosen_sum (answered_levels verifier unit t transfers ask)) level []
    ≡ level_sum (tree_root verifier unit t) level (slice_index_or (map chosen_side (answered_levels verifier unit t transfers ask)) level false)
sums_are verifier unit t base transfers ask level is below =
    at chosen_sum [] ∙ sum_is verifier unit t base transfers ask level is below
    ∙ ap (level_sum (tree_root verifier unit t) level) (sym (at chosen_side false))
  where
    view : ℕ → LevelView
    view = level_view transfers ask (tree_reply verifier unit t ask)

    at : {A : Type 0} (part : LevelView → A) (d : A)
        → slice_index_or (map part (map view (range_with_len 0 verifier.params.height))) level d ≡ part (view level)
    at part d =
        get_or-map part (map view (range_with_len 0 verifier.params.height)) level (view level) d
        (omega (arith, below, length-map-range_with_len view 0 verifier.params.height))
        ∙ ap part (get_or-map-range_with_len view 0 verifier.params.height level level (view level) below (omega arith))

-- the leaves of a tree are keys of the noise vector that the prover finds
pub tree_keys_fit : (verifier : VerifierFile) (unit t : ℕ) (base : Pair) (transfers : List Transfer) (ask : TreeAsk) (entries : List Pair)
    → TreeMatches verifier unit t base transfers → IsNoiseOf (answered_tree verifier unit t base transfers ask) entries
    → tree_leaves (tree_root verifier unit t) verifier.params.height ≡ map (fitting_key verifier.key) entries
tree_keys_fit verifier unit t base transfers ask entries is noise =
    noise_keys_fit verifier.key ask.base_correction hidden h base root inside
    ∙ ap (λ pairs. map (fitting_key verifier.key) pairs) (sym found)
  where
    h : ℕ
    h = verifier.params.height

    levels : List LevelView
    levels = answered_levels verifier unit t transfers ask

    hidden : ℕ
    hidden = hidden_place levels

    root : List ℕ
    root = tree_root verifier unit t

    count : length levels ≡ h
    count = length-map-range_with_len _ 0 h

    inside : hidden < 2 ^ h
    inside = subst (λ (n : ℕ). hidden < 2 ^ n) count (hidden_below levels)

    sides : map not (map chosen_side levels) ≡ map (λ level. not (chosen_side level)) levels
    sides = map-map not chosen_side levels

    grown : IsPunctured h hidden (map chosen_sum levels) (leaves_without hidden root h)
    grown = subst (λ (way : List Bool). IsPunctured h (place_of way) (map chosen_sum levels) (leaves_without (place_of way) root h)) sides
        (grown_punctured h root (map chosen_side levels) (map chosen_sum levels) (seed_bytes verifier.coin_key (4 * unit) t)
        (length-map levels chosen_side ∙ count) (subst (λ (way : List Bool). place_of way < 2 ^ h) (sym sides) inside)
        (λ level below. sums_are verifier unit t base transfers ask level is below))

    leaves : noise.0 ≡ leaves_without hidden root h
    leaves = one_punctured h hidden (map chosen_sum levels) noise.0 (leaves_without hidden root h) inside
        (subst (λ (n : ℕ). IsPunctured n hidden (map chosen_sum levels) noise.0) count noise.1) grown

    offset : (tree_reply verifier unit t ask).leaf_offset
        ≡ leaf_offset_of verifier.key (fitting_key verifier.key base) ask.base_correction (tree_leaves root h)
    offset = ap (λ k. leaf_offset_of verifier.key k ask.base_correction (tree_leaves root h)) is.base_fits

    found : entries ≡ noise_vector hidden base ask.base_correction
        (leaf_offset_of verifier.key (fitting_key verifier.key base) ask.base_correction (tree_leaves root h)) (leaves_without hidden root h)
    found = noise.2 ∙ (λ i. noise_vector hidden base ask.base_correction (offset i) (leaves i))
