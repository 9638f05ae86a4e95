-- The keys of one unit fit the pairs that the prover sees of it.
use Rattle.std.proofs.Common.{◌≡◌, ℕ, suc, ◌+◌, ◌<◌, List, [], ◌∷◌, ◌++◌, map, take, length, slice_index, slice_index_or, refl, sym, ◌∙◌, ap, subst, arith, flat_map, zero-add}
use Rattle.std.specs.List.{AllByRecursion, AllZip, range_with_len, enumerate_from}
use Rattle.std.proofs.lemmas.List.{get_or-map, take-map, map-append}
use Rattle.std.proofs.lemmas.List.FromFn.{length-enumerate_from, get_or-enumerate_from}
use Rattle.zk_laws.proofs.CodeKeys.{code_keys_fit}
use Rattle.zk_laws.proofs.TreeKeys.{HasPad, TreeMatches, all_zip_at, answered_tree, tree_keys_fit}
use Rattle.tree_laws.proofs.Joined.{joined_parts}
use Rattle.zk_model.specs.Mac.{Pair, pair_at, values_of, macs_of, fitting_key}
use Rattle.zk_model.specs.Tree.{tree_leaves}
use Rattle.zk_model.specs.Extension.{code_outputs}
use Rattle.zk_model.specs.Files.{ProverUnit, VerifierFile, UnitsMatch, IsProverUnit, IsVerifierUnit, rounds_of, verifier_unit}
use Rattle.zk_model.specs.Transcript.{TreeAsk, TreeReply}
use Rattle.zk_model.specs.Correlations.{TreeView, UnitRound, IsNoiseOf, IsExtension, IsUnitView, level_view, tree_view, tree_root, unit_leaves, unit_keys}
use Rattle.zk_model.specs.Replies.{tree_reply, unit_reply}
use Rattle.zk_model.specs.declared.Kind.{Kind}
use Rattle.zk_model.specs.declared.Kind.TheVariants.{Direct, Extended}

-- ---- lists joined

-- keys joined fit pairs joined, where each list fits
pub joined_keys : (key : ℕ) (keys : ℕ → List ℕ) (a : ℕ) (units : List (List Pair))
    → ((i : ℕ) → i < length units → keys (a + i) ≡ map (fitting_key key) (slice_index_or units i []))
    → flat_map keys (range_with_len a (length units)) ≡ map (fitting_key key) (flat_map (λ unit. unit) units)
joined_keys key keys a [] fit = refl
joined_keys key keys a (unit ∷ units) fit =
    (λ i. first i ++ joined_keys key keys (a + 1) units (λ j below. ap keys (next j) ∙ fit (suc j) (omega (arith, below))) i)
    ∙ sym (map-append (fitting_key key) unit (flat_map (λ unit. unit) units))
  where
    start : a ≡ a + 0
    start = omega arith

    next : (j : ℕ) → a + 1 + j ≡ a + suc j
    next j = omega arith

    first : keys a ≡ map (fitting_key key) unit
    first = ap keys start ∙ fit 0 (omega arith)

-- ---- one unit

-- a file of this kind
abbrev pub of_kind : VerifierFile → Kind → VerifierFile
of_kind verifier kind = record verifier { params = record verifier.params { kind = kind } }

-- in kind direct the keys of a unit are the dealt ones
pub direct_keys : (file : VerifierFile) (unit : ℕ) → file.params.kind ≡ Direct → unit_keys file unit ≡ (verifier_unit file unit).keys
direct_keys file unit is = subst (λ (kind : Kind). unit_keys (of_kind file kind) unit ≡ (verifier_unit file unit).keys) (sym is) refl

-- what a round of a unit is: an ask for each tree, and each reply is that of the verifier's file
pub record IsAnswered (verifier : VerifierFile) (unit : ℕ) (round : UnitRound) : Type 0 where
  pub count : length round.asks ≡ verifier.params.trees
  pub replies : round.replies ≡ unit_reply verifier unit round.asks

-- what stands beyond the end of lists
no_pair : Pair
no_pair = record { x = 0; m = 0 }

no_ask : TreeAsk
no_ask = record { flips = []; base_correction = 0 }

no_reply : TreeReply
no_reply = record { messages = []; leaf_offset = 0 }

-- what is given of an extended unit
record IsExtended (verifier : VerifierFile) (unit : ℕ) (dealt : ProverUnit) (round : UnitRound) : Type 0 where
  matched : UnitsMatch verifier.key dealt (verifier_unit verifier unit)
  left : IsProverUnit verifier.params dealt
  right : IsVerifierUnit verifier.params (verifier_unit verifier unit)
  extended : length dealt.pairs ≡ verifier.params.base + verifier.params.trees
  answered : IsAnswered verifier unit round

-- each tree matches the verifier's file
tree_matches : (verifier : VerifierFile) (unit : ℕ) (dealt : ProverUnit) (round : UnitRound) (t : ℕ) → IsExtended verifier unit dealt round
    → t < verifier.params.trees
    → TreeMatches verifier unit t (pair_at dealt.pairs (verifier.params.base + t)) (slice_index_or dealt.trees t [])
unfolding no_pair
tree_matches verifier unit dealt round t is below = record {
  count = (is.left.trees.1 t [] (omega (arith, is.left.trees.0, below))).0;
  pad_count = (is.right.trees.1 t [] (omega (arith, is.right.trees.0, below))).0;
  pads = (is.right.trees.1 t [] (omega (arith, is.right.trees.0, below))).1;
  matched = all_zip_at (AllZip HasPad) dealt.trees (verifier_unit verifier unit).trees t [] [] is.matched.pads
      (omega (arith, is.left.trees.0, below));
  base_fits = ap (λ keys. slice_index keys (verifier.params.base + t)) is.matched.keys
      ∙ get_or-map (fitting_key verifier.key) dealt.pairs (verifier.params.base + t) no_pair 0 (omega (arith, is.extended, below));
}

-- and the verifier's file replied to it
tree_answered : (verifier : VerifierFile) (unit : ℕ) (dealt : ProverUnit) (round : UnitRound) (t : ℕ) → IsExtended verifier unit dealt round
    → t < verifier.params.trees → tree_view verifier.params dealt round t
    ≡ answered_tree verifier unit t (pair_at dealt.pairs (verifier.params.base + t)) (slice_index_or dealt.trees t []) (slice_index_or round.asks t no_ask)
unfolding no_ask no_reply
tree_answered verifier unit dealt round t is below = λ i. record {
  base = pair_at dealt.pairs (verifier.params.base + t);
  base_correction = ask.base_correction;
  levels = map (level_view (slice_index_or dealt.trees t []) ask (reply i)) (range_with_len 0 verifier.params.height);
  leaf_offset = (reply i).leaf_offset;
}
  where
    ask : TreeAsk
    ask = slice_index_or round.asks t no_ask

    reply : slice_index_or round.replies t no_reply ≡ tree_reply verifier unit t ask
    reply = ap (λ replies. slice_index_or replies t no_reply) is.answered.replies
        ∙ get_or-map (λ entry. tree_reply verifier unit entry.0 entry.1) (enumerate_from 0 round.asks) t (0, no_ask) no_reply
        (omega (arith, length-enumerate_from 0 round.asks, is.answered.count, below))
        ∙ ap (λ entry. tree_reply verifier unit entry.0 entry.1)
        (get_or-enumerate_from 0 round.asks t (0, no_ask) (omega (arith, is.answered.count, below)))
        ∙ ap (λ n. tree_reply verifier unit n ask) (zero-add t)

-- the keys that the code makes fit the pairs that it makes
extended_keys : (verifier : VerifierFile) (unit : ℕ) (dealt : ProverUnit) (round : UnitRound) (pairs : List Pair)
    → IsExtended verifier unit dealt round → IsExtension verifier.params verifier.code_seed dealt round pairs
    → code_outputs verifier.code_seed (take verifier.params.base (verifier_unit verifier unit).keys) (unit_leaves verifier unit)
    ≡ map (fitting_key verifier.key) pairs
extended_keys verifier unit dealt round pairs is made =
    (λ i. code_outputs verifier.code_seed (bases i) (leaves i))
    ∙ code_keys_fit verifier.key verifier.code_seed (take verifier.params.base dealt.pairs) (flat_map (λ entries. entries) made.noise) pairs
    (made.values ∙ ap (code_outputs verifier.code_seed (values_of (take verifier.params.base dealt.pairs))) (joined_parts (λ pair. pair.x) made.noise))
    (made.macs ∙ ap (code_outputs verifier.code_seed (macs_of (take verifier.params.base dealt.pairs))) (joined_parts (λ pair. pair.m) made.noise))
  where
    bases : take verifier.params.base (verifier_unit verifier unit).keys
        ≡ map (fitting_key verifier.key) (take verifier.params.base dealt.pairs)
    bases = ap (take verifier.params.base) is.matched.keys ∙ take-map (fitting_key verifier.key) verifier.params.base dealt.pairs

    each : (t : ℕ) → t < length made.noise
        → tree_leaves (tree_root verifier unit (0 + t)) verifier.params.height ≡ map (fitting_key verifier.key) (slice_index_or made.noise t [])
    each t below =
        let inside : t < verifier.params.trees = omega (arith, below, made.count) in
        ap (λ n. tree_leaves (tree_root verifier unit n) verifier.params.height) (zero-add t)
        ∙ tree_keys_fit verifier unit t (pair_at dealt.pairs (verifier.params.base + t)) (slice_index_or dealt.trees t [])
        (slice_index_or round.asks t no_ask) (slice_index_or made.noise t []) (tree_matches verifier unit dealt round t is inside)
        (subst (λ (tree : TreeView). IsNoiseOf tree (slice_index_or made.noise t [])) (tree_answered verifier unit dealt round t is inside)
        (made.each t inside))

    leaves : unit_leaves verifier unit ≡ map (fitting_key verifier.key) (flat_map (λ entries. entries) made.noise)
    leaves = ap (λ n. flat_map (λ t. tree_leaves (tree_root verifier unit t) verifier.params.height) (range_with_len 0 n)) (sym made.count)
        ∙ joined_keys verifier.key (λ t. tree_leaves (tree_root verifier unit t) verifier.params.height) 0 made.noise each

-- the keys of a unit fit its pairs, whatever its kind
pub unit_keys_fit : (verifier : VerifierFile) (kind : Kind) (unit : ℕ) (dealt : ProverUnit) (rounds : List UnitRound) (pairs : List Pair)
    → UnitsMatch verifier.key dealt (verifier_unit verifier unit)
    → IsProverUnit (of_kind verifier kind).params dealt → IsVerifierUnit (of_kind verifier kind).params (verifier_unit verifier unit)
    → length rounds ≡ rounds_of kind → AllByRecursion (IsAnswered (of_kind verifier kind) unit) rounds
    → IsUnitView (of_kind verifier kind).params verifier.code_seed dealt rounds pairs
    → unit_keys (of_kind verifier kind) unit ≡ map (fitting_key verifier.key) pairs
unit_keys_fit verifier Direct unit dealt [] pairs matched left right count answered seen =
    matched.keys ∙ ap (map (fitting_key verifier.key)) (sym seen)
unit_keys_fit verifier Direct unit dealt (round ∷ rounds) pairs matched left right count answered seen = absurd (omega (arith, count))
unit_keys_fit verifier Extended unit dealt [] pairs matched left right count answered seen = absurd (omega (arith, count))
unit_keys_fit verifier Extended unit dealt (round ∷ []) pairs matched left right count answered seen =
    extended_keys (of_kind verifier Extended) unit dealt round pairs
    (record { matched = matched; left = left; right = right; extended = left.count; answered = answered.0 }) seen
unit_keys_fit verifier Extended unit dealt (round ∷ next ∷ more) pairs matched left right count answered seen = absurd seen
