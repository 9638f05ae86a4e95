-- The asks of a unit, and what the prover finds of all its trees.
use Rattle.std.proofs.Common.{◌≡◌, ℕ, ◌+◌, ◌<◌, List, [], ◌∷◌, ◌++◌, map, take, get_or, sym, ◌∙◌, ap, subst, arith, append-nil, length-append}
use Rattle.std.specs.List.{range_with_len}
use Rattle.std.proofs.lemmas.List.Concat.{flat_map-append}
use Rattle.std.proofs.lemmas.List.FromFn.{get_or-map-range_with_len}
use Rattle.tree_laws.proofs.Joined.{each_more}
use Rattle.zk_model.specs.Mac.{Pair, values_of, macs_of}
use Rattle.zk_model.specs.Extension.{code_outputs}
use Rattle.zk_model.specs.Files.{IsProverFile, prover_unit}
use Rattle.zk_model.specs.Transcript.{TreeAsk, TreeReply}
use Rattle.zk_model.specs.Correlations.{TreeView, IsNoiseOf, IsExtension, level_view, tree_view}
use Rattle.zk_model.specs.HonestProver.{honest_ask, honest_asks}
use Rattle.vole_extend.specs.Rounds.{ProverTurn, tree_transfers, tree_base, tree_ask, asked_view, reply_at, asked_round, AreNoises, IsNoiseOfTrees}
use Rattle.vole_extend.proofs.AskedAny.{asked_extension}
use Rattle.vole_extend.proofs.Ranges.{numbered}

-- ---- asks

-- the asks for all trees
pub asks_are : (turn : ProverTurn) → IsProverFile turn.file → turn.unit < turn.file.params.total
    → map (tree_ask turn) (range_with_len 0 turn.file.params.trees) ≡ honest_asks turn.file turn.unit
asks_are turn is within =
    numbered (honest_ask turn.file turn.unit) (prover_unit turn.file turn.unit).trees turn.file.params.trees []
    (record { flips = []; base_correction = 0 })
    (is.units turn.unit (record { pairs = []; trees = [] }) (omega (arith, is.count, within))).trees.0

-- so what the prover sees of a tree is what it knows after its ask
view_is : (turn : ProverTurn) (replies : List TreeReply) (tree : ℕ) → IsProverFile turn.file → turn.unit < turn.file.params.total
    → tree < turn.file.params.trees
    → asked_view turn tree (reply_at replies tree)
    ≡ tree_view turn.file.params (prover_unit turn.file turn.unit) (asked_round turn replies) tree
view_is turn replies tree is within below = λ i. record {
  base = tree_base turn tree;
  base_correction = (ask_at i).base_correction;
  levels = map (level_view (tree_transfers turn tree) (ask_at i) (reply_at replies tree)) (range_with_len 0 turn.file.params.height);
  leaf_offset = (reply_at replies tree).leaf_offset;
}
  where
    none : TreeAsk
    none = record { flips = []; base_correction = 0 }

    ask_at : tree_ask turn tree ≡ get_or (honest_asks turn.file turn.unit) tree none
    ask_at = sym (ap (λ asks. get_or asks tree none) (sym (asks_are turn is within))
        ∙ get_or-map-range_with_len (tree_ask turn) 0 turn.file.params.trees tree tree none below (omega arith))

-- ---- noise

-- one tree more
pub noise_more : (views : ℕ → TreeView) (count : ℕ) (before now more : List Pair) → now ≡ before ++ more → IsNoiseOf (views count) more
    → AreNoises views count before → AreNoises views (count + 1) now
noise_more views count before now more added is far = record {
  noise = far.noise ++ more ∷ [];
  one_each = length-append far.noise (more ∷ []) ∙ omega (arith, far.one_each);
  each = each_more (λ tree entries. IsNoiseOf (views tree) entries) far.noise more count far.one_each far.each is;
  joined = added ∙ (λ i. far.joined i ++ sym (append-nil more) i) ∙ sym (flat_map-append (λ vector. vector) far.noise (more ∷ []));
}

-- ---- pairs

-- outputs of the code over the noise of all trees are the pairs of the round
pub extension_is : (turn : ProverTurn) (replies : List TreeReply) (noise pairs : List Pair) → IsProverFile turn.file
    → turn.unit < turn.file.params.total → IsNoiseOfTrees turn replies turn.file.params.trees noise
    → values_of pairs ≡ code_outputs turn.file.code_seed
    (values_of (take turn.file.params.base (prover_unit turn.file turn.unit).pairs)) (values_of noise)
    → macs_of pairs ≡ code_outputs turn.file.code_seed
    (macs_of (take turn.file.params.base (prover_unit turn.file turn.unit).pairs)) (macs_of noise)
    → IsExtension turn.file.params turn.file.code_seed (prover_unit turn.file turn.unit) (asked_round turn replies) pairs
extension_is turn replies noise pairs is within noisy values macs =
    asked_extension turn (honest_asks turn.file turn.unit) replies noise pairs (record {
      noise = noisy.noise;
      one_each = noisy.one_each;
      each = λ tree below. subst (λ (view : TreeView). IsNoiseOf view (get_or noisy.noise tree [])) (view_is turn replies tree is within below)
          (noisy.each tree below);
      joined = noisy.joined;
    }) values macs
