-- Rounds: a unit of either end's file, and what that end makes of it tree by tree.
use Rattle.std.specs.Prelude.{◌≡◌, ℕ, ◌+◌, ◌*◌, ◌^◌, ◌<◌, List, [], map, flat_map, length, slice_index_or}
use Rattle.std.specs.List.{range_with_len}
use Rattle.zk_model.specs.Bytes.{LeftRight}
use Rattle.zk_model.specs.Mac.{Pair, pair_at}
use Rattle.zk_model.specs.Tree.{tree_leaves}
use Rattle.zk_model.specs.Files.{Transfer, ProverFile, VerifierFile, prover_unit, verifier_unit}
use Rattle.zk_model.specs.Transcript.{TreeAsk, TreeReply}
use Rattle.zk_model.specs.Correlations.{TreeView, UnitRound, level_view, tree_root, IsNoiseOf}
use Rattle.zk_model.specs.HonestProver.{honest_ask, honest_asks}
use Rattle.zk_model.specs.Replies.{tree_reply}
use Rattle.zk_model.specs.declared.Kind.TheVariants.{Extended}
use Rattle.zk_model.specs.declared.Params.{Params}
use Rattle.linear_code.specs.Codes.{Code}

-- a unit of the prover's file
pub record ProverTurn : Type 0 where
  pub file : ProverFile
  pub unit : ℕ

-- a unit of the verifier's file
pub record VerifierTurn : Type 0 where
  pub file : VerifierFile
  pub unit : ℕ

-- the unit is one of an extended file
pub record IsExtendedUnit (params : Params) (unit : ℕ) : Type 0 where
  pub extended : params.kind ≡ Extended
  pub within : unit < params.total

-- the columns of a file's code: its seed, the first correlations of a unit, and an output for each leaf of all trees
abbrev pub unit_code : Params → List ℕ → Code
unit_code params code_seed =
    record { seed = code_seed; base = params.base; count = params.trees * 2 ^ params.height }

-- ---- the prover

-- the transfers of a tree, level by level
abbrev pub tree_transfers : ProverTurn → ℕ → List Transfer
tree_transfers turn tree = slice_index_or (prover_unit turn.file turn.unit).trees tree []

-- the pair that serves a tree
abbrev pub tree_base : ProverTurn → ℕ → Pair
tree_base turn tree = pair_at (prover_unit turn.file turn.unit).pairs (turn.file.params.base + tree)

-- what is asked for a tree
abbrev pub tree_ask : ProverTurn → ℕ → TreeAsk
tree_ask turn tree = honest_ask turn.file turn.unit tree (tree_transfers turn tree)

-- what the prover knows of a tree after such an ask
abbrev pub asked_view : ProverTurn → ℕ → TreeReply → TreeView
asked_view turn tree reply = record {
  base = tree_base turn tree;
  base_correction = (tree_ask turn tree).base_correction;
  levels = map (level_view (tree_transfers turn tree) (tree_ask turn tree) reply)
      (range_with_len 0 turn.file.params.height);
  leaf_offset = reply.leaf_offset;
}

-- the reply for a tree
abbrev pub reply_at : List TreeReply → ℕ → TreeReply
reply_at replies tree = slice_index_or replies tree (record { messages = []; leaf_offset = 0 })

-- entries are the noise of the first trees of which this is known, one tree after another
pub record AreNoises (views : ℕ → TreeView) (count : ℕ) (entries : List Pair) : Type 0 where
  pub noise : List (List Pair)
  pub one_each : length noise ≡ count
  pub each : (tree : ℕ) → tree < count → IsNoiseOf (views tree) (slice_index_or noise tree [])
  pub joined : entries ≡ flat_map (λ vector. vector) noise

-- after honest asks
abbrev pub IsNoiseOfTrees : ProverTurn → List TreeReply → ℕ → List Pair → Type 0
IsNoiseOfTrees turn replies count entries = AreNoises (λ tree. asked_view turn tree (reply_at replies tree)) count entries

-- honest asks of a unit, and replies
abbrev pub asked_round : ProverTurn → List TreeReply → UnitRound
asked_round turn replies = record { asks = honest_asks turn.file turn.unit; replies = replies }

-- what the prover knows of a tree after whatever was asked
abbrev pub view_with : ProverTurn → ℕ → TreeAsk → TreeReply → TreeView
view_with turn tree ask reply = record {
  base = tree_base turn tree;
  base_correction = ask.base_correction;
  levels = map (level_view (tree_transfers turn tree) ask reply) (range_with_len 0 turn.file.params.height);
  leaf_offset = reply.leaf_offset;
}

-- the ask for a tree
abbrev pub ask_at : List TreeAsk → ℕ → TreeAsk
ask_at asks tree = slice_index_or asks tree (record { flips = []; base_correction = 0 })

-- after such asks
abbrev pub IsNoiseOfAsked : ProverTurn → List TreeAsk → List TreeReply → ℕ → List Pair → Type 0
IsNoiseOfAsked turn asks replies count entries =
    AreNoises (λ tree. view_with turn tree (ask_at asks tree) (reply_at replies tree)) count entries

-- ---- the verifier

-- the pads of a tree, level by level
abbrev pub tree_pads : VerifierTurn → ℕ → List LeftRight
tree_pads turn tree = slice_index_or (verifier_unit turn.file turn.unit).trees tree []

-- the replies for the first trees
abbrev pub first_replies : VerifierTurn → List TreeAsk → ℕ → List TreeReply
first_replies turn asks count =
    map (λ tree. tree_reply turn.file turn.unit tree (ask_at asks tree)) (range_with_len 0 count)

-- and their leaves, one tree after another
abbrev pub first_leaves : VerifierTurn → ℕ → List ℕ
first_leaves turn count =
    flat_map (λ tree. tree_leaves (tree_root turn.file turn.unit tree) turn.file.params.height) (range_with_len 0 count)
