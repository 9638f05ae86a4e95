-- What the verifier replies to the asks of a round.
use Rattle.std.specs.Prelude.{ℕ, ◌+◌, true, false, List, [], map, slice_index, slice_index_or}
use Rattle.std.specs.List.{range_with_len, enumerate_from}
use Rattle.zk_model.specs.Bytes.{LeftRight}
use Rattle.zk_model.specs.Tree.{tree_leaves, level_sum}
use Rattle.zk_model.specs.Extension.{masked_messages, leaf_offset_of}
use Rattle.zk_model.specs.Files.{VerifierFile, verifier_unit}
use Rattle.zk_model.specs.Transcript.{TreeAsk, TreeReply}
use Rattle.zk_model.specs.Correlations.{tree_root}

-- the two pads of a level of a tree of a unit
abbrev pub level_pads : VerifierFile → ℕ → ℕ → ℕ → LeftRight
level_pads file unit tree level =
    slice_index_or (slice_index_or (verifier_unit file unit).trees tree []) level (record { left = []; right = [] })

-- the XOR of the left children and that of the right children of all nodes of a level
abbrev pub level_sums : List ℕ → ℕ → LeftRight
level_sums root level = record { left = level_sum root level false; right = level_sum root level true }

-- the key of the base pair of a tree of a unit
abbrev pub tree_base_key : VerifierFile → ℕ → ℕ → ℕ
tree_base_key file unit tree = slice_index (verifier_unit file unit).keys (file.params.base + tree)

-- the reply to an ask for one tree: the sums of each level, masked, and the offset of the leaves
abbrev pub tree_reply : VerifierFile → ℕ → ℕ → TreeAsk → TreeReply
tree_reply file unit tree ask = record {
  messages = map masked_sums (range_with_len 0 file.params.height);
  leaf_offset =
      leaf_offset_of file.key (tree_base_key file unit tree) ask.base_correction (tree_leaves root file.params.height);
}
  where
    root : List ℕ
    root = tree_root file unit tree

    masked_sums : ℕ → LeftRight
    masked_sums level = masked_messages
        (level_pads file unit tree level) (slice_index_or ask.flips level false) (level_sums root level)

-- the reply to a unit's asks, tree by tree
abbrev pub unit_reply : VerifierFile → ℕ → List TreeAsk → List TreeReply
unit_reply file unit asks = map (λ entry. tree_reply file unit entry.0 entry.1) (enumerate_from 0 asks)
