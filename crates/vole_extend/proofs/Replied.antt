-- What the verifier replies.
use Rattle.std.proofs.Common.{◌≡◌, ℕ, Bool, false, List, [], length, map, get_or, ◌∙◌, ap, arith}
use Rattle.std.specs.List.{range_with_len}
use Rattle.std.proofs.lemmas.List.FromFn.{length-map-range_with_len, get_or-map-range_with_len}
use Rattle.dealer_files.proofs.Pieces.{map_range_same}
use Rattle.zk_model.specs.Bytes.{LeftRight}
use Rattle.zk_model.specs.Tree.{tree_leaves}
use Rattle.zk_model.specs.Extension.{masked_messages, leaf_offset_of}
use Rattle.zk_model.specs.Transcript.{TreeAsk}
use Rattle.zk_model.specs.Correlations.{tree_root}
use Rattle.zk_model.specs.Replies.{level_pads, level_sums, tree_base_key, tree_reply, unit_reply}
use Rattle.ggm_tree.specs.Sums.{sums_of, tree_sums}
use Rattle.vole_extend.specs.Levels.{both_at, masked_sums}
use Rattle.vole_extend.specs.Rounds.{VerifierTurn, tree_pads, first_replies}
use Rattle.vole_extend.proofs.Ranges.{numbered}

-- the sums of all levels, masked
messages_are : (turn : VerifierTurn) (tree : ℕ) (ask : TreeAsk)
    → masked_sums (tree_pads turn tree) ask.flips (tree_sums (tree_root turn.file turn.unit tree) turn.file.params.height)
    ≡ (tree_reply turn.file turn.unit tree ask).messages
messages_are turn tree ask =
    ap (λ n. map masked (range_with_len 0 n)) (length-map-range_with_len (sums_of root) 0 height)
    ∙ map_range_same masked
    (λ level. masked_messages (level_pads turn.file turn.unit tree level) (get_or ask.flips level false) (level_sums root level)) 0 height
    (λ level low high. ap (masked_messages (level_pads turn.file turn.unit tree level) (get_or ask.flips level false))
    (get_or-map-range_with_len (sums_of root) 0 height level level (record { left = []; right = [] }) (omega (arith, high)) (omega arith)))
  where
    height : ℕ
    height = turn.file.params.height

    root : List ℕ
    root = tree_root turn.file turn.unit tree

    masked : ℕ → LeftRight
    masked level = masked_messages (both_at (tree_pads turn tree) level) (get_or ask.flips level false) (both_at (tree_sums root height) level)

-- what was made of a tree and its ask
pub record IsReplied (turn : VerifierTurn) (tree : ℕ) (ask : TreeAsk) (key base_key correction offset : ℕ) (leaves : List ℕ)
    (pads sums messages : List LeftRight) (flips : List Bool) : Type 0 where
  pub pads_are : pads ≡ tree_pads turn tree
  pub flips_are : flips ≡ ask.flips
  pub sums_are : sums ≡ tree_sums (tree_root turn.file turn.unit tree) turn.file.params.height
  pub masked : messages ≡ masked_sums pads flips sums
  pub key_is : key ≡ turn.file.key
  pub base_key_is : base_key ≡ tree_base_key turn.file turn.unit tree
  pub correction_is : correction ≡ ask.base_correction
  pub leaves_are : leaves ≡ tree_leaves (tree_root turn.file turn.unit tree) turn.file.params.height
  pub offset_is : offset ≡ leaf_offset_of key base_key correction leaves

-- it is the reply
pub reply_is : (turn : VerifierTurn) (tree : ℕ) (ask : TreeAsk) (key base_key correction offset : ℕ) (leaves : List ℕ)
    (pads sums messages : List LeftRight) (flips : List Bool)
    → IsReplied turn tree ask key base_key correction offset leaves pads sums messages flips
    → record { messages = messages; leaf_offset = offset } ≡ tree_reply turn.file turn.unit tree ask
reply_is turn tree ask key base_key correction offset leaves pads sums messages flips is = λ i. record {
  messages = (is.masked ∙ (λ j. masked_sums (is.pads_are j) (is.flips_are j) (is.sums_are j)) ∙ messages_are turn tree ask) i;
  leaf_offset = (is.offset_is
      ∙ (λ j. leaf_offset_of (is.key_is j) (is.base_key_is j) (is.correction_is j) (is.leaves_are j))) i;
}

-- the replies for all trees
pub replies_are : (turn : VerifierTurn) (asks : List TreeAsk) (count : ℕ) → length asks ≡ count
    → first_replies turn asks count ≡ unit_reply turn.file turn.unit asks
replies_are turn asks count counted =
    numbered (tree_reply turn.file turn.unit) asks count (record { flips = []; base_correction = 0 })
    (record { messages = []; leaf_offset = 0 }) counted
