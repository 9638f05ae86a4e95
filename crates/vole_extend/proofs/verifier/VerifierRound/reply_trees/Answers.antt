use Rattle.std.proofs.Common.{◌≡◌, ◌++◌, [], ◌∙◌, refl, ap, arith}
use Rattle.dealer_files.proofs.Pieces.{flat_map_range_more}
use Rattle.zk_model.specs.Tree.{tree_leaves}
use Rattle.zk_model.specs.Correlations.{tree_root}
use Rattle.zk_model.specs.Replies.{tree_reply}
use Rattle.zk_model.specs.declared.Params.{Params}
use Rattle.vole_extend.specs.Rounds.{VerifierTurn, ask_at}
use Rattle.vole_extend.proofs.Ranges.{map_more, read_at}
use Rattle.vole_extend.proofs.verifier.VerifierRound.reply_trees.Goals as goal

pub loop-tree-preserved : goal.loop-tree-preserved
loop-tree-preserved c = record {
  replies_are = map_more (λ tree. tree_reply turn.file turn.unit tree (ask_at c.args.asks.now tree)) c.loop-tree.replies.items
      c.push.new.self.items c.in_ok-reply_tree.field-0 c.loop-tree.tree c.in_ok-push.ensures.items
      (c.in_ok-reply_tree.ensures ∙ ap (tree_reply turn.file turn.unit c.loop-tree.tree) ask)
      c.loop-tree.invariant.replies_are;
  leaves_are = flat_map_range_more (λ tree. tree_leaves (tree_root turn.file turn.unit tree) turn.file.params.height)
      c.loop-tree.leaves.items c.extend_from_slice.new.self.items c.in_ok-grown.grown.leaves.items c.loop-tree.tree
      (c.in_ok-extend_from_slice.ensures.items ∙ ap (λ leaves. c.loop-tree.leaves.items ++ leaves) c.deref-in-loop-tree-2.ensures.value)
      c.in_ok-grown.ensures.leaves c.loop-tree.invariant.leaves_are;
  reply_count = omega (arith, c.in_ok-push.ensures.len, c.loop-tree.invariant.reply_count);
  leaf_count = omega
      (arith, c.in_ok-extend_from_slice.ensures.len, c.deref-in-loop-tree-2.ensures.len, c.in_ok-grown.ensures.leaf_count, c.loop-tree.invariant.leaf_count);
}
  where
    turn : VerifierTurn
    turn = c.args.self.now

    ask : c.index-asks-tree.result ≡ ask_at c.args.asks.now c.loop-tree.tree
    ask = read_at c.args.asks.now c.loop-tree.tree _ c.index-asks-tree.result (record { flips = []; base_correction = 0 })
        refl c.index-asks-tree.is
        (omega (arith, c.loop-tree-test.true, c.requires.count, ap (λ (params : Params). params.trees) c.params-height.ensures.params))
