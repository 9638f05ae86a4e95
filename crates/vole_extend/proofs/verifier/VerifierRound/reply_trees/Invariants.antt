use Rattle.std.proofs.Common.{◌≡◌, ◌*◌, ◌^◌}
use Rattle.vole_extend.specs.Rounds.{first_replies, first_leaves}
use Rattle.vole_extend.proofs.verifier.VerifierRound.reply_trees.Given as goal

abbrev pub invariant-loop-tree : goal.invariant-loop-tree
invariant-loop-tree l = record {
  replies_are : l.replies.items ≡ first_replies l.self l.asks l.tree;
  leaves_are : l.leaves.items ≡ first_leaves l.self l.tree;
  reply_count : l.replies.len ≡ l.tree;
  leaf_count : l.leaves.len ≡ l.tree * 2 ^ l.self.file.params.height;
}
