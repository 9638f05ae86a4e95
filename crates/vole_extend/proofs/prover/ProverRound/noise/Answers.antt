use Rattle.std.proofs.Common.{◌≡◌, ◌++◌, [], ◌∙◌, refl, ap, arith, subst}
use Rattle.zk_model.specs.Transcript.{TreeReply}
use Rattle.zk_model.specs.Correlations.{IsNoiseOf}
use Rattle.zk_model.specs.declared.Params.{Params}
use Rattle.vole_extend.specs.Rounds.{asked_view, reply_at}
use Rattle.vole_extend.proofs.Found.{noise_more}
use Rattle.vole_extend.proofs.Ranges.{read_at}
use Rattle.vole_extend.proofs.prover.ProverRound.noise.Goals as goal

pub loop-tree-preserved : goal.loop-tree-preserved
loop-tree-preserved c = record {
  noises = noise_more (λ tree. asked_view c.args.self.now tree (reply_at c.args.replies.now tree)) c.loop-tree.tree c.loop-tree.noise.items c.extend_from_slice.new.self.items
      c.in_ok-entries.entries.items
      (c.in_ok-extend_from_slice.ensures.items ∙ ap (λ entries. c.loop-tree.noise.items ++ entries) c.deref.ensures.value)
      (subst (λ (reply : TreeReply). IsNoiseOf (asked_view c.args.self.now c.loop-tree.tree reply) c.in_ok-entries.entries.items) reply
      c.in_ok-entries.ensures.noise)
      c.loop-tree.invariant.noises;
  count = omega (arith, c.in_ok-extend_from_slice.ensures.len, c.deref.ensures.len, c.in_ok-entries.ensures.count, c.loop-tree.invariant.count);
}
  where
    reply : c.index-replies-tree.result ≡ reply_at c.args.replies.now c.loop-tree.tree
    reply = read_at c.args.replies.now c.loop-tree.tree _ c.index-replies-tree.result (record { messages = []; leaf_offset = 0 })
        refl c.index-replies-tree.is
        (omega (arith, c.loop-tree-test.true, c.requires.count, ap (λ (params : Params). params.trees) c.params-height.ensures.params))
