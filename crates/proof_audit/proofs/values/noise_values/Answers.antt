use Rattle.std.proofs.Common.{◌≡◌, ◌<◌, ◌++◌, [], ◌∙◌, ap, arith}
use Rattle.std.proofs.lemmas.List.{get_or_default}
use Rattle.dealer_files.proofs.Pieces.{flat_map_range_more}
use Rattle.zk_model.specs.Files.{prover_unit}
use Rattle.zk_model.specs.declared.Params.{Params}
use Rattle.vole_extend.specs.Rounds.{ask_at}
use Rattle.proof_audit.specs.SeenValues.{tree_values}
use Rattle.proof_audit.proofs.values.noise_values.Goals as goal

pub loop-tree-preserved : goal.loop-tree-preserved
loop-tree-preserved c = record {
  values = flat_map_range_more (λ tree. tree_values c.args.file.now.params (prover_unit c.args.file.now c.args.unit) tree (ask_at c.args.asks.now tree))
      c.loop-tree.values.items c.extend_from_slice.new.self.items c.in_ok-more.more.items c.loop-tree.tree
      (c.in_ok-extend_from_slice.ensures.items ∙ ap (λ more. c.loop-tree.values.items ++ more) c.deref.ensures.value)
      (c.in_ok-more.ensures.values ∙ ap (tree_values c.args.file.now.params (prover_unit c.args.file.now c.args.unit) c.loop-tree.tree) ask)
      c.loop-tree.invariant.values;
  count = omega (arith, c.in_ok-extend_from_slice.ensures.len, c.deref.ensures.len, c.in_ok-more.ensures.count, c.loop-tree.invariant.count);
}
  where
    below : c.loop-tree.tree < c.args.file.now.params.trees
    below = omega (arith, c.loop-tree-test.true, ap (λ (params : Params). params.trees) c.params-height.ensures.params)

    ask : c.index-asks-tree.result ≡ ask_at c.args.asks.now c.loop-tree.tree
    ask = c.index-asks-tree.is ∙ get_or_default c.args.asks.now c.loop-tree.tree c.index-asks-tree.result (record { flips = []; base_correction = 0 })
        (omega (arith, below, c.requires.asks.counted))
