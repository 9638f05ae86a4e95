use Rattle.std.proofs.Common.{◌≡◌, ◌<◌, ◌∙◌, map, ap, arith, subst}
use Rattle.std.specs.List.{range_with_len}
use Rattle.zk_model.specs.declared.Params.{Params}
use Rattle.vole_extend.specs.Rounds.{tree_ask}
use Rattle.vole_extend.proofs.Fits.{asks_fit}
use Rattle.vole_extend.proofs.Found.{asks_are}
use Rattle.vole_extend.proofs.Ranges.{map_more}
use Rattle.vole_extend.proofs.prover.ProverRound.ask.Goals as goal

pub loop-tree-preserved : goal.loop-tree-preserved
loop-tree-preserved c = record {
  asks_are = map_more (tree_ask c.args.self.now) c.loop-tree.asks.items c.push.new.self.items c.in_ok-ask_tree.field-0 c.loop-tree.tree
      c.in_ok-push.ensures.items c.in_ok-ask_tree.ensures c.loop-tree.invariant.asks_are;
  count = omega (arith, c.in_ok-push.ensures.len, c.loop-tree.invariant.count);
}

-- in the end there are asks for all trees
all_asks : (c : goal.After-loop-tree) → c.loop-tree.asks.items ≡ map (tree_ask c.args.self.now) (range_with_len 0 c.args.self.now.file.params.trees)
all_asks c =
    let all : c.loop-tree.tree ≡ c.args.self.now.file.params.trees =
    omega (arith, c.loop-tree-test.false, c.loop-tree.auto.tree-end, ap (λ (params : Params). params.trees) c.params-trees.ensures.params) in
    c.loop-tree.invariant.asks_are ∙ ap (λ n. map (tree_ask c.args.self.now) (range_with_len 0 n)) all

within : (c : goal.After-loop-tree) → c.args.self.now.unit < c.args.self.now.file.params.total
within c = subst (λ (params : Params). c.args.self.now.unit < params.total) c.params-trees.ensures.params c.params-trees.ensures.within

pub returns-clause-asks : goal.returns-clause-asks
returns-clause-asks c = all_asks c ∙ asks_are c.args.self.now c.params-trees.ensures.file (within c)

pub returns-clause-fits : goal.returns-clause-fits
returns-clause-fits c = asks_fit c.args.self.now c.loop-tree.asks.items c.params-trees.ensures.file (within c) (all_asks c)
