use Rattle.std.proofs.Common.{◌≡◌, map}
use Rattle.std.specs.List.{range_with_len}
use Rattle.vole_extend.specs.Rounds.{tree_ask}
use Rattle.vole_extend.proofs.prover.ProverRound.ask.Given as goal

abbrev pub invariant-loop-tree : goal.invariant-loop-tree
invariant-loop-tree l = record {
  asks_are : l.asks.items ≡ map (tree_ask l.self) (range_with_len 0 l.tree);
  count : l.asks.len ≡ l.tree;
}
