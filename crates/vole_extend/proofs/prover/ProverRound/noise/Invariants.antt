use Rattle.std.proofs.Common.{◌≡◌, ◌*◌, ◌^◌}
use Rattle.vole_extend.specs.Rounds.{IsNoiseOfTrees}
use Rattle.vole_extend.proofs.prover.ProverRound.noise.Given as goal

abbrev pub invariant-loop-tree : goal.invariant-loop-tree
invariant-loop-tree l = record {
  noises : IsNoiseOfTrees l.self l.replies l.tree l.noise.items;
  count : l.noise.len ≡ l.tree * 2 ^ l.self.file.params.height;
}
