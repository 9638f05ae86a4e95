use Rattle.std.proofs.Common.{◌≡◌, ◌*◌, ◌^◌}
use Rattle.zk_model.specs.Files.{prover_unit}
use Rattle.proof_audit.specs.SeenValues.{noise_values}
use Rattle.proof_audit.proofs.values.noise_values.Given as goal

abbrev pub invariant-loop-tree : goal.invariant-loop-tree
invariant-loop-tree l = record {
  values : l.values.items ≡ noise_values l.file.params (prover_unit l.file l.unit) l.asks l.tree;
  count : l.values.len ≡ l.tree * 2 ^ l.file.params.height;
}
