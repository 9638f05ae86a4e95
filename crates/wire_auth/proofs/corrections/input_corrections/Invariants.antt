use Rattle.std.proofs.Common.{◌≡◌, ◌<◌, ℕ, take}
use Rattle.std.specs.Prelude.{slice_index}
use Rattle.zk_model.specs.Field.{IsElement}
use Rattle.zk_model.specs.HonestProver.{honest_corrections}
use Rattle.wire_auth.proofs.corrections.input_corrections.Given as goal

abbrev pub invariant-loop-i : goal.invariant-loop-i
invariant-loop-i l = record {
  so_far : l.corrections.items ≡ take l.i (honest_corrections l.inputs l.dealt);
  elements : (k : ℕ) → k < l.i → IsElement (slice_index l.inputs k);
}
