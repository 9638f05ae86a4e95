use Rattle.std.proofs.Common.{◌≡◌, ◌<◌, ℕ, take}
use Rattle.std.specs.Prelude.{slice_index}
use Rattle.zk_model.specs.Field.{IsElement}
use Rattle.zk_model.specs.HonestProver.{honest_corrections}
use Rattle.wire_auth.specs.Values.{given_from}
use Rattle.wire_auth.proofs.corrections.value_corrections.Given as goal

abbrev pub invariant-loop-i : goal.invariant-loop-i
invariant-loop-i l = record {
  so_far : l.corrections.items ≡ take l.i (honest_corrections (given_from l.program l.values) l.dealt);
  elements : (k : ℕ) → k < l.i → IsElement (slice_index (given_from l.program l.values) k);
}
