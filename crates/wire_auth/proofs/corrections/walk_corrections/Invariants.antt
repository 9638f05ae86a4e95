use Rattle.std.proofs.Common.{◌≡◌, ◌+◌, ◌<◌, ℕ, take}
use Rattle.std.specs.Prelude.{slice_index}
use Rattle.zk_model.specs.Field.{IsElement}
use Rattle.zk_model.specs.HonestProver.{honest_corrections}
use Rattle.field_program.specs.Counts.{unchecked}
use Rattle.wire_auth.specs.Values.{wires_made, given_from}
use Rattle.wire_auth.specs.Walks.{Follows}
use Rattle.wire_auth.proofs.corrections.walk_corrections.Given as goal

abbrev pub invariant-loop-i : goal.invariant-loop-i
invariant-loop-i l = record {
  program : l.walk.program ≡ l.program;
  met : unchecked l.program + l.walk.met ≡ l.i;
  follows : Follows (λ n. n) l.walk (wires_made l.program l.public l.inputs) (given_from l.program (wires_made l.program l.public l.inputs));
  so_far : l.corrections.items ≡ take l.i (honest_corrections (given_from l.program (wires_made l.program l.public l.inputs)) l.dealt);
  elements : (k : ℕ) → k < l.i → IsElement (slice_index (given_from l.program (wires_made l.program l.public l.inputs)) k);
}
