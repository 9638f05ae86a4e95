use Rattle.std.proofs.Common.{◌≡◌}
use Rattle.proof_audit.specs.SeenValues.{only_at}
use Rattle.proof_audit.proofs.values.only_at.Given as goal

abbrev pub invariant-loop-j : goal.invariant-loop-j
invariant-loop-j l = record {
  values : l.values.items ≡ only_at l.j l.place l.value;
  count : l.values.len ≡ l.j;
}
