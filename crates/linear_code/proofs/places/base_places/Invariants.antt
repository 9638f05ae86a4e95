use Rattle.std.proofs.Common.{◌≡◌, ◌≤◌, ◌-◌}
use Rattle.linear_code.specs.Codes.{places_of}
use Rattle.linear_code.proofs.places.base_places.Given as goal

abbrev pub invariant-loop-coins : goal.invariant-loop-coins
invariant-loop-coins l = record {
  within : l.places.len ≤ l.count;
  drawn : l.places.items ≡ places_of l.code_seed l.base l.places.len;
}

abbrev pub decreases-loop-coins : goal.decreases-loop-coins
decreases-loop-coins l = l.count - l.places.len
