use Rattle.std.proofs.Common.{◌≡◌, ◌+◌, ◌<◌, ◌≤◌, ℕ, true}
use Rattle.bristol_reader.specs.Gates.{flag_of}
use Rattle.bristol_reader.proofs.body.unset_output.Given as goal

abbrev pub invariant-loop-i : goal.invariant-loop-i
invariant-loop-i l = (wire : ℕ) → l.first ≤ wire → wire < l.first + l.i → flag_of l.set wire ≡ true
