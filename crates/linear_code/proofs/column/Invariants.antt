use Rattle.std.proofs.Common.{◌≡◌, ◌%◌, ◌<◌, ℕ, length, get_or}
use Rattle.linear_code.proofs.column.Given as goal

abbrev pub invariant-loop-i : goal.invariant-loop-i
invariant-loop-i l = record {
  long : length l.column ≡ 10;
  each : (k : ℕ) → k < l.i → get_or l.column k 0 ≡ get_or l.words k 0 % l.base;
}
