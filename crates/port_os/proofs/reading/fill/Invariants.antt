use Rattle.std.proofs.Common.{◌≡◌, ◌≤◌, ◌-◌, drop, length}
use Rattle.port_os.proofs.reading.fill.Given as goal

abbrev pub invariant-loop-filled : goal.invariant-loop-filled
invariant-loop-filled g l = record {
  inside : l.filled ≤ length l.buffer;
  same : length l.buffer ≡ length l.fn.buffer;
  rest : drop l.filled l.buffer ≡ drop l.filled l.fn.buffer;
}

abbrev pub decreases-loop-filled : goal.decreases-loop-filled
decreases-loop-filled g l = length l.buffer - l.filled
