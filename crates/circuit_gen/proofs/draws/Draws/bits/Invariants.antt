use Rattle.std.proofs.Common.{◌≡◌, map}
use Rattle.std.specs.List.{range_with_len}
use Rattle.circuit_gen.specs.Generated.{generated_bit, state_after}
use Rattle.circuit_gen.proofs.draws.Draws.bits.Given as goal

abbrev pub invariant-loop-i : goal.invariant-loop-i
invariant-loop-i l = record {
  state : l.self.state ≡ state_after l.fn.self.state l._i;
  bits : l.bits.items ≡ map (generated_bit l.fn.self.state) (range_with_len 0 l._i);
}
