use Rattle.std.proofs.Common.{◌≡◌, ◌+◌, ◌*◌, ◌++◌, map, flat_map}
use Rattle.std.specs.List.{range_with_len}
use Rattle.circuit_gen.specs.Generated.{state_after, gate_line, heading, generated_bits, generated_circuit, generated_gate}
use Rattle.circuit_gen.proofs.WireBits.{AreBitsSoFar}
use Rattle.circuit_gen.proofs.generate.Given as goal

abbrev pub invariant-loop-i : goal.invariant-loop-i
invariant-loop-i l = record {
  state : l.draws.state ≡ state_after l.fn.number (64 + 3 * l.i);
  text : l.text.items ≡ heading (generated_circuit l.fn.gates l.fn.number) ++ flat_map gate_line (map (generated_gate l.fn.number) (range_with_len 0 l.i));
  bits : AreBitsSoFar (generated_gate l.fn.number) (generated_bits l.fn.number) l.wires.items l.i;
}
