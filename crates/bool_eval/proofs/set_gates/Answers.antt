use Rattle.std.proofs.Common.{◌≡◌, ℕ, subst, take, length, arith}
use Rattle.bool_eval.proofs.BitSteps.{AreBitsSoFar, bits_first, bits_next, all_bits}
use Rattle.bool_eval.proofs.set_gates.Goals as goal

pub loop-i-init : goal.loop-i-init
loop-i-init c = bits_first c.args.circuit.now c.args.bits.now c.requires.whole c.requires.blank

pub loop-i-preserved : goal.loop-i-preserved
loop-i-preserved c =
    bits_next c.args.circuit.now (take c.args.circuit.now.inputs c.args.bits.now) c.loop-i.bits c.set_gate.new.bits c.loop-i.i c.gate.result
    c.wires-wires.ensures.rules.well_formed c.gate.ensures c.set_gate.ensures c.loop-i.invariant

pub returns : goal.returns
returns c =
    let end : c.loop-i.i ≡ length c.args.circuit.now.gates = omega (arith, c.gates-i-end.ensures, c.loop-i-test.false, c.loop-i.auto.i-end) in
    let far = subst (λ (n : ℕ). AreBitsSoFar c.args.circuit.now (take c.args.circuit.now.inputs c.args.bits.now) c.loop-i.bits n) end c.loop-i.invariant in
    record { wires = all_bits _ _ _ far; unset = far.unset }
