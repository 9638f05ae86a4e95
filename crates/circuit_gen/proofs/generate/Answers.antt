use Rattle.std.proofs.Common.{◌≡◌, ℕ, ◌+◌, ◌-◌, Bool, List, [], ◌∷◌, ◌++◌, drop, length, map, flat_map, ap, sym, ◌∙◌, refl, subst, arith, append-nil}
use Rattle.std.specs.Prelude.{min}
use Rattle.std.specs.List.{range_with_len}
use Rattle.std.proofs.lemmas.List.{take_rest}
use Rattle.zk_model.specs.Bristol.{IsText}
use Rattle.zk_model.specs.Circuit.{MeetsGate, AreWireBits, output_wire}
use Rattle.circuit_gen.specs.Generated.{generated_text, state_after, gate_line, heading, generated_bits, generated_circuit, generated_gate}
use Rattle.circuit_gen.proofs.Drawing.{gate_drawn, generated_rows}
use Rattle.circuit_gen.proofs.Texts.{generated_says, length-generated_bits, more_lines}
use Rattle.circuit_gen.proofs.WireBits.{AreBitsSoFar, bits_first, bits_more, all_bits}
use Rattle.circuit_gen.proofs.generate.Goals as goal

pub loop-i-init : goal.loop-i-init
loop-i-init c =
    let number = c.args.number in
    let row = generated_gate number in
    let same : c.in_ok-wires.wires.items ≡ generated_bits number =
    c.in_ok-wires.ensures.items ∙ c.deref.ensures.value ∙ c.in_ok-bits.ensures.bits ∙ ap generated_bits c.new-draws.ensures in
    record {
      state = c.in_ok-bits.ensures.state ∙ ap (λ state. state_after state 64) c.new-draws.ensures;
      text = c.in_ok-text.ensures number ∙ sym (append-nil (heading (generated_circuit c.args.gates number)));
      bits = subst (λ (l : List Bool). AreBitsSoFar row (generated_bits number) l 0) (sym same)
          (bits_first row (generated_bits number) (length-generated_bits number));
    }

pub loop-i-preserved : goal.loop-i-preserved
loop-i-preserved c =
    let number = c.args.number in
    let row = generated_gate number in
    let i = c.loop-i.i in
    let value = c.gate_value-value.result in
    let drawn = gate_drawn number i c.loop-i.draws.state (64 + i) c.gate-gate.new.self.state c.gate-gate.result c.loop-i.invariant.state refl c.gate-gate.ensures.gate c.gate-gate.ensures.state in
    let met = subst (λ (l : List Bool). MeetsGate (l ++ value ∷ []) (row i)) c.deref-in-loop-i.ensures.value (subst (MeetsGate (c.deref-in-loop-i.result.now ++ value ∷ [])) drawn.gate_is c.gate_value-value.ensures) in
    record {
      state = drawn.state_is;
      text = c.in_ok-push_line.ensures ∙ (λ j. c.loop-i.invariant.text j ++ gate_line (drawn.gate_is j))
          ∙ more_lines (heading (generated_circuit c.args.gates number)) row i;
      bits = subst (λ (l : List Bool). AreBitsSoFar row (generated_bits number) l (i + 1)) (sym c.in_ok-push.ensures.items)
          (bits_more row (generated_bits number) c.loop-i.wires.items value i (generated_rows number) c.loop-i.invariant.bits met);
    }

pub returns-clause-says : goal.returns-clause-says
returns-clause-says c =
    let number = c.args.number in
    let gates = c.args.gates in
    let all : c.loop-i.i ≡ gates = omega arith in
    let whole : c.loop-i.text.items ≡ generated_text gates number =
    c.loop-i.invariant.text ∙ ap (λ n. heading (generated_circuit gates number) ++ flat_map gate_line (map (generated_gate number) (range_with_len 0 n))) all in
    subst (IsText (generated_circuit gates number)) (sym whole) (generated_says gates number (omega arith))

pub returns-clause-satisfies : goal.returns-clause-satisfies
returns-clause-satisfies c =
    let number = c.args.number in
    let gates = c.args.gates in
    let row = generated_gate number in
    let all : c.loop-i.i ≡ gates = omega arith in
    let same : generated_bits number ≡ c.in_ok-bits.bits.items = sym (c.in_ok-bits.ensures.bits ∙ ap generated_bits c.new-draws.ensures) in
    let far = subst (λ (n : ℕ). AreBitsSoFar row (generated_bits number) c.loop-i.wires.items n) all c.loop-i.invariant.bits in
    let first = 64 + gates - c.min.result in
    let place : output_wire (generated_circuit gates number) 0 ≡ first = omega (arith, c.min.ensures) in
    let last : drop (output_wire (generated_circuit gates number) 0) c.loop-i.wires.items ≡ c.in_ok-outputs.outputs.items =
    ap (λ n. drop n c.loop-i.wires.items) place
    ∙ sym (c.in_ok-outputs.ensures.items ∙ take_rest c.deref-2.result.now first ∙ ap (drop first) c.deref-2.ensures.value) in (
      c.loop-i.wires.items,
      subst (λ (l : List Bool). AreWireBits (generated_circuit gates number) l c.loop-i.wires.items) same (all_bits row gates (min gates 32) (generated_bits number) c.loop-i.wires.items far),
      last,
    )

pub returns-clause-inputs : goal.returns-clause-inputs
returns-clause-inputs c = ap length c.in_ok-bits.ensures.bits ∙ length-generated_bits c.new-draws.result.state
