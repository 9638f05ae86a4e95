use Rattle.std.proofs.Common.{ℕ, ◌≤◌, subst, take, sym, arith, length}
use Rattle.arith_eval.specs.Rows.{IsWithin}
use Rattle.arith_eval.proofs.Computing.{all_computed, all_unset, row_within, so_far_first, so_far_next}
use Rattle.arith_eval.proofs.wires.set_rows.Goals as goal

pub loop-i-init : goal.loop-i-init
loop-i-init c = so_far_first c.args.circuit.now c.args.elements.now c.requires

pub set_row-requires : goal.set_row-requires
set_row-requires c =
    subst (λ (n : ℕ). IsWithin n c.gate.result) (sym c.loop-i.invariant.whole)
    (row_within c.args.circuit.now (take c.loop-i.i c.args.circuit.now.gates) c.gate.result (c.wires-wires.ensures.rules.well_formed.gates_fit c.loop-i.i c.gate.result c.gate.ensures))

pub loop-i-preserved : goal.loop-i-preserved
loop-i-preserved c =
    so_far_next c.args.circuit.now (take c.args.circuit.now.inputs c.args.elements.now) c.loop-i.elements c.set_row.new.elements c.loop-i.i c.gate.result
    c.wires-wires.ensures.rules.well_formed c.gate.ensures c.set_row.ensures c.loop-i.invariant

pub returns : goal.returns
returns c =
    let all : length c.args.circuit.now.gates ≤ c.loop-i.i = omega (arith, c.gates-i-end.ensures, c.loop-i-test.false) in
    record {
      computed = all_computed c.args.circuit.now _ c.loop-i.elements c.loop-i.i all c.loop-i.invariant;
      unset = all_unset c.args.circuit.now _ c.loop-i.elements c.loop-i.i all c.loop-i.invariant;
    }
