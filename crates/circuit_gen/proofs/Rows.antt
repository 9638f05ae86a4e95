-- Circuits whose gate i sets wire 64 + i, and reads wires before it.
use Rattle.std.proofs.Common.{◌≡◌, ℕ, ◌+◌, ◌-◌, ◌<◌, ◌≤◌, inl, inr, map, ap, sym, ◌∙◌, subst, arith}
use Rattle.std.specs.Prelude.{All, Some, slice_get}
use Rattle.std.specs.List.{range_with_len}
use Rattle.std.proofs.lemmas.Bool.{cases_lt}
use Rattle.std.proofs.lemmas.List.Elements.{All-from_recursion}
use Rattle.std.proofs.lemmas.List.FromFn.{length-map-range_with_len, get_or-map-range_with_len}
use Rattle.std.proofs.lemmas.Option.{slice_get_within, slice_get-get_or}
use Rattle.zk_model.specs.Circuit.{Circuit, IsSet, IsWellFormed, wire_set, wires_read}
use Rattle.zk_model.specs.declared.GateRow.{GateRow}
use Rattle.circuit_gen.specs.Lines.{ReadsEarlier}

-- gate i sets wire 64 + i, and reads wires before it
pub record AreRows (row : ℕ → GateRow) : Type 0 where
  pub sets : (i : ℕ) → wire_set (row i) ≡ 64 + i
  pub reads : (i : ℕ) → ReadsEarlier (row i)

-- the first of them, with so many outputs
abbrev pub circuit_of : (ℕ → GateRow) → ℕ → ℕ → Circuit
circuit_of row gates outputs = record { wires = 64 + gates; inputs = 64; outputs = outputs; gates = map row (range_with_len 0 gates) }

pub row_at : (row : ℕ → GateRow) (gates i : ℕ) → i < gates → slice_get (map row (range_with_len 0 gates)) i ≡ Some (row i)
row_at row gates i below =
    let count = length-map-range_with_len row 0 gates in
    slice_get-get_or (map row (range_with_len 0 gates)) i (row i) (omega arith)
    ∙ ap Some (get_or-map-range_with_len row 0 gates i i (row i) below (omega arith))

-- a gate of the circuit is its row
pub row_is : (row : ℕ → GateRow) (gates i : ℕ) (gate : GateRow) → slice_get (map row (range_with_len 0 gates)) i ≡ Some gate → (i < gates) × (row i ≡ gate)
row_is row gates i gate is =
    let count = length-map-range_with_len row 0 gates in
    let within = slice_get_within (map row (range_with_len 0 gates)) i gate is in
    let below : i < gates = omega arith in
    let at = row_at row gates i below in
    (below, cc)

set_before : (row : ℕ → GateRow) (gates outputs n wire : ℕ) → AreRows row → n ≤ gates → wire < 64 + n → IsSet (circuit_of row gates outputs) n wire
set_before row gates outputs n wire rows within below =
    elim (cases_lt wire 64) [
      | inl input ↦ inl input
      | inr behind ↦ inr (wire - 64, row (wire - 64), omega arith, row_at row gates (wire - 64) (omega arith), rows.sets (wire - 64) ∙ omega arith)
    ]

-- no gate before gate n sets its wire
not_before : (row : ℕ → GateRow) (gates outputs n : ℕ) → AreRows row → ¬ IsSet (circuit_of row gates outputs) n (64 + n)
not_before row gates outputs n rows (inl input) = absurd (omega (arith, input))
not_before row gates outputs n rows (inr by) =
    let is = row_is row gates by.0 by.1 by.3 in
    let sets : wire_set by.1 ≡ 64 + by.0 = ap wire_set (sym is.1) ∙ rows.sets by.0 in
    absurd (omega (arith, by.2, by.4, sets))

pub rows_well_formed : (row : ℕ → GateRow) (gates outputs : ℕ) → AreRows row → outputs ≤ 64 + gates → IsWellFormed (circuit_of row gates outputs)
rows_well_formed row gates outputs rows fits = record {
  inputs_within = omega arith;
  outputs_within = fits;
  reads_set = λ n gate is. let at = row_is row gates n gate is in
      let sets : wire_set gate ≡ 64 + n = ap wire_set (sym at.1) ∙ rows.sets n in
      each_read n gate at.0 sets (All-from_recursion (λ wire. wire < wire_set gate) (wires_read gate) (subst ReadsEarlier at.1 (rows.reads n)));
  sets_within = λ n gate is. let at = row_is row gates n gate is in omega (arith, at.0, ap wire_set (sym at.1) ∙ rows.sets n);
  sets_once = λ n gate is before. let at = row_is row gates n gate is in
      not_before row gates outputs n rows (subst (λ (w : ℕ). IsSet (circuit_of row gates outputs) n w) (ap wire_set (sym at.1) ∙ rows.sets n) before);
  outputs_set = λ o below.
      subst (λ (m : ℕ). IsSet (circuit_of row gates outputs) m (64 + gates - outputs + o)) (sym (length-map-range_with_len row 0 gates))
      (set_before row gates outputs gates (64 + gates - outputs + o) rows (omega arith) (omega arith));
}
  where
    each_read : (n : ℕ) (gate : GateRow) → n < gates → wire_set gate ≡ 64 + n → All (λ wire. wire < wire_set gate) (wires_read gate)
        → All (IsSet (circuit_of row gates outputs) n) (wires_read gate)
    each_read n gate below sets all i d within = set_before row gates outputs n _ rows (omega arith) (omega (arith, all i d within, sets))
