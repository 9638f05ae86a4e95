-- The text of a generated circuit is one that is read.
use Rattle.std.proofs.Common.{◌≡◌, ℕ, ◌+◌, ◌^◌, ◌<◌, ◌≤◌, List, [], ◌∷◌, ◌++◌, map, flat_map, length, refl, sym, ◌∙◌, ap, subst, arith, min}
use Rattle.std.specs.List.{AllByRecursion, range_with_len}
use Rattle.std.proofs.lemmas.List.{flat_map_more}
use Rattle.std.proofs.lemmas.List.Elements.{recursion_from_All}
use Rattle.std.proofs.lemmas.List.FromFn.{length-map-range_with_len, get_or-map-range_with_len, map-range_with_len_more}
use Rattle.zk_model.specs.Bristol.{IsText}
use Rattle.circuit_gen.specs.Generated.{generated_bits, generated_bit, generated_gate, generated_circuit, generated_text, gate_line}
use Rattle.zk_model.specs.declared.GateRow.{GateRow}
use Rattle.circuit_gen.proofs.Lexing.{IsWritten, plain_lexemes}
use Rattle.circuit_gen.proofs.Rows.{rows_well_formed}
use Rattle.circuit_gen.proofs.Drawing.{generated_rows}

all_written : (number gates : ℕ) → gates < 2 ^ 32 → AllByRecursion IsWritten (map (generated_gate number) (range_with_len 0 gates))
all_written number gates fits =
    let rows = generated_rows number in
    let row = generated_gate number in
    recursion_from_All IsWritten (map row (range_with_len 0 gates))
    (λ i d below.
    let within : i < gates = omega (arith, below, length-map-range_with_len row 0 gates) in
    subst IsWritten (sym (get_or-map-range_with_len row 0 gates i i d within (omega arith))) (omega (arith, rows.sets i), rows.reads i))

pub generated_says : (gates number : ℕ) → gates ≤ 1048512 → IsText (generated_circuit gates number) (generated_text gates number)
generated_says gates number few =
    let count : length (map (generated_gate number) (range_with_len 0 gates)) ≡ gates = length-map-range_with_len (generated_gate number) 0 gates in
    record {
      values = record { inputs = 64 ∷ []; outputs = min gates 32 ∷ [] };
      says = plain_lexemes (generated_circuit gates number) (omega arith) (omega arith) (omega arith) (omega arith) (all_written number gates (omega arith));
      inputs = refl;
      outputs = omega arith;
      limits = record { gates = omega arith; wires = omega arith; inputs = omega arith; outputs = omega arith };
      well_formed = rows_well_formed (generated_gate number) gates (min gates 32) (generated_rows number) (omega arith);
    }

pub length-generated_bits : (number : ℕ) → length (generated_bits number) ≡ 64
unfolding generated_bits
length-generated_bits number = length-map-range_with_len (generated_bit number) 0 64

-- one line more
pub more_lines : (head : List ℕ) (row : ℕ → GateRow) (i : ℕ)
    → (head ++ flat_map gate_line (map row (range_with_len 0 i))) ++ gate_line (row i) ≡ head ++ flat_map gate_line (map row (range_with_len 0 (i + 1)))
more_lines head row i =
    flat_map_more gate_line head (map row (range_with_len 0 i)) (row i) ∙ ap (λ l. head ++ flat_map gate_line l) (sym (map-range_with_len_more row 0 i i (omega arith)))
