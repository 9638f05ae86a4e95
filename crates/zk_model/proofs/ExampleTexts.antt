-- Texts of circuits, by computation.
use Rattle.std.proofs.Common.{◌≡◌, ◌<◌, [], ◌∷◌, refl, inl, inr, codes, arith, lit<, lit≤}
use Rattle.std.specs.Prelude.{All}
use Rattle.std.proofs.lemmas.List.Elements.{All-from_recursion}
use Rattle.zk_model.proofs.ExampleTools.{each_item, one_only}
use Rattle.zk_model.proofs.ExamplePrograms.{and_circuit}
use Rattle.zk_model.specs.Bristol.{lexemes, circuit_lexemes, IsText}
use Rattle.zk_model.specs.Circuit.{IsSet, IsWellFormed, wire_set, wires_read, output_wire}
use Rattle.zk_model.specs.declared.GateRow.TheVariants.{And, Inv}

-- four lines
and_text : lexemes (codes "1 3\n2 1 1\n1 1\n\n2 1 0 1 2 AND\n")
    ≡ circuit_lexemes and_circuit (record { inputs = 1 ∷ 1 ∷ []; outputs = 1 ∷ [] })
and_text = refl

-- the same on one line, with tabs, carriage returns and leading zeros
and_on_one_line : lexemes (codes "01\t3 2\t1 1 1 1 2 1 000 1 2 AND \r\n")
    ≡ circuit_lexemes and_circuit (record { inputs = 1 ∷ 1 ∷ []; outputs = 1 ∷ [] })
and_on_one_line = refl

-- a negation
not_text : lexemes (codes "1 2\n1 1\n1 1\n1 1 0 1 INV")
    ≡ circuit_lexemes (record { wires = 2; inputs = 1; outputs = 1; gates = Inv 0 1 ∷ [] })
    (record { inputs = 1 ∷ []; outputs = 1 ∷ [] })
not_text = refl

-- ---- the first text is one that is read

-- its AND reads inputs, and sets the output, which no other gate does
and_well_formed : IsWellFormed and_circuit
and_well_formed = record {
  inputs_within = lit≤ tt;
  outputs_within = lit≤ tt;
  reads_set = each_item (λ n gate. All (IsSet and_circuit n) (wires_read gate)) and_circuit.gates
      (All-from_recursion (IsSet and_circuit 0) (0 ∷ 1 ∷ []) (inl (lit< tt), (inl (lit< tt), tt)), tt);
  sets_within = each_item (λ n gate. wire_set gate < and_circuit.wires) and_circuit.gates (lit< tt, tt);
  sets_once = each_item (λ n gate. ¬ IsSet and_circuit n (wire_set gate)) and_circuit.gates (not_before, tt);
  outputs_set = one_only (λ o. IsSet and_circuit 1 (output_wire and_circuit o)) (inr (0, And 0 1 2, lit< tt, refl, refl));
}
  where
    not_before : ¬ IsSet and_circuit 0 2
    not_before (inl input) = absurd (omega (arith, input))
    not_before (inr by) = absurd (omega (arith, by.2))

and_is_text : IsText and_circuit (codes "1 3\n2 1 1\n1 1\n\n2 1 0 1 2 AND\n")
and_is_text = record {
  values = record { inputs = 1 ∷ 1 ∷ []; outputs = 1 ∷ [] };
  says = and_text;
  inputs = refl;
  outputs = refl;
  limits = record { gates = lit≤ tt; wires = lit≤ tt; inputs = lit≤ tt; outputs = lit≤ tt };
  well_formed = and_well_formed;
}
