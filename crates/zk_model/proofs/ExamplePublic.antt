-- Public wires at worked examples, by computation, and counts of sessions.
use Rattle.std.proofs.Common.{◌≡◌, ◌+◌, ◌^◌, true, [], ◌∷◌, map, refl, lit<}
use Rattle.std.proofs.lemmas.List.Elements.{All-from_recursion}
use Rattle.zk_model.proofs.ExamplePrograms.{and_circuit, and_program}
use Rattle.zk_model.specs.Field.{IsElement}
use Rattle.zk_model.specs.Circuit.{Circuit, MeetsGate, Satisfies}
use Rattle.zk_model.specs.Program.{Program, MeetsStep, Multiplies, Solves, part_count, section_count, correlations_needed}
use Rattle.zk_model.specs.Boolean.{circuit_program}
use Rattle.zk_model.specs.Mac.{fitting_key}
use Rattle.zk_model.specs.Files.{correlations_per_unit}
use Rattle.zk_model.specs.Transcript.{units_for}
use Rattle.zk_model.specs.Check.{WirePairs, ArePairsOf, AreKeysFor}
use Rattle.zk_model.proofs.ExampleTools.{each_item}
use Rattle.zk_model.specs.declared.GateRow.TheVariants.{Eq}
use Rattle.zk_model.specs.declared.Kind.TheVariants.{Direct, Extended}
use Rattle.zk_model.specs.declared.Params.{Params}

-- ---- public wires

-- an AND of a public bit and a private one: a bit check for the private one, and the product
public_products : (circuit_program 1 and_circuit).products ≡ record { a = 1; b = 1; c = 0 } ∷ record { a = 0; b = 1; c = 1 } ∷ []
public_products = refl

public_solved : Solves (circuit_program 1 and_circuit) (1 ∷ []) (1 ∷ 0 ∷ 0 ∷ []) (0 ∷ 0 ∷ [])
public_solved = record {
  carried = record {
    whole = refl;
    constants = refl;
    inputs = refl;
    steps = All-from_recursion (MeetsStep 1 (1 ∷ 0 ∷ 0 ∷ []) (0 ∷ 0 ∷ [])) (circuit_program 1 and_circuit).steps (refl, tt);
  };
  count = refl;
  elements = All-from_recursion IsElement (0 ∷ 0 ∷ []) (lit< tt, (lit< tt, tt));
  multiplied = All-from_recursion (Multiplies (1 ∷ 0 ∷ 0 ∷ []) (0 ∷ 0 ∷ [])) (circuit_program 1 and_circuit).products (refl, (refl, tt));
}

-- a public wire, an input, and their sum with three times the input and the constant 4
abbrev affine : Program
affine = record {
  wires = 3;
  public = 1;
  inputs = 1;
  steps = record { out = 2; wires = record { factor = 1; place = 0 } ∷ record { factor = 3; place = 1 } ∷ []; given = []; constant = 4 } ∷ [];
  givens = 1;
  products = [];
  opened = 2 ∷ [];
}

-- the public 7 has the MAC 0, and the input is the pair (2, 4)
abbrev affine_pairs : WirePairs
affine_pairs = record {
  given = record { x = 2; m = 4 } ∷ [];
  wires = record { x = 7; m = 0 } ∷ record { x = 2; m = 4 } ∷ record { x = 17; m = 12 } ∷ [];
}

affine_carried : ArePairsOf affine (7 ∷ []) affine_pairs
affine_carried = record {
  values = record { whole = refl; constants = refl; inputs = refl; steps = All-from_recursion (MeetsStep 1 (7 ∷ 2 ∷ 17 ∷ []) (2 ∷ [])) affine.steps (refl, tt) };
  macs = record { whole = refl; constants = refl; inputs = refl; steps = All-from_recursion (MeetsStep 0 (0 ∷ 4 ∷ 12 ∷ []) (4 ∷ [])) affine.steps (refl, tt) };
}

-- under the key 5 the public 7 has the key 35, and the constant 4 counts 20
affine_keys : AreKeysFor 5 affine (7 ∷ []) (record { given = 14 ∷ []; wires = 35 ∷ 14 ∷ 97 ∷ [] })
affine_keys = record { whole = refl; constants = refl; inputs = refl; steps = All-from_recursion (MeetsStep 5 (35 ∷ 14 ∷ 97 ∷ []) (14 ∷ [])) affine.steps (refl, tt) }

affine_fits : map (fitting_key 5) affine_pairs.wires ≡ 35 ∷ 14 ∷ 97 ∷ []
affine_fits = refl

-- ---- counts

abbrev direct : Params
direct = record { kind = Direct; height = 0; trees = 0; base = 0; total = 1 }

-- one tree of height 1 over a base of 10
abbrev smallest : Params
smallest = record { kind = Extended; height = 1; trees = 1; base = 10; total = 2 }

and_counts_by_ones : section_count and_program 1 ∷ correlations_needed and_program 1 ∷ units_for direct (correlations_needed and_program 1) ∷ [] ≡ 3 ∷ 6 ∷ 1 ∷ []
and_counts_by_ones = refl

and_counts : section_count and_program (2 ^ 20) ∷ correlations_needed and_program (2 ^ 20) ∷ units_for direct (correlations_needed and_program (2 ^ 20)) ∷ [] ≡ 1 ∷ 4 ∷ 1 ∷ []
and_counts = refl

-- units of two correlations each
and_units_extended : correlations_per_unit smallest ∷ units_for smallest (correlations_needed and_program (2 ^ 20)) ∷ [] ≡ 2 ∷ 2 ∷ []
and_units_extended = refl

-- one wire that is input and output
one_wire : correlations_needed (circuit_program 0 (record { wires = 1; inputs = 1; outputs = 1; gates = [] })) (2 ^ 20) ≡ 2
one_wire = refl

-- a constant alone needs nothing, and takes one unit
abbrev constant : Circuit
constant = record { wires = 1; inputs = 0; outputs = 1; gates = Eq true 0 ∷ [] }

constant_satisfied : Satisfies constant [] (true ∷ [])
constant_satisfied = (true ∷ [], record { whole = refl; first = refl; gates = each_item (λ n gate. MeetsGate (true ∷ []) gate) constant.gates (refl, tt) }, refl)

constant_counts : section_count (circuit_program 0 constant) (2 ^ 20) ∷ correlations_needed (circuit_program 0 constant) (2 ^ 20)
    ∷ units_for direct (correlations_needed (circuit_program 0 constant) (2 ^ 20)) ∷ [] ≡ 0 ∷ 0 ∷ 1 ∷ []
constant_counts = refl

-- the most products that a session has room for in kind direct
full_session : part_count 262143 (2 ^ 20) ∷ units_for direct (262143 + part_count 262143 (2 ^ 20)) ∷ units_for direct (262144 + part_count 262144 (2 ^ 20)) ∷ [] ≡ 1 ∷ 4096 ∷ 4097 ∷ []
full_session = refl
