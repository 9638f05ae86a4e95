-- What an arithmetic circuit computes makes the given values that its inputs make.
use Rattle.std.proofs.Common.{◌≡◌, ◌≤◌, ◌+◌, ◌∙◌, ◌++◌, ◌∷◌, [], ℕ, List, map, get_or, length, refl, ap, sym, arith, length-take-le}
use Rattle.std.specs.Prelude.{slice_index}
use Rattle.std.specs.List.{range_with_len}
use Rattle.std.proofs.lemmas.Bool.{cond_above}
use Rattle.std.proofs.lemmas.List.{ext_get_or, get_or-take}
use Rattle.std.proofs.lemmas.List.FromFn.{get_or-map-range_with_len, length-map-range_with_len}
use Rattle.zk_model.specs.Field.{◌*ₚ◌}
use Rattle.zk_model.specs.Program.{Program, AreMade}
use Rattle.zk_model.specs.Arithmetic.{Arith, AreComputed, IsWellFormed, element_of}
use Rattle.zk_model.specs.ArithProgram.{arith_program, products_from}
use Rattle.zk_model.specs.declared.ArithRow.{ArithRow}
use Rattle.zk_model.specs.declared.ArithRow.TheVariants.{Add, Mul, Const, Assert}
use Rattle.arith_laws.proofs.Formed.{arith_is_program, arith_is_ordered, product_numbered}
use Rattle.arith_laws.proofs.Solved.{computed_is_solved, first_given, given_values, values_from}
use Rattle.circuit_laws.proofs.Made.{one_made}
use Rattle.field_program.specs.Counts.{unchecked}
use Rattle.wire_auth.specs.Values.{CanBeMade, given_from, given_made, given_value, wires_made}
use Rattle.wire_auth.proofs.Making.{made_exist}
use Rattle.session_core.specs.Jobs.{ElementsProve}

-- the values of products whose given values lie behind the inputs
products_are : (program : Program) (elements : List ℕ) (c : ℕ) (gates : List ArithRow) → program.inputs ≤ c
    → map (given_value program elements) (products_from c gates) ≡ values_from elements gates
products_are program elements c [] behind = refl
products_are program elements c (Add a b out ∷ gates) behind = products_are program elements c gates behind
products_are program elements c (Mul a b out ∷ gates) behind =
    λ i. of i ∷ products_are program elements (c + 1) gates (omega (arith, behind)) i
  where
    of : given_value program elements (record { a = a; b = b; c = c }) ≡ element_of elements a *ₚ element_of elements b
    of = sym (cond_above c program.inputs (slice_index elements (program.public + c)) (slice_index elements a *ₚ slice_index elements b)
        (slice_index elements a *ₚ slice_index elements b) behind refl)
products_are program elements c (Const value out ∷ gates) behind = products_are program elements c gates behind
products_are program elements c (Assert a ∷ gates) behind = products_are program elements c gates behind

-- the given values that inputs make are the inputs, and then the products of what the circuit computes
pub made_values : (circuit : Arith) (inputs elements : List ℕ) → IsWellFormed circuit → AreComputed circuit inputs elements
    → given_made (arith_program circuit) [] inputs ≡ given_values circuit inputs elements
made_values circuit inputs elements formed computed =
    one_made program [] inputs (wires_made program [] inputs) (given_made program [] inputs) elements (given_values circuit inputs elements)
    (arith_is_program circuit formed) (arith_is_ordered circuit formed) (made_exist program [] inputs held refl long) made
  where
    program : Program
    program = arith_program circuit

    long : length inputs ≡ circuit.inputs
    long = ap length (sym computed.first) ∙ length-take-le circuit.inputs elements (omega (arith, computed.whole, formed.inputs_within))

    held : CanBeMade program
    held = record {
      formed = arith_is_program circuit formed;
      ordered = arith_is_ordered circuit formed;
      counted = omega arith;
      inputs = omega arith;
      numbered = λ i product at. product_numbered circuit i product at ∙ omega arith;
    }

    made : AreMade program [] inputs elements (given_values circuit inputs elements)
    made = let solved = computed_is_solved circuit inputs elements formed long computed in record {
      carried = solved.carried;
      count = solved.count;
      first = first_given circuit inputs elements long;
      others = λ k d below low. solved.multiplied k d below;
    }

-- which are those that the elements of all wires make
pub from_values : (circuit : Arith) (inputs elements : List ℕ) → IsWellFormed circuit → AreComputed circuit inputs elements
    → given_from (arith_program circuit) elements ≡ given_values circuit inputs elements
from_values circuit inputs elements formed computed =
    λ i. inputs_are i ++ products_are program elements circuit.inputs circuit.gates (omega arith) i
  where
    program : Program
    program = arith_program circuit

    long : length inputs ≡ circuit.inputs
    long = ap length (sym computed.first) ∙ length-take-le circuit.inputs elements (omega (arith, computed.whole, formed.inputs_within))

    unchecked_values : List ℕ
    unchecked_values = map (λ i. slice_index elements (program.public + i)) (range_with_len 0 (unchecked program))

    counted : length unchecked_values ≡ circuit.inputs
    counted = length-map-range_with_len (λ i. slice_index elements (program.public + i)) 0 (unchecked program) ∙ omega arith

    behind : (i : ℕ) → program.public + i ≡ i
    behind i = omega arith

    inputs_are : unchecked_values ≡ inputs
    inputs_are = ext_get_or 0 unchecked_values inputs (counted ∙ sym long) (λ i below.
        get_or-map-range_with_len (λ i. slice_index elements (program.public + i)) 0 (unchecked program) i i 0 (omega (arith, below, counted)) (omega arith)
        ∙ ap (λ n. get_or elements n 0) (behind i)
        ∙ sym (get_or-take circuit.inputs elements i 0 (omega (arith, below, counted)))
        ∙ ap (λ (l : List ℕ). get_or l i 0) computed.first)

pub elements_prove : ElementsProve
elements_prove circuit inputs elements formed computed =
    made_values circuit inputs elements formed computed ∙ sym (from_values circuit inputs elements formed computed)
