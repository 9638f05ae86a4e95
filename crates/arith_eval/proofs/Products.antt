-- The elements of products, one gate after another.
use Rattle.std.proofs.Common.{◌≡◌, ℕ, suc, ◌+◌, ◌≤◌, List, [], ◌∷◌, ◌++◌, length, take, arith, sym, ◌∙◌, ap, refl, append_assoc, append-nil, length-append}
use Rattle.std.proofs.lemmas.List.{take_all}
use Rattle.std.specs.Prelude.{Some, slice_get}
use Rattle.zk_model.specs.ArithProgram.{arith_program}
use Rattle.zk_model.specs.Arithmetic.{Arith, AreComputed, Computes, IsWellFormed, element_of, wires_asserted}
use Rattle.zk_model.specs.declared.ArithRow.{ArithRow}
use Rattle.zk_model.specs.declared.ArithRow.TheVariants.{Add, Mul, Const, Assert}
use Rattle.arith_laws.proofs.Solved.{computed_is_solved, given_values, values_from}
use Rattle.arith_eval.specs.Answers.{products_in, row_products}
use Rattle.arith_eval.proofs.Asserting.{AreMetSoFar, met_first, met_none, met_one, rows_more, sized}

-- the assertions of the first n gates, of which there are so many, are met, and the elements of their products stand behind the inputs
pub record AreTaken (gates : List ArithRow) (elements inputs given : List ℕ) (n number : ℕ) : Type 0 where
  pub met : AreMetSoFar gates elements n number
  pub products : given ≡ inputs ++ products_in elements (take n gates)
  pub few : length given ≤ length inputs + n

pub taken_first : (gates : List ArithRow) (elements inputs : List ℕ) → AreTaken gates elements inputs inputs 0 0
taken_first gates elements inputs = record { met = met_first gates elements; products = sym (append-nil inputs); few = omega arith }

same_products : (gates : List ArithRow) (elements : List ℕ) (n : ℕ) (row : ArithRow) → slice_get gates n ≡ Some row → row_products elements row ≡ []
    → products_in elements (take (n + 1) gates) ≡ products_in elements (take n gates)
same_products gates elements n row stands none =
    rows_more (row_products elements) gates n row stands ∙ ap (λ l. products_in elements (take n gates) ++ l) none
    ∙ append-nil (products_in elements (take n gates))

-- a gate that is neither
pub taken_other : (gates : List ArithRow) (elements inputs given : List ℕ) (n number : ℕ) (row : ArithRow) → slice_get gates n ≡ Some row
    → wires_asserted row ≡ [] → row_products elements row ≡ [] → AreTaken gates elements inputs given n number
    → AreTaken gates elements inputs given (n + 1) number
taken_other gates elements inputs given n number row stands asserts none far = record {
  met = met_none gates elements n number row stands asserts far.met;
  products = far.products ∙ ap (λ l. inputs ++ l) (sym (same_products gates elements n row stands none));
  few = omega (arith, far.few);
}

-- a product
pub taken_product : (gates : List ArithRow) (elements inputs given : List ℕ) (n number a b out value : ℕ) → slice_get gates n ≡ Some (Mul a b out)
    → element_of elements out ≡ value → AreTaken gates elements inputs given n number → AreTaken gates elements inputs (given ++ value ∷ []) (n + 1) number
taken_product gates elements inputs given n number a b out value stands is far = record {
  met = met_none gates elements n number (Mul a b out) stands refl far.met;
  products = (λ i. far.products i ++ sym is i ∷ []) ∙ append_assoc inputs (products_in elements (take n gates)) (element_of elements out ∷ [])
      ∙ ap (λ l. inputs ++ l) (sym (rows_more (row_products elements) gates n (Mul a b out) stands));
  few = omega (arith, far.few, length-append given (value ∷ []));
}

-- an assertion that is met
pub taken_assertion : (gates : List ArithRow) (elements inputs given : List ℕ) (n number a : ℕ) → slice_get gates n ≡ Some (Assert a)
    → element_of elements a ≡ 0 → AreTaken gates elements inputs given n number → AreTaken gates elements inputs given (n + 1) (number + 1)
taken_assertion gates elements inputs given n number a stands is far = record {
  met = met_one gates elements n number a (Assert a) stands refl is far.met;
  products = far.products ∙ ap (λ l. inputs ++ l) (sym (same_products gates elements n (Assert a) stands refl));
  few = omega (arith, far.few);
}

-- all gates
pub all_taken : (gates : List ArithRow) (elements inputs given : List ℕ) (n number : ℕ) → length gates ≤ n → AreTaken gates elements inputs given n number
    → given ≡ inputs ++ products_in elements gates
all_taken gates elements inputs given n number all far = far.products ∙ ap (λ l. inputs ++ products_in elements l) (take_all n gates all)

-- ---- as given values

products_are : (elements : List ℕ) (gates : List ArithRow) → ((n : ℕ) (gate : ArithRow) → slice_get gates n ≡ Some gate → Computes elements gate)
    → products_in elements gates ≡ values_from elements gates
products_are elements [] each = refl
products_are elements (Add a b out ∷ gates) each = products_are elements gates (λ n gate stands. each (suc n) gate stands)
products_are elements (Mul a b out ∷ gates) each =
    λ i. each 0 (Mul a b out) refl i ∷ products_are elements gates (λ n gate stands. each (suc n) gate stands) i
products_are elements (Const value out ∷ gates) each = products_are elements gates (λ n gate stands. each (suc n) gate stands)
products_are elements (Assert a ∷ gates) each = products_are elements gates (λ n gate stands. each (suc n) gate stands)

-- the inputs, and then the elements of products that were computed, are the given values of the circuit's program
pub given_are : (circuit : Arith) (inputs elements : List ℕ) → AreComputed circuit inputs elements
    → inputs ++ products_in elements circuit.gates ≡ given_values circuit inputs elements
given_are circuit inputs elements computed = ap (λ l. inputs ++ l) (products_are elements circuit.gates computed.gates)

pub given_count : (circuit : Arith) (inputs elements : List ℕ) → IsWellFormed circuit → AreComputed circuit inputs elements
    → length (given_values circuit inputs elements) ≡ (arith_program circuit).givens
given_count circuit inputs elements formed computed =
    (computed_is_solved circuit inputs elements formed (sized circuit inputs elements formed computed) computed).count
