-- No step of a circuit's program takes the value of a product before its factors are set.
use Rattle.std.proofs.Common.{◌≡◌, ℕ, List, [], map, refl, sym, ap, ◌∙◌, subst, lit<}
use Rattle.std.specs.Prelude.{Some, All, slice_get, get_or}
use Rattle.std.specs.List.{range_with_len}
use Rattle.std.proofs.lemmas.List.Elements.{All-nil, All-cons}
use Rattle.std.proofs.lemmas.Option.{slice_get-get_or, same_Some}
use Rattle.zk_model.specs.Circuit.{wires_read}
use Rattle.zk_model.specs.Program.{Term, Step, Program, IsSet, IsMadeBefore}
use Rattle.zk_model.specs.Boolean.{once, less_twice, gate_step, gate_products, given_of_gate, circuit_products, circuit_program}
use Rattle.circuit_laws.specs.Circuits.{CircuitIsOrdered}
use Rattle.circuit_laws.proofs.CircuitIsProgram.{gate_of_step, set_in_program, numbered, nth_value}
use Rattle.circuit_laws.proofs.GateValues.{of_gate}
use Rattle.zk_model.specs.declared.GateRow.{GateRow}
use Rattle.zk_model.specs.declared.GateRow.TheVariants.{And, Xor, Inv, Eqw, Eq}
use Rattle.zk_model.specs.declared.Product.{Product}

-- the product has a place in the list
abbrev Stands : List Product → Product → Type 0
Stands products product = (number : ℕ) × (slice_get products number ≡ Some product)

all_stand : (products : List Product) → All (Stands products) products
all_stand products k d below = (k, slice_get-get_or products k d below)

-- product i has given value i
abbrev AreNumbered : Program → Type 0
AreNumbered program = map (λ product. product.c) program.products ≡ range_with_len 0 program.givens

-- there is one product of a given value
one_product : (program : Program) (some other : Product) (number : ℕ) → AreNumbered program → Stands program.products some
    → slice_get program.products number ≡ Some other → other.c ≡ some.c → some ≡ other
one_product program some other number are stands at same =
    let place : stands.0 ≡ number =
    sym (nth_value program.products program.givens stands.0 some are stands.1) ∙ sym same ∙ nth_value program.products program.givens number other are at in
    same_Some some other (sym stands.1 ∙ ap (slice_get program.products) place ∙ at)

-- a term that takes the value of a product of two wires that are set
of_product : (program : Program) (n : ℕ) (term : Term) (product : Product) → AreNumbered program → Stands program.products product
    → product.c ≡ term.place → IsSet program n product.a → IsSet program n product.b → IsMadeBefore program n term
of_product program n term product are stands takes left right number other at same low =
    let is = one_product program product other number are stands at (same ∙ sym takes) in
    (subst (λ (p : Product). IsSet program n p.a) is left, subst (λ (p : Product). IsSet program n p.b) is right)

-- the step of a gate that reads wires which are set takes the product of these
takes_made : (program : Program) (c n : ℕ) (gate : GateRow) → AreNumbered program → All (IsSet program n) (wires_read gate)
    → All (Stands program.products) (gate_products c gate) → All (IsMadeBefore program n) (gate_step c gate).given
takes_made program c n (And a b out) are reads stand =
    let product : Product = record { a = a; b = b; c = c } in
    All-cons (IsMadeBefore program n) (once c) [] (of_product program n (once c) product are (stand 0 product (lit< tt)) refl (reads 0 0 (lit< tt)) (reads 1 0 (lit< tt)))
    (All-nil (IsMadeBefore program n))
takes_made program c n (Xor a b out) are reads stand =
    let product : Product = record { a = a; b = b; c = c } in
    All-cons (IsMadeBefore program n) (less_twice c) [] (of_product program n (less_twice c) product are (stand 0 product (lit< tt)) refl (reads 0 0 (lit< tt)) (reads 1 0 (lit< tt)))
    (All-nil (IsMadeBefore program n))
takes_made program c n (Inv a out) are reads stand = All-nil (IsMadeBefore program n)
takes_made program c n (Eqw a out) are reads stand = All-nil (IsMadeBefore program n)
takes_made program c n (Eq bit out) are reads stand = All-nil (IsMadeBefore program n)

pub circuit_is_ordered : CircuitIsOrdered
circuit_is_ordered public circuit formed few n step at =
    let program = circuit_program public circuit in
    let found = gate_of_step public circuit n step at in
    subst (λ (s : Step). All (IsMadeBefore program n) s.given) (sym found.2)
    (takes_made program (given_of_gate public circuit n) n found.0 (numbered public circuit)
    (λ k d below. set_in_program public circuit n (get_or (wires_read found.0) k d) few (formed.reads_set n found.0 found.1 k d below))
    (of_gate (Stands (circuit_products public circuit)) public circuit n found.0 (all_stand (circuit_products public circuit)) found.1))
