-- What public values and private inputs make: there is one list of given values, and bits of a circuit's wires are made.
use Rattle.std.proofs.Common.{◌≡◌, ℕ, zero, suc, ◌+◌, ◌*◌, ◌-◌, ◌%◌, ◌<◌, ◌≤◌, ⊎_elim, inl, inr, List, map, drop, length, sym, ◌∙◌, ap, subst, arith}
use Rattle.std.specs.Prelude.{Some, All, get_or, slice_get, slice_index}
use Rattle.std.proofs.lemmas.Bool.{cases_lt}
use Rattle.std.proofs.lemmas.List.{length-map, get_or-take, ext_get_or}
use Rattle.std.proofs.lemmas.Option.{slice_get_within, get_or_from_slice_get}
use Rattle.zk_model.specs.Bits.{from_bit}
use Rattle.zk_model.specs.Field.{prime, ◌*ₚ◌}
use Rattle.zk_model.specs.Program.{Term, Program, Multiplies, IsProgram, IsProduct, IsSet, IsMadeBefore, IsOrdered, AreMade}
use Rattle.zk_model.specs.Boolean.{once, private_inputs}
use Rattle.circuit_laws.specs.Circuits.{OneMade, BitsAreMade}
use Rattle.circuit_laws.proofs.Programs.{weighted_same}
use Rattle.zk_model.proofs.SetWires.{set_later}
use Rattle.circuit_laws.proofs.Unique.{step_met, public_wire, input_wire}
use Rattle.circuit_laws.proofs.BitsSolve.{value_of_bit, bits_solve}
use Rattle.circuit_laws.proofs.Satisfied.{bits_behind, inputs_are}
use Rattle.zk_model.specs.declared.Product.{Product}

-- ---- given values

-- an input is a given value
input_given : (program : Program) (public inputs wires given : List ℕ) (j : ℕ) → AreMade program public inputs wires given
    → j < program.inputs → slice_index given j ≡ slice_index inputs j
input_given program public inputs wires given j made below =
    sym (get_or-take program.inputs given j 0 below) ∙ ap (λ l. slice_index l j) made.first

-- and any other the product of its wires
product_given : (program : Program) (public inputs wires given : List ℕ) (number : ℕ) (product : Product)
    → AreMade program public inputs wires given → slice_get program.products number ≡ Some product → program.inputs ≤ product.c
    → slice_index given product.c ≡ slice_index wires product.a *ₚ slice_index wires product.b
product_given program public inputs wires given number product made at low =
    subst (λ (p : Product). program.inputs ≤ p.c → Multiplies wires given p) (get_or_from_slice_get program.products number product product at)
    (made.others number product (slice_get_within program.products number product at)) low

-- ---- one list

-- the same public values and inputs make two lists of wires and of given values
record AreBothMade (program : Program) (public inputs some_wires some other_wires others : List ℕ) : Type 0 where
  formed : IsProgram program
  ordered : IsOrdered program
  left : AreMade program public inputs some_wires some
  right : AreMade program public inputs other_wires others

-- both are the same at a term whose factors are the same in both
same_taken : (program : Program) (public inputs some_wires some other_wires others : List ℕ) (n : ℕ) (term : Term)
    → AreBothMade program public inputs some_wires some other_wires others
    → IsMadeBefore program n term → term.place < program.givens
    → ((wire : ℕ) → IsSet program n wire → slice_index some_wires wire ≡ slice_index other_wires wire)
    → slice_index some term.place ≡ slice_index others term.place
same_taken program public inputs some_wires some other_wires others n term both before below agree = ⊎_elim
    (λ input.
    input_given program public inputs some_wires some term.place both.left input
    ∙ sym (input_given program public inputs other_wires others term.place both.right input))
    (λ low.
    let one = both.formed.made term.place low below in
    let product = one.made.product in
    let is : product.c ≡ term.place = one.made.value in
    let own : program.inputs ≤ product.c = omega (arith, low, is) in
    let sets = before one.number product one.made.stands is low in
    ap (slice_index some) (sym is)
    ∙ product_given program public inputs some_wires some one.number product both.left one.made.stands own
    ∙ (λ i. agree product.a sets.0 i *ₚ agree product.b sets.1 i)
    ∙ sym (product_given program public inputs other_wires others one.number product both.right one.made.stands own)
    ∙ ap (slice_index others) is)
    (cases_lt term.place program.inputs)

-- both are the same at every wire that is set
same_wires : (program : Program) (public inputs some_wires some other_wires others : List ℕ) (n wire : ℕ)
    → AreBothMade program public inputs some_wires some other_wires others → IsSet program n wire
    → slice_index some_wires wire ≡ slice_index other_wires wire
same_wires program public inputs some_wires some other_wires others n wire both (inl first) = ⊎_elim
    (λ known.
    public_wire 1 program public some some_wires wire both.left.carried known
    ∙ sym (public_wire 1 program public others other_wires wire both.right.carried known))
    (λ past.
    let i : ℕ = wire - program.public in
    let place : program.public + i ≡ wire = omega (arith, past) in
    let input : i < program.inputs = omega (arith, past, first) in
    ap (slice_index some_wires) (sym place)
    ∙ input_wire 1 program public some some_wires i both.left.carried input
    ∙ input_given program public inputs some_wires some i both.left input
    ∙ sym (input_given program public inputs other_wires others i both.right input)
    ∙ sym (input_wire 1 program public others other_wires i both.right.carried input)
    ∙ ap (slice_index other_wires) place)
    (cases_lt wire program.public)
same_wires program public inputs some_wires some other_wires others zero wire both (inr by) = absurd (omega (arith, by.2))
same_wires program public inputs some_wires some other_wires others (suc n) wire both (inr by) =
    let agree : (other : ℕ) → IsSet program by.0 other → slice_index some_wires other ≡ slice_index other_wires other =
    λ other is. same_wires program public inputs some_wires some other_wires others n other both (set_later program by.0 n other (omega (arith, by.2)) is) in
    let reads : All (λ term. slice_index some_wires term.place ≡ slice_index other_wires term.place) by.1.wires =
    λ i d below. agree _ ((both.formed.steps by.0 by.1 by.3).reads i d below) in
    let takes : All (λ term. slice_index some term.place ≡ slice_index others term.place) by.1.given =
    λ i d below.
    same_taken program public inputs some_wires some other_wires others by.0 (get_or by.1.given i d) both
    (both.ordered by.0 by.1 by.3 i d below) ((both.formed.steps by.0 by.1 by.3).takes i d below) agree in
    ap (slice_index some_wires) (sym by.4)
    ∙ step_met 1 program public some some_wires by.0 by.1 both.left.carried by.3
    ∙ (λ i. (weighted_same some_wires other_wires by.1.wires reads i + weighted_same some others by.1.given takes i + by.1.constant * 1) % prime)
    ∙ sym (step_met 1 program public others other_wires by.0 by.1 both.right.carried by.3)
    ∙ ap (slice_index other_wires) by.4

pub one_made : OneMade
one_made program public inputs some_wires some other_wires others formed ordered left right =
    ext_get_or 0 some others (left.count ∙ sym right.count) (λ j below.
    same_taken program public inputs some_wires some other_wires others (length program.steps) (once j) both (set_in_end j)
    (omega (arith, below, left.count))
    (λ wire is. same_wires program public inputs some_wires some other_wires others (length program.steps) wire both is))
  where
    both : AreBothMade program public inputs some_wires some other_wires others
    both = record { formed = formed; ordered = ordered; left = left; right = right }

    set_in_end : (j : ℕ) → IsMadeBefore program (length program.steps) (once j)
    set_in_end j number product at same low =
        let is : IsProduct program product =
        subst (IsProduct program) (get_or_from_slice_get program.products number product product at)
        (formed.products number product (slice_get_within program.products number product at)) in
        (is.left, is.right)

-- ---- bits of a circuit

pub bits_are_made : BitsAreMade
bits_are_made public circuit inputs bits formed few met =
    let solved = bits_solve public circuit inputs bits formed few met in
    let private = private_inputs public circuit in
    let sum : public + private ≡ circuit.inputs = omega (arith, few) in
    record {
      carried = solved.carried;
      count = solved.count;
      first =
          sym solved.carried.inputs
          ∙ inputs_are public private bits (map from_bit bits) (sym (length-map bits from_bit)) (λ i below. value_of_bit bits (public + i))
          ∙ ap (map from_bit) (bits_behind public private bits sum ∙ ap (drop public) met.first);
      others = λ n d below low. solved.multiplied n d below;
    }
