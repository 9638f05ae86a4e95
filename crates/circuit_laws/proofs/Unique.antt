-- Given values determine every wire that is set.
use Rattle.std.proofs.Common.{◌≡◌, ℕ, zero, suc, ◌+◌, ◌*◌, ◌-◌, ◌<◌, ⊎_elim, inl, inr, List, [], ◌∷◌, map, drop, length, sym, ◌∙◌, ap, subst, arith, lit<}
use Rattle.std.specs.Prelude.{Some, All, get_or, slice_get, slice_index}
use Rattle.std.proofs.lemmas.Bool.{cases_lt}
use Rattle.std.proofs.lemmas.List.{get_or-take, get_or-drop}
use Rattle.std.proofs.lemmas.Option.{slice_get_within, get_or_from_slice_get}
use Rattle.mersenne_field.proofs.FieldLaws.{reduced}
use Rattle.zk_model.specs.Field.{IsElement, ◌*ₚ◌}
use Rattle.zk_model.specs.Program.{Step, Program, Carries, IsProgram, IsSet, step_value, MeetsStep}
use Rattle.circuit_laws.specs.Circuits.{OneOnSetWires}
use Rattle.circuit_laws.proofs.Programs.{same_value}
use Rattle.zk_model.proofs.SetWires.{set_later}

-- ---- wires that are set, in order

-- What holds of public wires and of inputs, and of the wire of each step where it holds of those that the step reads, holds
-- of every wire that is set.
pub of_set_wires : (program : Program) (P : ℕ → Type 0) → IsProgram program
    → ((wire : ℕ) → wire < program.public → P wire)
    → ((i : ℕ) → i < program.inputs → P (program.public + i))
    → ((n : ℕ) (step : Step) → slice_get program.steps n ≡ Some step → All (λ term. P term.place) step.wires → P step.out)
    → (n wire : ℕ) → IsSet program n wire → P wire
of_set_wires program P formed publics inputs steps n wire (inl first) = ⊎_elim
    (publics wire)
    (λ past.
    let place : program.public + (wire - program.public) ≡ wire = omega (arith, past) in
    subst P place (inputs (wire - program.public) (omega (arith, past, first))))
    (cases_lt wire program.public)
of_set_wires program P formed publics inputs steps zero wire (inr by) = absurd (omega (arith, by.2))
of_set_wires program P formed publics inputs steps (suc n) wire (inr by) =
    let step = by.1 in
    subst P by.4 (steps by.0 step by.3 (λ i d below.
    of_set_wires program P formed publics inputs steps n (get_or step.wires i d).place
    (set_later program by.0 n (get_or step.wires i d).place (omega (arith, by.2)) ((formed.steps by.0 step by.3).reads i d below))))

-- ---- numbers of wires

-- each step is met
pub step_met : (one : ℕ) (program : Program) (public given wires : List ℕ) (n : ℕ) (step : Step)
    → Carries one program public given wires → slice_get program.steps n ≡ Some step → MeetsStep one wires given step
step_met one program public given wires n step carried at =
    subst (MeetsStep one wires given) (get_or_from_slice_get program.steps n step step at)
    (carried.steps n step (slice_get_within program.steps n step at))

-- the number of a public wire
pub public_wire : (one : ℕ) (program : Program) (public given wires : List ℕ) (wire : ℕ) → Carries one program public given wires
    → wire < program.public → slice_index wires wire ≡ slice_index (map (λ value. value *ₚ one) public) wire
public_wire one program public given wires wire carried below =
    sym (get_or-take program.public wires wire 0 below) ∙ ap (λ l. slice_index l wire) carried.constants

-- and of an input
pub input_wire : (one : ℕ) (program : Program) (public given wires : List ℕ) (i : ℕ) → Carries one program public given wires
    → i < program.inputs → slice_index wires (program.public + i) ≡ slice_index given i
input_wire one program public given wires i carried below =
    sym (get_or-drop program.public wires i 0)
    ∙ sym (get_or-take program.inputs (drop program.public wires) i 0 below)
    ∙ ap (λ l. slice_index l i) carried.inputs
    ∙ get_or-take program.inputs given i 0 below

-- two lists of numbers agree on every wire that is set
pub one_on_set_wires : OneOnSetWires
one_on_set_wires one program public given some others wire formed left right is =
    of_set_wires program (λ w. slice_index some w ≡ slice_index others w) formed
    (λ w below. public_wire one program public given some w left below ∙ sym (public_wire one program public given others w right below))
    (λ i below. input_wire one program public given some i left below ∙ sym (input_wire one program public given others i right below))
    (λ n step at reads.
    step_met one program public given some n step left at
    ∙ same_value one some others given step reads
    ∙ sym (step_met one program public given others n step right at))
    (length program.steps) wire is

-- ---- elements

-- what is read from a list of elements is an element, and 0 past its end is too
pub element_at : (numbers : List ℕ) (i : ℕ) → All IsElement numbers → IsElement (slice_index numbers i)
element_at [] i elements = lit< tt
element_at (a ∷ more) zero elements = elements 0 a (omega arith)
element_at (a ∷ more) (suc i) elements = element_at more i (λ k d below. elements (suc k) d (omega (arith, below)))

-- the products with one number are elements
pub scaled_elements : (one : ℕ) (numbers : List ℕ) (i : ℕ) → IsElement (slice_index (map (λ value. value *ₚ one) numbers) i)
scaled_elements one [] i = lit< tt
scaled_elements one (a ∷ more) zero = reduced (a * one)
scaled_elements one (a ∷ more) (suc i) = scaled_elements one more i

-- where the given values are elements, so is the number of every wire that is set
pub set_element : (one : ℕ) (program : Program) (public given wires : List ℕ) (n wire : ℕ) → IsProgram program
    → Carries one program public given wires → All IsElement given → IsSet program n wire → IsElement (slice_index wires wire)
set_element one program public given wires n wire formed carried elements set =
    of_set_wires program (λ w. IsElement (slice_index wires w)) formed
    (λ w below. subst IsElement (sym (public_wire one program public given wires w carried below)) (scaled_elements one public w))
    (λ i below. subst IsElement (sym (input_wire one program public given wires i carried below)) (element_at given i elements))
    (λ m step at reads. subst IsElement (sym (step_met one program public given wires m step carried at)) (is_reduced one wires given step))
    n wire set
  where
    is_reduced : (one : ℕ) (wires given : List ℕ) (step : Step) → IsElement (step_value one wires given step)
    is_reduced one wires given step = reduced _
