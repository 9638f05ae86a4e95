-- The wires that a step reads.
use Rattle.std.proofs.Common.{◌≡◌, ℕ, zero, suc, ◌-◌, ◌≤◌, ◌⊎◌, ⊎_elim, inl, inr, List, [], ◌∷◌, map, length, get_or, refl, sym, ◌∙◌, ap, subst, arith}
use Rattle.std.specs.Prelude.{Some, slice_get, Contains, All}
use Rattle.std.specs.List.{range_with_len}
use Rattle.std.proofs.lemmas.List.Elements.{All-contains, All-from_get_or, Contains-append_left, Contains-append_right}
use Rattle.std.proofs.lemmas.List.FromFn.{get_or-range_with_len, length-range_with_len}
use Rattle.std.proofs.lemmas.Option.{slice_get_within, slice_get-get_or, get_or_from_slice_get}
use Rattle.zk_model.specs.Boolean.{once, less_once, less_twice}
use Rattle.zk_model.specs.Program.{Term, Step as model, Program, IsSet}
use Rattle.zk_model.specs.declared.Product.{Product}
use Rattle.field_program.specs.Counts.{unchecked}
use Rattle.field_program.specs.Rules.{HasFactors}
use Rattle.field_program.specs.Programs.{IsSmallProgram, values_taken}
use Rattle.field_program.specs.Steps.{step_equation}
use Rattle.field_program.specs.declared.step.Step.{Step}
use Rattle.field_program.specs.declared.step.Step.TheVariants as step
use Rattle.zk_model.specs.Slots.{Reads}
use Rattle.field_program.specs.Slotting.{IsOperand, operands_of}

-- ---- short lists

pub only : {X : Type 0} (x y : X) → Contains (x ∷ []) y → x ≡ y
only x y (zero, below, is) = is
only x y (suc k, below, is) = absurd (omega (arith, below))

either : {X : Type 0} (x y z : X) → Contains (x ∷ y ∷ []) z → (x ≡ z) ⊎ (y ≡ z)
either x y z (zero, below, is) = inl is
either x y z (suc zero, below, is) = inr is
either x y z (suc (suc k), below, is) = absurd (omega (arith, below))

pub none_in : {X : Type 0} (xs : List X) (x : X) → length xs ≡ 0 → ¬ Contains xs x
none_in xs x none (k, below, is) = absurd (omega (arith, below, none))

pub first_of : {X : Type 0} (x : X) (xs : List X) → Contains (x ∷ xs) x
first_of x xs = (0, omega arith, refl)

pub second_of : {X : Type 0} (x y : X) (xs : List X) → Contains (x ∷ y ∷ xs) y
second_of x y xs = (1, omega arith, refl)

-- ---- products

-- the product whose value is taken is the one of its number
pub product_is : (program : Program) (number : ℕ) (known product : Product) → IsSmallProgram program
    → slice_get program.products (number - unchecked program) ≡ Some known → Contains program.products product → product.c ≡ number → known ≡ product
product_is program number known product held at (k, below, is) same =
    sym (get_or_from_slice_get program.products (number - unchecked program) known product at) ∙ ap (λ i. get_or program.products i product) place ∙ is
  where
    place : number - unchecked program ≡ k
    place = let numbered = held.numbered k product (slice_get-get_or program.products k product below ∙ ap (λ (p : Product). Some p) is) in
        omega (arith, same, numbered)

-- ---- what is read is an operand, and the other way round

pub reads_operands : (program : Program) (s : Step) (wire : ℕ) → IsSmallProgram program → HasFactors program s
    → Reads program (step_equation s) wire → IsOperand (operands_of s) wire
reads_operands program (step.Const out value) wire held has (inl (term, there, is)) = absurd (none_in [] term refl there)
reads_operands program (step.Const out value) wire held has (inr (term, product, there, among, same, is)) = absurd (none_in [] term refl there)
reads_operands program (step.Copy out a) wire held has (inl (term, there, is)) = ap (λ (t : Term). t.place) (only (once a) term there) ∙ is
reads_operands program (step.Copy out a) wire held has (inr (term, product, there, among, same, is)) = absurd (none_in [] term refl there)
reads_operands program (step.Not out a) wire held has (inl (term, there, is)) = ap (λ (t : Term). t.place) (only (less_once a) term there) ∙ is
reads_operands program (step.Not out a) wire held has (inr (term, product, there, among, same, is)) = absurd (none_in [] term refl there)
reads_operands program (step.Add out a b) wire held has (inl (term, there, is)) =
    ⊎_elim (λ left. inl (ap (λ (t : Term). t.place) left ∙ is)) (λ right. inr (ap (λ (t : Term). t.place) right ∙ is))
    (either (once a) (once b) term there)
reads_operands program (step.Add out a b) wire held has (inr (term, product, there, among, same, is)) = absurd (none_in [] term refl there)
reads_operands program (step.Mul out a b number) wire held has (inl (term, there, is)) = absurd (none_in [] term refl there)
reads_operands program (step.Mul out a b number) wire held has (inr (term, product, there, among, same, is)) =
    let taken : number ≡ term.place = ap (λ (t : Term). t.place) (only (once number) term there) in
    let known = product_is program number (record { a = a; b = b; c = number }) product held has among (same ∙ sym taken) in
    ⊎_elim (λ left. inl (ap (λ (p : Product). p.a) known ∙ left)) (λ right. inr (ap (λ (p : Product). p.b) known ∙ right)) is
reads_operands program (step.XorFrom out a b number) wire held has (inl (term, there, is)) =
    ⊎_elim (λ left. inl (ap (λ (t : Term). t.place) left ∙ is)) (λ right. inr (ap (λ (t : Term). t.place) right ∙ is))
    (either (once a) (once b) term there)
reads_operands program (step.XorFrom out a b number) wire held has (inr (term, product, there, among, same, is)) =
    let taken : number ≡ term.place = ap (λ (t : Term). t.place) (only (less_twice number) term there) in
    let known = product_is program number (record { a = a; b = b; c = number }) product held has among (same ∙ sym taken) in
    ⊎_elim (λ left. inl (ap (λ (p : Product). p.a) known ∙ left)) (λ right. inr (ap (λ (p : Product). p.b) known ∙ right)) is

-- a product at a place is among all
among : (products : List Product) (place : ℕ) (product : Product) → slice_get products place ≡ Some product → Contains products product
among products place product at = (place, slice_get_within products place product at, get_or_from_slice_get products place product product at)

pub operands_read : (program : Program) (s : Step) (wire : ℕ) → HasFactors program s → IsOperand (operands_of s) wire
    → Reads program (step_equation s) wire
operands_read program (step.Const out value) wire has is = absurd is
operands_read program (step.Copy out a) wire has is = inl (once a, first_of (once a) [], is)
operands_read program (step.Not out a) wire has is = inl (less_once a, first_of (less_once a) [], is)
operands_read program (step.Add out a b) wire has (inl left) = inl (once a, first_of (once a) (once b ∷ []), left)
operands_read program (step.Add out a b) wire has (inr right) = inl (once b, second_of (once a) (once b) [], right)
operands_read program (step.Mul out a b number) wire has is =
    inr (once number, record { a = a; b = b; c = number }, first_of (once number) [], among program.products (number - unchecked program) _ has, refl, is)
operands_read program (step.XorFrom out a b number) wire has (inl left) = inl (once a, first_of (once a) (once b ∷ []), left)
operands_read program (step.XorFrom out a b number) wire has (inr right) = inl (once b, second_of (once a) (once b) [], right)

-- ---- what is read is set

-- steps take no inputs
takes_late : (steps : List model) (k low : ℕ) (s : model) (term : Term) → All (λ place. low ≤ place) (values_taken steps) → slice_get steps k ≡ Some s
    → Contains s.given term → low ≤ term.place
takes_late steps k low s term late at there =
    All-contains (λ place. low ≤ place) (values_taken steps) term.place late (taken steps k at)
  where
    places : (terms : List Term) → Contains terms term → Contains (map (λ (t : Term). t.place) terms) term.place
    places [] (n, below, is) = absurd (omega (arith, below))
    places (t ∷ terms) (zero, below, is) = (0, omega arith, ap (λ (t : Term). t.place) is)
    places (t ∷ terms) (suc n, below, is) = let rest = places terms (n, omega (arith, below), is) in (suc rest.0, (let less = rest.1 in omega (arith, less)), rest.2)

    taken : (steps : List model) (k : ℕ) → slice_get steps k ≡ Some s → Contains (values_taken steps) term.place
    taken [] k at = cc
    taken (first ∷ steps) zero at =
        let same : first ≡ s = cc in
        Contains-append_left (map (λ (t : Term). t.place) first.given) (values_taken steps) term.place
        (places first.given (subst (λ (x : model). Contains x.given term) (sym same) there))
    taken (first ∷ steps) (suc k) at =
        Contains-append_right (map (λ (t : Term). t.place) first.given) (values_taken steps) term.place (taken steps k at)

pub read_set : (program : Program) (k wire : ℕ) (s : model) → IsSmallProgram program → slice_get program.steps k ≡ Some s → Reads program s wire
    → IsSet program k wire
read_set program k wire s held at (inl (term, there, is)) =
    subst (IsSet program k) is (All-contains (λ (t : Term). IsSet program k t.place) s.wires term (held.formed.steps k s at).reads there)
read_set program k wire s held at (inr (term, product, there, (number, below, is), same, by)) =
    let stands : slice_get program.products number ≡ Some product = slice_get-get_or program.products number product below ∙ ap (λ (p : Product). Some p) is in
    let late : All (λ place. program.inputs ≤ place) (values_taken program.steps) =
    subst (All (λ place. program.inputs ≤ place)) (sym held.taken)
    (All-from_get_or (λ place. program.inputs ≤ place) (range_with_len program.inputs (program.givens - program.inputs)) 0
    (λ i less. let at_i = get_or-range_with_len program.inputs (program.givens - program.inputs) i 0 (omega (arith, less, length-range_with_len program.inputs (program.givens - program.inputs))) in omega (arith, at_i))) in
    let sets = All-contains (λ (t : Term). (number : ℕ) (product : Product) → slice_get program.products number ≡ Some product
    → product.c ≡ t.place → program.inputs ≤ t.place → IsSet program k product.a × IsSet program k product.b) s.given term (held.ordered k s at) there
    number product stands same (takes_late program.steps k program.inputs s term late at there) in
    ⊎_elim (λ left. subst (IsSet program k) left sets.0) (λ right. subst (IsSet program k) right sets.1) by
