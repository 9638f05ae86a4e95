-- Circuits and programs at worked examples, by computation.
use Rattle.std.proofs.Common.{◌≡◌, ℕ, ◌+◌, true, List, [], ◌∷◌, length, take, drop, refl, sym, subst, inl, inr, ◌<◌, ◌≤◌, lit<, lit≤, arith}
use Rattle.std.specs.Prelude.{All}
use Rattle.std.specs.List.{AllByRecursion}
use Rattle.std.proofs.lemmas.List.Elements.{All-from_recursion, All-nil}
use Rattle.zk_model.proofs.ExampleTools.{each_item, unset, made_once}
use Rattle.zk_model.specs.Field.{IsElement}
use Rattle.zk_model.specs.Circuit.{Circuit}
use Rattle.zk_model.specs.Program.{Step, Program, IsSet, IsSetInAll, IsStep, IsProduct, IsMadeOnce, IsProgram, MeetsStep, Multiplies, Solves, IsSolvedBy}
use Rattle.zk_model.specs.Boolean.{circuit_program}
use Rattle.zk_model.specs.declared.GateRow.TheVariants.{And, Xor, Inv, Eqw, Eq}

-- what holds of each of some items holds of all
all : {A : Type 0} (P : A → Type 0) (items : List A) → AllByRecursion P items → All P items
all P items holds = All-from_recursion P items holds

-- a step that sets a wire to a given value
abbrev pub takes_given : ℕ → ℕ → Step
takes_given j out = record { out = out; wires = []; given = record { factor = 1; place = j } ∷ []; constant = 0 }

-- it may be the first one
takes_given_is : (program : Program) (j out : ℕ) → j < program.givens → out < program.wires → program.public + program.inputs ≤ out
    → IsStep program 0 (takes_given j out)
takes_given_is program j out given within past = record {
  reads = All-nil (λ term. IsSet program 0 term.place);
  takes = all (λ term. term.place < program.givens) (record { factor = 1; place = j } ∷ []) (given, tt);
  factors = (All-nil (λ term. IsElement term.factor), all (λ term. IsElement term.factor) (record { factor = 1; place = j } ∷ []) (lit< tt, tt));
  constant = lit< tt;
  within = within;
  once = unset program out past;
}

-- wires and given values that solve a program without public values
solves : (program : Program) (wires given : List ℕ) → length wires ≡ program.wires → take program.public wires ≡ []
    → take program.inputs (drop program.public wires) ≡ take program.inputs given → AllByRecursion (MeetsStep 1 wires given) program.steps
    → length given ≡ program.givens → AllByRecursion IsElement given → AllByRecursion (Multiplies wires given) program.products
    → Solves program [] wires given
solves program wires given whole constants inputs steps count elements multiplied = record {
  carried = record { whole = whole; constants = constants; inputs = inputs; steps = all (MeetsStep 1 wires given) program.steps steps };
  count = count;
  elements = all IsElement given elements;
  multiplied = all (Multiplies wires given) program.products multiplied;
}

-- ---- the circuit of one AND

abbrev pub and_circuit : Circuit
and_circuit = record { wires = 3; inputs = 2; outputs = 1; gates = And 0 1 2 ∷ [] }

abbrev pub and_program : Program
and_program = circuit_program 0 and_circuit

-- two bit checks, and the product of the gate
and_products : and_program.products ≡ record { a = 0; b = 0; c = 0 } ∷ record { a = 1; b = 1; c = 1 } ∷ record { a = 0; b = 1; c = 2 } ∷ []
and_products = refl

and_made : (j : ℕ) → 2 ≤ j → j < 3 → IsMadeOnce and_program j
and_made j low below =
    let is : j ≡ 2 = omega arith in
    subst (IsMadeOnce and_program) (sym is)
    (made_once and_program 2 2 (record { a = 0; b = 1; c = 2 }) refl refl ((λ e. absurd (omega (arith, e))), ((λ e. absurd (omega (arith, e))), ((λ e. refl), tt))))

-- an input is set, and so is the wire of the only step
pub and_is_program : IsProgram and_program
and_is_program = record {
  first = lit≤ tt;
  inputs = lit≤ tt;
  steps = each_item (IsStep and_program) and_program.steps (takes_given_is and_program 2 2 (lit< tt) (lit< tt) (lit≤ tt), tt);
  products = all (IsProduct and_program) and_program.products (
    record { left = inl (lit< tt); right = inl (lit< tt); value = lit< tt },
    (
      record { left = inl (lit< tt); right = inl (lit< tt); value = lit< tt },
      (record { left = inl (lit< tt); right = inl (lit< tt); value = lit< tt }, tt),
    ),
  );
  made = and_made;
  opened = all (IsSetInAll and_program) and_program.opened (inr (0, takes_given 2 2, lit< tt, refl, refl), tt);
}

-- the wires 1, 1, 1 solve it with the products 1, 1, 1
pub and_solved : Solves and_program [] (1 ∷ 1 ∷ 1 ∷ []) (1 ∷ 1 ∷ 1 ∷ [])
and_solved = solves and_program (1 ∷ 1 ∷ 1 ∷ []) (1 ∷ 1 ∷ 1 ∷ []) refl refl refl (refl, tt) refl (lit< tt, (lit< tt, (lit< tt, tt))) (refl, (refl, (refl, tt)))

abbrev xor_program : Program
xor_program = circuit_program 0 (record { wires = 3; inputs = 2; outputs = 1; gates = Xor 0 1 2 ∷ [] })

-- an XOR of 1 and 1 has the product 1 and the wire 0
xor_solved : Solves xor_program [] (1 ∷ 1 ∷ 0 ∷ []) (1 ∷ 1 ∷ 1 ∷ [])
xor_solved = solves xor_program (1 ∷ 1 ∷ 0 ∷ []) (1 ∷ 1 ∷ 1 ∷ []) refl refl refl (refl, tt) refl (lit< tt, (lit< tt, (lit< tt, tt))) (refl, (refl, (refl, tt)))

-- one gate of each kind; wire 2 is set by none and may have any value
abbrev mixed : Circuit
mixed = record { wires = 8; inputs = 2; outputs = 2; gates = Inv 0 3 ∷ And 1 3 4 ∷ Eq true 5 ∷ Xor 5 4 6 ∷ Eqw 6 7 ∷ [] }

abbrev mixed_wires : List ℕ
mixed_wires = 0 ∷ 1 ∷ 77 ∷ 1 ∷ 1 ∷ 1 ∷ 0 ∷ 0 ∷ []

abbrev mixed_given : List ℕ
mixed_given = 0 ∷ 1 ∷ 1 ∷ 1 ∷ []

-- for the inputs 0 and 1: two bit checks, 1 and 1, and 1 xor 1
mixed_solved : Solves (circuit_program 0 mixed) [] mixed_wires mixed_given
mixed_solved = solves (circuit_program 0 mixed) mixed_wires mixed_given refl refl refl (refl, (refl, (refl, (refl, (refl, tt))))) refl
    (lit< tt, (lit< tt, (lit< tt, (lit< tt, tt)))) (refl, (refl, (refl, (refl, tt))))

-- ---- a product of field elements: two inputs that are no bits, and one product

abbrev pub multiply : Program
multiply = record {
  wires = 3;
  public = 0;
  inputs = 2;
  steps = takes_given 2 2 ∷ [];
  givens = 3;
  products = record { a = 0; b = 1; c = 2 } ∷ [];
  opened = 2 ∷ [];
}

multiply_made : (j : ℕ) → 2 ≤ j → j < 3 → IsMadeOnce multiply j
multiply_made j low below =
    let is : j ≡ 2 = omega arith in
    subst (IsMadeOnce multiply) (sym is) (made_once multiply 2 0 (record { a = 0; b = 1; c = 2 }) refl refl ((λ e. refl), tt))

pub multiply_is_program : IsProgram multiply
multiply_is_program = record {
  first = lit≤ tt;
  inputs = lit≤ tt;
  steps = each_item (IsStep multiply) multiply.steps (takes_given_is multiply 2 2 (lit< tt) (lit< tt) (lit≤ tt), tt);
  products = all (IsProduct multiply) multiply.products (record { left = inl (lit< tt); right = inl (lit< tt); value = lit< tt }, tt);
  made = multiply_made;
  opened = all (IsSetInAll multiply) multiply.opened (inr (0, takes_given 2 2, lit< tt, refl, refl), tt);
}

-- six times seven
pub multiply_solved : IsSolvedBy multiply [] (6 ∷ 7 ∷ []) (42 ∷ [])
multiply_solved = record {
  wires = 6 ∷ 7 ∷ 42 ∷ [];
  given = 6 ∷ 7 ∷ 42 ∷ [];
  solved = solves multiply (6 ∷ 7 ∷ 42 ∷ []) (6 ∷ 7 ∷ 42 ∷ []) refl refl refl (refl, tt) refl (lit< tt, (lit< tt, (lit< tt, tt))) (refl, tt);
  first = refl;
  last = refl;
}
