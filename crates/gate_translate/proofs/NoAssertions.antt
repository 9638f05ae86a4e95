-- Rules that are as many as the steps among them have no assertion.
use Rattle.std.proofs.Common.{◌≡◌, ℕ, ◌+◌, ◌≤◌, List, [], ◌∷◌, ◌++◌, length, flat_map, refl, sym, ap, ◌∙◌, arith, append-nil}
use Rattle.zk_model.specs.declared.ArithRow.{ArithRow}
use Rattle.zk_model.specs.declared.ArithRow.TheVariants.{Add, Mul, Const, Assert}
use Rattle.packed_gates.specs.PackedRows.{AreRowsPacked, Before, row_constants, row_factors, row_rules, row_sums, with_row}
use Rattle.packed_gates.specs.declared.packed.PackedStep.{PackedStep}
use Rattle.packed_gates.specs.declared.packed.PackedStep.TheVariants as rule
use Rattle.packed_gates.specs.declared.packed.Tables.{Tables}
use Rattle.gate_translate.specs.Assertions.{AreTabled, asserted_among, steps_among}

pub few_steps : (rules : List PackedStep) → length (steps_among rules) ≤ length rules
few_steps [] = omega arith
few_steps (rule.Bit out value ∷ rules) = omega (arith, few_steps rules)
few_steps (rule.Copy out a ∷ rules) = omega (arith, few_steps rules)
few_steps (rule.Not out a ∷ rules) = omega (arith, few_steps rules)
few_steps (rule.Mul out product ∷ rules) = omega (arith, few_steps rules)
few_steps (rule.XorFrom out product ∷ rules) = omega (arith, few_steps rules)
few_steps (rule.Sum out sum ∷ rules) = omega (arith, few_steps rules)
few_steps (rule.Const out constant ∷ rules) = omega (arith, few_steps rules)
few_steps (rule.Assert a ∷ rules) = omega (arith, few_steps rules)

all_steps : (rules : List PackedStep) → length (steps_among rules) ≡ length rules → (steps_among rules ≡ rules) × (asserted_among rules ≡ [])
all_steps [] same = (refl, refl)
all_steps (rule.Bit out value ∷ rules) same =
    let rest = all_steps rules (omega (arith, same)) in (ap (λ l. rule.Bit out value ∷ l) rest.0, rest.1)
all_steps (rule.Copy out a ∷ rules) same =
    let rest = all_steps rules (omega (arith, same)) in (ap (λ l. rule.Copy out a ∷ l) rest.0, rest.1)
all_steps (rule.Not out a ∷ rules) same =
    let rest = all_steps rules (omega (arith, same)) in (ap (λ l. rule.Not out a ∷ l) rest.0, rest.1)
all_steps (rule.Mul out product ∷ rules) same =
    let rest = all_steps rules (omega (arith, same)) in (ap (λ l. rule.Mul out product ∷ l) rest.0, rest.1)
all_steps (rule.XorFrom out product ∷ rules) same =
    let rest = all_steps rules (omega (arith, same)) in (ap (λ l. rule.XorFrom out product ∷ l) rest.0, rest.1)
all_steps (rule.Sum out sum ∷ rules) same =
    let rest = all_steps rules (omega (arith, same)) in (ap (λ l. rule.Sum out sum ∷ l) rest.0, rest.1)
all_steps (rule.Const out constant ∷ rules) same =
    let rest = all_steps rules (omega (arith, same)) in (ap (λ l. rule.Const out constant ∷ l) rest.0, rest.1)
all_steps (rule.Assert a ∷ rules) same = absurd (omega (arith, same, few_steps rules))

-- the rules stay, and nothing is opened
pub none_asserted : (rules : List PackedStep) (opened : List ℕ) → length (steps_among rules) ≡ length rules
    → (rules ≡ steps_among rules) × (opened ≡ opened ++ asserted_among rules)
none_asserted rules opened same =
    let all = all_steps rules same in (sym all.0, sym (append-nil opened) ∙ ap (λ l. opened ++ l) (sym all.1))

-- each row but an assertion adds one entry to one table
entries_are : (before : Before) (rows : List ArithRow)
    → length (steps_among (row_rules before rows)) ≡ length (flat_map row_factors rows) + length (flat_map row_sums rows) + length (flat_map row_constants rows)
entries_are before [] = refl
entries_are before (Add a b out ∷ rows) = omega (arith, entries_are (with_row before (Add a b out)) rows)
entries_are before (Mul a b out ∷ rows) = omega (arith, entries_are (with_row before (Mul a b out)) rows)
entries_are before (Const value out ∷ rows) = omega (arith, entries_are (with_row before (Const value out)) rows)
entries_are before (Assert a ∷ rows) = entries_are (with_row before (Assert a)) rows

pub steps_tabled : (rows : List ArithRow) (rules : List PackedStep) (tables : Tables) → AreRowsPacked rows rules tables → AreTabled rules tables
steps_tabled rows rules tables packed =
    ap (λ l. length (steps_among l)) packed.rules_are
    ∙ entries_are (record { products = 0; sums = 0; constants = 0 }) rows
    ∙ sym (λ i. length (packed.factors_are i) + length (packed.sums_are i) + length (packed.constants_are i))
