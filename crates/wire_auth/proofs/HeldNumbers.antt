-- Numbers of live wires in their slots.
use Rattle.std.proofs.Common.{◌≡◌, ℕ, ◌+◌, ◌-◌, ◌<◌, ◌≤◌, ⊎_elim, inl, inr, false, All, List, [], ◌∷◌, ◌++◌, map, length, get_or, take, set, refl, sym, ◌∙◌, ap, subst, arith, get_or-set_other, get_or-set_same, append-nil}
use Rattle.std.specs.Prelude.{Some, slice_get, slice_index, Contains}
use Rattle.std.specs.Option.{is_some}
use Rattle.std.proofs.Math.ListN.{get_or-append}
use Rattle.std.proofs.lemmas.Bool.{cases_eq, cases_lt, false≢true}
use Rattle.std.proofs.lemmas.List.{take_more, get_or-map, get_or-take}
use Rattle.std.proofs.lemmas.List.Concat.{flat_map-append}
use Rattle.std.proofs.lemmas.Option.{slice_get_within, get_or_from_slice_get}
use Rattle.zk_model.specs.Program.{Term, Step as model, Program, IsSet, MeetsStep}
use Rattle.std.proofs.Math.Nat.{eq-or-lt_of_le}
use Rattle.zk_model.specs.Slots.{Plan, AreSlotsOf, IsPlanOf, IsLive, IsSetAt, Reads}
use Rattle.zk_model.specs.Boolean.{once, less_once, less_twice}
use Rattle.field_program.specs.Counts.{unchecked}
use Rattle.field_program.specs.Rules.{HasFactors}
use Rattle.field_program.specs.Plans.{named}
use Rattle.field_program.specs.Programs.{IsSmallProgram, values_taken}
use Rattle.field_program.specs.Steps.{step_equation, value_taken}
use Rattle.field_program.specs.declared.plan.StepSlots.{StepSlots}
use Rattle.field_program.specs.declared.step.Step.{Step}
use Rattle.field_program.specs.declared.step.Step.TheVariants as step
use Rattle.field_program.specs.Slotting.{IsOperand, operands_of}
use Rattle.field_program.proofs.Live.{first_live, live_first, out_live, needed_before, some_same}
use Rattle.field_program.proofs.Operands.{operands_read, read_set}
use Rattle.wire_auth.specs.Sides.{IsGivenTaken}
use Rattle.wire_auth.specs.Walks.{AreHeldAt, AreReadIn, IsTakenBy}

-- ---- the wires of a step

-- a wire that a step reads is live before it
pub read_before : (program : Program) (k wire : ℕ) (equation : model) → IsSmallProgram program → slice_get program.steps k ≡ Some equation
    → Reads program equation wire → IsLive program k wire
read_before program k wire equation held stands reads = by (read_set program k wire equation held stands reads)
  where
    by : IsSet program k wire → IsLive program k wire
    by (inl first) = record {
      from = 0;
      set = inl (refl, first);
      behind = omega arith;
      needed = inr (inl (k + 1, omega arith, (k, equation, refl, stands, reads)));
    }
    by (inr (j, other, before, is, sets)) = record {
      from = j + 1;
      set = inr (j, other, refl, is, sets);
      behind = omega (arith, before);
      needed = inr (inl (k + 1, omega arith, (k, equation, refl, stands, reads)));
    }

pub read_in : (program : Program) (places : List ℕ) (k : ℕ) (s : Step) (at : StepSlots) (wires slots : List ℕ) → IsSmallProgram program
    → slice_get program.steps k ≡ Some (step_equation s) → HasFactors program s → AreSlotsOf program places (step_equation s) (named at)
    → AreHeldAt program places k wires slots → AreReadIn at slots wires s
read_in program places k s at wires slots held stands has of are = by s has of (λ wire operand. are wire (read_before program k wire (step_equation s) held stands (operands_read program s wire has operand)))
  where
    there : (a b number i : ℕ) → slice_get program.products i ≡ Some (record { a = a; b = b; c = number })
        → Contains program.products (record { a = a; b = b; c = number })
    there a b number i stands = (i, slice_get_within program.products i _ stands, get_or_from_slice_get program.products i _ _ stands)

    by : (s : Step) → HasFactors program s → AreSlotsOf program places (step_equation s) (named at)
        → ((wire : ℕ) → IsOperand (operands_of s) wire → slice_index slots (slice_index places wire) ≡ slice_index wires wire) → AreReadIn at slots wires s
    by (step.Const out value) has of read = tt
    by (step.Copy out a) has of read = ap (slice_index slots) (of.one (once a) refl) ∙ read a refl
    by (step.Not out a) has of read = ap (slice_index slots) (of.one (less_once a) refl) ∙ read a refl
    by (step.Add out a b) has of read =
        let both = of.both (once a) (once b) refl in
        (ap (slice_index slots) both.0 ∙ read a (inl refl), ap (slice_index slots) both.1 ∙ read b (inr refl))
    by (step.Mul out a b number) has of read = tt
    by (step.XorFrom out a b number) has of read =
        let both = of.factors (less_twice number) (record { a = a; b = b; c = number }) (0, omega arith, refl) (there a b number (number - unchecked program) has) refl in
        (ap (slice_index slots) both.0 ∙ read a (inl refl), ap (slice_index slots) both.1 ∙ read b (inr refl))

-- the value that a step takes is that of its equation's term
pub taken_is : (given : List ℕ) (s : Step) (taken : ℕ) → IsTakenBy given (step_equation s) taken → IsGivenTaken given s taken
taken_is given (step.Const out value) taken is = tt
taken_is given (step.Copy out a) taken is = tt
taken_is given (step.Not out a) taken is = tt
taken_is given (step.Add out a b) taken is = tt
taken_is given (step.Mul out a b product) taken is = is 0 (once product) (omega arith)
taken_is given (step.XorFrom out a b product) taken is = is 0 (less_twice product) (omega arith)

-- ---- one step more

pub held_more : (program : Program) (plan : Plan) (is : IsPlanOf program plan) (k number : ℕ) (s : Step) (at : StepSlots) (wires slots now : List ℕ)
    → slice_get program.steps k ≡ Some (step_equation s) → AreSlotsOf program is.places (step_equation s) (named at) → at.out < length slots
    → number ≡ slice_index wires (step_equation s).out → now ≡ set slots at.out number → AreHeldAt program is.places k wires slots
    → AreHeldAt program is.places (k + 1) wires now
held_more program plan is k number s at wires slots now stands of has number_is sets are wire live =
    ap (λ l. slice_index l (slice_index is.places wire)) sets ∙ ⊎_elim here there (cases_eq wire (step_equation s).out)
  where
    within : k + 1 ≤ length program.steps
    within = let below = slice_get_within program.steps k (step_equation s) stands in omega (arith, below)

    here : wire ≡ (step_equation s).out → slice_index (set slots at.out number) (slice_index is.places wire) ≡ slice_index wires wire
    here same = ap (slice_index (set slots at.out number)) (ap (slice_index is.places) same ∙ sym of.out)
        ∙ get_or-set_same slots at.out number 0 has ∙ number_is ∙ ap (slice_index wires) (sym same)

    there : (wire ≡ (step_equation s).out → ⊥) → slice_index (set slots at.out number) (slice_index is.places wire) ≡ slice_index wires wire
    there away = get_or-set_other slots at.out (slice_index is.places wire) number 0
        (λ equal. away (is.apart (k + 1) wire (step_equation s).out within live (out_live program k (step_equation s) stands) (equal ∙ of.out))) ∙ are wire (before live)
      where
        before : IsLive program (k + 1) wire → IsLive program k wire
        before lives = ⊎_elim now_set earlier (eq-or-lt_of_le lives.behind)
          where
            earlier : lives.from < k + 1 → IsLive program k wire
            earlier less = record {
              from = lives.from;
              set = lives.set;
              behind = omega (arith, less);
              needed = ⊎_elim (λ at. absurd (omega (arith, less, at))) (λ needed. inr (needed_before program k (k + 1) wire (omega arith) needed)) lives.needed;
            }

            now_set : lives.from ≡ k + 1 → IsLive program k wire
            now_set at = absurd (set_here (subst (λ n. IsSetAt program n wire) at lives.set))
              where
                set_here : IsSetAt program (k + 1) wire → ⊥
                set_here (inl none) = let zero_is = none.0 in absurd (omega (arith, zero_is))
                set_here (inr (j, other, number, is_other, sets_it)) =
                    let equal : j ≡ k = omega (arith, number) in
                    away (sym sets_it ∙ ap (λ (x : model). x.out)
                    (some_same other (step_equation s) (slice_get program.steps k) (ap (slice_get program.steps) (sym equal) ∙ is_other) stands))

-- ---- steps that take no value, and those that take one

pub takes_none : (s : Step) → false ≡ is_some (value_taken s) → (step_equation s).given ≡ []
takes_none (step.Const out value) is = refl
takes_none (step.Copy out a) is = refl
takes_none (step.Not out a) is = refl
takes_none (step.Add out a b) is = refl
takes_none (step.Mul out a b product) is = absurd (false≢true is)
takes_none (step.XorFrom out a b product) is = absurd (false≢true is)

pub nothing_taken : (given : List ℕ) (equation : model) (taken : ℕ) → equation.given ≡ [] → IsTakenBy given equation taken
nothing_taken given equation taken none i d below = let empty : length equation.given ≡ 0 = ap length none in absurd (omega (arith, below, empty))

-- a step meets what all steps do
pub meets_at : (program : Program) (one k : ℕ) (wires given : List ℕ) (equation : model) → All (MeetsStep one wires given) program.steps
    → slice_get program.steps k ≡ Some equation → MeetsStep one wires given equation
meets_at program one k wires given equation all stands =
    subst (MeetsStep one wires given) (get_or_from_slice_get program.steps k equation equation stands)
    (all k equation (slice_get_within program.steps k equation stands))

-- the values that one step more takes
pub taken_more : (steps : List model) (k : ℕ) (equation : model) → slice_get steps k ≡ Some equation
    → values_taken (take (k + 1) steps) ≡ values_taken (take k steps) ++ map (λ (t : Term). t.place) equation.given
taken_more steps k equation stands =
    ap values_taken (take_more steps k equation (slice_get_within steps k equation stands) ∙ ap (λ e. take k steps ++ e ∷ []) (get_or_from_slice_get steps k equation equation stands))
    ∙ flat_map-append (λ (s : model). map (λ (t : Term). t.place) s.given) (take k steps) (equation ∷ [])
    ∙ ap (λ l. values_taken (take k steps) ++ l) (append-nil (map (λ (t : Term). t.place) equation.given))

pub taken_no_more : (steps : List model) (k : ℕ) (equation : model) → slice_get steps k ≡ Some equation → equation.given ≡ []
    → values_taken (take (k + 1) steps) ≡ values_taken (take k steps)
taken_no_more steps k equation stands none =
    taken_more steps k equation stands ∙ ap (λ l. values_taken (take k steps) ++ map (λ (t : Term). t.place) l) none ∙ append-nil (values_taken (take k steps))

-- what is read in the slot of a wire's place
pub read_slot : {N : Type 0} (part : N → ℕ) (slots : List N) (slot place number : ℕ) (x : N) → slot < length slots → x ≡ get_or slots slot x
    → slot ≡ place → slice_index (map part slots) place ≡ number → part x ≡ number
read_slot part slots slot place number x within is same held =
    ap part is ∙ sym (get_or-map part slots slot x 0 within) ∙ ap (slice_index (map part slots)) same ∙ held

-- ---- the first wires

-- they have those that stand first
pub first_held : (program : Program) (plan : Plan) (is : IsPlanOf program plan) (first rest wires : List ℕ)
    → length first ≡ program.public + program.inputs → take (program.public + program.inputs) wires ≡ first
    → AreHeldAt program is.places 0 wires (first ++ rest)
first_held program plan is first rest wires counted are wire live =
    let below = live_first program wire live in
    ap (slice_index (first ++ rest)) (is.first wire below) ∙ get_or-append first rest 0 wire (omega (arith, below, counted))
    ∙ ap (λ l. slice_index l wire) (sym are) ∙ get_or-take (program.public + program.inputs) wires wire 0 below

-- each has a slot
pub first_slot : (program : Program) (plan : Plan) (wire : ℕ) → IsPlanOf program plan → wire < program.public + program.inputs → wire < plan.slots
first_slot program plan wire is below =
    let at = is.first wire below in let within = is.within 0 wire (omega arith) (first_live program wire below) in omega (arith, at, within)

pub few_first : (program : Program) (plan : Plan) → IsPlanOf program plan → program.public + program.inputs ≤ plan.slots
few_first program plan is = ⊎_elim some (λ none. omega (arith, none)) (cases_lt 0 (program.public + program.inputs))
  where
    some : 0 < program.public + program.inputs → program.public + program.inputs ≤ plan.slots
    some more = let last = first_slot program plan (program.public + program.inputs - 1) is (omega (arith, more)) in omega (arith, last, more)

-- a step takes at most one value
pub one_value : (s : Step) → 1 ≤ length (step_equation s).given → length (step_equation s).given ≡ 1
one_value (step.Const out value) some = absurd (omega (arith, some))
one_value (step.Copy out a) some = absurd (omega (arith, some))
one_value (step.Not out a) some = absurd (omega (arith, some))
one_value (step.Add out a b) some = absurd (omega (arith, some))
one_value (step.Mul out a b product) some = refl
one_value (step.XorFrom out a b product) some = refl
