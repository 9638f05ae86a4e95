-- How far a walk is: which product it meets next, and at which step.
use Rattle.std.proofs.Common.{◌≡◌, ℕ, ◌+◌, ◌-◌, ◌<◌, ◌≤◌, ◌⊎◌, ⊎_elim, inl, inr, List, [], ◌∷◌, ◌++◌, map, length, take, drop, get_or, refl, sym, ◌∙◌, ap, subst, arith, length-append}
use Rattle.std.specs.Prelude.{Some, slice_get, slice_index, Contains}
use Rattle.std.proofs.lemmas.Bool.{cases_lt}
use Rattle.std.proofs.lemmas.List.{length-map, take_all, take-append-drop, get_or-map, get_or_default, get_or_append_left, get_or-append-add}
use Rattle.std.proofs.lemmas.List.Concat.{flat_map-append}
use Rattle.std.proofs.lemmas.List.FromFn.{get_or-range_with_len, length-range_with_len}
use Rattle.std.proofs.lemmas.Option.{slice_get_within, get_or_from_slice_get}
use Rattle.zk_model.specs.Program.{Term, Step as model, Program, IsProgram, IsSet}
use Rattle.zk_model.specs.Slots.{Plan, StepSlots, IsPlanOf, IsLive}
use Rattle.zk_model.specs.declared.Product.{Product}
use Rattle.field_program.specs.Counts.{unchecked}
use Rattle.field_program.specs.Programs.{IsSmallProgram, values_taken}
use Rattle.field_program.specs.Steps.{step_equation}
use Rattle.field_program.specs.declared.step.Step.{Step}
use Rattle.field_program.proofs.Live.{first_live, some_same}
use Rattle.wire_auth.specs.Walks.{IsAlong, IsTakenBy, TakesAt}
use Rattle.wire_auth.proofs.HeldNumbers.{read_before, taken_more, one_value}

-- ---- values are taken in order

-- the values that the first steps take are the first of all
taken_whole : (program : Program) (k : ℕ) → values_taken program.steps ≡ values_taken (take k program.steps) ++ values_taken (drop k program.steps)
taken_whole program k = ap values_taken (sym (take-append-drop k program.steps))
    ∙ flat_map-append (λ (s : model). map (λ (t : Term). t.place) s.given) (take k program.steps) (drop k program.steps)

taken_count : (program : Program) → IsSmallProgram program → length (values_taken program.steps) ≡ program.givens - program.inputs
taken_count program held = ap length held.taken ∙ length-range_with_len program.inputs (program.givens - program.inputs)

-- a step takes the value behind those that earlier steps take
value_in_order : (program : Program) (k i : ℕ) (equation : model) → IsSmallProgram program → slice_get program.steps k ≡ Some equation → i < length equation.given
    → get_or (map (λ (t : Term). t.place) equation.given) i 0 ≡ program.inputs + (length (values_taken (take k program.steps)) + i)
value_in_order program k i equation held stands inside =
    sym (ap (λ l. get_or l (length before + i) 0) whole
    ∙ get_or_append_left (before ++ here) behind 0 (length before + i) (omega (arith, inside, length-append before here, length-map equation.given (λ (t : Term). t.place)))
    ∙ get_or-append-add before here i 0)
    ∙ ap (λ l. get_or l (length before + i) 0) held.taken
    ∙ get_or-range_with_len program.inputs (program.givens - program.inputs) (length before + i) 0 fits
  where
    before : List ℕ
    before = values_taken (take k program.steps)

    here : List ℕ
    here = map (λ (t : Term). t.place) equation.given

    behind : List ℕ
    behind = values_taken (drop (k + 1) program.steps)

    whole : values_taken program.steps ≡ (before ++ here) ++ behind
    whole = taken_whole program (k + 1) ∙ ap (λ l. l ++ behind) (taken_more program.steps k equation stands)

    fits : length before + i < program.givens - program.inputs
    fits = omega (arith, inside, ap length whole, length-append (before ++ here) behind, length-append before here, length-map equation.given (λ (t : Term). t.place), taken_count program held)

-- ---- at the step where a walk waits

-- it takes the given value that the walk comes to next
pub takes_next : (program : Program) (steps next i : ℕ) (d : Term) (equation : model) → IsSmallProgram program → IsAlong program steps next → program.inputs ≤ next
    → slice_get program.steps steps ≡ Some equation → i < length equation.given → (get_or equation.given i d).place ≡ next + i
takes_next program steps next i d equation held along low stands inside =
    sym (get_or-map (λ (t : Term). t.place) equation.given i d 0 inside)
    ∙ value_in_order program steps i equation held stands inside ∙ (let counted = along.taken low in omega (arith, counted))

-- a walk that has a product to meet behind the bit checks waits at a step that takes a value
pub waits_at : (program : Program) (steps next : ℕ) → IsSmallProgram program → IsAlong program steps next → program.inputs ≤ next → next < program.givens
    → TakesAt program steps
waits_at program steps next held along low more = ⊎_elim
    (λ end. absurd (let counted = along.taken low in let all = taken_count program held in
    omega (arith, counted, all, more, ap length (ap values_taken (take_all steps program.steps (omega (arith, end))))))) (λ takes. takes) (along.waits low)

-- and one that has none is at the end
pub at_end : (program : Program) (steps next : ℕ) → IsSmallProgram program → IsAlong program steps next → program.givens ≤ next → steps ≡ length program.steps
at_end program steps next held along none = ⊎_elim (λ end. end) (λ takes. absurd (too_many takes)) (along.waits low)
  where
    low : program.inputs ≤ next
    low = let enough = held.formed.inputs in omega (arith, enough, none)

    too_many : TakesAt program steps → ⊥
    too_many (equation, stands, some) =
        let counted = along.taken low in let within = along.within in
        omega (
          arith,
          counted,
          within,
          some,
          taken_count program held,
          ap length (taken_whole program (steps + 1)),
          length-append (values_taken (take (steps + 1) program.steps)) (values_taken (drop (steps + 1) program.steps)),
          ap length (taken_more program.steps steps equation stands),
          length-append (values_taken (take steps program.steps)) (map (λ (t : Term). t.place) equation.given),
          length-map equation.given (λ (t : Term). t.place),
        )

-- ---- the product that a walk meets next

-- behind the bit checks it is the one whose value the step takes
record IsTakenNext (program : Program) (steps : ℕ) (product : Product) : Type 0 where
  equation : model
  stands : slice_get program.steps steps ≡ Some equation
  term : Term
  taken : Contains equation.given term
  among : Contains program.products product
  number : product.c ≡ term.place

taken_next : (program : Program) (steps next i : ℕ) (product : Product) → IsSmallProgram program → IsAlong program steps next → program.inputs ≤ next
    → slice_get program.products i ≡ Some product → product.c ≡ next → IsTakenNext program steps product
taken_next program steps next i product held along low stands is =
    by (waits_at program steps next held along low (omega (arith, is, held.numbered i product stands, held.counted, slice_get_within program.products i product stands)))
  where
    none : Term
    none = record { factor = 0; place = 0 }

    by : TakesAt program steps → IsTakenNext program steps product
    by (equation, at, some) =
        let first : 0 < length equation.given = omega (arith, some) in
        let place : (get_or equation.given 0 none).place ≡ next = takes_next program steps next 0 none equation held along low at first ∙ omega arith in
        record {
          equation = equation;
          stands = at;
          term = get_or equation.given 0 none;
          taken = (0, first, get_or_default equation.given 0 (get_or equation.given 0 none) none first);
          among = (i, slice_get_within program.products i product stands, get_or_from_slice_get program.products i product product stands);
          number = is ∙ sym place;
        }

-- its factors are live
pub factors_live : (program : Program) (steps next i : ℕ) (product : Product) → IsSmallProgram program → IsAlong program steps next
    → slice_get program.products i ≡ Some product → product.c ≡ next → IsLive program steps product.a × IsLive program steps product.b
factors_live program steps next i product held along stands number = ⊎_elim check behind (cases_lt next program.inputs)
  where
    check : next < program.inputs → IsLive program steps product.a × IsLive program steps product.b
    check first =
        let is = held.checks i product stands (omega (arith, first, number)) in
        subst (λ n. IsLive program n product.a × IsLive program n product.b) (sym (along.checks first)) (
          subst (IsLive program 0) (sym is.0) (first_live program (program.public + product.c) (omega (arith, first, number))),
          subst (IsLive program 0) (sym is.1) (first_live program (program.public + product.c) (omega (arith, first, number))),
        )

    behind : program.inputs ≤ next → IsLive program steps product.a × IsLive program steps product.b
    behind low = let coming = taken_next program steps next i product held along low stands number in (
      read_before program steps product.a coming.equation held coming.stands (inr (coming.term, product, coming.taken, coming.among, coming.number, inl refl)),
      read_before program steps product.b coming.equation held coming.stands (inr (coming.term, product, coming.taken, coming.among, coming.number, inr refl)),
    )

-- and behind the bit checks their slots are those of the step
pub waiting_slots : (program : Program) (plan : Plan) (is : IsPlanOf program plan) (steps next i : ℕ) (slots : StepSlots) (product : Product)
    → IsSmallProgram program → IsAlong program steps next → program.inputs ≤ next → slice_get program.products i ≡ Some product → product.c ≡ next
    → slice_get plan.steps steps ≡ Some slots → (slots.a ≡ slice_index is.places product.a) × (slots.b ≡ slice_index is.places product.b)
waiting_slots program plan is steps next i slots product held along low stands number there =
    let coming = taken_next program steps next i product held along low stands number in
    (is.steps steps coming.equation slots coming.stands there).factors coming.term product coming.taken coming.among coming.number

-- the slots of steps are there
pub slots_there : (program : Program) (plan : Plan) (k : ℕ) (slots : StepSlots) → IsPlanOf program plan → slice_get plan.steps k ≡ Some slots
    → (slots.out < plan.slots) × (slots.a < plan.slots) × (slots.b < plan.slots)
slots_there program plan k slots is there =
    subst (λ (s : StepSlots). (s.out < plan.slots) × (s.a < plan.slots) × (s.b < plan.slots)) (get_or_from_slice_get plan.steps k slots slots there)
    (is.inside k slots (slice_get_within plan.steps k slots there))

-- opened wires are live in the end
pub opened_live : (program : Program) (o : ℕ) (d : ℕ) → IsProgram program → o < length program.opened → IsLive program (length program.steps) (get_or program.opened o d)
opened_live program o d formed below = by (formed.opened o d below)
  where
    there : Contains program.opened (get_or program.opened o d)
    there = (o, below, get_or_default program.opened o (get_or program.opened o d) d below)

    by : IsSet program (length program.steps) (get_or program.opened o d) → IsLive program (length program.steps) (get_or program.opened o d)
    by (inl first) = record { from = 0; set = inl (refl, first); behind = omega arith; needed = inr (inr there) }
    by (inr (j, other, before, is, sets)) = record { from = j + 1; set = inr (j, other, refl, is, sets); behind = omega (arith, before); needed = inr (inr there) }

-- ---- one product more

-- before all steps
pub along_first : (program : Program) → unchecked program < program.inputs → IsSmallProgram program → IsAlong program 0 (unchecked program)
along_first program some held = record {
  upto = omega arith;
  within = omega (arith, held.counted);
  checks = λ first. refl;
  taken = λ low. absurd (omega (arith, low, some));
  waits = λ low. absurd (omega (arith, low, some));
}

-- at the next step that takes a value, where this one's steps have taken so many
pub along_next : (program : Program) (from steps next : ℕ) → program.inputs ≤ next → next ≤ program.givens → steps ≤ length program.steps
    → program.inputs + length (values_taken (take from program.steps)) ≡ next → values_taken (take steps program.steps) ≡ values_taken (take from program.steps)
    → (steps ≡ length program.steps) ⊎ TakesAt program steps → IsAlong program steps next
along_next program from steps next low within upto counted same waits = record {
  upto = upto;
  within = within;
  checks = λ first. absurd (omega (arith, first, low));
  taken = λ low. let longer = ap length same in omega (arith, counted, longer);
  waits = λ low. waits;
}

-- a bit check more
pub along_check : (program : Program) (steps next : ℕ) → IsAlong program steps next → next + 1 < program.inputs → next < program.givens → IsAlong program steps (next + 1)
along_check program steps next along first within = record {
  upto = along.upto;
  within = omega (arith, within);
  checks = λ less. along.checks (omega (arith, first));
  taken = λ low. absurd (omega (arith, low, first));
  waits = λ low. absurd (omega (arith, low, first));
}

-- one step more takes one value more
pub taken_one : (program : Program) (steps next : ℕ) (equation : model) → IsAlong program steps next → program.inputs ≤ next → slice_get program.steps steps ≡ Some equation
    → length equation.given ≡ 1 → program.inputs + length (values_taken (take (steps + 1) program.steps)) ≡ next + 1
taken_one program steps next equation along low stands one =
    let counted = along.taken low in
    omega (
      arith,
      counted,
      one,
      ap length (taken_more program.steps steps equation stands),
      length-append (values_taken (take steps program.steps)) (map (λ (t : Term). t.place) equation.given),
      length-map equation.given (λ (t : Term). t.place),
    )

-- ---- behind the bit checks

-- what is known of the step where a walk waits
pub record IsNextStep (program : Program) (steps next : ℕ) (equation : model) : Type 0 where
  pub there : steps < length program.steps
  pub one : length equation.given ≡ 1
  pub takes : (given : List ℕ) (number : ℕ) → number ≡ slice_index given next → IsTakenBy given equation number

pub next_there : (program : Program) (steps next : ℕ) → IsSmallProgram program → IsAlong program steps next → program.inputs ≤ next → next < program.givens
    → steps < length program.steps
next_there program steps next held along low more =
    let takes = waits_at program steps next held along low more in slice_get_within program.steps steps takes.0 takes.1

pub next_step : (program : Program) (steps next : ℕ) (s : Step) → IsSmallProgram program → IsAlong program steps next → program.inputs ≤ next
    → next < program.givens → slice_get program.steps steps ≡ Some (step_equation s) → IsNextStep program steps next (step_equation s)
next_step program steps next s held along low more stands = record {
  there = slice_get_within program.steps steps (step_equation s) stands;
  one = single;
  takes = λ given number is i d inside.
      let only : i ≡ 0 = omega (arith, inside, single) in
      let place : (get_or (step_equation s).given i d).place ≡ next = takes_next program steps next i d (step_equation s) held along low stands inside ∙ (let none = only in omega (arith, none)) in
      is ∙ ap (slice_index given) (sym place);
}
  where
    single : length (step_equation s).given ≡ 1
    single = one_value s (by (waits_at program steps next held along low more))
      where
        by : TakesAt program steps → 1 ≤ length (step_equation s).given
        by (equation, at, some) = subst (λ (e : model). 1 ≤ length e.given) (some_same equation (step_equation s) (slice_get program.steps steps) at stands) some

-- before all steps nothing is taken
pub none_taken : (steps : List model) (k : ℕ) → k ≡ 0 → length (values_taken (take k steps)) ≡ 0
none_taken steps k none = ap (λ n. length (values_taken (take n steps))) none ∙ nothing steps
  where
    nothing : (steps : List model) → length (values_taken (take 0 steps)) ≡ 0
    nothing [] = refl
    nothing (step ∷ steps) = refl

-- after the last product an opened wire is live, and has a slot
pub opened_after : (program : Program) (plan : Plan) (is : IsPlanOf program plan) (steps met o slot : ℕ) → IsSmallProgram program → IsAlong program steps (unchecked program + met)
    → length program.products ≤ met → o < length program.opened → slot ≡ slice_index plan.opened o
    → (slot ≡ slice_index is.places (slice_index program.opened o)) × IsLive program steps (slice_index program.opened o) × (slot < plan.slots)
opened_after program plan is steps met o slot held along done below same =
    (place, live, subst (λ n. n < plan.slots) (sym place) (is.within steps (slice_index program.opened o) along.upto live))
  where
    place : slot ≡ slice_index is.places (slice_index program.opened o)
    place = same ∙ ap (λ l. slice_index l o) is.opened ∙ get_or-map (slice_index is.places) program.opened o 0 0 below

    live : IsLive program steps (slice_index program.opened o)
    live = subst (λ n. IsLive program n (slice_index program.opened o)) (sym (at_end program steps (unchecked program + met) held along (omega (arith, done, held.counted))))
        (opened_live program o 0 held.formed below)
