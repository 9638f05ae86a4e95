-- How many steps there are, and how many slots.
use Rattle.std.proofs.Common.{◌≡◌, ◌≢◌, ℕ, ◌+◌, ◌-◌, ◌<◌, ◌≤◌, ⊎_elim, inl, List, [], map, length, get_or, sym, ◌∙◌, subst, arith}
use Rattle.std.specs.Prelude.{Some, slice_get, slice_index, All, AllPairs}
use Rattle.std.proofs.lemmas.Bool.{cases_lt, eqb-true}
use Rattle.std.proofs.lemmas.Bool.Decides.{Decides-eqb}
use Rattle.std.proofs.lemmas.List.{length-map, get_or-map}
use Rattle.std.proofs.lemmas.List.Elements.{All-contains}
use Rattle.std.proofs.lemmas.Map.Made.{IsDistinct-from_AllPairs}
use Rattle.std.proofs.lemmas.Map.Steps.{length-le_from_distinct_below}
use Rattle.std.proofs.lemmas.Map.Views.{Contains-from_any}
use Rattle.std.proofs.lemmas.Option.{slice_get-get_or}
use Rattle.zk_model.specs.Program.{Step, Program, IsProgram, IsSet}
use Rattle.zk_model.proofs.SetWires.{sets_own}
use Rattle.zk_model.specs.Slots.{AreLive, Plan, IsPlanOf}
use Rattle.field_program.proofs.Live.{live_within}

-- numbers below n, no two of them the same, are at most n
few_below : (xs : List ℕ) (n : ℕ) → AllPairs (λ one other. one ≢ other) xs → All (λ x. x < n) xs → length xs ≤ n
few_below xs n once below = length-le_from_distinct_below xs n (IsDistinct-from_AllPairs Decides-eqb xs once)
    (λ q is. All-contains (λ x. x < n) xs q below (Contains-from_any eqb-true q xs is))

no_step : Step
no_step = record { out = 0; wires = []; given = []; constant = 0 }

-- each step sets a wire of its own, behind the first ones
pub few_behind_first : (program : Program) → IsProgram program → program.public + program.inputs + length program.steps ≤ program.wires
few_behind_first program formed =
    let few = few_below outs (program.wires - first) apart within in
    let counted = length-map program.steps out_of in
    omega (arith, few, counted, formed.first)
  where
    first : ℕ
    first = program.public + program.inputs

    out_of : Step → ℕ
    out_of step = step.out - first

    outs : List ℕ
    outs = map out_of program.steps

    step_at : ℕ → Step
    step_at i = get_or program.steps i no_step

    inside : (i : ℕ) → i < length outs → i < length program.steps
    inside i below = let counted = length-map program.steps out_of in omega (arith, below, counted)

    stands : (i : ℕ) → i < length outs → slice_get program.steps i ≡ Some (step_at i)
    stands i below = slice_get-get_or program.steps i no_step (inside i below)

    at : (i d : ℕ) → i < length outs → get_or outs i d ≡ (step_at i).out - first
    at i d below = get_or-map out_of program.steps i no_step d (inside i below)

    behind : (i : ℕ) → i < length outs → first ≤ (step_at i).out
    behind i below = ⊎_elim (λ early. absurd ((formed.steps i (step_at i) (stands i below)).once (inl early))) (λ late. late) (cases_lt (step_at i).out first)

    within : All (λ x. x < program.wires - first) outs
    within i d below =
        let inside = (formed.steps i (step_at i) (stands i below)).within in
        omega (arith, at i d below, behind i below, inside)

    apart : AllPairs (λ one other. one ≢ other) outs
    apart i j d before below same =
        let early : i < length outs = omega (arith, before, below) in
        let equal : (step_at i).out ≡ (step_at j).out =
        omega (arith, at i d early, same, at j d below, behind i early, behind j below) in
        (formed.steps j (step_at j) (stands j below)).once
        (subst (IsSet program j) equal (sets_own program i j (step_at i) (stands i early) before))

pub few_steps : (program : Program) → IsProgram program → length program.steps ≤ program.wires
few_steps program formed = omega (arith, few_behind_first program formed)

-- there are no more slots than wires
pub few_slots : (program : Program) (count : ℕ) → IsProgram program → (k : ℕ) × (wires : List ℕ) × AreLive program k wires × (length wires ≡ count)
    → count ≤ program.wires
few_slots program count formed (k, wires, live, is) =
    let few = few_below wires program.wires live.distinct (λ i d below. live_within program k (get_or wires i d) formed (live.live i d below)) in
    omega (arith, few, is)

-- wires that are live at once have slots of their own, so there are no more of them than slots
pub most_live : (program : Program) (plan : Plan) → IsPlanOf program plan → (n : ℕ) (wires : List ℕ) → AreLive program n wires → length wires ≤ plan.slots
most_live program plan is n wires live = let few = few_below places plan.slots apart within in let counted = length-map wires (slice_index is.places) in omega (arith, few, counted)
  where
    places : List ℕ
    places = map (slice_index is.places) wires

    inside : (i : ℕ) → i < length places → i < length wires
    inside i below = let counted = length-map wires (slice_index is.places) in omega (arith, below, counted)

    at : (i d : ℕ) → i < length places → get_or places i d ≡ slice_index is.places (get_or wires i 0)
    at i d below = get_or-map (slice_index is.places) wires i 0 d (inside i below)

    within : All (λ x. x < plan.slots) places
    within i d below = subst (λ x. x < plan.slots) (sym (at i d below)) (is.within n (get_or wires i 0) live.within (live.live i 0 (inside i below)))

    apart : AllPairs (λ one other. one ≢ other) places
    apart i j d before below same =
        let first : i < length places = omega (arith, before, below) in
        live.distinct i j 0 before (inside j below)
        (is.apart n (get_or wires i 0) (get_or wires j 0) live.within (live.live i 0 (inside i first)) (live.live j 0 (inside j below))
        (sym (at i d first) ∙ same ∙ at j d below))
