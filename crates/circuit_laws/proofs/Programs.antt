-- Steps of a program, one after another: which wires they set, and that setting them in order meets them all.
use Rattle.std.proofs.Common.{◌≡◌, ◌≢◌, ℕ, ◌+◌, ◌*◌, ◌%◌, ◌<◌, ◌≤◌, List, [], ◌∷◌, length, take, get_or, set, refl, sym, ap, ◌∙◌, arith, subst, inl, inr, get_or-set_same, get_or-set_other}
use Rattle.std.specs.Prelude.{Some, All, slice_get, slice_index}
use Rattle.std.proofs.Math.Nat.{eq-or-lt_of_le}
use Rattle.std.proofs.lemmas.List.{take-set-le}
use Rattle.std.proofs.lemmas.List.Sums.{sum_by-cons}
use Rattle.std.proofs.lemmas.List.Elements.{All-tail}
use Rattle.zk_model.specs.Field.{prime}
use Rattle.zk_model.proofs.SetWires.{set_later, sets_own}
use Rattle.zk_model.specs.Program.{Term, Step, Program, IsSet, IsProgram, weighted, step_value, MeetsStep}

-- ---- what a step makes of its wires

-- lists that agree at the places of terms have the same sums of them
pub weighted_same : (some others : List ℕ) (terms : List Term) → All (λ term. slice_index some term.place ≡ slice_index others term.place) terms
    → weighted some terms ≡ weighted others terms
weighted_same some others [] agree = refl
weighted_same some others (term ∷ terms) agree =
    sum_by-cons (λ (t : Term). t.factor * slice_index some t.place) term terms
    ∙ (λ i. term.factor * agree 0 term (omega arith) i + weighted_same some others terms (All-tail (λ term. slice_index some term.place ≡ slice_index others term.place) term terms agree) i)
    ∙ sym (sum_by-cons (λ (t : Term). t.factor * slice_index others t.place) term terms)

-- lists that agree on the wires that a step reads get the same number for its wire
pub same_value : (one : ℕ) (some others given : List ℕ) (step : Step) → All (λ term. slice_index some term.place ≡ slice_index others term.place) step.wires
    → step_value one some given step ≡ step_value one others given step
same_value one some others given step agree = ap (λ sum. (sum + weighted given step.given + step.constant * one) % prime) (weighted_same some others step.wires agree)

-- ---- setting wires in order

-- numbers of all wires that meet the first n steps
abbrev pub AreMet : ℕ → Program → List ℕ → List ℕ → ℕ → Type 0
AreMet one program given wires n = (k : ℕ) (step : Step) → k < n → slice_get program.steps k ≡ Some step → MeetsStep one wires given step

-- a number that is set leaves the others
other_number : (wires : List ℕ) (wire other n : ℕ) → other ≢ wire → slice_index (set wires wire n) other ≡ slice_index wires other
other_number wires wire other n apart = get_or-set_other wires wire other n 0 apart

-- the wires that step k reads are not the one that a later step, or it itself, sets
reads_apart : (program : Program) (k n : ℕ) (step later : Step) → IsProgram program → k ≤ n
    → slice_get program.steps k ≡ Some step → slice_get program.steps n ≡ Some later
    → All (λ term. term.place ≢ later.out) step.wires
reads_apart program k n step later formed before at is i d below same =
    (formed.steps n later is).once
    (subst (λ (wire : ℕ). IsSet program n wire) same
    (set_later program k n (get_or step.wires i d).place before ((formed.steps k step at).reads i d below)))

-- nor is the wire that an earlier step sets
sets_apart : (program : Program) (k n : ℕ) (step later : Step) → IsProgram program → k < n
    → slice_get program.steps k ≡ Some step → slice_get program.steps n ≡ Some later → step.out ≢ later.out
sets_apart program k n step later formed before at is same =
    (formed.steps n later is).once (subst (λ (wire : ℕ). IsSet program n wire) same (sets_own program k n step at before))

-- a step is met still after the wire of a later one is set
kept : (one : ℕ) (program : Program) (given wires : List ℕ) (k n : ℕ) (step later : Step) (number : ℕ) → IsProgram program → k < n
    → slice_get program.steps k ≡ Some step → slice_get program.steps n ≡ Some later
    → MeetsStep one wires given step → MeetsStep one (set wires later.out number) given step
kept one program given wires k n step later number formed before at is met =
    other_number wires later.out step.out number (sets_apart program k n step later formed before at is)
    ∙ met
    ∙ same_value one wires (set wires later.out number) given step
    (λ i d below. sym (other_number wires later.out (get_or step.wires i d).place number
    (reads_apart program k n step later formed (omega (arith, before)) at is i d below)))

-- and a step is met once its own wire is set
met_now : (one : ℕ) (program : Program) (given wires : List ℕ) (n : ℕ) (step : Step) → IsProgram program → length wires ≡ program.wires
    → slice_get program.steps n ≡ Some step → MeetsStep one (set wires step.out (step_value one wires given step)) given step
met_now one program given wires n step formed whole at =
    let below : step.out < length wires = let w = (formed.steps n step at).within in omega (arith, w, whole) in
    get_or-set_same wires step.out (step_value one wires given step) 0 below
    ∙ same_value one wires (set wires step.out (step_value one wires given step)) given step
    (λ i d less. sym (other_number wires step.out (get_or step.wires i d).place (step_value one wires given step)
    (reads_apart program n n step step formed (omega arith) at at i d less)))

-- one step more
pub met_more : (one : ℕ) (program : Program) (given wires : List ℕ) (n : ℕ) (step : Step) → IsProgram program → length wires ≡ program.wires
    → slice_get program.steps n ≡ Some step → AreMet one program given wires n
    → AreMet one program given (set wires step.out (step_value one wires given step)) (n + 1)
met_more one program given wires n step formed whole is far k other below at = elim (eq-or-lt_of_le (within_more k n below)) [
  | inl same ↦
      let there : slice_get program.steps n ≡ Some other = subst (λ (i : ℕ). slice_get program.steps i ≡ Some other) same at in
      let one_step : step ≡ other = cc in
      subst (λ (s : Step). MeetsStep one (set wires step.out (step_value one wires given step)) given s) one_step (met_now one program given wires n step formed whole is)
  | inr before ↦ kept one program given wires k n other step (step_value one wires given step) formed before at is (far k other before at)
]
  where
    within_more : (k n : ℕ) → k < n + 1 → k ≤ n
    within_more k n less = omega arith

-- the first wires stay
pub first_kept : {A : Type 0} (program : Program) (wires : List A) (n : ℕ) (item : A) (step : Step) → IsProgram program
    → slice_get program.steps n ≡ Some step
    → take (program.public + program.inputs) (set wires step.out item) ≡ take (program.public + program.inputs) wires
first_kept program wires n item step formed is =
    take-set-le (program.public + program.inputs) wires step.out item (not_below (λ less. (formed.steps n step is).once (inl less)))
  where
    not_below : {a b : ℕ} → ¬ (a < b) → b ≤ a
    not_below h = omega (arith, h)
