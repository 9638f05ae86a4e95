-- Setting the wires of a program, step by step.
use Rattle.std.proofs.Common.{◌≡◌, ℕ, zero, suc, ◌+◌, ◌<◌, ◌≤◌, List, [], ◌∷◌, ◌++◌, map, length, take, drop, get_or, set, refl, sym, ap, ◌∙◌, arith, subst, length-set, append_assoc, length-append}
use Rattle.std.proofs.Math.Seq.{take-nil, take-append_seam}
use Rattle.std.specs.Prelude.{Some, slice_get, All}
use Rattle.std.proofs.lemmas.List.{length-map, drop-take, drop_at, take_all}
use Rattle.std.proofs.lemmas.Option.{slice_get-get_or}
use Rattle.zk_model.specs.Program as model
use Rattle.zk_model.specs.Program.{Program, IsProgram, IsStep, MeetsStep, step_value, Carries}
use Rattle.zk_model.specs.Boolean.{once, less_once, less_twice}
use Rattle.circuit_laws.proofs.Programs.{AreMet, met_more, first_kept}
use Rattle.zk_model.proofs.SetWires.{set_below}
use Rattle.field_program.specs.declared.step.Step.{Step}
use Rattle.field_program.specs.declared.step.Step.TheVariants.{Const, Copy, Not, Add, Mul, XorFrom}
use Rattle.field_program.specs.Steps.{step_equation}
use Rattle.wire_auth.specs.Sides.{ReadsWithin, TakesWithin, AreFirstWires}
use Rattle.zk_model.specs.Field.{◌*ₚ◌}

-- the wires that step n reads and sets are there
pub reads_within : (program : Program) (n wires : ℕ) (step : Step) → IsProgram program → slice_get program.steps n ≡ Some (step_equation step)
    → wires ≡ program.wires → ReadsWithin wires step
reads_within program n wires step formed at w = subst (λ (k : ℕ). ReadsWithin k step) (sym w) (reads step (formed.steps n (step_equation step) at))
  where
    reads : (step : Step) → IsStep program n (step_equation step) → ReadsWithin program.wires step
    reads (Const out value) is = is.within
    reads (Copy out a) is = (is.within, set_below program n a formed (is.reads 0 (once a) (omega arith)))
    reads (Not out a) is = (is.within, set_below program n a formed (is.reads 0 (less_once a) (omega arith)))
    reads (Add out a b) is = (
      is.within,
      set_below program n a formed (is.reads 0 (once a) (omega arith)),
      set_below program n b formed (is.reads 1 (once b) (omega arith)),
    )
    reads (Mul out a b c) is = is.within
    reads (XorFrom out a b c) is = (
      is.within,
      set_below program n a formed (is.reads 0 (once a) (omega arith)),
      set_below program n b formed (is.reads 1 (once b) (omega arith)),
    )

-- so is the given value that it takes
pub takes_within : (program : Program) (n given : ℕ) (step : Step) → IsProgram program → slice_get program.steps n ≡ Some (step_equation step)
    → program.givens ≤ given → TakesWithin given step
takes_within program n given step formed at enough = takes step (formed.steps n (step_equation step) at)
  where
    takes : (step : Step) → IsStep program n (step_equation step) → TakesWithin given step
    takes (Const out value) is = tt
    takes (Copy out a) is = tt
    takes (Not out a) is = tt
    takes (Add out a b) is = tt
    takes (Mul out a b c) is = omega (arith, enough, is.takes 0 (once c) (omega arith))
    takes (XorFrom out a b c) is = omega (arith, enough, is.takes 0 (less_twice c) (omega arith))

-- its wire is there
pub out_within : (program : Program) (n wires out : ℕ) (step : Step) → IsProgram program → slice_get program.steps n ≡ Some (step_equation step)
    → wires ≡ program.wires → out ≡ (step_equation step).out → out < wires
out_within program n wires out step formed at w o =
    let within = (formed.steps n (step_equation step) at).within in omega (arith, within, w, o)

-- ---- step by step

-- numbers of all wires, of which the first are as they were, that meet the first n steps
pub record AreSoFar (program : Program) (one : ℕ) (given initial wires : List ℕ) (n : ℕ) : Type 0 where
  pub whole : length wires ≡ program.wires
  pub first : take (program.public + program.inputs) wires ≡ take (program.public + program.inputs) initial
  pub met : AreMet one program given wires n

pub one_more : (program : Program) (one : ℕ) (given initial wires now : List ℕ) (n out number : ℕ) (equation : model.Step) → IsProgram program
    → slice_get program.steps n ≡ Some equation
    → out ≡ equation.out → number ≡ step_value one wires given equation → now ≡ set wires out number
    → AreSoFar program one given initial wires n → AreSoFar program one given initial now (n + 1)
one_more program one given initial wires now n out number equation formed at o k sets far =
    let same : now ≡ set wires equation.out (step_value one wires given equation) = sets ∙ (λ i. set wires (o i) (k i)) in
    subst (λ (l : List ℕ). AreSoFar program one given initial l (n + 1)) (sym same) (record {
      whole = length-set wires equation.out (step_value one wires given equation) ∙ far.whole;
      first = first_kept program wires n (step_value one wires given equation) equation formed at ∙ far.first;
      met = met_more one program given wires n equation formed far.whole at far.met;
    })

-- all steps are met in the end
pub all_met : (program : Program) (one : ℕ) (given wires : List ℕ) (n : ℕ) → n ≡ length program.steps
    → AreMet one program given wires n → All (MeetsStep one wires given) program.steps
all_met program one given wires n end met k d below =
    met k (get_or program.steps k d) (omega (arith, end, below)) (slice_get-get_or program.steps k d below)

-- ---- the first wires

-- the first of the first
take_first : {A : Type 0} (p i : ℕ) (l : List A) → take p l ≡ take p (take (p + i) l)
take_first zero i l = refl
take_first (suc p) i [] = ap (take (suc p)) (sym (take-nil (suc p + i)))
take_first (suc p) i (x ∷ l) =
    let count : suc p + i ≡ suc (p + i) = omega arith in
    ap (λ xs. x ∷ xs) (take_first p i l) ∙ ap (λ n. take (suc p) (take n (x ∷ l))) (sym count)

-- what began still begins so
pub still_begun : (one : ℕ) (program : Program) (public given initial now : List ℕ) → AreFirstWires one program public given initial
    → length now ≡ program.wires → take (program.public + program.inputs) now ≡ take (program.public + program.inputs) initial
    → AreFirstWires one program public given now
still_begun one program public given initial now begun whole first = record {
  whole = whole;
  constants = take_first program.public program.inputs now ∙ ap (take program.public) first ∙ sym (take_first program.public program.inputs initial) ∙ begun.constants;
  inputs = sym (drop-take program.public program.inputs now) ∙ ap (drop program.public) first ∙ drop-take program.public program.inputs initial ∙ begun.inputs;
}

-- all wires follow in the end
pub all_follow : (program : Program) (one : ℕ) (public given initial wires : List ℕ) (n : ℕ)
    → n ≡ length program.steps → AreSoFar program one given initial wires n → AreFirstWires one program public given initial
    → Carries one program public given wires
all_follow program one public given initial wires n end far begun =
    let now = still_begun one program public given initial wires begun far.whole far.first in
    record {
      whole = now.whole;
      constants = now.constants;
      inputs = now.inputs;
      steps = all_met program one given wires n end far.met;
    }

-- ---- what begins the wires

-- public values, then inputs, then zeros
pub begin_filled : (one : ℕ) (program : Program) (public given inputs first wires rest : List ℕ) (n : ℕ) → length public ≡ program.public
    → length inputs ≡ program.inputs → take program.inputs given ≡ inputs → IsProgram program → n ≡ program.wires
    → first ≡ map (λ value. value *ₚ one) public ++ inputs → wires ≡ take n first ++ rest → length wires ≡ n
    → AreFirstWires one program public given wires
begin_filled one program public given inputs first wires rest n p few same formed w is filled whole =
    let front = map (λ value. value *ₚ one) public in
    let sized : length front ≡ program.public = length-map public (λ value. value *ₚ one) ∙ p in
    let counted : length first ≡ program.public + program.inputs =
    ap length is ∙ length-append front inputs ∙ (λ i. sized i + few i) in
    let short : length first ≤ n = omega (arith, counted, formed.first, w) in
    let all : wires ≡ front ++ (inputs ++ rest) =
    filled ∙ ap (λ l. l ++ rest) (take_all n first short ∙ is) ∙ append_assoc front inputs rest in
    record {
      whole = whole ∙ w;
      constants = ap (take program.public) all ∙ ap (λ n. take n (front ++ (inputs ++ rest))) (sym sized) ∙ take-append_seam front (inputs ++ rest);
      inputs = ap (λ l. take program.inputs (drop program.public l)) all
          ∙ ap (take program.inputs) (drop_at front (inputs ++ rest) program.public sized)
          ∙ ap (λ n. take n (inputs ++ rest)) (sym few)
          ∙ take-append_seam inputs rest ∙ sym same;
    }
