-- Numbers of all wires that follow from the given values: the first wires, and then the wire of each step.
use Rattle.std.proofs.Common.{◌≡◌, ℕ, zero, suc, ◌+◌, ◌-◌, ◌<◌, ◌≤◌, List, [], ◌++◌, map, take, drop, length, replicate, set, sym, ◌∙◌, ap, subst, arith, length-append, length-set}
use Rattle.std.specs.Prelude.{Some, get_or, slice_get}
use Rattle.std.proofs.Math.ListN.{length-take}
use Rattle.std.proofs.Math.Seq.{take-append_seam, drop-append_seam, take-append-add}
use Rattle.std.proofs.lemmas.List.{length-map, length-replicate, take-take, drop-take}
use Rattle.std.proofs.lemmas.Option.{slice_get-get_or}
use Rattle.zk_model.specs.Field.{◌*ₚ◌}
use Rattle.zk_model.specs.Program.{Step, Program, IsProgram, step_value}
use Rattle.zk_laws.specs.Sessions.{WiresFollow}
use Rattle.circuit_laws.proofs.Programs.{AreMet, met_more, first_kept}

-- ---- the first wires

-- the public values times `one`
abbrev constants_of : ℕ → List ℕ → List ℕ
constants_of one public = map (λ value. value *ₚ one) public

-- the public values, then the first given ones, and 0 for every other wire
abbrev first_wires : ℕ → Program → List ℕ → List ℕ → List ℕ
first_wires one program public given =
    constants_of one public ++ (take program.inputs given ++ replicate (program.wires - (program.public + program.inputs)) 0)

-- ---- step by step

-- numbers of all wires that begin with those of the public wires and of the inputs, and meet the first n steps
record AreSet (one : ℕ) (program : Program) (public given : List ℕ) (n : ℕ) : Type 0 where
  wires : List ℕ
  whole : length wires ≡ program.wires
  first : take (program.public + program.inputs) wires ≡ constants_of one public ++ take program.inputs given
  met : AreMet one program given wires n

-- before the first step
at_first : (one : ℕ) (program : Program) (public given : List ℕ) → IsProgram program → length public ≡ program.public
    → length given ≡ program.givens → AreSet one program public given 0
at_first one program public given formed named valued = record {
  wires = first_wires one program public given;
  whole =
      let whole = length-append (constants_of one public) (inputs ++ zeros) in
      let rest = length-append inputs zeros in
      let filled = length-replicate {A = ℕ} (program.wires - (program.public + program.inputs)) 0 in
      omega (arith, whole, rest, filled, publics, few, formed.first);
  first =
      let bound : program.public + program.inputs ≡ length (constants_of one public) + program.inputs = omega (arith, publics) in
      ap (λ n. take n (first_wires one program public given)) bound
      ∙ take-append-add (constants_of one public) (inputs ++ zeros) program.inputs
      ∙ ap (λ l. constants_of one public ++ l) (ap (λ n. take n (inputs ++ zeros)) (sym few) ∙ take-append_seam inputs zeros);
  met = λ k step below at. absurd (omega (arith, below));
}
  where
    inputs : List ℕ
    inputs = take program.inputs given

    zeros : List ℕ
    zeros = replicate (program.wires - (program.public + program.inputs)) 0

    publics : length (constants_of one public) ≡ program.public
    publics = length-map public (λ value. value *ₚ one) ∙ named

    few : length (take program.inputs given) ≡ program.inputs
    few = let taken = length-take program.inputs given in omega (arith, taken, valued, formed.inputs)

-- after one step more
one_more : (one : ℕ) (program : Program) (public given : List ℕ) (n : ℕ) (step : Step) → IsProgram program
    → slice_get program.steps n ≡ Some step → AreSet one program public given n → AreSet one program public given (n + 1)
one_more one program public given n step formed at before =
    let number = step_value one before.wires given step in
    record {
      wires = set before.wires step.out number;
      whole = length-set before.wires step.out number ∙ before.whole;
      first = first_kept program before.wires n number step formed at ∙ before.first;
      met = met_more one program given before.wires n step formed before.whole at before.met;
    }

-- after the first n
after : (one : ℕ) (program : Program) (public given : List ℕ) (n : ℕ) → IsProgram program → length public ≡ program.public
    → length given ≡ program.givens → n ≤ length program.steps → AreSet one program public given n
after one program public given zero formed named valued within = at_first one program public given formed named valued
after one program public given (suc n) formed named valued within =
    let next : n + 1 ≡ suc n = omega arith in
    let inside : n < length program.steps = omega (arith, within) in
    let step = get_or program.steps n none in
    subst (AreSet one program public given) next
    (one_more one program public given n step formed (slice_get-get_or program.steps n none inside)
    (after one program public given n formed named valued (omega (arith, within))))
  where
    none : Step
    none = record { out = 0; wires = []; given = []; constant = 0 }

-- ---- all wires

pub wires_follow : WiresFollow
wires_follow one program public given formed named valued = (
  all.wires,
  record {
    whole = all.whole;
    constants =
        let most : program.public ≤ program.public + program.inputs = omega arith in
        sym (take-take program.public (program.public + program.inputs) all.wires most)
        ∙ ap (take program.public) all.first
        ∙ ap (λ n. take n (constants_of one public ++ take program.inputs given)) (sym publics)
        ∙ take-append_seam (constants_of one public) (take program.inputs given);
    inputs =
        sym (drop-take program.public program.inputs all.wires)
        ∙ ap (drop program.public) all.first
        ∙ ap (λ n. drop n (constants_of one public ++ take program.inputs given)) (sym publics)
        ∙ drop-append_seam (constants_of one public) (take program.inputs given);
    steps = λ n d below. all.met n (get_or program.steps n d) below (slice_get-get_or program.steps n d below);
  },
)
  where
    all : AreSet one program public given (length program.steps)
    all = after one program public given (length program.steps) formed named valued (omega arith)

    publics : length (constants_of one public) ≡ program.public
    publics = length-map public (λ value. value *ₚ one) ∙ named
