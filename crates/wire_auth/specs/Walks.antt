-- Walks along a program's steps that hold the numbers of live wires alone, each in its slot.
use Rattle.std.specs.Prelude.{◌≡◌, ℕ, ◌+◌, ◌<◌, ◌≤◌, ◌⊎◌, List, length, map, take, slice_index, slice_get, Some, All}
use Rattle.zk_model.specs.Program.{Step as model, Program, MeetsStep}
use Rattle.zk_model.specs.Slots.{Plan, IsPlanOf, IsLive}
use Rattle.zk_model.specs.Mac.{Pair, macs_of, corrected_keys}
use Rattle.field_program.specs.Programs.{values_taken}
use Rattle.field_program.specs.declared.plan.StepSlots.{StepSlots}
use Rattle.field_program.specs.declared.step.Step.{Step}
use Rattle.field_program.specs.declared.step.Step.TheVariants as step
use Rattle.wire_auth.specs.Sides.{ProverSide, VerifierSide, pairs_from}
use Rattle.wire_auth.specs.Values.{wires_made, given_from, numbers_carried}

-- ---- what slots have

-- the parts of what a slot has: of a pair its value and its MAC; one number is both of its parts
pub data Part : Type 0 where
  Value : Part
  Mac : Part

abbrev pub part_of_pair : Part → Pair → ℕ
part_of_pair Value = λ pair. pair.x
part_of_pair Mac = λ pair. pair.m

-- every wire that is live at a number of the steps has its number in the slot of its place
abbrev pub AreHeldAt : Program → List ℕ → ℕ → List ℕ → List ℕ → Type 0
AreHeldAt program places n wires slots = (wire : ℕ) → IsLive program n wire → slice_index slots (slice_index places wire) ≡ slice_index wires wire

-- the slots of a step are among so many
abbrev pub AreSlotsWithin : ℕ → StepSlots → Type 0
AreSlotsWithin slots at = (at.out < slots) × (at.a < slots) × (at.b < slots)

-- the wires that a step's equation reads have their numbers in these slots
abbrev pub AreReadIn : StepSlots → List ℕ → List ℕ → Step → Type 0
AreReadIn at slots wires (step.Const out value) = Unit {0}
AreReadIn at slots wires (step.Copy out a) = slice_index slots at.a ≡ slice_index wires a
AreReadIn at slots wires (step.Not out a) = slice_index slots at.a ≡ slice_index wires a
AreReadIn at slots wires (step.Add out a b) = (slice_index slots at.a ≡ slice_index wires a) × (slice_index slots at.b ≡ slice_index wires b)
AreReadIn at slots wires (step.Mul out a b product) = Unit {0}
AreReadIn at slots wires (step.XorFrom out a b product) = (slice_index slots at.a ≡ slice_index wires a) × (slice_index slots at.b ≡ slice_index wires b)

-- this is the number of the given value that a step takes, if it takes one
abbrev pub IsTakenBy : List ℕ → model → ℕ → Type 0
IsTakenBy given equation taken = All (λ term. taken ≡ slice_index given term.place) equation.given

-- a step takes a given value
abbrev pub TakesAt : Program → ℕ → Type 0
TakesAt program k = (step : model) × (slice_get program.steps k ≡ Some step) × (1 ≤ length step.given)

-- A walk that has followed so many steps, where the value of the next product is the given value of this number: the bit checks come
-- before all steps, and then the walk waits at the step that takes the value of the next product, or is at the end.
pub record IsAlong (program : Program) (steps next : ℕ) : Type 0 where
  pub upto : steps ≤ length program.steps
  pub within : next ≤ program.givens
  pub checks : next < program.inputs → steps ≡ 0
  pub taken : program.inputs ≤ next → program.inputs + length (values_taken (take steps program.steps)) ≡ next
  pub waits : program.inputs ≤ next → (steps ≡ length program.steps) ⊎ TakesAt program steps

-- a walk whose slots have such, where the constant 1 is `one`
pub record Walking (N : Type 0) : Type 0 where
  pub program : Program
  pub plan : Plan
  pub one : N
  pub slots : List N
  pub steps : ℕ
  pub met : ℕ

-- of this part these are the numbers of all wires and of the given values that a walk meets: the equations hold, and it has those of
-- live wires
pub record Follows {N : Type 0} (part : N → ℕ) (walk : Walking N) (wires given : List ℕ) : Type 0 where
  pub equations : All (MeetsStep (part walk.one) wires given) walk.program.steps
  pub plan : IsPlanOf walk.program walk.plan
  pub held : AreHeldAt walk.program plan.places walk.steps wires (map part walk.slots)

-- ---- both ends

-- the pairs of a program's given values and of all wires that these public values, inputs and dealt pairs make
abbrev pub side_made : Program → List ℕ → List ℕ → List Pair → ProverSide
side_made program public inputs dealt = record {
  program = program;
  dealt = dealt;
  pairs = pairs_from program (wires_made program public inputs) dealt
      (numbers_carried 0 program public (take program.givens (macs_of dealt)));
}

-- the keys of a program's given values and of all wires that the keys of correlations and corrections make
abbrev pub keys_made : ℕ → Program → List ℕ → List ℕ → List ℕ → VerifierSide
keys_made key program public keys corrections = record {
  program = program;
  keys = record {
    given = corrected_keys key keys corrections;
    wires = numbers_carried key program public (corrected_keys key keys corrections);
  };
}

-- a prover's walk: the pairs that it gives, and how many products it has met
pub record ProverWalking : Type 0 where
  pub side : ProverSide
  pub met : ℕ

-- and a verifier's
pub record VerifierWalking : Type 0 where
  pub side : VerifierSide
  pub met : ℕ

-- a walk along a program over the values and the MACs of these pairs
pub record IsProverWalk (program : Program) (public inputs : List ℕ) (dealt : List Pair) (walk : Walking Pair) : Type 0 where
  pub along : walk.program ≡ program
  pub public_count : length public ≡ program.public
  pub input_count : length inputs ≡ program.inputs
  pub enough : program.givens ≤ length dealt
  pub of_values : Follows (part_of_pair Value) walk (wires_made program public inputs) (given_from program (wires_made program public inputs))
  pub of_macs : Follows (part_of_pair Mac) walk (numbers_carried 0 program public (take program.givens (macs_of dealt))) (take program.givens (macs_of dealt))

-- a walk along a program over the keys that these make
pub record IsVerifierWalk (program : Program) (key : ℕ) (public keys corrections : List ℕ) (walk : Walking ℕ) : Type 0 where
  pub along : walk.program ≡ program
  pub public_count : length public ≡ program.public
  pub enough : program.givens ≤ length keys
  pub one_each : length corrections ≡ program.givens
  pub of_keys : Follows (λ n. n) walk (numbers_carried key program public (corrected_keys key keys corrections)) (corrected_keys key keys corrections)
