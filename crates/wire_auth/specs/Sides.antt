-- What either end holds of a program's wires.
use Rattle.std.specs.Prelude.{◌≡◌, ◌<◌, ℕ, List, length, map, zip, take, drop, slice_index}
use Rattle.zk_model.specs.Field.{◌*ₚ◌}
use Rattle.zk_model.specs.Mac.{Pair, macs_of}
use Rattle.zk_model.specs.Program.{Program}
use Rattle.zk_model.specs.Check.{WirePairs, WireKeys}
use Rattle.field_program.specs.declared.step.Step.{Step}
use Rattle.field_program.specs.declared.step.Step.TheVariants.{Const, Copy, Not, Add, Mul, XorFrom}
use Rattle.wire_auth.specs.Values.{given_from}

-- a program with the pairs that were dealt, and those of its given values and of all its wires
pub record ProverSide : Type 0 where
  pub program : Program
  pub dealt : List Pair
  pub pairs : WirePairs

-- a program with keys of its given values and of all its wires
pub record VerifierSide : Type 0 where
  pub program : Program
  pub keys : WireKeys

-- values and MACs, one by one
abbrev pub joined : List ℕ → List ℕ → List Pair
joined values macs = map (λ q. record { x = q.0; m = q.1 }) (zip values macs)

-- the pairs of a program's given values and of its wires, where these are the values of all wires, the pairs that were dealt
-- and the MACs of all wires: a given value has the MAC of the dealt pair
abbrev pub pairs_from : Program → List ℕ → List Pair → List ℕ → WirePairs
pairs_from program values dealt macs = record {
  given = joined (given_from program values) (macs_of dealt);
  wires = joined values macs;
}

-- the wires that a step reads and sets are there
abbrev pub ReadsWithin : ℕ → Step → Type 0
ReadsWithin wires (Const out value) = out < wires
ReadsWithin wires (Copy out a) = (out < wires) × (a < wires)
ReadsWithin wires (Not out a) = (out < wires) × (a < wires)
ReadsWithin wires (Add out a b) = (out < wires) × (a < wires) × (b < wires)
ReadsWithin wires (Mul out a b product) = out < wires
ReadsWithin wires (XorFrom out a b product) = (out < wires) × (a < wires) × (b < wires)

-- so is the given value that it takes
abbrev pub TakesWithin : ℕ → Step → Type 0
TakesWithin given (Mul out a b product) = product < given
TakesWithin given (XorFrom out a b product) = product < given
TakesWithin given step = Unit {0}

-- this is the number of the given value that a step takes
abbrev pub IsGivenTaken : List ℕ → Step → ℕ → Type 0
IsGivenTaken given (Mul out a b product) taken = taken ≡ slice_index given product
IsGivenTaken given (XorFrom out a b product) taken = taken ≡ slice_index given product
IsGivenTaken given step taken = Unit {0}

-- one number for each wire: the public values times `one`, and then the first given values
pub record AreFirstWires (one : ℕ) (program : Program) (public given wires : List ℕ) : Type 0 where
  pub whole : length wires ≡ program.wires
  pub constants : take program.public wires ≡ map (λ value. value *ₚ one) public
  pub inputs : take program.inputs (drop program.public wires) ≡ take program.inputs given
