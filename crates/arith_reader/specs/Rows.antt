-- What is read of a gate, of the header and of all gates.
use Rattle.std.specs.Prelude.{◌≡◌, ℕ, ◌<◌, ◌≤◌, Bool, false, true, List, length, set, Ok, Err}
use Rattle.zk_model.specs.declared.ReadFault.{ReadFault}
use Rattle.zk_model.specs.declared.limits.TheConstants.{MAX_GATES, MAX_WIRES}
use Rattle.zk_model.specs.Arithmetic.{Arith}
use Rattle.zk_model.specs.ArithFaults.{Counts, Place, counts_at, empty_of, pair_behind, row_at, row_behind, rows_at}
use Rattle.zk_model.specs.declared.ArithName.{ArithName}
use Rattle.zk_model.specs.declared.ArithRow.{ArithRow}
use Rattle.zk_model.specs.declared.ArithRow.TheVariants.{Add, Mul, Const, Assert}
use Rattle.arith_reader.specs.declared.gate.ThreeWires.{ThreeWires}
use Rattle.arith_reader.specs.declared.header.Header.{Header}
use Rattle.arith_reader.specs.declared.fault.ReadError.{ReadError}
use Rattle.arith_reader.specs.declared.fault.ReadError.TheVariants.{Fault, NoMemory}
use Rattle.arith_reader.specs.Wants.{OfBegun, flag_of}
use Rattle.arith_reader.specs.Circuits.{circuit_of}

-- ---- a gate

-- the three wires of a gate that reads two, whichever it is
abbrev pub GivesPair : List Bool → Place → Place → ThreeWires → Type 0
GivesPair flags before after wires =
    OfBegun flags (λ begun. (row : ℕ → ℕ → ℕ → ArithRow)
    → pair_behind row begun before ≡ Ok (record { item = row wires.a wires.b wires.out; place = after }))

abbrev pub RefusesPair : List Bool → Place → ReadFault → Type 0
RefusesPair flags before fault =
    OfBegun flags (λ begun. (row : ℕ → ℕ → ℕ → ArithRow) → pair_behind row begun before ≡ Err fault)

abbrev pub GivesBehind : ArithName → List Bool → Place → Place → ArithRow → Type 0
GivesBehind of flags before after row =
    OfBegun flags (λ begun. row_behind begun of before ≡ Ok (record { item = row; place = after }))

abbrev pub RefusesBehind : ArithName → List Bool → Place → ReadFault → Type 0
RefusesBehind of flags before fault = OfBegun flags (λ begun. row_behind begun of before ≡ Err fault)

abbrev pub GivesRow : List Bool → Place → Place → ArithRow → Type 0
GivesRow flags before after row = OfBegun flags (λ begun. row_at begun before ≡ Ok (record { item = row; place = after }))

abbrev pub RefusesRow : List Bool → Place → ReadFault → Type 0
RefusesRow flags before fault = OfBegun flags (λ begun. row_at begun before ≡ Err fault)

-- the wire that a gate sets is one of so many
abbrev pub IsWithin : ℕ → ArithRow → Type 0
IsWithin wires (Add a b out) = out < wires
IsWithin wires (Mul a b out) = out < wires
IsWithin wires (Const value out) = out < wires
IsWithin wires (Assert a) = Unit {0}

-- the flags after a gate
abbrev pub flags_after : List Bool → ArithRow → List Bool
flags_after flags (Add a b out) = set flags out true
flags_after flags (Mul a b out) = set flags out true
flags_after flags (Const value out) = set flags out true
flags_after flags (Assert a) = flags

-- ---- the header

abbrev pub counts_of : Header → Counts
counts_of header = record { gates = header.gates; wires = header.wires; inputs = header.inputs; outputs = header.outputs }

abbrev pub GivesCounts : Place → Place → Header → Type 0
GivesCounts before after header = counts_at before ≡ Ok (record { item = counts_of header; place = after })

abbrev pub RefusesCounts : Place → ReadFault → Type 0
RefusesCounts before fault = counts_at before ≡ Err fault

-- within the limits
pub record IsHeader (header : Header) : Type 0 where
  pub gates : header.gates ≤ MAX_GATES
  pub wires : header.wires ≤ MAX_WIRES
  pub inputs : header.inputs ≤ header.wires
  pub outputs : header.outputs ≤ header.wires

-- the circuit of this header and gates
abbrev pub circuit_with : Header → List ArithRow → Arith
circuit_with header rows = circuit_of header.wires header.inputs header.outputs rows

-- ---- all gates

abbrev pub GivesRows : Header → Place → List ArithRow → Type 0
GivesRows header before rows = rows_at header.gates (empty_of (counts_of header)) before ≡ Ok (circuit_with header rows)

abbrev pub RowsCause : Header → Place → ReadError → Type 0
RowsCause header before (Fault fault) = rows_at header.gates (empty_of (counts_of header)) before ≡ Err fault
RowsCause header before NoMemory = Unit {0}

-- ---- flags

-- only the inputs are set
pub record AreFirstFlags (flags : List Bool) (wires inputs : ℕ) : Type 0 where
  pub whole : length flags ≡ wires
  pub set : (wire : ℕ) → wire < inputs → flag_of flags wire ≡ true
  pub unset : (wire : ℕ) → inputs ≤ wire → flag_of flags wire ≡ false

-- by the flags, this is the first wire from one on that is not set
pub record IsFirstUnset (flags : List Bool) (from wire : ℕ) : Type 0 where
  pub behind : from ≤ wire
  pub within : wire < length flags
  pub unset : flag_of flags wire ≡ false
  pub before : (other : ℕ) → from ≤ other → other < wire → flag_of flags other ≡ true

-- by the flags, all wires from one on are set
abbrev pub AreSetFrom : List Bool → ℕ → Type 0
AreSetFrom flags from = (wire : ℕ) → from ≤ wire → wire < length flags → flag_of flags wire ≡ true
