-- What the tokens of a gate say, where flags say which wires are set.
use Rattle.std.specs.Prelude.{◌≡◌, ℕ, ◌+◌, ◌<◌, ◌≤◌, ◌==◌, ◌⊎◌, Bool, true, false, if◌then◌else◌, List, [], ◌∷◌, ◌++◌, length, nat_le, slice_index_or, All, Result, Ok, Err}
use Rattle.zk_model.specs.Bristol.{Lexeme, number, gate_lexemes}
use Rattle.zk_model.specs.Circuit.{Circuit, wire_set, wires_read}
use Rattle.bristol_reader.specs.TextFaults.{GateWants, IsSetSoFar, Said, IsSaid, said_lexemes, IsInputFault, IsOutputFault}
use Rattle.zk_model.specs.declared.GateRow.{GateRow}
use Rattle.zk_model.specs.declared.GateRow.TheVariants as row
use Rattle.zk_model.specs.declared.ReadFault.{ReadFault}
use Rattle.zk_model.specs.declared.ReadFault.TheVariants.{WireRange, ReadBeforeSet, SetTwice, BadConstant}
use Rattle.bristol_reader.specs.declared.wants.BinaryGate.{BinaryGate}
use Rattle.bristol_reader.specs.declared.wants.BinaryGate.TheVariants as pair
use Rattle.bristol_reader.specs.declared.wants.UnaryGate.{UnaryGate}
use Rattle.bristol_reader.specs.declared.wants.UnaryGate.TheVariants as single
use Rattle.bristol_reader.specs.declared.wants.Placed.{Placed}
use Rattle.zk_model.specs.ArithFaults.{Place}
use Rattle.text_tokens.specs.Words.{Takes}
use Rattle.bristol_reader.specs.Wants.{IsFaultBehind, IsPlaced, pair_text, single_text}

-- ---- flags

-- by its flag, a wire is set
abbrev pub flag_of : List Bool → ℕ → Bool
flag_of flags wire = slice_index_or flags wire false

-- by their flags, all wires below a mark are set
abbrev pub AreSetBelow : List Bool → ℕ → Type 0
AreSetBelow flags mark = (wire : ℕ) → wire < mark → flag_of flags wire ≡ true

-- the flags say which wires are set so far
pub record AreFlags (flags : List Bool) (begun : Circuit) : Type 0 where
  pub whole : length flags ≡ begun.wires
  pub set : (wire : ℕ) → flag_of flags wire ≡ true → IsSetSoFar begun wire
  pub unset : (wire : ℕ) → flag_of flags wire ≡ false → ¬ IsSetSoFar begun wire

-- by the flags, the wires that a gate reads are set, and the one that it sets is not
pub record FitsFlags (flags : List Bool) (gate : GateRow) : Type 0 where
  pub reads : All (λ wire. flag_of flags wire ≡ true) (wires_read gate)
  pub within : wire_set gate < length flags
  pub once : flag_of flags (wire_set gate) ≡ false

-- ---- one wire

-- a wire that is set
abbrev pub IsSetWire : List Bool → Placed → ℕ → Type 0
IsSetWire flags placed wire = (wire ≡ placed.number) × (flag_of flags wire ≡ true)

-- the fault of a wire that is read, and beyond the circuit's or not set
abbrev pub unset_fault : Bool → ℕ → ReadFault
unset_fault is_beyond token = if is_beyond then WireRange token else ReadBeforeSet token

-- no wire that is set, and the fault
abbrev pub IsNoSetWire : List Bool → Placed → ReadFault → Type 0
IsNoSetWire flags placed fault =
    (flag_of flags placed.number ≡ false)
    × (fault ≡ unset_fault (nat_le (length flags) placed.number) placed.token)

-- a wire that is not set
pub record IsFreeWire (flags : List Bool) (placed : Placed) (wire : ℕ) : Type 0 where
  pub wire_is : wire ≡ placed.number
  pub within : wire < length flags
  pub off : flag_of flags wire ≡ false

-- no wire that is not set, and the fault
abbrev pub IsNoFreeWire : List Bool → Placed → ReadFault → Type 0
IsNoFreeWire flags placed fault =
    ((length flags ≤ placed.number) × (fault ≡ WireRange placed.token))
    ⊎ ((flag_of flags placed.number ≡ true) × (fault ≡ SetTwice placed.token))

-- the one input of a gate of this name: a constant of EQ, or else a wire that is set
abbrev pub MayBeInput : List Bool → UnaryGate → Placed → Type 0
MayBeInput flags single.Inv placed = flag_of flags placed.number ≡ true
MayBeInput flags single.Eqw placed = flag_of flags placed.number ≡ true
MayBeInput flags single.Eq placed = placed.number ≤ 1

-- no such input, and the fault
abbrev pub MayNotBeInput : List Bool → UnaryGate → Placed → ReadFault → Type 0
MayNotBeInput flags single.Inv placed fault = IsNoSetWire flags placed fault
MayNotBeInput flags single.Eqw placed fault = IsNoSetWire flags placed fault
MayNotBeInput flags single.Eq placed fault = (1 < placed.number) × (fault ≡ BadConstant placed.token)

-- ---- one gate

-- the gate of a name
abbrev pub pair_gate : BinaryGate → ℕ → ℕ → ℕ → GateRow
pair_gate pair.And a b out = row.And a b out
pair_gate pair.Xor a b out = row.Xor a b out

abbrev pub single_gate : UnaryGate → ℕ → ℕ → GateRow
single_gate single.Inv input out = row.Inv input out
single_gate single.Eqw input out = row.Eqw input out
single_gate single.Eq input out = row.Eq (input == 1) out

-- a gate's wires or its constant are wrong first in this way, whichever circuit has these flags
abbrev pub IsWrong : List Bool → Said → ℕ → ReadFault → Type 0
IsWrong flags said token fault =
    (begun : Circuit) → AreFlags flags begun
    → IsInputFault begun said token fault ⊎ IsOutputFault begun said token fault

-- the same of a gate with two inputs, whose first token has this number
abbrev pub IsWrongPair : List Bool → BinaryGate → Placed → Placed → Placed → ReadFault → Type 0
IsWrongPair flags name a b out fault =
    (token x y z : ℕ) → IsPlaced a x (token + 2) → IsPlaced b y (token + 3)
    → IsPlaced out z (token + 4)
    → IsWrong flags (record { reads = x ∷ y ∷ []; sets = z; text = pair_text name }) token fault

-- the same of a gate with one input
abbrev pub IsWrongSingle : List Bool → UnaryGate → Placed → Placed → ReadFault → Type 0
IsWrongSingle flags name a out fault =
    (token x z : ℕ) → IsPlaced a x (token + 2) → IsPlaced out z (token + 3)
    → IsWrong flags (record { reads = x ∷ []; sets = z; text = single_text name }) token fault

-- the tokens of a gate are right, and its wires or its constant are not
pub record IsWireFaultBy (flags : List Bool) (before : Place) (fault : ReadFault) : Type 0 where
  pub said : Said
  pub is_said : IsSaid said
  pub behind : List Lexeme
  pub left : before.left ≡ said_lexemes said ++ behind
  pub wrong : IsWrong flags said before.taken fault

-- the first fault of a gate
abbrev pub IsGateFault : List Bool → Place → ReadFault → Type 0
IsGateFault flags before fault = IsFaultBehind GateWants before fault ⊎ IsWireFaultBy flags before fault

-- what was read of a gate: its tokens up to another place, or its first fault
abbrev pub IsRead : List Bool → Place → Place → Result GateRow ReadFault → Type 0
IsRead flags before after (Ok gate) = Takes (gate_lexemes gate) before after × FitsFlags flags gate
IsRead flags before after (Err fault) = IsGateFault flags before fault

-- after a gate's numbers of inputs and of outputs, this holds where they begin
abbrev pub BehindNumbers : ℕ → Place → (Place → Type 0) → Type 0
BehindNumbers inputs before P =
    (start : Place) → Takes (number inputs ∷ number 1 ∷ []) start before → P start

-- those numbers and then the tokens up to another place are a gate's
abbrev pub IsGateBehind : ℕ → Place → Place → GateRow → Type 0
IsGateBehind inputs before after gate =
    BehindNumbers inputs before (λ start. Takes (gate_lexemes gate) start after)

-- those numbers and then the tokens that begin here are a gate's, and this is its first fault
abbrev pub IsFaultIn : ℕ → List Bool → Place → ReadFault → Type 0
IsFaultIn inputs flags before fault = BehindNumbers inputs before (λ start. IsGateFault flags start fault)
