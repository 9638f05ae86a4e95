-- Which fault of a circuit's text comes first: that of the first token that is not what is wanted there, gate by gate, in
-- each gate before those of its wires; then that of an output that is not set.
use Rattle.std.specs.Prelude.{◌≡◌, ◌⊎◌, ℕ, ◌+◌, ◌-◌, ◌<◌, ◌≤◌, ◌==◌, ◌||◌, nat_le, Bool, true, false, if◌then◌else◌, Option, None, Some, List, [], ◌∷◌, ◌++◌, map, flat_map, length, take, slice_get, sum, codes, All}
use Rattle.std.specs.Str.{bytes_eq}
use Rattle.zk_model.specs.Circuit.{Circuit, IsSet, IsWellFormed, output_wire}
use Rattle.zk_model.specs.Bristol.{Lexeme, number, name, lexemes, gate_lexemes, counted_lexemes, header_lexemes, Values, IsWithinLimits}
use Rattle.zk_model.specs.declared.ReadFault.{ReadFault}
use Rattle.zk_model.specs.declared.ReadFault.TheVariants.{ShortText, BadNumber, TooLarge, BadGate, BadConstant, WireRange, ReadBeforeSet, SetTwice, OutputUnset, ExtraText}
use Rattle.zk_model.specs.declared.limits.TheConstants.{MAX_GATES, MAX_VALUES, MAX_WIRES}

-- ---- one token

-- What is wanted of the next token: a number up to a limit, of gates, wires or values; a size of a value, for which so many
-- wires are left; a gate's number of inputs, 1 or 2, and of outputs, 1; a number of a wire or a constant; the name of a gate
-- with so many inputs; or that there is no token.
pub data Want : Type 0 where
  a_count : ℕ → Want
  a_size : ℕ → Want
  input_number : Want
  output_number : Want
  a_wire : Want
  a_name : ℕ → Want
  no_token : Want

-- the names of gates with two inputs, and with one
abbrev pub is_name_of_two : List ℕ → Bool
is_name_of_two text = bytes_eq text (codes "AND") || bytes_eq text (codes "XOR")

abbrev pub is_name_of_one : List ℕ → Bool
is_name_of_one text = bytes_eq text (codes "INV") || bytes_eq text (codes "EQ") || bytes_eq text (codes "EQW")

abbrev pub is_gate_name : ℕ → List ℕ → Bool
is_gate_name inputs text = if inputs == 2 then is_name_of_two text else is_name_of_one text

-- a fault, unless the test holds
abbrev pub fault_unless : Bool → ReadFault → Option ReadFault
fault_unless test fault = if test then None else Some fault

-- the fault of a number, which stands as this token
abbrev pub number_fault : Want → ℕ → ℕ → Option ReadFault
number_fault (a_count limit) n token = fault_unless (nat_le n limit) (TooLarge token)
number_fault (a_size left) n token = fault_unless (nat_le n left) (WireRange token)
number_fault input_number n token = fault_unless (n == 1 || n == 2) (BadGate token)
number_fault output_number n token = fault_unless (n == 1) (BadGate token)
number_fault a_wire n token = None
number_fault (a_name inputs) n token = Some (BadGate token)
number_fault no_token n token = Some (ExtraText token)

-- the fault of a token that is no number
abbrev pub name_fault : Want → List ℕ → ℕ → Option ReadFault
name_fault (a_name inputs) text token = fault_unless (is_gate_name inputs text) (BadGate token)
name_fault no_token text token = Some (ExtraText token)
name_fault (a_count limit) text token = Some (BadNumber token)
name_fault (a_size left) text token = Some (BadNumber token)
name_fault input_number text token = Some (BadNumber token)
name_fault output_number text token = Some (BadNumber token)
name_fault a_wire text token = Some (BadNumber token)

-- the fault of a token
abbrev pub lexeme_fault : Want → Lexeme → ℕ → Option ReadFault
lexeme_fault want (number n) token = number_fault want n token
lexeme_fault want (name text) token = name_fault want text token

-- the fault of a text's end in the place of this token
abbrev pub end_fault : Want → ℕ → Option ReadFault
end_fault no_token token = None
end_fault (a_count limit) token = Some (ShortText token)
end_fault (a_size left) token = Some (ShortText token)
end_fault input_number token = Some (ShortText token)
end_fault output_number token = Some (ShortText token)
end_fault a_wire token = Some (ShortText token)
end_fault (a_name inputs) token = Some (ShortText token)

-- the fault of the first of these tokens, whose number in the text is this
abbrev pub first_lexeme_fault : Want → List Lexeme → ℕ → Option ReadFault
first_lexeme_fault want [] token = end_fault want token
first_lexeme_fault want (lexeme ∷ behind) token = lexeme_fault want lexeme token

-- ---- the header

-- the numbers of gates and of wires, and the sizes of whole lists of values, all within their limits
pub record IsStart (gates wires : ℕ) (lists : List (List ℕ)) : Type 0 where
  pub gates_most : gates ≤ MAX_GATES
  pub wires_most : wires ≤ MAX_WIRES
  pub few : All (λ sizes. length sizes ≤ MAX_VALUES) lists
  pub within : All (λ sizes. sum sizes ≤ wires) lists

abbrev pub start_lexemes : ℕ → ℕ → List (List ℕ) → List Lexeme
start_lexemes gates wires lists = number gates ∷ number wires ∷ flat_map counted_lexemes lists

-- a list of values is wanted after others, of which there are one or none
pub record WantsList (before : List Lexeme) (want : Want) : Type 0 where
  pub gates : ℕ
  pub wires : ℕ
  pub lists : List (List ℕ)
  pub start : IsStart gates wires lists
  pub more : length lists ≤ 1
  pub before_is : before ≡ start_lexemes gates wires lists
  pub want_is : want ≡ a_count MAX_VALUES

-- a size is wanted after others of the same list
pub record WantsSize (before : List Lexeme) (want : Want) : Type 0 where
  pub gates : ℕ
  pub wires : ℕ
  pub lists : List (List ℕ)
  pub values : ℕ
  pub sizes : List ℕ
  pub start : IsStart gates wires lists
  pub more : length lists ≤ 1
  pub few : values ≤ MAX_VALUES
  pub within : sum sizes ≤ wires
  pub missing : length sizes < values
  pub before_is : before ≡ start_lexemes gates wires lists ++ number values ∷ map number sizes
  pub want_is : want ≡ a_size (wires - sum sizes)

-- what a header wants after these tokens, which are all right: the number of gates, that of wires, a number of values, a
-- size
pub data HeaderWants (before : List Lexeme) (want : Want) : Type 0 where
  first_number : before ≡ [] → want ≡ a_count MAX_GATES → HeaderWants before want
  second_number : (n : ℕ) → n ≤ MAX_GATES → before ≡ number n ∷ [] → want ≡ a_count MAX_WIRES
      → HeaderWants before want
  a_list : WantsList before want → HeaderWants before want
  one_size : WantsSize before want → HeaderWants before want

-- ---- the gates

-- the circuit, of whose wires none is an output
abbrev pub without_outputs : Circuit → Circuit
without_outputs circuit = record {
  wires = circuit.wires;
  inputs = circuit.inputs;
  outputs = 0;
  gates = circuit.gates;
}

-- A header that says so many gates, and gates after it, as many or fewer. All are right: within the limits, and each gate
-- reads wires that are set before it and sets one that is not.
pub record IsBegun (gates : ℕ) (values : Values) (begun : Circuit) : Type 0 where
  pub gates_most : gates ≤ MAX_GATES
  pub counted : length begun.gates ≤ gates
  pub limits : IsWithinLimits begun values
  pub inputs : sum values.inputs ≡ begun.inputs
  pub outputs : sum values.outputs ≡ begun.outputs
  pub outputs_within : begun.outputs ≤ begun.wires
  pub ordered : IsWellFormed (without_outputs begun)

abbrev pub begun_lexemes : ℕ → Values → Circuit → List Lexeme
begun_lexemes gates values begun =
    header_lexemes gates begun.wires values ++ flat_map gate_lexemes begun.gates

-- the circuit so far sets this wire
abbrev pub IsSetSoFar : Circuit → ℕ → Type 0
IsSetSoFar begun wire = IsSet begun (length begun.gates) wire

-- what a gate wants after these of its tokens, which are all right: its numbers of inputs and of outputs, as many wires as
-- both together, and its name
pub data GateWants (before : List Lexeme) (want : Want) : Type 0 where
  first : before ≡ [] → want ≡ input_number → GateWants before want
  second : (n : ℕ) → (n ≡ 1) ⊎ (n ≡ 2) → before ≡ number n ∷ [] → want ≡ output_number → GateWants before want
  next_wire : (n : ℕ) (wires : List ℕ) → (n ≡ 1) ⊎ (n ≡ 2) → length wires ≤ n
      → before ≡ number n ∷ number 1 ∷ map number wires → want ≡ a_wire → GateWants before want
  last : (n : ℕ) (wires : List ℕ) → (n ≡ 1) ⊎ (n ≡ 2) → length wires ≡ 1 + n
      → before ≡ number n ∷ number 1 ∷ map number wires → want ≡ a_name n → GateWants before want

-- one more gate is wanted, of which these tokens stand there, or there is none
pub record WantsGate (before : List Lexeme) (want : Want) : Type 0 where
  pub gates : ℕ
  pub values : Values
  pub begun : Circuit
  pub is_begun : IsBegun gates values begun
  pub more : length begun.gates < gates
  pub part : List Lexeme
  pub part_wants : GateWants part want
  pub before_is : before ≡ begun_lexemes gates values begun ++ part

-- all gates are there
pub record WantsNothing (before : List Lexeme) (want : Want) : Type 0 where
  pub gates : ℕ
  pub values : Values
  pub begun : Circuit
  pub is_begun : IsBegun gates values begun
  pub all : length begun.gates ≡ gates
  pub before_is : before ≡ begun_lexemes gates values begun
  pub want_is : want ≡ no_token

-- what is wanted after these tokens, which are all right
abbrev pub IsWanted : List Lexeme → Want → Type 0
IsWanted before want = HeaderWants before want ⊎ WantsGate before want ⊎ WantsNothing before want

-- a token is not what is wanted there, or there is none, and all before it are right
pub record IsTokenFault (text : List ℕ) (fault : ReadFault) : Type 0 where
  pub before : List Lexeme
  pub behind : List Lexeme
  pub want : Want
  pub says : lexemes text ≡ before ++ behind
  pub wanted : IsWanted before want
  pub fault_is : first_lexeme_fault want behind (length before) ≡ Some fault

-- ---- the wires of a gate

-- a gate as its tokens say it: the wires or the constant that it reads, the wire that it sets, and its name
pub record Said : Type 0 where
  pub reads : List ℕ
  pub sets : ℕ
  pub text : List ℕ

abbrev pub said_lexemes : Said → List Lexeme
said_lexemes said =
    number (length said.reads) ∷ number 1 ∷ map number said.reads ++ number said.sets ∷ name said.text ∷ []

-- it has one input or two, and the name of a gate with so many
pub record IsSaid (said : Said) : Type 0 where
  pub reads : (length said.reads ≡ 1) ⊎ (length said.reads ≡ 2)
  pub text : is_gate_name (length said.reads) said.text ≡ true

-- a gate of this name may read this: EQ the constants 0 and 1, all others wires that are set so far
abbrev pub MayRead : List ℕ → Circuit → ℕ → Type 0
MayRead text begun n =
    ((bytes_eq text (codes "EQ") ≡ true) × (n ≤ 1))
    ⊎ ((bytes_eq text (codes "EQ") ≡ false) × IsSetSoFar begun n)

-- the fault where it may not
abbrev pub read_fault : List ℕ → Circuit → ℕ → ℕ → ReadFault
read_fault text begun n token =
    if bytes_eq text (codes "EQ") then BadConstant token
    else if nat_le begun.wires n then WireRange token else ReadBeforeSet token

-- it may not set this wire, which is beyond the circuit's or set so far, and this is the fault
pub data MayNotSet (begun : Circuit) (n token : ℕ) (fault : ReadFault) : Type 0 where
  beyond : begun.wires ≤ n → fault ≡ WireRange token → MayNotSet begun n token fault
  again : n < begun.wires → IsSetSoFar begun n → fault ≡ SetTwice token → MayNotSet begun n token fault

-- of a gate that the tokens after the first `token` say, an input is the first wrong one
pub record IsInputFault (begun : Circuit) (said : Said) (token : ℕ) (fault : ReadFault) : Type 0 where
  pub number : ℕ
  pub read : ℕ
  pub stands : slice_get said.reads number ≡ Some read
  pub before : All (MayRead said.text begun) (take number said.reads)
  pub wrong : ¬ MayRead said.text begun read
  pub fault_is : fault ≡ read_fault said.text begun read (token + 2 + number)

-- all its inputs are right, and its output is not
pub record IsOutputFault (begun : Circuit) (said : Said) (token : ℕ) (fault : ReadFault) : Type 0 where
  pub before : All (MayRead said.text begun) said.reads
  pub wrong : MayNotSet begun said.sets (token + 2 + length said.reads) fault

-- the tokens of one more gate are all right, and one of its wires is not, or its constant
pub record IsWireFault (text : List ℕ) (fault : ReadFault) : Type 0 where
  pub gates : ℕ
  pub values : Values
  pub begun : Circuit
  pub is_begun : IsBegun gates values begun
  pub more : length begun.gates < gates
  pub said : Said
  pub is_said : IsSaid said
  pub behind : List Lexeme
  pub says : lexemes text ≡ begun_lexemes gates values begun ++ said_lexemes said ++ behind
  pub wrong : IsInputFault begun said (length (begun_lexemes gates values begun)) fault
      ⊎ IsOutputFault begun said (length (begun_lexemes gates values begun)) fault

-- ---- the outputs

-- all tokens are there and right, and this is the first output that is not set
pub record IsOutputUnset (text : List ℕ) (fault : ReadFault) : Type 0 where
  pub gates : ℕ
  pub values : Values
  pub begun : Circuit
  pub is_begun : IsBegun gates values begun
  pub all : length begun.gates ≡ gates
  pub says : lexemes text ≡ begun_lexemes gates values begun
  pub output : ℕ
  pub within : output < begun.outputs
  pub unset : ¬ IsSetSoFar begun (output_wire begun output)
  pub before : (o : ℕ) → o < output → IsSetSoFar begun (output_wire begun o)
  pub fault_is : fault ≡ OutputUnset (output_wire begun output)

-- ---- the first fault

-- this is the text's first fault
abbrev pub IsFirstFault : List ℕ → ReadFault → Type 0
IsFirstFault text fault = IsTokenFault text fault ⊎ IsWireFault text fault ⊎ IsOutputUnset text fault
