-- First faults of texts, by computation.
use Rattle.std.proofs.Common.{◌≡◌, ◌⊎◌, ℕ, ◌+◌, ◌<◌, ◌≤◌, ◌^◌, List, [], ◌∷◌, ◌++◌, Some, take, length, sum, true, false, refl, inl, inr, codes, arith, lit<, lit≤}
use Rattle.std.specs.Prelude.{All, slice_get}
use Rattle.std.proofs.lemmas.List.Elements.{All-from_recursion}
use Rattle.zk_model.proofs.ExampleTools.{each_item}
use Rattle.zk_model.specs.Bristol.{Lexeme, lexemes, number, name, Values}
use Rattle.zk_model.specs.Circuit.{Circuit, IsSet, wire_set, wires_read}
use Rattle.bristol_reader.specs.TextFaults.{Want, GateWants, Said, WantsNothing, a_count, a_size, a_wire, a_name, no_token, first_number, a_list, one_size, next_wire, last, first_lexeme_fault, begun_lexemes, said_lexemes, read_fault, IsStart, IsBegun, IsSaid, IsWanted, MayRead, IsFirstFault, IsInputFault, IsOutputFault, IsSetSoFar, again, without_outputs}
use Rattle.zk_model.specs.declared.ReadFault.{ReadFault}
use Rattle.zk_model.specs.declared.ReadFault.TheVariants.{ShortText, BadNumber, TooLarge, BadGate, BadConstant, WireRange, ReadBeforeSet, SetTwice, OutputUnset, ExtraText}

-- a token is not what is wanted behind those before it
at_token : (text : List ℕ) (fault : ReadFault) (before behind : List Lexeme) (want : Want) → lexemes text ≡ before ++ behind → IsWanted before want
    → first_lexeme_fault want behind (length before) ≡ Some fault → IsFirstFault text fault
at_token text fault before behind want says wanted is =
    inl (record { before = before; behind = behind; want = want; says = says; wanted = wanted; fault_is = is })

-- ---- the header

start : (gates wires : ℕ) → gates ≤ 2 ^ 24 → wires ≤ 2 ^ 24 → IsStart gates wires []
start gates wires few within = record {
  gates_most = few;
  wires_most = within;
  few = All-from_recursion _ [] tt;
  within = All-from_recursion _ [] tt;
}

-- too many gates
too_large : IsFirstFault (codes "16777217 3") (TooLarge 0)
too_large = at_token _ _ [] (number 16777217 ∷ number 3 ∷ []) (a_count (2 ^ 24)) refl (inl (first_number refl refl)) refl

-- the text ends where the number of input values is wanted
short_text : IsFirstFault (codes "1 3") (ShortText 2)
short_text = at_token _ _ (number 1 ∷ number 3 ∷ []) [] (a_count 1024) refl
    (inl (a_list (record {
      gates = 1;
      wires = 3;
      lists = [];
      start = start 1 3 (lit≤ tt) (lit≤ tt);
      more = lit≤ tt;
      before_is = refl;
      want_is = refl;
    }))) refl

-- an input value of more wires than the circuit's
wide_value : IsFirstFault (codes "0 1 1 2 1 1") (WireRange 3)
wide_value = at_token _ _ (number 0 ∷ number 1 ∷ number 1 ∷ []) (number 2 ∷ number 1 ∷ number 1 ∷ []) (a_size 1) refl
    (inl (one_size (record {
      gates = 0;
      wires = 1;
      lists = [];
      values = 1;
      sizes = [];
      start = start 0 1 (lit≤ tt) (lit≤ tt);
      more = lit≤ tt;
      few = lit≤ tt;
      within = lit≤ tt;
      missing = lit< tt;
      before_is = refl;
      want_is = refl;
    }))) refl

-- ---- after a header

-- a circuit of these wires and values, and no gates yet
abbrev bare : ℕ → Values → Circuit
bare wires values = record { wires = wires; inputs = sum values.inputs; outputs = sum values.outputs; gates = [] }

bare_begun : (gates wires : ℕ) (values : Values) → gates ≤ 2 ^ 24 → wires ≤ 2 ^ 24 → length values.inputs ≤ 1024
    → length values.outputs ≤ 1024 → sum values.inputs ≤ wires → sum values.outputs ≤ wires
    → IsBegun gates values (bare wires values)
bare_begun gates wires values gates_most wires_most few_inputs few_outputs inputs_within outputs_within = record {
  gates_most = gates_most;
  counted = omega arith;
  limits = record { gates = omega arith; wires = wires_most; inputs = few_inputs; outputs = few_outputs };
  inputs = refl;
  outputs = refl;
  outputs_within = outputs_within;
  ordered = record {
    inputs_within = inputs_within;
    outputs_within = omega arith;
    reads_set = each_item (λ n gate. All (IsSet (without_outputs (bare wires values)) n) (wires_read gate)) [] tt;
    sets_within = each_item (λ n gate. wire_set gate < wires) [] tt;
    sets_once = each_item (λ n gate. ¬ IsSet (without_outputs (bare wires values)) n (wire_set gate)) [] tt;
    outputs_set = λ o below. absurd (omega arith);
  };
}

-- only inputs are set
unset : (wires wire : ℕ) (values : Values) → sum values.inputs ≤ wire → ¬ IsSetSoFar (bare wires values) wire
unset wires wire values past (inl input) = absurd (omega arith)
unset wires wire values past (inr by) = absurd (omega (arith, by.2))

abbrev pair_values : Values
pair_values = record { inputs = 1 ∷ 1 ∷ []; outputs = 1 ∷ [] }

abbrev one_value : Values
one_value = record { inputs = 1 ∷ []; outputs = 1 ∷ [] }

pair_begun : IsBegun 1 pair_values (bare 3 pair_values)
pair_begun = bare_begun 1 3 pair_values (lit≤ tt) (lit≤ tt) (lit≤ tt) (lit≤ tt) (lit≤ tt) (lit≤ tt)

one_begun : (gates wires : ℕ) → gates ≤ 2 ^ 24 → wires ≤ 2 ^ 24 → 1 ≤ wires → IsBegun gates one_value (bare wires one_value)
one_begun gates wires few most some = bare_begun gates wires one_value few most (lit≤ tt) (lit≤ tt) some some

-- text after the last gate, of which there is none
extra_text : IsFirstFault (codes "0 1 1 1 1 1 7") (ExtraText 6)
extra_text = at_token _ _ (number 0 ∷ number 1 ∷ number 1 ∷ number 1 ∷ number 1 ∷ number 1 ∷ []) (number 7 ∷ []) no_token refl (inr (inr none_left)) refl
  where
    none_left : WantsNothing (number 0 ∷ number 1 ∷ number 1 ∷ number 1 ∷ number 1 ∷ number 1 ∷ []) no_token
    none_left = record { gates = 0; values = one_value; begun = bare 1 one_value; is_begun = one_begun 0 1 (lit≤ tt) (lit≤ tt) (lit≤ tt); all = refl; before_is = refl; want_is = refl }

-- no gate sets the output
output_unset : IsFirstFault (codes "0 2 1 1 1 1") (OutputUnset 1)
output_unset = inr (inr (record {
  gates = 0;
  values = one_value;
  begun = bare 2 one_value;
  is_begun = one_begun 0 2 (lit≤ tt) (lit≤ tt) (lit≤ tt);
  all = refl;
  says = refl;
  output = 0;
  within = lit< tt;
  unset = unset 2 1 one_value (lit≤ tt);
  before = λ o below. absurd (omega arith);
  fault_is = refl;
}))

-- ---- a gate's tokens

-- a gate of a circuit of two inputs is wanted, and these of its tokens stand there
in_gate : (before part : List Lexeme) (want : Want) → before ≡ begun_lexemes 1 pair_values (bare 3 pair_values) ++ part → GateWants part want
    → IsWanted before want
in_gate before part want is wants = inr (inl (record {
  gates = 1;
  values = pair_values;
  begun = bare 3 pair_values;
  is_begun = pair_begun;
  more = lit< tt;
  part = part;
  part_wants = wants;
  before_is = is;
}))

-- no number where a wire is wanted
bad_number : IsFirstFault (codes "1 3 2 1 1 1 1 2 1 0 x 2 AND") (BadNumber 10)
bad_number =
    at_token _ _ (number 1 ∷ number 3 ∷ number 2 ∷ number 1 ∷ number 1 ∷ number 1 ∷ number 1 ∷ number 2 ∷ number 1 ∷ number 0 ∷ [])
    (name (codes "x") ∷ number 2 ∷ name (codes "AND") ∷ []) a_wire refl
    (in_gate _ (number 2 ∷ number 1 ∷ number 0 ∷ []) a_wire refl (next_wire 2 (0 ∷ []) (inr refl) (lit≤ tt) refl refl)) refl

-- no gate has this name
bad_gate : IsFirstFault (codes "1 3 2 1 1 1 1 2 1 0 1 2 MAND") (BadGate 12)
bad_gate =
    at_token _ _ (number 1 ∷ number 3 ∷ number 2 ∷ number 1 ∷ number 1 ∷ number 1 ∷ number 1
    ∷ number 2 ∷ number 1 ∷ number 0 ∷ number 1 ∷ number 2 ∷ []) (name (codes "MAND") ∷ []) (a_name 2) refl
    (in_gate _ (number 2 ∷ number 1 ∷ number 0 ∷ number 1 ∷ number 2 ∷ []) (a_name 2) refl (last 2 (0 ∷ 1 ∷ 2 ∷ []) (inr refl) refl refl refl)) refl

-- ---- a gate's wires

-- a wire of the one gate that a header says is wrong, or its constant
at_wire : (text : List ℕ) (fault : ReadFault) (wires : ℕ) (values : Values) (said : Said) → IsBegun 1 values (bare wires values) → IsSaid said
    → lexemes text ≡ begun_lexemes 1 values (bare wires values) ++ said_lexemes said ++ []
    → IsInputFault (bare wires values) said (length (begun_lexemes 1 values (bare wires values))) fault
    ⊎ IsOutputFault (bare wires values) said (length (begun_lexemes 1 values (bare wires values))) fault → IsFirstFault text fault
at_wire text fault wires values said begun is_said says wrong = inr (inl (record {
  gates = 1;
  values = values;
  begun = bare wires values;
  is_begun = begun;
  more = lit< tt;
  said = said;
  is_said = is_said;
  behind = [];
  says = says;
  wrong = wrong;
}))

-- it is the first that the gate reads
first_read : (begun : Circuit) (said : Said) (token read : ℕ) (fault : ReadFault) → slice_get said.reads 0 ≡ Some read
    → All (MayRead said.text begun) (take 0 said.reads) → ¬ MayRead said.text begun read
    → fault ≡ read_fault said.text begun read (token + 2 + 0) → IsInputFault begun said token fault
first_read begun said token read fault stands before wrong is =
    record { number = 0; read = read; stands = stands; before = before; wrong = wrong; fault_is = is }

-- the output is an input of the circuit
set_twice : IsFirstFault (codes "1 3 2 1 1 1 1 2 1 0 1 1 AND") (SetTwice 11)
set_twice =
    at_wire _ _ 3 pair_values (record { reads = 0 ∷ 1 ∷ []; sets = 1; text = codes "AND" }) pair_begun (record { reads = inr refl; text = refl }) refl
    (inr (record {
      before = All-from_recursion (MayRead (codes "AND") (bare 3 pair_values)) (0 ∷ 1 ∷ [])
          (inr (refl, inl (lit< tt)), (inr (refl, inl (lit< tt)), tt));
      wrong = again (lit< tt) (inl (lit< tt)) refl;
    }))

abbrev no_inputs : Values
no_inputs = record { inputs = []; outputs = 1 ∷ [] }

-- a constant that is no bit
bad_constant : IsFirstFault (codes "1 1 0 1 1 1 1 2 0 EQ") (BadConstant 7)
bad_constant =
    at_wire _ _ 1 no_inputs (record { reads = 2 ∷ []; sets = 0; text = codes "EQ" })
    (bare_begun 1 1 no_inputs (lit≤ tt) (lit≤ tt) (lit≤ tt) (lit≤ tt) (lit≤ tt) (lit≤ tt)) (record { reads = inl refl; text = refl }) refl
    (inl (first_read _ _ _ 2 _ refl (All-from_recursion (MayRead (codes "EQ") (bare 1 no_inputs)) [] tt) no_bit refl))
  where
    no_bit : ¬ MayRead (codes "EQ") (bare 1 no_inputs) 2
    no_bit (inl constant) = absurd (omega (arith, constant.1))
    no_bit (inr other) = let no : true ≡ false = other.0 in cc

-- a wire that nothing sets
read_before_set : IsFirstFault (codes "1 6 1 1 1 1 1 1 5 1 INV") (ReadBeforeSet 8)
read_before_set =
    at_wire _ _ 6 one_value (record { reads = 5 ∷ []; sets = 1; text = codes "INV" }) (one_begun 1 6 (lit≤ tt) (lit≤ tt) (lit≤ tt))
    (record { reads = inl refl; text = refl }) refl
    (inl (first_read _ _ _ 5 _ refl (All-from_recursion (MayRead (codes "INV") (bare 6 one_value)) [] tt) no_wire refl))
  where
    no_wire : ¬ MayRead (codes "INV") (bare 6 one_value) 5
    no_wire (inl constant) = let no : false ≡ true = constant.0 in cc
    no_wire (inr other) = unset 6 5 one_value (lit≤ tt) other.1
