-- Gates, read one after another.
use Rattle.std.proofs.Common.{◌≡◌, ℕ, ◌+◌, ◌-◌, ◌<◌, ◌≤◌, Bool, true, inl, inr, ◌⊎◌, List, [], ◌∷◌, ◌++◌, length, set, flat_map, refl, ap, sym, ◌∙◌, subst, arith, append_assoc, append-nil, length-append}
use Rattle.std.specs.Prelude.{Some}
use Rattle.std.proofs.lemmas.List.{flat_map_more}
use Rattle.zk_model.specs.Bristol.{Lexeme, lexemes, gate_lexemes, header_lexemes, Values}
use Rattle.zk_model.specs.Circuit.{Circuit, IsWellFormed, output_wire, wire_set}
use Rattle.bristol_reader.specs.TextFaults.{no_token, without_outputs, IsBegun, begun_lexemes, IsSetSoFar, GateWants, IsWanted, IsTokenFault, IsInputFault, IsOutputFault, said_lexemes, first_lexeme_fault, HeaderWants, IsFirstFault}
use Rattle.zk_model.specs.declared.GateRow.{GateRow}
use Rattle.zk_model.specs.declared.ReadFault.{ReadFault}
use Rattle.zk_model.specs.declared.ReadFault.TheVariants.{OutputUnset}
use Rattle.bristol_reader.specs.declared.header.Header.{Header}
use Rattle.bristol_reader.specs.declared.fault.ReadError.TheVariants.{Fault}
use Rattle.zk_model.specs.ArithFaults.{Place}
use Rattle.text_tokens.specs.Words.{Takes, place_of, left_of}
use Rattle.bristol_reader.specs.Wants.{next_fault, IsFaultBehind}
use Rattle.bristol_reader.specs.Headers.{IsHeader, TakesHeader}
use Rattle.bristol_reader.specs.Gates.{AreFlags, FitsFlags, IsGateFault}
use Rattle.bristol_reader.specs.Bodies.{AreFirstFlags, AreOutputsSet, IsUnsetOutput, IsBody, BodyCause}
use Rattle.bristol_reader.specs.Circuits.{circuit_of}
use Rattle.bristol_reader.proofs.Lists.{takes_both, takes_same, fault_here, fault_later}
use Rattle.bristol_reader.proofs.Orders.{ordered_none, ordered_push, fits_may, flags_none, flags_push}

-- ---- places in a text

text_left : (text : List ℕ) → left_of text ≡ lexemes text
unfolding left_of
text_left text = refl

-- a fault after the beginning of a text
pub token_fault : (text : List ℕ) (fault : ReadFault) → IsFaultBehind IsWanted (place_of text 0) fault → IsTokenFault text fault
token_fault text fault is = record {
  before = is.part;
  behind = is.behind;
  want = is.want;
  says = sym (text_left text) ∙ is.left;
  wanted = is.wanted;
  fault_is = ap (first_lexeme_fault is.want is.behind) (omega arith) ∙ is.fault_is;
}

pub header_fault : (text : List ℕ) (fault : ReadFault) → IsFaultBehind HeaderWants (place_of text 0) fault → IsFirstFault text fault
header_fault text fault is =
    inl (token_fault text fault (record {
      part = is.part;
      behind = is.behind;
      want = is.want;
      left = is.left;
      wanted = inl is.wanted;
      fault_is = is.fault_is;
    }))

-- ---- the gates so far

-- the circuit of a header and some gates
abbrev pub begun_of : Header → List GateRow → Circuit
begun_of header gates = circuit_of header.wires header.inputs header.outputs gates

-- the gates that are read, where they end, and the flags after them
pub record IsBodySoFar (header : Header) (before now : Place) (flags : List Bool) (gates : List GateRow) (count : ℕ) : Type 0 where
  pub takes : Takes (flat_map gate_lexemes gates) before now
  pub counted : length gates ≡ count
  pub ordered : IsWellFormed (without_outputs (begun_of header gates))
  pub flags_are : AreFlags flags (begun_of header gates)

pub no_body : (header : Header) (before : Place) (flags : List Bool) (gates : List GateRow) → header.inputs ≤ header.wires → AreFirstFlags flags header.wires header.inputs → gates ≡ []
    → IsBodySoFar header before before flags gates 0
no_body header before flags gates few are none = subst (λ (l : List GateRow). IsBodySoFar header before before flags l 0) (sym none) (record {
  takes = record { left = refl; taken = omega arith };
  counted = refl;
  ordered = ordered_none header.wires header.inputs header.outputs few;
  flags_are = flags_none flags header.wires header.inputs header.outputs few are;
})

pub body_more : (header : Header) (before now after : Place) (flags more_flags : List Bool) (gates more : List GateRow) (gate : GateRow) (count : ℕ)
    → Takes (gate_lexemes gate) now after → FitsFlags flags gate → more ≡ gates ++ gate ∷ [] → more_flags ≡ set flags (wire_set gate) true
    → IsBodySoFar header before now flags gates count → IsBodySoFar header before after more_flags more (count + 1)
body_more header before now after flags more_flags gates more gate count takes fits pushed flagged far =
    let may = fits_may flags (begun_of header gates) gate far.flags_are fits in
    let one : IsBodySoFar header before after (set flags (wire_set gate) true) (gates ++ gate ∷ []) (count + 1) = record {
      takes = takes_same (flat_map gate_lexemes gates ++ gate_lexemes gate) (flat_map gate_lexemes (gates ++ gate ∷ [])) before after
          (flat_map_more gate_lexemes [] gates gate) (takes_both (flat_map gate_lexemes gates) (gate_lexemes gate) before now after far.takes takes);
      counted = length-append gates (gate ∷ []) ∙ ap (λ n. n + 1) far.counted;
      ordered = ordered_push header.wires header.inputs header.outputs gates gate far.ordered may;
      flags_are = flags_push flags header.wires header.inputs header.outputs gates gate far.flags_are may.within;
    } in
    subst (λ (l : List GateRow). IsBodySoFar header before after more_flags l (count + 1)) (sym pushed)
    (subst (λ (l : List Bool). IsBodySoFar header before after l (gates ++ gate ∷ []) (count + 1)) (sym flagged) one)

-- ---- what they are of a text

is_begun : (header : Header) (values : Values) (before now : Place) (flags : List Bool) (gates : List GateRow) (count : ℕ) → IsHeader header values → count ≤ header.gates
    → IsBodySoFar header before now flags gates count → IsBegun header.gates values (begun_of header gates)
is_begun header values before now flags gates count is few far = record {
  gates_most = is.gates;
  counted = omega (arith, far.counted);
  limits = record { gates = omega (arith, far.counted, is.gates); wires = is.wires; inputs = is.input_values; outputs = is.output_values };
  inputs = is.inputs;
  outputs = is.outputs;
  outputs_within = is.outputs_within;
  ordered = far.ordered;
}

begun_taken : (header : Header) (text : List ℕ) (before now : Place) (flags : List Bool) (gates : List GateRow) (count : ℕ) (said : TakesHeader (place_of text 0) before header)
    → IsBodySoFar header before now flags gates count → Takes (begun_lexemes header.gates said.values (begun_of header gates)) (place_of text 0) now
begun_taken header text before now flags gates count said far =
    takes_both (header_lexemes header.gates header.wires said.values) (flat_map gate_lexemes gates) (place_of text 0) before now said.takes far.takes

-- ---- faults

pub gate_fault : (header : Header) (before now : Place) (flags : List Bool) (gates : List GateRow) (count : ℕ) (fault : ReadFault) → count < header.gates
    → IsBodySoFar header before now flags gates count → IsGateFault flags now fault → BodyCause header before (Fault fault)
gate_fault header before now flags gates count fault less far (inl is) = λ text said.
    let begun = is_begun header said.values before now flags gates count said.is (omega arith) far in
    let part : List Lexeme = begun_lexemes header.gates said.values (begun_of header gates) in
    inl (token_fault text fault (fault_later GateWants IsWanted part (place_of text 0) now fault (begun_taken header text before now flags gates count said far) (λ gate_part want wants. inr (inl (record {
      gates = header.gates;
      values = said.values;
      begun = begun_of header gates;
      is_begun = begun;
      more = omega (arith, far.counted);
      part = gate_part;
      part_wants = wants;
      before_is = refl;
    }))) is))
gate_fault header before now flags gates count fault less far (inr is) = λ text said.
    let begun = is_begun header said.values before now flags gates count said.is (omega arith) far in
    let part : List Lexeme = begun_lexemes header.gates said.values (begun_of header gates) in
    let takes = begun_taken header text before now flags gates count said far in
    inr (inl (record {
      gates = header.gates;
      values = said.values;
      begun = begun_of header gates;
      is_begun = begun;
      more = omega (arith, far.counted);
      said = is.said;
      is_said = is.is_said;
      behind = is.behind;
      says = sym (text_left text) ∙ takes.left ∙ ap (λ l. part ++ l) is.left ∙ sym (append_assoc part (said_lexemes is.said) is.behind);
      wrong = subst (λ (n : ℕ). IsInputFault (begun_of header gates) is.said n fault ⊎ IsOutputFault (begun_of header gates) is.said n fault)
          (omega (arith, takes.taken)) (is.wrong (begun_of header gates) far.flags_are);
    }))

pub extra_fault : (header : Header) (before now : Place) (flags : List Bool) (gates : List GateRow) (count : ℕ) (fault : ReadFault) → count ≡ header.gates
    → IsBodySoFar header before now flags gates count → next_fault no_token now ≡ Some fault → BodyCause header before (Fault fault)
extra_fault header before now flags gates count fault all far is = λ text said.
    let part : List Lexeme = begun_lexemes header.gates said.values (begun_of header gates) in
    inl (token_fault text fault (fault_here IsWanted part no_token (place_of text 0) now fault (begun_taken header text before now flags gates count said far) (inr (inr (record {
      gates = header.gates;
      values = said.values;
      begun = begun_of header gates;
      is_begun = is_begun header said.values before now flags gates count said.is (omega arith) far;
      all = far.counted ∙ all;
      before_is = refl;
      want_is = refl;
    }))) is))

-- all tokens are there
all_says : (header : Header) (text : List ℕ) (before now : Place) (flags : List Bool) (gates : List GateRow) (count : ℕ) (said : TakesHeader (place_of text 0) before header)
    → now.left ≡ [] → IsBodySoFar header before now flags gates count → lexemes text ≡ begun_lexemes header.gates said.values (begun_of header gates)
all_says header text before now flags gates count said none far =
    let part : List Lexeme = begun_lexemes header.gates said.values (begun_of header gates) in
    let takes = begun_taken header text before now flags gates count said far in
    sym (text_left text) ∙ takes.left ∙ ap (λ l. part ++ l) none ∙ append-nil part

pub output_fault : (header : Header) (before now : Place) (flags : List Bool) (gates : List GateRow) (count wire : ℕ) → count ≡ header.gates → header.outputs ≤ header.wires → now.left ≡ []
    → IsBodySoFar header before now flags gates count → IsUnsetOutput flags header.outputs wire → BodyCause header before (Fault (OutputUnset wire))
output_fault header before now flags gates count wire all few none far off = λ text said.
    let output : ℕ = wire + header.outputs - header.wires in
    let at : header.wires - header.outputs + output ≡ wire = omega (arith, off.is_last, far.flags_are.whole) in
    inr (inr (record {
      gates = header.gates;
      values = said.values;
      begun = begun_of header gates;
      is_begun = is_begun header said.values before now flags gates count said.is (omega arith) far;
      all = far.counted ∙ all;
      says = all_says header text before now flags gates count said none far;
      output = output;
      within = omega (arith, off.within, off.is_last, far.flags_are.whole);
      unset = subst (λ (w : ℕ). ¬ IsSetSoFar (begun_of header gates) w) (sym at) (far.flags_are.unset wire off.unset);
      before = λ o below.
          far.flags_are.set (output_wire (begun_of header gates) o) (off.before (header.wires - header.outputs + o) (omega (arith, far.flags_are.whole)) (omega (arith, at)));
      fault_is = ap OutputUnset (sym at);
    }))

pub body_found : (header : Header) (before now : Place) (flags : List Bool) (gates : List GateRow) (count : ℕ) → count ≡ header.gates → header.outputs ≤ header.wires → now.left ≡ []
    → AreOutputsSet flags header.outputs → IsBodySoFar header before now flags gates count → IsBody header before gates
body_found header before now flags gates count all few none outputs far = λ text said. record {
  values = said.values;
  says = all_says header text before now flags gates count said none far
      ∙ ap (λ n. header_lexemes n header.wires said.values ++ flat_map gate_lexemes gates) (sym (far.counted ∙ all));
  inputs = said.is.inputs;
  outputs = said.is.outputs;
  limits = record { gates = omega (arith, far.counted, said.is.gates); wires = said.is.wires; inputs = said.is.input_values; outputs = said.is.output_values };
  well_formed = record {
    inputs_within = far.ordered.inputs_within;
    outputs_within = few;
    reads_set = far.ordered.reads_set;
    sets_within = far.ordered.sets_within;
    sets_once = far.ordered.sets_once;
    outputs_set = λ o below.
        far.flags_are.set (header.wires - header.outputs + o) (outputs (header.wires - header.outputs + o) (omega (arith, far.flags_are.whole)) (omega (arith, far.flags_are.whole)));
  };
}
