-- A circuit that a text says, and a first fault that it has, are what the function gives: so there is one outcome.
use Rattle.std.proofs.Common.{◌≡◌, ◌⊎◌, ℕ, suc, ◌+◌, ◌-◌, ◌≤◌, ◌^◌, Some, None, List, [], ◌∷◌, ◌++◌, map, flat_map, length, sum, refl, ap, sym, ◌∙◌, inl, inr, append_assoc, append-nil, length-append, arith}
use Rattle.zk_model.specs.Bristol.{Lexeme, number, Values, lexemes, gate_lexemes, header_lexemes, IsText}
use Rattle.zk_model.specs.Circuit.{Circuit}
use Rattle.bristol_reader.specs.TextFaults.{Want, first_number, second_number, a_list, one_size, HeaderWants, IsWanted, start_lexemes, IsBegun, begun_lexemes, IsWireFault, IsOutputUnset, IsFirstFault, IsInputFault, IsOutputFault, first_lexeme_fault, Said, said_lexemes}
use Rattle.zk_model.specs.declared.ReadFault.{ReadFault}
use Rattle.bristol_reader.proofs.Outcome.{Outcome, faulty, says, token_fault, gate_fault, said_of, wires_fault, with_gates, read_gates, read_lexemes}
use Rattle.bristol_reader.proofs.HeaderOutcome.{passes, headed, header_passed, header_wrong, count_wrong, size_wrong}
use Rattle.bristol_reader.proofs.GateOutcome.{gate_wrong, said_read, said_passed, gates_passed}
use Rattle.bristol_reader.proofs.SetOutcome.{reads_passed, reads_wrong, set_wrong, outputs_passed, outputs_wrong}

abbrev outcome_of : List ℕ → Outcome
outcome_of text = read_lexemes (length (lexemes text)) (lexemes text)

-- ---- what is begun

same_head : (values : Values) (begun : Circuit) → sum values.inputs ≡ begun.inputs → sum values.outputs ≡ begun.outputs
    → headed begun.wires values [] ≡ with_gates begun []
same_head values begun inputs outputs = λ i. record { wires = begun.wires; inputs = inputs i; outputs = outputs i; gates = [] }

-- the function passes it
begun_passed : (whole gates left : ℕ) (values : Values) (begun : Circuit) (behind : List Lexeme) → IsBegun gates values begun
    → length begun.gates + left ≡ gates
    → read_lexemes whole (begun_lexemes gates values begun ++ behind) ≡ read_gates whole left begun behind
begun_passed whole gates left values begun behind is counted =
    let spelled = flat_map gate_lexemes begun.gates in
    let inputs_within : sum values.inputs ≤ begun.wires = omega (arith, is.inputs, is.ordered.inputs_within) in
    let outputs_within : sum values.outputs ≤ begun.wires = omega (arith, is.outputs, is.outputs_within) in
    ap (read_lexemes whole) (append_assoc (header_lexemes gates begun.wires values) spelled behind)
    ∙ header_passed whole gates begun.wires values (spelled ++ behind) is.gates_most is.limits.wires
    is.limits.inputs is.limits.outputs inputs_within outputs_within
    ∙ ap (λ c. read_gates whole gates c (spelled ++ behind)) (same_head values begun is.inputs is.outputs)
    ∙ gates_passed whole gates left begun [] begun.gates behind is.ordered refl counted

-- ---- a token fault

header_outcome : (whole : ℕ) (before behind : List Lexeme) (want : Want) (fault : ReadFault) → HeaderWants before want
    → token_fault whole want behind ≡ Some fault → read_lexemes whole (before ++ behind) ≡ faulty fault
header_outcome whole before behind want fault (first_number there wants) is =
    let wrong = ap (λ w. token_fault whole w behind) (sym wants) ∙ is in
    ap (λ l. read_lexemes whole (l ++ behind)) there ∙ rw wrong
header_outcome whole before behind want fault (second_number n most there wants) is =
    let wrong = ap (λ w. token_fault whole w behind) (sym wants) ∙ is in
    ap (λ l. read_lexemes whole (l ++ behind)) there ∙ rw (passes n (2 ^ 24) _ most, wrong)
header_outcome whole before behind want fault (a_list w) is =
    let wrong = ap (λ w. token_fault whole w behind) (sym w.want_is) ∙ is in
    ap (λ l. read_lexemes whole (l ++ behind)) w.before_is
    ∙ header_wrong whole w.gates w.wires w.lists behind fault w.start w.more (count_wrong whole w.wires behind fault wrong)
header_outcome whole before behind want fault (one_size w) is =
    let wrong = ap (λ w. token_fault whole w behind) (sym w.want_is) ∙ is in
    let part = number w.values ∷ map number w.sizes in
    ap (λ l. read_lexemes whole (l ++ behind)) w.before_is
    ∙ ap (read_lexemes whole) (append_assoc (start_lexemes w.gates w.wires w.lists) part behind)
    ∙ header_wrong whole w.gates w.wires w.lists (part ++ behind) fault w.start w.more
    (size_wrong whole w.wires w.values w.sizes behind fault w.few w.missing w.within wrong)

token_outcome : (whole : ℕ) (before behind : List Lexeme) (want : Want) (fault : ReadFault) → IsWanted before want
    → token_fault whole want behind ≡ Some fault → read_lexemes whole (before ++ behind) ≡ faulty fault
token_outcome whole before behind want fault (inl header) is = header_outcome whole before behind want fault header is
token_outcome whole before behind want fault (inr (inl w)) is =
    let left = w.gates - length w.begun.gates - 1 in
    let counted : length w.begun.gates + suc left ≡ w.gates = omega (arith, w.more) in
    ap (λ l. read_lexemes whole (l ++ behind)) w.before_is
    ∙ ap (read_lexemes whole) (append_assoc (begun_lexemes w.gates w.values w.begun) w.part behind)
    ∙ begun_passed whole w.gates (suc left) w.values w.begun (w.part ++ behind) w.is_begun counted
    ∙ rw (gate_wrong whole w.part behind want fault w.part_wants is)
token_outcome whole before behind want fault (inr (inr w)) is =
    let wrong = ap (λ w. token_fault whole w behind) (sym w.want_is) ∙ is in
    let counted : length w.begun.gates + 0 ≡ w.gates = omega (arith, w.all) in
    ap (λ l. read_lexemes whole (l ++ behind)) w.before_is
    ∙ begun_passed whole w.gates 0 w.values w.begun behind w.is_begun counted
    ∙ rw wrong

-- the number of a token
placed : (before behind : List Lexeme) → length (before ++ behind) - length behind ≡ length before
placed before behind = omega (arith, length-append before behind)

-- ---- a wire fault

wires_wrong : (begun : Circuit) (said : Said) (token : ℕ) (fault : ReadFault)
    → IsInputFault begun said token fault ⊎ IsOutputFault begun said token fault → wires_fault begun said token ≡ Some fault
unfolding wires_fault
wires_wrong begun said token fault (inl input) =
    rw (reads_wrong said.text begun said.reads (token + 2) input.number input.read input.stands input.before input.wrong)
    (ap Some (sym input.fault_is))
wires_wrong begun said token fault (inr output) =
    rw (reads_passed said.text begun said.reads (token + 2) output.before)
    (set_wrong begun said.sets (token + 2 + length said.reads) fault output.wrong)

wires_step : (whole count : ℕ) (begun : Circuit) (left : List Lexeme) (said : Said) (fault : ReadFault) → gate_fault whole left ≡ None
    → said_of left ≡ said → wires_fault begun said (whole - length left) ≡ Some fault
    → read_gates whole (suc count) begun left ≡ faulty fault
wires_step whole count begun left said fault right saying wrong = rw (right, saying, wrong)

wire_outcome : (text : List ℕ) (fault : ReadFault) → IsWireFault text fault → outcome_of text ≡ faulty fault
wire_outcome text fault wire =
    let before = begun_lexemes wire.gates wire.values wire.begun in
    let behind = said_lexemes wire.said ++ wire.behind in
    let whole = length (before ++ behind) in
    let left = wire.gates - length wire.begun.gates - 1 in
    let counted : length wire.begun.gates + suc left ≡ wire.gates = omega (arith, wire.more) in
    ap (λ l. read_lexemes (length l) l) (wire.says ∙ append_assoc before (said_lexemes wire.said) wire.behind)
    ∙ begun_passed whole wire.gates (suc left) wire.values wire.begun behind wire.is_begun counted
    ∙ wires_step whole left wire.begun behind wire.said fault
    (said_passed whole wire.said wire.behind wire.is_said)
    (said_read wire.said wire.behind)
    (ap (wires_fault wire.begun wire.said) (placed before behind) ∙ wires_wrong wire.begun wire.said (length before) fault wire.wrong)

output_outcome : (text : List ℕ) (fault : ReadFault) → IsOutputUnset text fault → outcome_of text ≡ faulty fault
output_outcome text fault output =
    let lexemes = begun_lexemes output.gates output.values output.begun in
    let counted : length output.begun.gates + 0 ≡ output.gates = omega (arith, output.all) in
    ap (λ l. read_lexemes (length l) l) (output.says ∙ sym (append-nil lexemes))
    ∙ begun_passed (length (lexemes ++ [])) output.gates 0 output.values output.begun [] output.is_begun counted
    ∙ rw (outputs_wrong output.begun 0 output.begun.outputs output.output (omega arith) (omega (arith, output.within)) output.unset output.before)
    (ap faulty (sym output.fault_is))

-- ---- the outcome of a text

first_outcome : (text : List ℕ) (fault : ReadFault) → IsFirstFault text fault → outcome_of text ≡ faulty fault
first_outcome text fault (inl token) =
    ap (λ l. read_lexemes (length l) l) token.says
    ∙ token_outcome (length (token.before ++ token.behind)) token.before token.behind token.want fault token.wanted
    (ap (first_lexeme_fault token.want token.behind) (placed token.before token.behind) ∙ token.fault_is)
first_outcome text fault (inr (inl wire)) = wire_outcome text fault wire
first_outcome text fault (inr (inr output)) = output_outcome text fault output

begun_whole : (text : List ℕ) (circuit : Circuit) (is : IsText circuit text) → IsBegun (length circuit.gates) is.values circuit
begun_whole text circuit is = record {
  gates_most = is.limits.gates;
  counted = omega arith;
  limits = is.limits;
  inputs = is.inputs;
  outputs = is.outputs;
  outputs_within = is.well_formed.outputs_within;
  ordered = record {
    inputs_within = is.well_formed.inputs_within;
    outputs_within = omega arith;
    reads_set = is.well_formed.reads_set;
    sets_within = is.well_formed.sets_within;
    sets_once = is.well_formed.sets_once;
    outputs_set = λ o below. absurd (omega arith);
  };
}

text_outcome : (text : List ℕ) (circuit : Circuit) → IsText circuit text → outcome_of text ≡ says circuit
text_outcome text circuit is =
    let lexemes = begun_lexemes (length circuit.gates) is.values circuit in
    let counted : length circuit.gates + 0 ≡ length circuit.gates = omega arith in
    ap (λ l. read_lexemes (length l) l) (is.says ∙ sym (append-nil lexemes))
    ∙ begun_passed (length (lexemes ++ [])) (length circuit.gates) 0 is.values circuit [] (begun_whole text circuit is) counted
    ∙ rw (outputs_passed circuit 0 circuit.outputs (λ o below. is.well_formed.outputs_set o (omega (arith, below))))

pub one_circuit : (text : List ℕ) (c d : Circuit) → IsText c text → IsText d text → c ≡ d
one_circuit text c d one other = let same = sym (text_outcome text c one) ∙ text_outcome text d other in cc

pub one_first_fault : (text : List ℕ) (f g : ReadFault) → IsFirstFault text f → IsFirstFault text g → f ≡ g
one_first_fault text f g one other = let same = sym (first_outcome text f one) ∙ first_outcome text g other in cc

pub fault_or_circuit : (text : List ℕ) (f : ReadFault) (c : Circuit) → IsFirstFault text f → IsText c text → ⊥
fault_or_circuit text f c one other = let same = sym (first_outcome text f one) ∙ text_outcome text c other in cc
