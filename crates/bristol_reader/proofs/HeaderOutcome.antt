-- The function passes a right header, and finds the fault of a wrong one.
use Rattle.std.proofs.Common.{◌≡◌, ℕ, zero, suc, ◌+◌, ◌-◌, ◌<◌, ◌≤◌, ◌^◌, nat_le, Some, None, List, [], ◌∷◌, ◌++◌, map, length, take, drop, sum, refl, ap, ap₂, ◌∙◌, append_assoc, append-nil, arith, le-leb}
use Rattle.std.proofs.lemmas.List.Sums.{sum_by-cons}
use Rattle.zk_model.specs.Bristol.{Lexeme, number, counted_lexemes, header_lexemes, Values}
use Rattle.zk_model.specs.Circuit.{Circuit}
use Rattle.bristol_reader.specs.TextFaults.{a_count, a_size, fault_unless, IsStart, start_lexemes}
use Rattle.zk_model.specs.declared.ReadFault.{ReadFault}
use Rattle.zk_model.specs.declared.GateRow.{GateRow}
use Rattle.bristol_reader.proofs.Outcome.{faulty, number_of, token_fault, sizes_fault, list_fault, list_sizes, behind_list, read_gates, read_lists, read_lexemes}

pub passes : (n limit : ℕ) (fault : ReadFault) → n ≤ limit → fault_unless (nat_le n limit) fault ≡ None
passes n limit fault within = rw (le-leb n limit within)

-- some sizes of so many, which are all within
pub sizes_passed : (whole wires count more : ℕ) (sizes : List ℕ) (behind : List Lexeme) → length sizes + more ≡ count → sum sizes ≤ wires
    → sizes_fault whole wires count (map number sizes ++ behind) ≡ sizes_fault whole (wires - sum sizes) more behind
sizes_passed whole wires count more [] behind counted within =
    let same : count ≡ more = omega arith in
    let left : wires ≡ wires - 0 = omega arith in
    ap₂ (λ n w. sizes_fault whole w n behind) same left
sizes_passed whole wires zero more (n ∷ sizes) behind counted within = absurd (omega arith)
sizes_passed whole wires (suc count) more (n ∷ sizes) behind counted within =
    let total : sum (n ∷ sizes) ≡ n + sum sizes = sum_by-cons (λ x. x) n sizes in
    let left : wires - n - sum sizes ≡ wires - sum (n ∷ sizes) = omega arith in
    rw (passes n wires _ (omega arith))
    (sizes_passed whole (wires - n) count more sizes behind (omega arith) (omega arith)
    ∙ ap (λ w. sizes_fault whole w more behind) left)

pub all_numbers : (ns : List ℕ) (behind : List Lexeme) → map number_of (take (length ns) (map number ns ++ behind)) ≡ ns
all_numbers [] behind = refl
all_numbers (n ∷ ns) behind = ap (λ l. n ∷ l) (all_numbers ns behind)

pub behind_numbers : (ns : List ℕ) (behind : List Lexeme) → drop (length ns) (map number ns ++ behind) ≡ behind
behind_numbers [] behind = refl
behind_numbers (n ∷ ns) behind = behind_numbers ns behind

-- a whole list
pub list_passed : (whole wires : ℕ) (sizes : List ℕ) (behind : List Lexeme) → length sizes ≤ 1024 → sum sizes ≤ wires
    → list_fault whole wires (counted_lexemes sizes ++ behind) ≡ None
unfolding list_fault
list_passed whole wires sizes behind few within =
    rw (passes (length sizes) 1024 _ few) (sizes_passed whole wires (length sizes) 0 sizes behind (omega arith) within)

pub list_read : (sizes : List ℕ) (behind : List Lexeme) → list_sizes (counted_lexemes sizes ++ behind) ≡ sizes
unfolding list_sizes
list_read sizes behind = all_numbers sizes behind

pub list_left : (sizes : List ℕ) (behind : List Lexeme) → behind_list (counted_lexemes sizes ++ behind) ≡ behind
unfolding behind_list
list_left sizes behind = behind_numbers sizes behind

-- the numbers of gates and of wires
pub numbers_passed : (whole gates wires : ℕ) (left : List Lexeme) → gates ≤ 2 ^ 24 → wires ≤ 2 ^ 24
    → read_lexemes whole (number gates ∷ number wires ∷ left) ≡ read_lists whole gates wires left
numbers_passed whole gates wires left gates_most wires_most = rw (passes gates (2 ^ 24) _ gates_most, passes wires (2 ^ 24) _ wires_most)

-- the circuit's numbers, and gates
abbrev pub headed : ℕ → Values → List GateRow → Circuit
headed wires values gates = record { wires = wires; inputs = sum values.inputs; outputs = sum values.outputs; gates = gates }

-- after the numbers a variable stands for the lists
lists_passed : (whole gates wires : ℕ) (values : Values) (left second behind : List Lexeme)
    → list_fault whole wires left ≡ None → list_sizes left ≡ values.inputs → behind_list left ≡ second
    → list_fault whole wires second ≡ None → list_sizes second ≡ values.outputs → behind_list second ≡ behind
    → read_lists whole gates wires left ≡ read_gates whole gates (headed wires values []) behind
lists_passed whole gates wires values left second behind right sizes then right_too sizes_too then_too =
    rw (then, right, right_too, sizes, sizes_too, then_too)

second_wrong : (whole gates wires : ℕ) (left second : List Lexeme) (fault : ReadFault) → list_fault whole wires left ≡ None
    → behind_list left ≡ second → list_fault whole wires second ≡ Some fault → read_lists whole gates wires left ≡ faulty fault
second_wrong whole gates wires left second fault right then wrong = rw (right, then, wrong)

-- a whole header
pub header_passed : (whole gates wires : ℕ) (values : Values) (behind : List Lexeme) → gates ≤ 2 ^ 24 → wires ≤ 2 ^ 24
    → length values.inputs ≤ 1024 → length values.outputs ≤ 1024 → sum values.inputs ≤ wires → sum values.outputs ≤ wires
    → read_lexemes whole (header_lexemes gates wires values ++ behind) ≡ read_gates whole gates (headed wires values []) behind
header_passed whole gates wires values behind gates_most wires_most few_inputs few_outputs inputs_within outputs_within =
    let first = counted_lexemes values.inputs in
    let second = counted_lexemes values.outputs in
    ap (λ l. read_lexemes whole (number gates ∷ number wires ∷ l)) (append_assoc first second behind)
    ∙ numbers_passed whole gates wires (first ++ (second ++ behind)) gates_most wires_most
    ∙ lists_passed whole gates wires values (first ++ (second ++ behind)) (second ++ behind) behind
    (list_passed whole wires values.inputs (second ++ behind) few_inputs inputs_within)
    (list_read values.inputs (second ++ behind))
    (list_left values.inputs (second ++ behind))
    (list_passed whole wires values.outputs behind few_outputs outputs_within)
    (list_read values.outputs behind)
    (list_left values.outputs behind)

-- ---- a wrong header

-- too many sizes
pub count_wrong : (whole wires : ℕ) (left : List Lexeme) (fault : ReadFault) → token_fault whole (a_count 1024) left ≡ Some fault
    → list_fault whole wires left ≡ Some fault
unfolding list_fault
count_wrong whole wires left fault is = rw is

-- a size that is too large, or missing
pub size_wrong : (whole wires values : ℕ) (sizes : List ℕ) (left : List Lexeme) (fault : ReadFault) → values ≤ 1024
    → length sizes < values → sum sizes ≤ wires → token_fault whole (a_size (wires - sum sizes)) left ≡ Some fault
    → list_fault whole wires (number values ∷ map number sizes ++ left) ≡ Some fault
unfolding list_fault
size_wrong whole wires values sizes left fault few missing within is =
    let more : length sizes + suc (values - length sizes - 1) ≡ values = omega arith in
    rw (passes values 1024 _ few)
    (sizes_passed whole wires values (suc (values - length sizes - 1)) sizes left more within ∙ rw is)

-- the list after one right list, or none
pub header_wrong : (whole gates wires : ℕ) (lists : List (List ℕ)) (left : List Lexeme) (fault : ReadFault) → IsStart gates wires lists
    → length lists ≤ 1 → list_fault whole wires left ≡ Some fault
    → read_lexemes whole (start_lexemes gates wires lists ++ left) ≡ faulty fault
header_wrong whole gates wires [] left fault start one is =
    numbers_passed whole gates wires left start.gates_most start.wires_most ∙ rw is
header_wrong whole gates wires (sizes ∷ []) left fault start one is =
    ap (λ l. read_lexemes whole (number gates ∷ number wires ∷ (l ++ left))) (append-nil (counted_lexemes sizes))
    ∙ numbers_passed whole gates wires (counted_lexemes sizes ++ left) start.gates_most start.wires_most
    ∙ second_wrong whole gates wires (counted_lexemes sizes ++ left) left fault
    (list_passed whole wires sizes left (start.few 0 sizes (omega arith)) (start.within 0 sizes (omega arith)))
    (list_left sizes left)
    is
header_wrong whole gates wires (sizes ∷ others ∷ lists) left fault start one is = absurd (omega arith)
