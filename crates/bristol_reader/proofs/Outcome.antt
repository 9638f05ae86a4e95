-- What becomes of a text's lexemes, as a function: the circuit that they say, or their first fault.
use Rattle.std.proofs.Common.{ℕ, zero, suc, ◌+◌, ◌-◌, ◌^◌, ◌==◌, ◌||◌, nat_le, nat_lt, Bool, false, if◌then◌else◌, Option, Some, None, List, [], ◌∷◌, ◌++◌, map, length, take, drop, sum, codes, bytes_eq}
use Rattle.zk_model.specs.Bristol.{Lexeme, number, name}
use Rattle.zk_model.specs.Circuit.{Circuit, wire_set, output_wire}
use Rattle.bristol_reader.specs.TextFaults.{Want, a_count, a_size, input_number, output_number, a_wire, a_name, no_token, first_lexeme_fault, Said, read_fault}
use Rattle.zk_model.specs.declared.GateRow.{GateRow}
use Rattle.zk_model.specs.declared.GateRow.TheVariants.{And, Xor, Inv, Eqw, Eq}
use Rattle.zk_model.specs.declared.ReadFault.{ReadFault}
use Rattle.zk_model.specs.declared.ReadFault.TheVariants.{WireRange, SetTwice, OutputUnset}

pub data Outcome : Type 0 where
  faulty : ReadFault → Outcome
  says : Circuit → Outcome

abbrev pub unless : Option ReadFault → Outcome → Outcome
unless None outcome = outcome
unless (Some fault) outcome = faulty fault

abbrev pub first_of : Option ReadFault → Option ReadFault → Option ReadFault
first_of None other = other
first_of (Some fault) other = Some fault

-- ---- lexemes

abbrev pub number_of : Lexeme → ℕ
number_of (number n) = n
number_of (name text) = 0

abbrev pub text_of : Lexeme → List ℕ
text_of (number n) = []
text_of (name text) = text

abbrev pub head_number : List Lexeme → ℕ
head_number [] = 0
head_number (lexeme ∷ behind) = number_of lexeme

abbrev pub head_text : List Lexeme → List ℕ
head_text [] = []
head_text (lexeme ∷ behind) = text_of lexeme

abbrev pub tail : List Lexeme → List Lexeme
tail [] = []
tail (lexeme ∷ behind) = behind

-- the fault of the first of the lexemes left, of so many in all
abbrev pub token_fault : ℕ → Want → List Lexeme → Option ReadFault
token_fault whole want left = first_lexeme_fault want left (whole - length left)

-- ---- the header

-- of so many sizes, for which so many wires are left
abbrev pub sizes_fault : ℕ → ℕ → ℕ → List Lexeme → Option ReadFault
sizes_fault whole wires zero left = None
sizes_fault whole wires (suc count) left =
    first_of (token_fault whole (a_size wires) left)
    (sizes_fault whole (wires - head_number left) count (tail left))

unfoldable pub list_fault : ℕ → ℕ → List Lexeme → Option ReadFault
list_fault whole wires left =
    first_of (token_fault whole (a_count 1024) left) (sizes_fault whole wires (head_number left) (tail left))

unfoldable pub list_sizes : List Lexeme → List ℕ
list_sizes left = map number_of (take (head_number left) (tail left))

unfoldable pub behind_list : List Lexeme → List Lexeme
behind_list left = drop (head_number left) (tail left)

-- ---- a gate's tokens

-- so many wires and the name of a gate with so many inputs
abbrev pub wires_then_name : ℕ → ℕ → ℕ → List Lexeme → Option ReadFault
wires_then_name whole inputs zero left = token_fault whole (a_name inputs) left
wires_then_name whole inputs (suc count) left =
    first_of (token_fault whole a_wire left) (wires_then_name whole inputs count (tail left))

unfoldable pub gate_fault : ℕ → List Lexeme → Option ReadFault
gate_fault whole left =
    first_of (token_fault whole input_number left)
    (first_of (token_fault whole output_number (tail left))
    (wires_then_name whole (head_number left) (suc (head_number left)) (tail (tail left))))

unfoldable pub said_of : List Lexeme → Said
said_of left = record {
  reads = map number_of (take (head_number left) (tail (tail left)));
  sets = head_number (drop (head_number left) (tail (tail left)));
  text = head_text (tail (drop (head_number left) (tail (tail left))));
}

unfoldable pub behind_gate : List Lexeme → List Lexeme
behind_gate left = tail (tail (drop (head_number left) (tail (tail left))))

-- ---- a gate's wires

abbrev pub is_among : ℕ → List GateRow → Bool
is_among wire [] = false
is_among wire (gate ∷ gates) = wire_set gate == wire || is_among wire gates

-- the circuit so far sets this wire
unfoldable pub is_set : Circuit → ℕ → Bool
is_set begun wire = nat_lt wire begun.inputs || is_among wire begun.gates

unfoldable pub may_read : List ℕ → Circuit → ℕ → Bool
may_read text begun n = if bytes_eq text (codes "EQ") then nat_le n 1 else is_set begun n

abbrev pub reads_fault : List ℕ → Circuit → List ℕ → ℕ → Option ReadFault
reads_fault text begun [] token = None
reads_fault text begun (n ∷ reads) token =
    if may_read text begun n then reads_fault text begun reads (token + 1) else Some (read_fault text begun n token)

abbrev pub set_fault : Circuit → ℕ → ℕ → Option ReadFault
set_fault begun wire token =
    if nat_le begun.wires wire then Some (WireRange token)
    else if is_set begun wire then Some (SetTwice token) else None

unfoldable pub wires_fault : Circuit → Said → ℕ → Option ReadFault
wires_fault begun said token =
    first_of (reads_fault said.text begun said.reads (token + 2))
    (set_fault begun said.sets (token + 2 + length said.reads))

-- ---- gates

abbrev pub read_of : List ℕ → ℕ
read_of [] = 0
read_of (n ∷ reads) = n

abbrev pub second_of : List ℕ → ℕ
second_of [] = 0
second_of (n ∷ reads) = read_of reads

unfoldable pub gate_of : Said → GateRow
gate_of said =
    if bytes_eq said.text (codes "AND") then And (read_of said.reads) (second_of said.reads) said.sets
    else if bytes_eq said.text (codes "XOR") then Xor (read_of said.reads) (second_of said.reads) said.sets
    else if bytes_eq said.text (codes "INV") then Inv (read_of said.reads) said.sets
    else if bytes_eq said.text (codes "EQW") then Eqw (read_of said.reads) said.sets
    else Eq (read_of said.reads == 1) said.sets

abbrev pub with_gates : Circuit → List GateRow → Circuit
with_gates circuit gates = record { wires = circuit.wires; inputs = circuit.inputs; outputs = circuit.outputs; gates = gates }

-- from this output on, of so many
abbrev pub outputs_fault : Circuit → ℕ → ℕ → Option ReadFault
outputs_fault begun output zero = None
outputs_fault begun output (suc count) =
    if is_set begun (output_wire begun output) then outputs_fault begun (output + 1) count
    else Some (OutputUnset (output_wire begun output))

-- so many gates are left
abbrev pub read_gates : ℕ → ℕ → Circuit → List Lexeme → Outcome
read_gates whole zero begun left =
    unless (first_of (token_fault whole no_token left) (outputs_fault begun 0 begun.outputs)) (says begun)
read_gates whole (suc count) begun left =
    unless (first_of (gate_fault whole left) (wires_fault begun (said_of left) (whole - length left)))
    (read_gates whole count (with_gates begun (begun.gates ++ gate_of (said_of left) ∷ [])) (behind_gate left))

-- after the numbers of gates and of wires
abbrev pub read_lists : ℕ → ℕ → ℕ → List Lexeme → Outcome
read_lists whole gates wires left =
    unless (first_of (list_fault whole wires left) (list_fault whole wires (behind_list left)))
    (read_gates whole gates
    (record { wires = wires; inputs = sum (list_sizes left); outputs = sum (list_sizes (behind_list left)); gates = [] })
    (behind_list (behind_list left)))

abbrev pub read_lexemes : ℕ → List Lexeme → Outcome
read_lexemes whole left =
    unless (first_of (token_fault whole (a_count (2 ^ 24)) left) (token_fault whole (a_count (2 ^ 24)) (tail left)))
    (read_lists whole (head_number left) (head_number (tail left)) (tail (tail left)))
