-- The function passes right gates, and finds the fault of a wrong one.
use Rattle.std.proofs.Common.{◌≡◌, ◌⊎◌, ℕ, zero, suc, ◌+◌, ◌-◌, ◌<◌, ◌≤◌, ◌==◌, ◌||◌, Bool, true, false, Some, None, List, [], ◌∷◌, ◌++◌, map, flat_map, length, slice_get, All, codes, refl, ap, ap₂, sym, ◌∙◌, inl, inr, append_assoc, append-nil, arith, lit≤}
use Rattle.std.proofs.lemmas.List.Elements.{All-from_recursion}
use Rattle.zk_model.specs.Bits.{from_bit}
use Rattle.zk_model.specs.Bristol.{Lexeme, number, name, gate_lexemes}
use Rattle.zk_model.specs.Circuit.{Circuit, IsSet, IsWellFormed, wire_set, wires_read}
use Rattle.bristol_reader.specs.TextFaults.{Want, fault_unless, GateWants, first, second, next_wire, last, Said, said_lexemes, IsSaid, MayRead, IsSetSoFar, without_outputs}
use Rattle.zk_model.specs.declared.GateRow.{GateRow}
use Rattle.zk_model.specs.declared.GateRow.TheVariants.{And, Xor, Inv, Eqw, Eq}
use Rattle.zk_model.specs.declared.ReadFault.{ReadFault}
use Rattle.bristol_reader.proofs.Outcome.{head_number, head_text, tail, token_fault, wires_then_name, gate_fault, said_of, behind_gate, gate_of, wires_fault, with_gates, read_gates}
use Rattle.bristol_reader.proofs.HeaderOutcome.{all_numbers, behind_numbers}
use Rattle.bristol_reader.proofs.SetOutcome.{so_far, reads_passed, set_passed}

-- ---- a gate's tokens

one_or_two : (n : ℕ) (fault : ReadFault) → (n ≡ 1) ⊎ (n ≡ 2) → fault_unless (n == 1 || n == 2) fault ≡ None
one_or_two n fault (inl one) = rw one
one_or_two n fault (inr two) = rw two

wires_passed : (whole inputs count more : ℕ) (wires : List ℕ) (behind : List Lexeme) → length wires + more ≡ count
    → wires_then_name whole inputs count (map number wires ++ behind) ≡ wires_then_name whole inputs more behind
wires_passed whole inputs count more [] behind counted =
    let same : count ≡ more = omega arith in
    ap (λ n. wires_then_name whole inputs n behind) same
wires_passed whole inputs zero more (n ∷ wires) behind counted = absurd (omega arith)
wires_passed whole inputs (suc count) more (n ∷ wires) behind counted =
    wires_passed whole inputs count more wires behind (omega arith)

-- after the two numbers of a gate
numbers_passed : (whole n : ℕ) (left : List Lexeme) → (n ≡ 1) ⊎ (n ≡ 2)
    → gate_fault whole (number n ∷ number 1 ∷ left) ≡ wires_then_name whole n (suc n) left
unfolding gate_fault
numbers_passed whole n left right = rw (one_or_two n _ right)

-- one of its tokens is wrong
pub gate_wrong : (whole : ℕ) (part behind : List Lexeme) (want : Want) (fault : ReadFault) → GateWants part want
    → token_fault whole want behind ≡ Some fault → gate_fault whole (part ++ behind) ≡ Some fault
unfolding gate_fault
gate_wrong whole part behind want fault (first nothing wants) is = rw (nothing, ap (λ w. token_fault whole w behind) (sym wants) ∙ is)
gate_wrong whole part behind want fault (second n right there wants) is =
    rw (there, one_or_two n _ right, ap (λ w. token_fault whole w behind) (sym wants) ∙ is)
gate_wrong whole part behind want fault (next_wire n wires right few there wants) is =
    let more : length wires + suc (n - length wires) ≡ suc n = omega arith in
    ap (λ l. gate_fault whole (l ++ behind)) there
    ∙ numbers_passed whole n (map number wires ++ behind) right
    ∙ wires_passed whole n (suc n) (suc (n - length wires)) wires behind more
    ∙ rw (ap (λ w. token_fault whole w behind) (sym wants) ∙ is)
gate_wrong whole part behind want fault (last n wires right all there wants) is =
    let none : length wires + 0 ≡ suc n = omega arith in
    ap (λ l. gate_fault whole (l ++ behind)) there
    ∙ numbers_passed whole n (map number wires ++ behind) right
    ∙ wires_passed whole n (suc n) 0 wires behind none
    ∙ (ap (λ w. token_fault whole w behind) (sym wants) ∙ is)

-- ---- a whole gate

-- the lexemes after the two numbers
abbrev said_rest : Said → List Lexeme → List Lexeme
said_rest said behind = map number said.reads ++ (number said.sets ∷ name said.text ∷ behind)

said_split : (said : Said) (behind : List Lexeme)
    → said_lexemes said ++ behind ≡ number (length said.reads) ∷ number 1 ∷ said_rest said behind
said_split said behind =
    ap (λ l. number (length said.reads) ∷ number 1 ∷ l)
    (append_assoc (map number said.reads) (number said.sets ∷ name said.text ∷ []) behind)

same_said : (one other : Said) → one.reads ≡ other.reads → one.sets ≡ other.sets → one.text ≡ other.text → one ≡ other
same_said one other reads sets text = λ i. record { reads = reads i; sets = sets i; text = text i }

pub said_read : (said : Said) (behind : List Lexeme) → said_of (said_lexemes said ++ behind) ≡ said
unfolding said_of
said_read said behind =
    let rest = number said.sets ∷ name said.text ∷ behind in
    let left = behind_numbers said.reads rest in
    ap said_of (said_split said behind)
    ∙ same_said (said_of (number (length said.reads) ∷ number 1 ∷ said_rest said behind)) said
    (all_numbers said.reads rest) (ap head_number left) (ap (λ l. head_text (tail l)) left)

pub said_left : (said : Said) (behind : List Lexeme) → behind_gate (said_lexemes said ++ behind) ≡ behind
unfolding behind_gate
said_left said behind =
    ap behind_gate (said_split said behind)
    ∙ ap (λ l. tail (tail l)) (behind_numbers said.reads (number said.sets ∷ name said.text ∷ behind))

pub said_passed : (whole : ℕ) (said : Said) (behind : List Lexeme) → IsSaid said → gate_fault whole (said_lexemes said ++ behind) ≡ None
said_passed whole said behind is =
    let none : length said.reads + 1 ≡ suc (length said.reads) = omega arith in
    ap (gate_fault whole) (said_split said behind)
    ∙ numbers_passed whole (length said.reads) (said_rest said behind) is.reads
    ∙ wires_passed whole (length said.reads) (suc (length said.reads)) 1 said.reads (number said.sets ∷ name said.text ∷ behind) none
    ∙ rw is.text

-- ---- the gates that are read

abbrev said_gate : GateRow → Said
said_gate (And a b out) = record { reads = a ∷ b ∷ []; sets = out; text = codes "AND" }
said_gate (Xor a b out) = record { reads = a ∷ b ∷ []; sets = out; text = codes "XOR" }
said_gate (Inv a out) = record { reads = a ∷ []; sets = out; text = codes "INV" }
said_gate (Eqw a out) = record { reads = a ∷ []; sets = out; text = codes "EQW" }
said_gate (Eq bit out) = record { reads = from_bit bit ∷ []; sets = out; text = codes "EQ" }

gate_spelled : (gate : GateRow) → gate_lexemes gate ≡ said_lexemes (said_gate gate)
gate_spelled (And a b out) = refl
gate_spelled (Xor a b out) = refl
gate_spelled (Inv a out) = refl
gate_spelled (Eqw a out) = refl
gate_spelled (Eq bit out) = refl

gate_said : (gate : GateRow) → IsSaid (said_gate gate)
gate_said (And a b out) = record { reads = inr refl; text = refl }
gate_said (Xor a b out) = record { reads = inr refl; text = refl }
gate_said (Inv a out) = record { reads = inl refl; text = refl }
gate_said (Eqw a out) = record { reads = inl refl; text = refl }
gate_said (Eq bit out) = record { reads = inl refl; text = refl }

gate_again : (gate : GateRow) → gate_of (said_gate gate) ≡ gate
unfolding gate_of
gate_again (And a b out) = refl
gate_again (Xor a b out) = refl
gate_again (Inv a out) = refl
gate_again (Eqw a out) = refl
gate_again (Eq true out) = refl
gate_again (Eq false out) = refl

gate_sets : (gate : GateRow) → (said_gate gate).sets ≡ wire_set gate
gate_sets (And a b out) = refl
gate_sets (Xor a b out) = refl
gate_sets (Inv a out) = refl
gate_sets (Eqw a out) = refl
gate_sets (Eq bit out) = refl

bit_most : (bit : Bool) → from_bit bit ≤ 1
bit_most true = lit≤ tt
bit_most false = lit≤ tt

gate_reads : (begun : Circuit) (gate : GateRow) → All (IsSetSoFar begun) (wires_read gate)
    → All (MayRead (said_gate gate).text begun) (said_gate gate).reads
gate_reads begun (And a b out) all = λ k d within. inr (refl, all k d within)
gate_reads begun (Xor a b out) all = λ k d within. inr (refl, all k d within)
gate_reads begun (Inv a out) all = λ k d within. inr (refl, all k d within)
gate_reads begun (Eqw a out) all = λ k d within. inr (refl, all k d within)
gate_reads begun (Eq bit out) all =
    All-from_recursion (MayRead (codes "EQ") begun) (from_bit bit ∷ []) (inl (refl, bit_most bit), tt)

wires_right : (whole : Circuit) (done others : List GateRow) (gate : GateRow) (token : ℕ) → done ++ others ≡ whole.gates
    → All (IsSet whole (length done)) (wires_read gate) → wire_set gate < whole.wires → ¬ IsSet whole (length done) (wire_set gate)
    → wires_fault (with_gates whole done) (said_gate gate) token ≡ None
unfolding wires_fault
wires_right whole done others gate token split reads within once =
    let so = λ (k d : ℕ) (below : k < length (wires_read gate)). so_far whole done others _ split (reads k d below) in
    rw (reads_passed (said_gate gate).text (with_gates whole done) (said_gate gate).reads (token + 2) (gate_reads (with_gates whole done) gate so), gate_sets gate)
    (set_passed whole done others (wire_set gate) _ split within once)

-- one gate
gate_step : (whole count : ℕ) (begun : Circuit) (left behind : List Lexeme) (said : Said) (gate : GateRow) → gate_fault whole left ≡ None
    → said_of left ≡ said → behind_gate left ≡ behind → gate_of said ≡ gate → wires_fault begun said (whole - length left) ≡ None
    → read_gates whole (suc count) begun left ≡ read_gates whole count (with_gates begun (begun.gates ++ gate ∷ [])) behind
gate_step whole count begun left behind said gate right saying then is wires = rw (right, saying, then, is, wires)

gate_at : (done others : List GateRow) (gate : GateRow) → slice_get (done ++ gate ∷ others) (length done) ≡ Some gate
gate_at [] others gate = refl
gate_at (earlier ∷ done) others gate = gate_at done others gate

-- the gates of a circuit that is in order, from one on
pub gates_passed : (whole count left : ℕ) (circuit : Circuit) (done gates : List GateRow) (behind : List Lexeme)
    → IsWellFormed (without_outputs circuit) → done ++ gates ≡ circuit.gates → length gates + left ≡ count
    → read_gates whole count (with_gates circuit done) (flat_map gate_lexemes gates ++ behind) ≡ read_gates whole left circuit behind
gates_passed whole count left circuit done [] behind order split counted =
    let same : count ≡ left = omega arith in
    ap₂ (λ n gates. read_gates whole n (with_gates circuit gates) behind) same (sym (append-nil done) ∙ split)
gates_passed whole zero left circuit done (gate ∷ gates) behind order split counted = absurd (omega arith)
gates_passed whole (suc count) left circuit done (gate ∷ gates) behind order split counted =
    let said = said_gate gate in
    let rest = flat_map gate_lexemes gates ++ behind in
    let at = ap (λ l. slice_get l (length done)) (sym split) ∙ gate_at done gates gate in
    ap (read_gates whole (suc count) (with_gates circuit done))
    (append_assoc (gate_lexemes gate) (flat_map gate_lexemes gates) behind ∙ ap (λ l. l ++ rest) (gate_spelled gate))
    ∙ gate_step whole count (with_gates circuit done) (said_lexemes said ++ rest) rest said gate
    (said_passed whole said rest (gate_said gate))
    (said_read said rest)
    (said_left said rest)
    (gate_again gate)
    (wires_right circuit done (gate ∷ gates) gate _ split
    (order.reads_set (length done) gate at) (order.sets_within (length done) gate at) (order.sets_once (length done) gate at))
    ∙ gates_passed whole count left circuit (done ++ gate ∷ []) gates behind order (append_assoc done (gate ∷ []) gates ∙ split) (omega arith)
