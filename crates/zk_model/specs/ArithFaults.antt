-- How the text of an arithmetic circuit is judged: token by token, each where it stands, and at last the outputs. The first that is
-- not right is the text's fault.
use Rattle.std.specs.Prelude.{ℕ, zero, suc, ◌+◌, nat_le, nat_lt, if◌then◌else◌, Option, None, Some, Result, Ok, Err, List, [], ◌∷◌, ◌++◌, codes}
use Rattle.std.specs.Str.{bytes_eq}
use Rattle.zk_model.specs.Field.{prime}
use Rattle.zk_model.specs.Bristol.{Lexeme, number, name, lexemes}
use Rattle.zk_model.specs.declared.ReadFault.{ReadFault}
use Rattle.zk_model.specs.declared.ReadFault.TheVariants.{ShortText, BadNumber, TooLarge, BadGate, BadConstant, WireRange, ReadBeforeSet, SetTwice, OutputUnset, ExtraText}
use Rattle.zk_model.specs.declared.limits.TheConstants.{MAX_GATES, MAX_WIRES}
use Rattle.zk_model.specs.Arithmetic.{Arith, first_output, is_set}
use Rattle.zk_model.specs.declared.ArithName.{ArithName}
use Rattle.zk_model.specs.declared.ArithName.TheVariants as gate
use Rattle.zk_model.specs.declared.ArithRow.{ArithRow}
use Rattle.zk_model.specs.declared.ArithRow.TheVariants.{Add, Mul, Const, Assert}

-- ---- one token

-- what a token gives, by its number in the text, or its fault
abbrev pub Judge : Type 0 → Type 0
Judge A = ℕ → Lexeme → Result A ReadFault

-- a number of gates or of wires, up to a limit
abbrev pub count_of : ℕ → Judge ℕ
count_of limit token (number n) = if nat_le n limit then Ok n else Err (TooLarge token)
count_of limit token (name text) = Err (BadNumber token)

-- a number of inputs or of outputs, of at most so many wires
abbrev pub size_of : ℕ → Judge ℕ
size_of wires token (number n) = if nat_le n wires then Ok n else Err (WireRange token)
size_of wires token (name text) = Err (BadNumber token)

-- a constant
abbrev pub constant_of : Judge ℕ
constant_of token (number n) = if nat_lt n prime then Ok n else Err (BadConstant token)
constant_of token (name text) = Err (BadNumber token)

-- a wire that a gate reads after those of a circuit so far
abbrev pub read_of : Arith → Judge ℕ
read_of begun token (number n) =
    if nat_lt n begun.wires then (if is_set begun.inputs begun.gates n then Ok n else Err (ReadBeforeSet token))
    else Err (WireRange token)
read_of begun token (name text) = Err (BadNumber token)

-- a wire that a gate sets
abbrev pub set_of : Arith → Judge ℕ
set_of begun token (number n) =
    if nat_lt n begun.wires then (if is_set begun.inputs begun.gates n then Err (SetTwice token) else Ok n)
    else Err (WireRange token)
set_of begun token (name text) = Err (BadNumber token)

-- the name of a gate
abbrev pub name_of : Judge ArithName
name_of token (number n) = Err (BadGate token)
name_of token (name text) =
    if bytes_eq text (codes "ADD") then Ok gate.Add
    else if bytes_eq text (codes "MUL") then Ok gate.Mul
    else if bytes_eq text (codes "CONST") then Ok gate.Const
    else if bytes_eq text (codes "ASSERT") then Ok gate.Assert
    else Err (BadGate token)

-- ---- one token after another

-- what is left of a text's tokens, and how many stand before them
pub record Place : Type 0 where
  pub left : List Lexeme
  pub taken : ℕ

-- an item, and the place behind its tokens
pub record Behind (A : Type 0) : Type 0 where
  pub item : A
  pub place : Place

-- what a token gave, with the place behind it
abbrev pub behind : {A : Type 0} → Place → Result A ReadFault → Result (Behind A) ReadFault
behind place (Ok item) = Ok (record { item = item; place = place })
behind place (Err fault) = Err fault

-- the first of these tokens, which has this number
abbrev pub first_judged : {A : Type 0} → Judge A → List Lexeme → ℕ → Result (Behind A) ReadFault
first_judged judge [] token = Err (ShortText token)
first_judged judge (lexeme ∷ left) token = behind (record { left = left; taken = token + 1 }) (judge token lexeme)

-- the next token
abbrev pub next : {A : Type 0} → Judge A → Place → Result (Behind A) ReadFault
next judge place = first_judged judge place.left place.taken

-- what comes behind an item, unless there is a fault
abbrev pub and_then : {A B : Type 0} → Result (Behind A) ReadFault → (A → Place → Result B ReadFault) → Result B ReadFault
and_then (Ok read) more = more read.item read.place
and_then (Err fault) more = Err fault

-- ---- gates

-- two wires that a gate reads, and the one that it sets: the gate of these
abbrev pub pair_behind : (ℕ → ℕ → ℕ → ArithRow) → Arith → Place → Result (Behind ArithRow) ReadFault
pair_behind row begun place =
    and_then (next (read_of begun) place) (λ a second. and_then (next (read_of begun) second) (λ b third.
    and_then (next (set_of begun) third) (λ out last. Ok (record { item = row a b out; place = last }))))

-- a gate of this name, behind its name
abbrev pub row_behind : Arith → ArithName → Place → Result (Behind ArithRow) ReadFault
row_behind begun gate.Add place = pair_behind Add begun place
row_behind begun gate.Mul place = pair_behind Mul begun place
row_behind begun gate.Const place =
    and_then (next constant_of place) (λ value second.
    and_then (next (set_of begun) second) (λ out last. Ok (record { item = Const value out; place = last })))
row_behind begun gate.Assert place =
    and_then (next (read_of begun) place) (λ a last. Ok (record { item = Assert a; place = last }))

-- a gate
abbrev pub row_at : Arith → Place → Result (Behind ArithRow) ReadFault
row_at begun place = and_then (next name_of place) (λ of second. row_behind begun of second)

-- the circuit so far with one gate more
abbrev pub with_row : Arith → ArithRow → Arith
with_row begun row = record {
  wires = begun.wires;
  inputs = begun.inputs;
  outputs = begun.outputs;
  gates = begun.gates ++ row ∷ [];
}

-- the first of so many wires, from this one on, that is not set
abbrev pub first_unset : Arith → ℕ → ℕ → Option ℕ
first_unset begun wire zero = None
first_unset begun wire (suc more) =
    if is_set begun.inputs begun.gates wire then first_unset begun (wire + 1) more else Some wire

-- the circuit, unless this output is not set
abbrev pub unless_unset : Arith → Option ℕ → Result Arith ReadFault
unless_unset begun None = Ok begun
unless_unset begun (Some wire) = Err (OutputUnset wire)

-- the end of the text, where these tokens are left, the first of which has this number
abbrev pub end_behind : Arith → List Lexeme → ℕ → Result Arith ReadFault
end_behind begun [] token = unless_unset begun (first_unset begun (first_output begun) begun.outputs)
end_behind begun (lexeme ∷ left) token = Err (ExtraText token)

abbrev pub end_at : Arith → Place → Result Arith ReadFault
end_at begun place = end_behind begun place.left place.taken

-- so many gates, and the end
abbrev pub rows_at : ℕ → Arith → Place → Result Arith ReadFault
rows_at zero begun place = end_at begun place
rows_at (suc more) begun place = and_then (row_at begun place) (λ row left. rows_at more (with_row begun row) left)

-- ---- the text

-- the numbers of gates, wires, inputs and outputs
pub record Counts : Type 0 where
  pub gates : ℕ
  pub wires : ℕ
  pub inputs : ℕ
  pub outputs : ℕ

abbrev pub counts_at : Place → Result (Behind Counts) ReadFault
counts_at place =
    and_then (next (count_of MAX_GATES) place) (λ gates second. and_then (next (count_of MAX_WIRES) second) (λ wires third.
    and_then (next (size_of wires) third) (λ inputs fourth. and_then (next (size_of wires) fourth) (λ outputs last.
    Ok (record { item = record { gates = gates; wires = wires; inputs = inputs; outputs = outputs }; place = last })))))

-- a circuit of these counts, without a gate
abbrev pub empty_of : Counts → Arith
empty_of counts = record { wires = counts.wires; inputs = counts.inputs; outputs = counts.outputs; gates = [] }

abbrev pub start_of : List ℕ → Place
start_of text = record { left = lexemes text; taken = 0 }

-- what a text says: a circuit, or its first fault
abbrev pub judged : List ℕ → Result Arith ReadFault
judged text = and_then (counts_at (start_of text)) (λ counts left. rows_at counts.gates (empty_of counts) left)
