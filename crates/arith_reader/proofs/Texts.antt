-- What is read of a whole text.
use Rattle.std.proofs.Common.{◌≡◌, ℕ, List, refl, ap, sym, ◌∙◌}
use Rattle.std.specs.Prelude.{Result, Ok, Err, IfOk, IfErr}
use Rattle.zk_model.specs.declared.ReadFault.{ReadFault}
use Rattle.zk_model.specs.Arithmetic.{Arith}
use Rattle.zk_model.specs.ArithFaults.{Place, and_then, counts_at, empty_of, judged, rows_at, start_of}
use Rattle.zk_model.specs.declared.ArithRow.{ArithRow}
use Rattle.text_tokens.specs.Words.{left_of, place_of}
use Rattle.arith_reader.specs.declared.header.Header.{Header}
use Rattle.arith_reader.specs.declared.fault.ReadError.{ReadError}
use Rattle.arith_reader.specs.declared.fault.ReadError.TheVariants.{Fault, NoMemory}
use Rattle.arith_reader.specs.Laws.{TextsAreExact}
use Rattle.arith_reader.specs.Reads.{IsOnlyCircuit, ReadCause, TextCause}
use Rattle.arith_reader.specs.Rows.{GivesCounts, GivesRows, RefusesCounts, RowsCause, circuit_with, counts_of}

start_is : (text : List ℕ) → place_of text 0 ≡ start_of text
unfolding left_of
start_is text = refl

begun_at : (text : List ℕ) (place : Place) → place ≡ place_of text 0 → judged text ≡ and_then (counts_at place) (λ counts left. rows_at counts.gates (empty_of counts) left)
begun_at text place is = ap (λ p. and_then (counts_at p) (λ counts left. rows_at counts.gates (empty_of counts) left)) (sym (is ∙ start_is text))

pub header_fault : (text : List ℕ) (place : Place) (fault : ReadFault) → place ≡ place_of text 0 → RefusesCounts place fault → TextCause text (Fault fault)
header_fault text place fault is refuses = begun_at text place is ∙ ap (λ r. and_then r (λ counts left. rows_at counts.gates (empty_of counts) left)) refuses

rows_left : (text : List ℕ) (place after : Place) (header : Header) → place ≡ place_of text 0 → GivesCounts place after header → judged text ≡ rows_at header.gates (empty_of (counts_of header)) after
rows_left text place after header is gives = begun_at text place is ∙ ap (λ r. and_then r (λ counts left. rows_at counts.gates (empty_of counts) left)) gives

pub rows_cause : (text : List ℕ) (place after : Place) (header : Header) (error : ReadError) → place ≡ place_of text 0 → GivesCounts place after header → RowsCause header after error
    → TextCause text error
rows_cause text place after header (Fault fault) is gives cause = rows_left text place after header is gives ∙ cause
rows_cause text place after header NoMemory is gives cause = tt

pub rows_found : (text : List ℕ) (place after : Place) (header : Header) (rows : List ArithRow) → place ≡ place_of text 0 → GivesCounts place after header → GivesRows header after rows
    → judged text ≡ Ok (circuit_with header rows)
rows_found text place after header rows is gives found = rows_left text place after header is gives ∙ found

-- ---- the only circuit, or the only fault

pub only_circuit : (text : List ℕ) (read : Result Arith ReadError) → TextsAreExact → IfOk read (λ c. judged text ≡ Ok c) → IfOk read (IsOnlyCircuit text)
only_circuit text (Ok circuit) exact is = record {
  says = (exact text circuit).0 is;
  only = λ other says. same other circuit (sym ((exact text other).1 says) ∙ is);
  no_fault = λ fault other. apart circuit fault (sym is ∙ other);
}
  where
    same : (c d : Arith) → ◌≡◌ {A = Result Arith ReadFault} (Ok c) (Ok d) → c ≡ d
    same c d is = cc

    apart : (c : Arith) (fault : ReadFault) → ◌≡◌ {A = Result Arith ReadFault} (Ok c) (Err fault) → ⊥
    apart c fault is = absurd cc
only_circuit text (Err error) exact is = tt

pub only_cause : (text : List ℕ) (error : ReadError) → TextsAreExact → TextCause text error → ReadCause text error
only_cause text (Fault fault) exact cause = record {
  first = cause;
  no_circuit = λ circuit says. apart circuit (sym ((exact text circuit).1 says) ∙ cause);
}
  where
    apart : (c : Arith) → ◌≡◌ {A = Result Arith ReadFault} (Ok c) (Err fault) → ⊥
    apart c is = absurd cc
only_cause text NoMemory exact cause = tt

pub only_fault : (text : List ℕ) (read : Result Arith ReadError) → TextsAreExact → IfErr read (TextCause text) → IfErr read (ReadCause text)
only_fault text (Ok circuit) exact cause = tt
only_fault text (Err error) exact cause = only_cause text error exact cause
