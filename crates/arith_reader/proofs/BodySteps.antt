-- Gates that are read one after another.
use Rattle.std.proofs.Common.{◌≡◌, ℕ, suc, ◌+◌, ◌-◌, ◌<◌, ◌≤◌, Bool, List, [], ◌∷◌, ◌++◌, length, ap, sym, ◌∙◌, subst, arith, length-append}
use Rattle.std.specs.Prelude.{Err}
use Rattle.zk_model.specs.declared.ReadFault.{ReadFault}
use Rattle.zk_model.specs.declared.ReadFault.TheVariants.{OutputUnset}
use Rattle.zk_model.specs.ArithFaults.{Place, and_then, empty_of, end_behind, end_at, first_unset, rows_at, unless_unset, with_row}
use Rattle.zk_model.specs.declared.ArithRow.{ArithRow}
use Rattle.arith_reader.specs.declared.header.Header.{Header}
use Rattle.arith_reader.specs.Wants.{AreFlags, IsExtra}
use Rattle.arith_reader.specs.Rows.{AreFirstFlags, AreSetFrom, GivesRow, GivesRows, IsFirstUnset, IsWithin, RefusesRow, circuit_with, counts_of, flags_after}
use Rattle.arith_reader.proofs.Flags.{flags_first, flags_next, none_unset, unset_found}

-- some gates of a text, whose first gate stands here: what is said of them and of those that are left is what is said of all
pub record IsBodySoFar (header : Header) (start place : Place) (flags : List Bool) (rows : List ArithRow) (n : ℕ) : Type 0 where
  pub count : length rows ≡ n
  pub flags_are : AreFlags flags (circuit_with header rows)
  pub left : (more : ℕ) → n + more ≡ header.gates → rows_at more (circuit_with header rows) place ≡ rows_at header.gates (empty_of (counts_of header)) start

pub body_first : (header : Header) (start : Place) (flags : List Bool) (rows : List ArithRow) → rows ≡ [] → AreFirstFlags flags header.wires header.inputs
    → IsBodySoFar header start start flags rows 0
body_first header start flags rows none are = record {
  count = ap length none;
  flags_are = flags_first flags (circuit_with header rows) none are;
  left = λ more all. (λ i. rows_at (count more all i) (circuit_with header (none i)) start);
}
  where
    count : (more : ℕ) → 0 + more ≡ header.gates → more ≡ header.gates
    count more all = omega (arith, all)

pub body_more : (header : Header) (start place after : Place) (flags now : List Bool) (rows longer : List ArithRow) (row : ArithRow) (n : ℕ) → GivesRow flags place after row
    → IsWithin (length flags) row → longer ≡ rows ++ row ∷ [] → now ≡ flags_after flags row → IsBodySoFar header start place flags rows n
    → IsBodySoFar header start after now longer (n + 1)
body_more header start place after flags now rows longer row n gives within pushed noted far = record {
  count = omega (arith, ap length pushed, length-append rows (row ∷ []), far.count);
  flags_are = subst (λ (l : List Bool). AreFlags l (circuit_with header longer)) (sym noted)
      (subst (λ (r : List ArithRow). AreFlags (flags_after flags row) (circuit_with header r)) (sym pushed)
      (flags_next flags (circuit_with header rows) row within far.flags_are));
  left = λ more all.
      ap (λ r. rows_at more (circuit_with header r) after) pushed
      ∙ sym (ap (λ r. and_then r (λ next left. rows_at more (with_row (circuit_with header rows) next) left)) (gives (circuit_with header rows) far.flags_are))
      ∙ far.left (suc more) (omega (arith, all));
}

-- a gate that has a fault
pub row_fault : (header : Header) (start place : Place) (flags : List Bool) (rows : List ArithRow) (n : ℕ) (fault : ReadFault) → n < header.gates → RefusesRow flags place fault
    → IsBodySoFar header start place flags rows n → rows_at header.gates (empty_of (counts_of header)) start ≡ Err fault
row_fault header start place flags rows n fault more refuses far =
    sym (far.left (suc (header.gates - n - 1)) (omega (arith, more)))
    ∙ ap (λ r. and_then r (λ next left. rows_at (header.gates - n - 1) (with_row (circuit_with header rows) next) left)) (refuses (circuit_with header rows) far.flags_are)

-- ---- the end

all_left : (header : Header) (start place : Place) (flags : List Bool) (rows : List ArithRow) (n : ℕ) → n ≡ header.gates → IsBodySoFar header start place flags rows n
    → end_at (circuit_with header rows) place ≡ rows_at header.gates (empty_of (counts_of header)) start
all_left header start place flags rows n all far = far.left 0 (omega (arith, all))

pub extra_fault : (header : Header) (start place : Place) (flags : List Bool) (rows : List ArithRow) (n : ℕ) (fault : ReadFault) → n ≡ header.gates → IsExtra place fault
    → IsBodySoFar header start place flags rows n → rows_at header.gates (empty_of (counts_of header)) start ≡ Err fault
extra_fault header start place flags rows n fault all extra far =
    sym (all_left header start place flags rows n all far)
    ∙ ap (λ l. end_behind (circuit_with header rows) l place.taken) extra.stands ∙ ap Err (sym extra.fault_is)

outputs_left : (header : Header) (start place : Place) (flags : List Bool) (rows : List ArithRow) (n : ℕ) → n ≡ header.gates → place.left ≡ [] → IsBodySoFar header start place flags rows n
    → rows_at header.gates (empty_of (counts_of header)) start ≡ unless_unset (circuit_with header rows) (first_unset (circuit_with header rows) (header.wires - header.outputs) header.outputs)
outputs_left header start place flags rows n all none far =
    sym (all_left header start place flags rows n all far) ∙ ap (λ l. end_behind (circuit_with header rows) l place.taken) none

pub output_fault : (header : Header) (start place : Place) (flags : List Bool) (rows : List ArithRow) (n wire : ℕ) → n ≡ header.gates → header.outputs ≤ header.wires → place.left ≡ []
    → IsBodySoFar header start place flags rows n → IsFirstUnset flags (length flags - header.outputs) wire
    → rows_at header.gates (empty_of (counts_of header)) start ≡ Err (OutputUnset wire)
output_fault header start place flags rows n wire all within none far is =
    let begun = circuit_with header rows in
    let first : length flags - header.outputs ≡ header.wires - header.outputs = ap (λ l. l - header.outputs) far.flags_are.whole in
    outputs_left header start place flags rows n all none far
    ∙ ap (unless_unset begun) (unset_found flags begun header.outputs (header.wires - header.outputs) wire (omega (arith, within)) far.flags_are
    (subst (λ (f : ℕ). IsFirstUnset flags f wire) first is))

pub body_found : (header : Header) (start place : Place) (flags : List Bool) (rows : List ArithRow) (n : ℕ) → n ≡ header.gates → header.outputs ≤ header.wires → place.left ≡ []
    → AreSetFrom flags (length flags - header.outputs) → IsBodySoFar header start place flags rows n → GivesRows header start rows
body_found header start place flags rows n all within none set far =
    let begun = circuit_with header rows in
    let first : length flags - header.outputs ≡ header.wires - header.outputs = ap (λ l. l - header.outputs) far.flags_are.whole in
    outputs_left header start place flags rows n all none far
    ∙ ap (unless_unset begun) (none_unset flags begun header.outputs (header.wires - header.outputs) (omega (arith, within)) far.flags_are
    (subst (λ (f : ℕ). AreSetFrom flags f) first set))
