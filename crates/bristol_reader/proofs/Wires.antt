-- The wires of a gate, by the flags.
use Rattle.std.proofs.Common.{◌≡◌, ℕ, zero, suc, ◌+◌, ◌<◌, ◌≤◌, ◌^◌, inl, inr, Bool, true, false, List, [], ◌∷◌, length, min, take, refl, ap, sym, ◌∙◌, subst, arith}
use Rattle.std.specs.Prelude.{All, Some, codes, if◌then◌else◌, nat_le, slice_get}
use Rattle.std.specs.Str.{bytes_eq}
use Rattle.std.proofs.lemmas.Bool.{cases_lt, le-leb}
use Rattle.std.proofs.lemmas.List.{get_or_past}
use Rattle.std.proofs.lemmas.List.Elements.{All-from_recursion}
use Rattle.zk_model.specs.Circuit.{Circuit}
use Rattle.bristol_reader.specs.TextFaults.{Said, MayRead, MayNotSet, IsInputFault, beyond, again, read_fault}
use Rattle.zk_model.specs.declared.ReadFault.{ReadFault}
use Rattle.zk_model.specs.declared.ReadFault.TheVariants.{WireRange, ReadBeforeSet, SetTwice, BadConstant}
use Rattle.bristol_reader.specs.declared.wants.BinaryGate.{BinaryGate}
use Rattle.bristol_reader.specs.declared.wants.BinaryGate.TheVariants as pair
use Rattle.bristol_reader.specs.declared.wants.UnaryGate.{UnaryGate}
use Rattle.bristol_reader.specs.declared.wants.UnaryGate.TheVariants as single
use Rattle.bristol_reader.specs.declared.wants.Placed.{Placed}
use Rattle.bristol_reader.specs.Words.{greatest}
use Rattle.bristol_reader.specs.Wants.{IsPlaced, pair_text, single_text}
use Rattle.bristol_reader.specs.Gates.{flag_of, AreFlags, IsWrongPair, IsWrongSingle, MayBeInput, MayNotBeInput, IsNoSetWire, IsNoFreeWire}

-- ---- flags at a number as it is read

-- a wire whose flag is on is one of the circuit's
pub flagged_within : (flags : List Bool) (wire : ℕ) → flag_of flags wire ≡ true → wire < length flags
flagged_within [] wire is = cc
flagged_within (flag ∷ flags) zero is = omega arith
flagged_within (flag ∷ flags) (suc wire) is = omega (arith, flagged_within flags wire is)

shown_flag : (flags : List Bool) (shown exact : ℕ) → length flags ≤ 2 ^ 24 → shown ≡ min exact greatest → flag_of flags shown ≡ flag_of flags exact
shown_flag flags shown exact few is = elim (cases_lt exact greatest) [
  | inl small ↦ ap (flag_of flags) (omega arith)
  | inr large ↦ get_or_past flags shown false (omega arith) ∙ sym (get_or_past flags exact false (omega arith))
]

shown_range : (wires shown exact : ℕ) → wires ≤ 2 ^ 24 → shown ≡ min exact greatest → nat_le wires shown ≡ nat_le wires exact
shown_range wires shown exact few is = elim (cases_lt exact greatest) [
  | inl small ↦ ap (nat_le wires) (omega arith)
  | inr large ↦ le-leb wires shown (omega arith) ∙ sym (le-leb wires exact (omega arith))
]

-- ---- one wire

may_read : (flags : List Bool) (begun : Circuit) (placed : Placed) (exact token : ℕ) (text : List ℕ) → length flags ≤ 2 ^ 24 → AreFlags flags begun → IsPlaced placed exact token
    → bytes_eq text (codes "EQ") ≡ false → flag_of flags placed.number ≡ true → MayRead text begun exact
may_read flags begun placed exact token text few are is wire on = inr (wire, are.set exact (sym (shown_flag flags placed.number exact few is.number_is) ∙ on))

-- it may not be read, and this is the fault
abbrev IsUnread : Circuit → List ℕ → ℕ → ℕ → ReadFault → Type 0
IsUnread begun text exact token fault = (¬ MayRead text begun exact) × (fault ≡ read_fault text begun exact token)

may_not_read : (flags : List Bool) (begun : Circuit) (placed : Placed) (exact token : ℕ) (text : List ℕ) (fault : ReadFault) → length flags ≤ 2 ^ 24 → AreFlags flags begun
    → IsPlaced placed exact token → bytes_eq text (codes "EQ") ≡ false → IsNoSetWire flags placed fault → IsUnread begun text exact token fault
may_not_read flags begun placed exact token text fault few are is wire wrong =
    let range : nat_le (length flags) placed.number ≡ nat_le begun.wires exact =
    shown_range (length flags) placed.number exact few is.number_is ∙ ap (λ n. nat_le n exact) are.whole in (
      (λ may. elim may [
        | inl constant ↦ let both : true ≡ false = sym constant.0 ∙ wire in absurd cc
        | inr set ↦ are.unset exact (sym (shown_flag flags placed.number exact few is.number_is) ∙ wrong.0) set.1
      ]),
      wrong.1 ∙ (λ i. if range i then WireRange (is.token_is i) else ReadBeforeSet (is.token_is i))
          ∙ sym (ap (λ b. if b then BadConstant token else if nat_le begun.wires exact then WireRange token else ReadBeforeSet token) wire),
    )

may_not_set : (flags : List Bool) (begun : Circuit) (placed : Placed) (exact token : ℕ) (fault : ReadFault) → length flags ≤ 2 ^ 24 → AreFlags flags begun
    → IsPlaced placed exact token → IsNoFreeWire flags placed fault → MayNotSet begun exact token fault
may_not_set flags begun placed exact token fault few are is (inl wrong) =
    beyond (omega (arith, are.whole, wrong.0, is.number_is)) (wrong.1 ∙ ap WireRange is.token_is)
may_not_set flags begun placed exact token fault few are is (inr wrong) =
    let on : flag_of flags exact ≡ true = sym (shown_flag flags placed.number exact few is.number_is) ∙ wrong.0 in
    again (subst (λ (n : ℕ). exact < n) are.whole (flagged_within flags exact on)) (are.set exact on) (wrong.1 ∙ ap SetTwice is.token_is)

-- ---- the input of a gate that has one

may_be_input : (flags : List Bool) (begun : Circuit) (name : UnaryGate) (placed : Placed) (exact token : ℕ) → length flags ≤ 2 ^ 24 → AreFlags flags begun
    → IsPlaced placed exact token → MayBeInput flags name placed → MayRead (single_text name) begun exact
may_be_input flags begun single.Inv placed exact token few are is may = may_read flags begun placed exact token (codes "INV") few are is refl may
may_be_input flags begun single.Eqw placed exact token few are is may = may_read flags begun placed exact token (codes "EQW") few are is refl may
may_be_input flags begun single.Eq placed exact token few are is may = inl (refl, omega (arith, is.number_is))

may_not_be_input : (flags : List Bool) (begun : Circuit) (name : UnaryGate) (placed : Placed) (exact token : ℕ) (fault : ReadFault) → length flags ≤ 2 ^ 24 → AreFlags flags begun
    → IsPlaced placed exact token → MayNotBeInput flags name placed fault → IsUnread begun (single_text name) exact token fault
may_not_be_input flags begun single.Inv placed exact token fault few are is wrong = may_not_read flags begun placed exact token (codes "INV") fault few are is refl wrong
may_not_be_input flags begun single.Eqw placed exact token fault few are is wrong = may_not_read flags begun placed exact token (codes "EQW") fault few are is refl wrong
may_not_be_input flags begun single.Eq placed exact token fault few are is wrong = (
  (λ may. elim may [
    | inl constant ↦ absurd (omega (arith, constant.1, wrong.0, is.number_is))
    | inr set ↦ let both : true ≡ false = set.0 in absurd cc
  ]),
  wrong.1 ∙ ap BadConstant is.token_is,
)

-- an input that may not be read, after those that may
input_fault : (begun : Circuit) (said : Said) (token number x at : ℕ) (fault : ReadFault) → slice_get said.reads number ≡ Some x
    → All (MayRead said.text begun) (take number said.reads) → IsUnread begun said.text x at fault → at ≡ token + 2 + number
    → IsInputFault begun said token fault
input_fault begun said token number x at fault stands before not place = record {
  number = number;
  read = x;
  stands = stands;
  before = before;
  wrong = not.0;
  fault_is = not.1 ∙ ap (read_fault said.text begun x) place;
}

-- ---- a gate with one input

pub wrong_input : (set : List Bool) (name : UnaryGate) (input out : Placed) (fault : ReadFault) → length set ≤ 2 ^ 24 → MayNotBeInput set name input fault
    → IsWrongSingle set name input out fault
wrong_input set name input out fault few wrong = λ token x z at_x at_z begun are.
    let not = may_not_be_input set begun name input x (token + 2) fault few are at_x wrong in
    inl (input_fault begun (record { reads = x ∷ []; sets = z; text = single_text name }) token 0 x (token + 2) fault refl
    (All-from_recursion (MayRead (single_text name) begun) [] tt) not (omega arith))

pub wrong_single : (set : List Bool) (name : UnaryGate) (input out : Placed) (fault : ReadFault) → length set ≤ 2 ^ 24 → MayBeInput set name input → IsNoFreeWire set out fault
    → IsWrongSingle set name input out fault
wrong_single set name input out fault few may wrong = λ token x z at_x at_z begun are.
    inr (record {
      before = All-from_recursion (MayRead (single_text name) begun) (x ∷ []) (may_be_input set begun name input x (token + 2) few are at_x may, tt);
      wrong = subst (λ (t : ℕ). MayNotSet begun z t fault) (omega arith) (may_not_set set begun out z (token + 3) fault few are at_z wrong);
    })

-- ---- a gate with two inputs

no_constant : (name : BinaryGate) → bytes_eq (pair_text name) (codes "EQ") ≡ false
no_constant pair.And = refl
no_constant pair.Xor = refl

pub wrong_first : (set : List Bool) (name : BinaryGate) (a b out : Placed) (fault : ReadFault) → length set ≤ 2 ^ 24 → IsNoSetWire set a fault → IsWrongPair set name a b out fault
wrong_first set name a b out fault few wrong = λ token x y z at_x at_y at_z begun are.
    let not = may_not_read set begun a x (token + 2) (pair_text name) fault few are at_x (no_constant name) wrong in
    inl (input_fault begun (record { reads = x ∷ y ∷ []; sets = z; text = pair_text name }) token 0 x (token + 2) fault refl
    (All-from_recursion (MayRead (pair_text name) begun) [] tt) not (omega arith))

pub wrong_second : (set : List Bool) (name : BinaryGate) (a b out : Placed) (fault : ReadFault) → length set ≤ 2 ^ 24 → flag_of set a.number ≡ true → IsNoSetWire set b fault
    → IsWrongPair set name a b out fault
wrong_second set name a b out fault few on wrong = λ token x y z at_x at_y at_z begun are.
    let not = may_not_read set begun b y (token + 3) (pair_text name) fault few are at_y (no_constant name) wrong in
    inl (input_fault begun (record { reads = x ∷ y ∷ []; sets = z; text = pair_text name }) token 1 y (token + 3) fault refl
    (All-from_recursion (MayRead (pair_text name) begun) (x ∷ []) (may_read set begun a x (token + 2) (pair_text name) few are at_x (no_constant name) on, tt))
    not (omega arith))

pub wrong_pair : (set : List Bool) (name : BinaryGate) (a b out : Placed) (fault : ReadFault) → length set ≤ 2 ^ 24 → flag_of set a.number ≡ true → flag_of set b.number ≡ true
    → IsNoFreeWire set out fault → IsWrongPair set name a b out fault
wrong_pair set name a b out fault few on too wrong = λ token x y z at_x at_y at_z begun are.
    inr (record {
      before = All-from_recursion (MayRead (pair_text name) begun) (x ∷ y ∷ [])
          (may_read set begun a x (token + 2) (pair_text name) few are at_x (no_constant name) on, (may_read set begun b y (token + 3) (pair_text name) few are at_y (no_constant name) too, tt));
      wrong = subst (λ (t : ℕ). MayNotSet begun z t fault) (omega arith) (may_not_set set begun out z (token + 4) fault few are at_z wrong);
    })
