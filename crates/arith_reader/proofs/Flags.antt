-- Flags of wires, gate by gate.
use Rattle.std.proofs.Common.{◌≡◌, ◌≢◌, ℕ, zero, suc, ◌+◌, ◌<◌, ◌≤◌, ◌==◌, ◌||◌, nat_lt, Bool, true, false, Some, None, List, [], length, refl, ap, sym, ◌∙◌, subst, arith, set, length-set, get_or-set_other, get_or-set_same, inl, inr, lt-ltb, ltb-true, eq-eqb, eqb-true}
use Rattle.std.proofs.Math.Nat.{eq-or-lt_of_le}
use Rattle.std.proofs.lemmas.Bool.{cases_Bool}
use Rattle.zk_model.specs.Arithmetic.{Arith, is_set, sets}
use Rattle.zk_model.specs.ArithFaults.{first_unset, with_row}
use Rattle.zk_model.specs.declared.ArithRow.{ArithRow}
use Rattle.zk_model.specs.declared.ArithRow.TheVariants.{Add, Mul, Const, Assert}
use Rattle.arith_reader.specs.Wants.{AreFlags, flag_of}
use Rattle.arith_reader.specs.Rows.{AreFirstFlags, AreSetFrom, IsFirstUnset, IsWithin, flags_after}
use Rattle.arith_reader.proofs.SetWires.{chosen, other, set_first, set_push}

not_both : (b : Bool) → b ≡ true → b ≡ false → ⊥
not_both true on off = absurd cc
not_both false on off = absurd cc

-- before any gate
pub flags_first : (flags : List Bool) (begun : Arith) → begun.gates ≡ [] → AreFirstFlags flags begun.wires begun.inputs → AreFlags flags begun
flags_first flags begun none are = record {
  whole = are.whole;
  same = λ wire within. flagged wire ∙ sym (set_first begun.inputs wire) ∙ ap (λ gates. is_set begun.inputs gates wire) (sym none);
}
  where
    flagged : (wire : ℕ) → flag_of flags wire ≡ nat_lt wire begun.inputs
    flagged wire = elim (cases_Bool (nat_lt wire begun.inputs)) [
      | inl below ↦ are.set wire (ltb_so wire below) ∙ sym below
      | inr above ↦ are.unset wire (behind wire above) ∙ sym above
    ]
      where
        ltb_so : (wire : ℕ) → nat_lt wire begun.inputs ≡ true → wire < begun.inputs
        ltb_so wire is = ltb-true wire begun.inputs is

        behind : (wire : ℕ) → nat_lt wire begun.inputs ≡ false → begun.inputs ≤ wire
        behind wire is =
            let never : wire < begun.inputs → ⊥ = λ less. not_both (nat_lt wire begun.inputs) (lt-ltb wire begun.inputs less) is in
            omega (arith, never)

-- ---- after a gate

or_true : (a : Bool) → (a || true) ≡ true
or_true true = refl
or_true false = refl

or_false : (a : Bool) → (a || false) ≡ a
or_false true = refl
or_false false = refl

-- a wire that is set
one_set : (flags : List Bool) (begun : Arith) (out : ℕ) (row : ArithRow) → ((wire : ℕ) → sets wire row ≡ (out == wire)) → out < length flags
    → AreFlags flags begun → AreFlags (set flags out true) (with_row begun row)
one_set flags begun out row is within are = record {
  whole = length-set flags out true ∙ are.whole;
  same = λ wire below. elim (cases_Bool (out == wire)) [
    | inl here ↦
        let same : out ≡ wire = at_so wire here in
        subst (λ (w : ℕ). flag_of (set flags out true) w ≡ true) same (get_or-set_same flags out true false within)
        ∙ sym (set_push begun.inputs begun.gates row wire ∙ ap (λ b. is_set begun.inputs begun.gates wire || b) (is wire ∙ here) ∙ or_true (is_set begun.inputs begun.gates wire))
    | inr apart ↦
        get_or-set_other flags out wire true false (not_so wire apart) ∙ are.same wire below
        ∙ sym (set_push begun.inputs begun.gates row wire ∙ ap (λ b. is_set begun.inputs begun.gates wire || b) (is wire ∙ apart) ∙ or_false (is_set begun.inputs begun.gates wire))
  ];
}
  where
    at_so : (wire : ℕ) → (out == wire) ≡ true → out ≡ wire
    at_so wire is = eqb-true out wire is

    not_so : (wire : ℕ) → (out == wire) ≡ false → wire ≢ out
    not_so wire is same = not_both (out == wire) (eq-eqb out wire (sym same)) is

none_set : (flags : List Bool) (begun : Arith) (a : ℕ) → AreFlags flags begun → AreFlags flags (with_row begun (Assert a))
none_set flags begun a are = record {
  whole = are.whole;
  same = λ wire below. are.same wire below ∙ sym (set_push begun.inputs begun.gates (Assert a) wire ∙ or_false (is_set begun.inputs begun.gates wire));
}

pub flags_next : (flags : List Bool) (begun : Arith) (row : ArithRow) → IsWithin (length flags) row → AreFlags flags begun → AreFlags (flags_after flags row) (with_row begun row)
flags_next flags begun (Add a b out) within are = one_set flags begun out (Add a b out) (λ wire. refl) within are
flags_next flags begun (Mul a b out) within are = one_set flags begun out (Mul a b out) (λ wire. refl) within are
flags_next flags begun (Const value out) within are = one_set flags begun out (Const value out) (λ wire. refl) within are
flags_next flags begun (Assert a) within are = none_set flags begun a are

-- ---- the outputs

pub unset_found : (flags : List Bool) (begun : Arith) (n from wire : ℕ) → from + n ≡ begun.wires → AreFlags flags begun → IsFirstUnset flags from wire
    → first_unset begun from n ≡ Some wire
unset_found flags begun zero from wire end are is = absurd (omega (arith, end, are.whole, is.behind, is.within))
unset_found flags begun (suc n) from wire end are is = elim (eq-or-lt_of_le is.behind) [
  | inl here ↦
      let off : is_set begun.inputs begun.gates from ≡ false =
      sym (are.same from (omega (arith, end))) ∙ ap (flag_of flags) here ∙ is.unset in
      other (is_set begun.inputs begun.gates from) _ _ off ∙ ap (λ (w : ℕ). Some w) here
  | inr before ↦
      let on : is_set begun.inputs begun.gates from ≡ true =
      sym (are.same from (omega (arith, end))) ∙ is.before from (omega arith) before in
      chosen (is_set begun.inputs begun.gates from) _ _ on
      ∙ unset_found flags begun n (from + 1) wire (omega (arith, end)) are (record {
        behind = omega (arith, before);
        within = is.within;
        unset = is.unset;
        before = λ w more less. is.before w (omega (arith, more)) less;
      })
]

pub none_unset : (flags : List Bool) (begun : Arith) (n from : ℕ) → from + n ≡ begun.wires → AreFlags flags begun → AreSetFrom flags from
    → first_unset begun from n ≡ None
none_unset flags begun zero from end are all = refl
none_unset flags begun (suc n) from end are all =
    let on : is_set begun.inputs begun.gates from ≡ true =
    sym (are.same from (omega (arith, end))) ∙ all from (omega arith) (omega (arith, end, are.whole)) in
    chosen (is_set begun.inputs begun.gates from) _ _ on
    ∙ none_unset flags begun n (from + 1) (omega (arith, end)) are (λ w more less. all w (omega (arith, more)) less)
