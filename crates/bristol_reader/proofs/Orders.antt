-- Gates, put after others in order.
use Rattle.std.proofs.Common.{◌≡◌, ◌≢◌, ℕ, zero, suc, ◌<◌, ◌≤◌, Bool, true, false, inl, inr, ◌⊎◌, List, [], ◌∷◌, ◌++◌, length, set, refl, ap, sym, ◌∙◌, subst, arith, length-append, length-set, get_or-set_other, get_or-set_same}
use Rattle.std.proofs.lemmas.List.Elements.{All-weaker}
use Rattle.std.proofs.lemmas.Option.{slice_get_within}
use Rattle.std.specs.Prelude.{All, Some, slice_get}
use Rattle.zk_model.specs.Circuit.{Circuit, IsSet, IsWellFormed, wire_set, wires_read}
use Rattle.bristol_reader.specs.TextFaults.{IsSetSoFar, without_outputs}
use Rattle.zk_model.specs.declared.GateRow.{GateRow}
use Rattle.bristol_reader.specs.Circuits.{circuit_of}
use Rattle.bristol_reader.specs.Bodies.{AreFirstFlags}
use Rattle.bristol_reader.specs.Gates.{flag_of, AreFlags, FitsFlags}
use Rattle.bristol_reader.proofs.Wires.{flagged_within}

-- ---- elements of lists

get_more : {A : Type 0} (xs ys : List A) (k : ℕ) (x : A) → slice_get xs k ≡ Some x → slice_get (xs ++ ys) k ≡ Some x
get_more [] ys k x is = cc
get_more (y ∷ xs) ys zero x is = is
get_more (y ∷ xs) ys (suc k) x is = get_more xs ys k x is

get_push : {A : Type 0} (xs : List A) (y : A) (k : ℕ) (x : A) → slice_get (xs ++ y ∷ []) k ≡ Some x → (slice_get xs k ≡ Some x) ⊎ ((k ≡ length xs) × (y ≡ x))
get_push [] y zero x is = inr (refl, cc)
get_push [] y (suc k) x is = cc
get_push (z ∷ xs) y zero x is = inl is
get_push (z ∷ xs) y (suc k) x is = elim (get_push xs y k x is) [ inl before ↦ inl before | inr at ↦ inr (omega (arith, at.0), at.1) ]

get_seam : {A : Type 0} (xs : List A) (y : A) (ys : List A) → slice_get (xs ++ y ∷ ys) (length xs) ≡ Some y
get_seam [] y ys = refl
get_seam (x ∷ xs) y ys = get_seam xs y ys

-- ---- which wires are set

-- more gates set more wires
set_more : (wires inputs outputs : ℕ) (gates more : List GateRow) (n m wire : ℕ) → n ≤ m → IsSet (circuit_of wires inputs outputs gates) n wire
    → IsSet (circuit_of wires inputs outputs (gates ++ more)) m wire
set_more wires inputs outputs gates more n m wire few (inl input) = inl input
set_more wires inputs outputs gates more n m wire few (inr by) = inr (by.0, by.1, omega (arith, by.2), get_more gates more by.0 by.1 by.3, by.4)

-- the gates before a last one set the same
set_before : (wires inputs outputs : ℕ) (gates : List GateRow) (gate : GateRow) (n wire : ℕ) → n ≤ length gates → IsSet (circuit_of wires inputs outputs (gates ++ gate ∷ [])) n wire
    → IsSet (circuit_of wires inputs outputs gates) n wire
set_before wires inputs outputs gates gate n wire few (inl input) = inl input
set_before wires inputs outputs gates gate n wire few (inr by) = elim (get_push gates gate by.0 by.1 by.3) [
  | inl before ↦ inr (by.0, by.1, by.2, before, by.4)
  | inr at ↦ absurd (omega (arith, at.0, by.2))
]

set_push : (wires inputs outputs : ℕ) (gates : List GateRow) (gate : GateRow) (wire : ℕ) → IsSetSoFar (circuit_of wires inputs outputs (gates ++ gate ∷ [])) wire
    → IsSetSoFar (circuit_of wires inputs outputs gates) wire ⊎ (wire_set gate ≡ wire)
set_push wires inputs outputs gates gate wire (inl input) = inl (inl input)
set_push wires inputs outputs gates gate wire (inr by) = elim (get_push gates gate by.0 by.1 by.3) [
  | inl before ↦ inl (inr (by.0, by.1, slice_get_within gates by.0 by.1 before, before, by.4))
  | inr at ↦ inr (ap wire_set at.1 ∙ by.4)
]

-- a gate that may stand after others
pub record MayFollow (begun : Circuit) (gate : GateRow) : Type 0 where
  pub reads : All (IsSetSoFar begun) (wires_read gate)
  pub within : wire_set gate < begun.wires
  pub once : ¬ IsSetSoFar begun (wire_set gate)

pub ordered_none : (wires inputs outputs : ℕ) → inputs ≤ wires → IsWellFormed (without_outputs (circuit_of wires inputs outputs []))
ordered_none wires inputs outputs few = record {
  inputs_within = few;
  outputs_within = omega arith;
  reads_set = λ n gate is. absurd cc;
  sets_within = λ n gate is. absurd cc;
  sets_once = λ n gate is. absurd cc;
  outputs_set = λ o below. absurd (omega arith);
}

pub ordered_push : (wires inputs outputs : ℕ) (gates : List GateRow) (gate : GateRow) → IsWellFormed (without_outputs (circuit_of wires inputs outputs gates))
    → MayFollow (circuit_of wires inputs outputs gates) gate → IsWellFormed (without_outputs (circuit_of wires inputs outputs (gates ++ gate ∷ [])))
ordered_push wires inputs outputs gates gate order may = record {
  inputs_within = order.inputs_within;
  outputs_within = omega arith;
  reads_set = λ n other is. elim (get_push gates gate n other is) [
    | inl before ↦
        All-weaker (IsSet (circuit_of wires inputs outputs gates) n) (IsSet (circuit_of wires inputs outputs (gates ++ gate ∷ [])) n)
        (λ wire. set_more wires inputs outputs gates (gate ∷ []) n n wire (omega arith)) (wires_read other) (order.reads_set n other before)
    | inr at ↦
        All-weaker (IsSetSoFar (circuit_of wires inputs outputs gates)) (IsSet (circuit_of wires inputs outputs (gates ++ gate ∷ [])) n)
        (λ wire. set_more wires inputs outputs gates (gate ∷ []) (length gates) n wire (omega (arith, at.0))) (wires_read other)
        (subst (λ (g : GateRow). All (IsSetSoFar (circuit_of wires inputs outputs gates)) (wires_read g)) at.1 may.reads)
  ];
  sets_within = λ n other is. elim (get_push gates gate n other is) [
    | inl before ↦ order.sets_within n other before
    | inr at ↦ subst (λ (g : GateRow). wire_set g < wires) at.1 may.within
  ];
  sets_once = λ n other is so. elim (get_push gates gate n other is) [
    | inl before ↦
        order.sets_once n other before (set_before wires inputs outputs gates gate n (wire_set other) (omega (arith, slice_get_within gates n other before)) so)
    | inr at ↦
        may.once (subst (λ (g : GateRow). IsSetSoFar (circuit_of wires inputs outputs gates) (wire_set g)) (sym at.1)
        (subst (λ (k : ℕ). IsSet (circuit_of wires inputs outputs gates) k (wire_set other)) at.0
        (set_before wires inputs outputs gates gate n (wire_set other) (omega (arith, at.0)) so)))
  ];
  outputs_set = λ o below. absurd (omega arith);
}

-- ---- flags

pub fits_may : (flags : List Bool) (begun : Circuit) (gate : GateRow) → AreFlags flags begun → FitsFlags flags gate → MayFollow begun gate
fits_may flags begun gate are fits = record {
  reads = All-weaker (λ wire. flag_of flags wire ≡ true) (IsSetSoFar begun) are.set (wires_read gate) fits.reads;
  within = subst (λ (n : ℕ). wire_set gate < n) are.whole fits.within;
  once = are.unset (wire_set gate) fits.once;
}

pub flags_none : (flags : List Bool) (wires inputs outputs : ℕ) → inputs ≤ wires → AreFirstFlags flags wires inputs → AreFlags flags (circuit_of wires inputs outputs [])
flags_none flags wires inputs outputs few are = record {
  whole = are.whole;
  set = λ wire on. inl (are.set wire (subst (λ (n : ℕ). wire < n) are.whole (flagged_within flags wire on)) on);
  unset = λ wire off is. elim is [
    | inl input ↦ absurd (omega (arith, are.unset wire (omega arith) off))
    | inr by ↦ absurd (omega (arith, by.2))
  ];
}

apart_or_same : (m n : ℕ) → (m ≡ n) ⊎ (m ≢ n)
apart_or_same zero zero = inl refl
apart_or_same zero (suc n) = inr (λ e. absurd (omega (arith, e)))
apart_or_same (suc m) zero = inr (λ e. absurd (omega (arith, e)))
apart_or_same (suc m) (suc n) = elim (apart_or_same m n) [ inl e ↦ inl (omega (arith, e)) | inr ne ↦ inr (λ e. ne (omega (arith, e))) ]

pub flags_push : (flags : List Bool) (wires inputs outputs : ℕ) (gates : List GateRow) (gate : GateRow) → AreFlags flags (circuit_of wires inputs outputs gates) → wire_set gate < wires
    → AreFlags (set flags (wire_set gate) true) (circuit_of wires inputs outputs (gates ++ gate ∷ []))
flags_push flags wires inputs outputs gates gate are out = record {
  whole = length-set flags (wire_set gate) true ∙ are.whole;
  set = λ wire on. elim (apart_or_same wire (wire_set gate)) [
    | inl same ↦ inr (length gates, gate, omega (arith, length-append gates (gate ∷ [])), get_seam gates gate [], sym same)
    | inr apart ↦
        set_more wires inputs outputs gates (gate ∷ []) (length gates) (length (gates ++ gate ∷ [])) wire (omega (arith, length-append gates (gate ∷ [])))
        (are.set wire (sym (get_or-set_other flags (wire_set gate) wire true false apart) ∙ on))
  ];
  unset = λ wire off is. elim (apart_or_same wire (wire_set gate)) [
    | inl same ↦ both (ap (flag_of (set flags (wire_set gate) true)) same) off (get_or-set_same flags (wire_set gate) true false (subst (λ (n : ℕ). wire_set gate < n) (sym are.whole) out))
    | inr apart ↦ elim (set_push wires inputs outputs gates gate wire is) [
      | inl before ↦ are.unset wire (sym (get_or-set_other flags (wire_set gate) wire true false apart) ∙ off) before
      | inr at ↦ apart (sym at)
    ]
  ];
}
  where
    both : {a b : Bool} → a ≡ b → a ≡ false → b ≡ true → ⊥
    both e f g = cc
