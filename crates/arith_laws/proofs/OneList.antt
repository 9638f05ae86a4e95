-- The inputs determine what is computed.
use Rattle.std.proofs.Common.{◌≡◌, ℕ, zero, suc, ◌+◌, ◌-◌, ◌<◌, true, Some, List, [], ◌∷◌, drop, length, length-drop, flat_map, ap, sym, ◌∙◌, subst, arith, inl, inr, eqb-true, take_all}
use Rattle.std.specs.Prelude.{slice_get, slice_index}
use Rattle.std.proofs.lemmas.List.{get_or-take, get_or-drop}
use Rattle.std.proofs.lemmas.Grind.{same_number_lists}
use Rattle.std.proofs.lemmas.Option.{slice_get_within, get_or_from_slice_get}
use Rattle.zk_model.specs.Field.{◌+ₚ◌, ◌*ₚ◌}
use Rattle.zk_model.specs.Arithmetic.{Arith, AreComputed, Computes, IsWellFormed, asserted, element_of, first_output, is_set, sets, wires_asserted}
use Rattle.zk_model.specs.declared.ArithRow.{ArithRow}
use Rattle.zk_model.specs.declared.ArithRow.TheVariants.{Add, Mul, Const, Assert}
use Rattle.arith_laws.specs.Laws.{OneList, UnmetIsUnsatisfied}
use Rattle.arith_laws.proofs.Ordering.{EachRead, SetBy, each_read, reads_set, set_later, set_so}

-- two lists that agree on the wires that a gate reads agree on the one that it sets
gate_gives_one : (some others : List ℕ) (gate : ArithRow) (wire : ℕ) → EachRead (λ w. element_of some w ≡ element_of others w) gate → Computes some gate → Computes others gate
    → sets wire gate ≡ true → element_of some wire ≡ element_of others wire
gate_gives_one some others (Add a b out) wire reads left right is =
    subst (λ (w : ℕ). element_of some w ≡ element_of others w) (eqb-true out wire is) (left ∙ (λ i. reads.0 i +ₚ reads.1 i) ∙ sym right)
gate_gives_one some others (Mul a b out) wire reads left right is =
    subst (λ (w : ℕ). element_of some w ≡ element_of others w) (eqb-true out wire is) (left ∙ (λ i. reads.0 i *ₚ reads.1 i) ∙ sym right)
gate_gives_one some others (Const value out) wire reads left right is =
    subst (λ (w : ℕ). element_of some w ≡ element_of others w) (eqb-true out wire is) (left ∙ sym right)
gate_gives_one some others (Assert a) wire reads left right is = absurd cc

-- two lists agree on every wire that the first n gates set
pub one_before : (circuit : Arith) (inputs some others : List ℕ) → IsWellFormed circuit → AreComputed circuit inputs some → AreComputed circuit inputs others
    → (n wire : ℕ) → SetBy circuit n wire → element_of some wire ≡ element_of others wire
one_before circuit inputs some others formed left right n wire is = elim (set_so circuit n wire is) [
  | inl input ↦ of_input wire input
  | inr by ↦ of_gate n wire by.number by.gate by.before by.stands by.sets_it
]
  where
    of_input : (wire : ℕ) → wire < circuit.inputs → element_of some wire ≡ element_of others wire
    of_input wire input =
        sym (get_or-take circuit.inputs some wire 0 input) ∙ ap (λ l. element_of l wire) (left.first ∙ sym right.first) ∙ get_or-take circuit.inputs others wire 0 input

    of_gate : (n wire k : ℕ) (gate : ArithRow) → k < n → slice_get circuit.gates k ≡ Some gate → sets wire gate ≡ true → element_of some wire ≡ element_of others wire
    of_gate zero wire k gate before stands is = absurd (omega (arith, before))
    of_gate (suc n) wire k gate before stands is =
        gate_gives_one some others gate wire
        (each_read (λ w. (w < circuit.wires) × SetBy circuit k w) (λ w. element_of some w ≡ element_of others w) gate
        (λ w may. elim (set_so circuit n w (set_later circuit k n w (omega (arith, before)) may.1)) [
          | inl input ↦ of_input w input
          | inr by ↦ of_gate n w by.number by.gate by.before by.stands by.sets_it
        ])
        (reads_set circuit k gate formed stands))
        (left.gates k gate stands) (right.gates k gate stands) is

-- every output wire is set
pub output_set : (circuit : Arith) (o : ℕ) → IsWellFormed circuit → o < circuit.outputs → SetBy circuit (length circuit.gates) (first_output circuit + o)
output_set circuit o formed below =
    subst (λ (l : List ArithRow). is_set circuit.inputs l (first_output circuit + o) ≡ true) (sym (take_all (length circuit.gates) circuit.gates (omega arith)))
    (formed.outputs_set (first_output circuit + o) (omega (arith, formed.outputs_within)) (omega (arith, formed.outputs_within, below)))

one_end : (circuit : Arith) (inputs some others : List ℕ) → IsWellFormed circuit → AreComputed circuit inputs some → AreComputed circuit inputs others
    → drop (first_output circuit) some ≡ drop (first_output circuit) others
one_end circuit inputs some others formed left right =
    same_number_lists _ _
    (length-drop (first_output circuit) some ∙ ap (λ l. l - first_output circuit) (left.whole ∙ sym right.whole) ∙ sym (length-drop (first_output circuit) others))
    (λ o below.
    get_or-drop (first_output circuit) some o 0
    ∙ one_before circuit inputs some others formed left right (length circuit.gates) (first_output circuit + o)
    (output_set circuit o formed (omega (arith, below, formed.outputs_within, left.whole, length-drop (first_output circuit) some)))
    ∙ sym (get_or-drop (first_output circuit) others o 0))

pub one_list : OneList
one_list circuit inputs some others formed left right =
    sym left.2 ∙ one_end circuit inputs left.0 right.0 formed left.1.computed right.1.computed ∙ right.2

-- ---- assertions

-- the gate of an assertion
pub record IsAssert (gates : List ArithRow) (wire : ℕ) : Type 0 where
  pub number : ℕ
  pub stands : slice_get gates number ≡ Some (Assert wire)

pub assert_of : (gates : List ArithRow) (n wire : ℕ) → slice_get (flat_map wires_asserted gates) n ≡ Some wire → IsAssert gates wire
assert_of [] n wire stands = absurd (nothing stands)
  where
    nothing : slice_get [] n ≡ Some wire → ⊥
    nothing e = absurd cc
assert_of (Add a b out ∷ gates) n wire stands = let more = assert_of gates n wire stands in record { number = suc more.number; stands = more.stands }
assert_of (Mul a b out ∷ gates) n wire stands = let more = assert_of gates n wire stands in record { number = suc more.number; stands = more.stands }
assert_of (Const value out ∷ gates) n wire stands = let more = assert_of gates n wire stands in record { number = suc more.number; stands = more.stands }
assert_of (Assert a ∷ gates) zero wire stands = let same : a ≡ wire = one a wire stands in record { number = 0; stands = ap (λ w. Some (Assert w)) same }
  where
    one : (a b : ℕ) → Some a ≡ Some b → a ≡ b
    one a b e = cc
assert_of (Assert a ∷ gates) (suc n) wire stands = let more = assert_of gates n wire stands in record { number = suc more.number; stands = more.stands }

pub unmet : UnmetIsUnsatisfied
unmet circuit inputs number value formed failed outputs by =
    let at = assert_of circuit.gates number failed.wire failed.stands in
    let may = reads_set circuit at.number (Assert failed.wire) formed at.stands in
    let same : element_of failed.elements failed.wire ≡ element_of by.0 failed.wire =
    one_before circuit inputs failed.elements by.0 formed failed.computed by.1.computed at.number failed.wire may.1 in
    let zeros : element_of by.0 (slice_index (asserted circuit) number) ≡ 0 = by.1.zero number 0 (slice_get_within (asserted circuit) number failed.wire failed.stands) in
    let here : slice_index (asserted circuit) number ≡ failed.wire = get_or_from_slice_get (asserted circuit) number failed.wire 0 failed.stands in
    failed.not_zero (sym failed.value_is ∙ same ∙ ap (element_of by.0) (sym here) ∙ zeros)
