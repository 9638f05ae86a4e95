-- The function's tests of wires tell what the definitions say.
use Rattle.std.proofs.Common.{◌≡◌, ℕ, zero, suc, ◌+◌, ◌<◌, ◌≤◌, ◌==◌, nat_lt, true, false, Some, None, List, [], ◌∷◌, ◌++◌, length, take, slice_get, All, refl, ap, sym, ◌∙◌, inl, inr, append-nil, arith, codes, bytes_eq, le-leb, lt-ltb, ltb-true, leb-true, eq-eqb, eqb-true}
use Rattle.std.proofs.lemmas.Bool.{or_cases, or_left, or_right, cases_Bool, cases_lt, lt-leb}
use Rattle.zk_model.specs.Circuit.{Circuit, IsSet, wire_set, output_wire}
use Rattle.bristol_reader.specs.TextFaults.{IsSetSoFar, MayRead, MayNotSet, beyond, again, read_fault}
use Rattle.zk_model.specs.declared.GateRow.{GateRow}
use Rattle.zk_model.specs.declared.ReadFault.{ReadFault}
use Rattle.zk_model.specs.declared.ReadFault.TheVariants.{OutputUnset}
use Rattle.bristol_reader.proofs.Outcome.{is_among, is_set, may_read, with_gates, reads_fault, set_fault, outputs_fault}

-- ---- which wires are set

among : (wire : ℕ) (done others : List GateRow) (k : ℕ) (gate : GateRow) → k < length done → slice_get (done ++ others) k ≡ Some gate
    → wire_set gate ≡ wire → is_among wire done ≡ true
among wire [] others k gate below stands sets = absurd (omega arith)
among wire (first ∷ done) others zero gate below stands sets =
    let same : first ≡ gate = cc in
    or_left _ _ (eq-eqb (wire_set first) wire (ap wire_set same ∙ sets))
among wire (first ∷ done) others (suc k) gate below stands sets =
    or_right _ _ (among wire done others k gate (omega arith) stands sets)

among_so : (wire : ℕ) (done others : List GateRow) → is_among wire done ≡ true
    → (k : ℕ) × (gate : GateRow) × (k < length done) × (slice_get (done ++ others) k ≡ Some gate) × (wire_set gate ≡ wire)
among_so wire [] others is = cc
among_so wire (first ∷ done) others is = elim (or_cases (wire_set first == wire) (is_among wire done) is) [
  | inl here ↦ (0, first, omega arith, refl, eqb-true (wire_set first) wire here)
  | inr later ↦
      let found = among_so wire done others later in
      (suc found.0, found.1, omega (arith, found.2), found.3, found.4)
]

-- the test of a circuit so far, whose gates are the first of a whole circuit's
pub set_so : (whole : Circuit) (done others : List GateRow) (wire : ℕ) → done ++ others ≡ whole.gates
    → IsSet whole (length done) wire → is_set (with_gates whole done) wire ≡ true
unfolding is_set
set_so whole done others wire split (inl input) = or_left _ _ (lt-ltb wire whole.inputs input)
set_so whole done others wire split (inr by) =
    or_right _ _ (among wire done others by.0 by.1 by.2 (ap (λ gates. slice_get gates by.0) split ∙ by.3) by.4)

pub test_so : (whole : Circuit) (done others : List GateRow) (wire : ℕ) → done ++ others ≡ whole.gates
    → is_set (with_gates whole done) wire ≡ true → IsSet whole (length done) wire
unfolding is_set
test_so whole done others wire split test = elim (or_cases (nat_lt wire whole.inputs) (is_among wire done) test) [
  | inl input ↦ inl (ltb-true wire whole.inputs input)
  | inr by ↦
      let found = among_so wire done others by in
      inr (found.0, found.1, found.2, ap (λ gates. slice_get gates found.0) (sym split) ∙ found.3, found.4)
]

pub unset_so : (whole : Circuit) (done others : List GateRow) (wire : ℕ) → done ++ others ≡ whole.gates
    → ¬ IsSet whole (length done) wire → is_set (with_gates whole done) wire ≡ false
unset_so whole done others wire split unset = elim (cases_Bool (is_set (with_gates whole done) wire)) [
  | inl so ↦ absurd (unset (test_so whole done others wire split so))
  | inr not_so ↦ not_so
]

-- the same of the circuit so far
pub so_far : (whole : Circuit) (done others : List GateRow) (wire : ℕ) → done ++ others ≡ whole.gates
    → IsSet whole (length done) wire → IsSetSoFar (with_gates whole done) wire
so_far whole done others wire split set =
    test_so (with_gates whole done) done [] wire (append-nil done) (set_so whole done others wire split set)

set_far : (begun : Circuit) (wire : ℕ) → IsSetSoFar begun wire → is_set begun wire ≡ true
set_far begun wire set = set_so begun begun.gates [] wire (append-nil begun.gates) set

unset_far : (begun : Circuit) (wire : ℕ) → ¬ IsSetSoFar begun wire → is_set begun wire ≡ false
unset_far begun wire unset = unset_so begun begun.gates [] wire (append-nil begun.gates) unset

-- ---- what a gate reads

may_so : (text : List ℕ) (begun : Circuit) (n : ℕ) → MayRead text begun n → may_read text begun n ≡ true
unfolding may_read
may_so text begun n (inl bit) = rw bit.0 (le-leb n 1 bit.1)
may_so text begun n (inr wire) = rw wire.0 (set_far begun n wire.1)

test_may : (text : List ℕ) (begun : Circuit) (n : ℕ) → may_read text begun n ≡ true → MayRead text begun n
unfolding may_read
test_may text begun n test = elim (cases_Bool (bytes_eq text (codes "EQ"))) [
  | inl equal ↦ inl (equal, leb-true n 1 (rw equal at test))
  | inr other ↦ inr (other, test_so begun begun.gates [] n (append-nil begun.gates) (rw other at test))
]

may_not : (text : List ℕ) (begun : Circuit) (n : ℕ) → ¬ MayRead text begun n → may_read text begun n ≡ false
may_not text begun n wrong = elim (cases_Bool (may_read text begun n)) [
  | inl so ↦ absurd (wrong (test_may text begun n so))
  | inr not_so ↦ not_so
]

pub reads_passed : (text : List ℕ) (begun : Circuit) (reads : List ℕ) (token : ℕ) → All (MayRead text begun) reads
    → reads_fault text begun reads token ≡ None
reads_passed text begun [] token all = refl
reads_passed text begun (n ∷ reads) token all =
    rw (may_so text begun n (all 0 n (omega arith)))
    (reads_passed text begun reads (token + 1) (λ k d within. all (suc k) d (omega (arith, within))))

-- the first wrong one
pub reads_wrong : (text : List ℕ) (begun : Circuit) (reads : List ℕ) (token number n : ℕ) → slice_get reads number ≡ Some n
    → All (MayRead text begun) (take number reads) → ¬ MayRead text begun n
    → reads_fault text begun reads token ≡ Some (read_fault text begun n (token + number))
reads_wrong text begun [] token number n stands before wrong = cc
reads_wrong text begun (first ∷ reads) token zero n stands before wrong =
    let same : first ≡ n = cc in
    let place : token ≡ token + 0 = omega arith in
    rw (same, may_not text begun n wrong) (ap (λ t. Some (read_fault text begun n t)) place)
reads_wrong text begun (first ∷ reads) token (suc number) n stands before wrong =
    let place : token + 1 + number ≡ token + suc number = omega arith in
    rw (may_so text begun first (before 0 first (omega arith)))
    (reads_wrong text begun reads (token + 1) number n stands (λ k d within. before (suc k) d (omega (arith, within))) wrong
    ∙ ap (λ t. Some (read_fault text begun n t)) place)

-- ---- what it sets

pub set_passed : (whole : Circuit) (done others : List GateRow) (wire token : ℕ) → done ++ others ≡ whole.gates → wire < whole.wires
    → ¬ IsSet whole (length done) wire → set_fault (with_gates whole done) wire token ≡ None
set_passed whole done others wire token split within unset =
    rw (lt-leb whole.wires wire within, unset_so whole done others wire split unset)

pub set_wrong : (begun : Circuit) (wire token : ℕ) (fault : ReadFault) → MayNotSet begun wire token fault
    → set_fault begun wire token ≡ Some fault
set_wrong begun wire token fault (beyond past is) = rw (le-leb begun.wires wire past) (ap Some (sym is))
set_wrong begun wire token fault (again within set is) =
    rw (lt-leb begun.wires wire within, set_far begun wire set) (ap Some (sym is))

-- ---- the outputs

pub outputs_passed : (begun : Circuit) (output count : ℕ)
    → ((o : ℕ) → o < output + count → IsSetSoFar begun (output_wire begun o)) → outputs_fault begun output count ≡ None
outputs_passed begun output zero all = refl
outputs_passed begun output (suc count) all =
    rw (set_far begun (output_wire begun output) (all output (omega arith)))
    (outputs_passed begun (output + 1) count (λ o below. all o (omega arith)))

pub outputs_wrong : (begun : Circuit) (first count output : ℕ) → first ≤ output → output < first + count
    → ¬ IsSetSoFar begun (output_wire begun output) → ((o : ℕ) → o < output → IsSetSoFar begun (output_wire begun o))
    → outputs_fault begun first count ≡ Some (OutputUnset (output_wire begun output))
outputs_wrong begun first zero output from below unset before = absurd (omega arith)
outputs_wrong begun first (suc count) output from below unset before = elim (cases_lt first output) [
  | inl earlier ↦ rw (set_far begun (output_wire begun first) (before first earlier))
      (outputs_wrong begun (first + 1) count output (omega arith) (omega arith) unset before)
  | inr here ↦
      let same : first ≡ output = omega arith in
      rw (same, unset_far begun (output_wire begun output) unset)
]
