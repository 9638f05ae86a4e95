-- Which wires the gates of a well formed circuit touch.
use Rattle.std.proofs.Common.{◌≡◌, ◌≢◌, ◌⊎◌, ℕ, zero, suc, ◌<◌, ◌≤◌, nat_lt, Bool, true, false, Some, List, [], ◌∷◌, take, refl, ap, sym, ◌∙◌, arith, inl, inr, lt-ltb, ltb-true, eq-eqb}
use Rattle.std.specs.Prelude.{slice_get}
use Rattle.std.proofs.lemmas.Bool.{or_cases, or_left, or_right}
use Rattle.zk_model.specs.Arithmetic.{Arith, IsWellFormed, MayCome, MayRead, MaySet, is_among, is_set, sets}
use Rattle.zk_model.specs.declared.ArithRow.{ArithRow}
use Rattle.zk_model.specs.declared.ArithRow.TheVariants.{Add, Mul, Const, Assert}

-- a wire is set by the first n gates
abbrev pub SetBy : Arith → ℕ → ℕ → Type 0
SetBy circuit n wire = is_set circuit.inputs (take n circuit.gates) wire ≡ true

-- one of the first n of these gates sets a wire
pub record IsSetBy (gates : List ArithRow) (n wire : ℕ) : Type 0 where
  pub number : ℕ
  pub gate : ArithRow
  pub before : number < n
  pub stands : slice_get gates number ≡ Some gate
  pub sets_it : sets wire gate ≡ true

among : (gates : List ArithRow) (k n wire : ℕ) (gate : ArithRow) → k < n → slice_get gates k ≡ Some gate → sets wire gate ≡ true → is_among wire (take n gates) ≡ true
among [] k n wire gate less stands is = absurd (nothing stands)
  where
    nothing : slice_get [] k ≡ Some gate → ⊥
    nothing e = absurd cc
among (first ∷ gates) k zero wire gate less stands is = absurd (omega (arith, less))
among (first ∷ gates) zero (suc n) wire gate less stands is =
    let same : first ≡ gate = cc in
    or_left _ _ (ap (sets wire) same ∙ is)
among (first ∷ gates) (suc k) (suc n) wire gate less stands is = or_right _ _ (among gates k n wire gate (omega (arith, less)) stands is)

among_so : (gates : List ArithRow) (n wire : ℕ) → is_among wire (take n gates) ≡ true → IsSetBy gates n wire
among_so [] zero wire is = absurd cc
among_so [] (suc n) wire is = absurd cc
among_so (first ∷ gates) zero wire is = absurd cc
among_so (first ∷ gates) (suc n) wire is = elim (or_cases (sets wire first) (is_among wire (take n gates)) is) [
  | inl here ↦ record { number = 0; gate = first; before = omega arith; stands = refl; sets_it = here }
  | inr later ↦
      let found = among_so gates n wire later in
      record { number = suc found.number; gate = found.gate; before = omega (arith, found.before); stands = found.stands; sets_it = found.sets_it }
]

-- a wire is an input, or one of the first gates sets it
pub set_so : (circuit : Arith) (n wire : ℕ) → SetBy circuit n wire → (wire < circuit.inputs) ⊎ IsSetBy circuit.gates n wire
unfolding is_set
set_so circuit n wire is = elim (or_cases (nat_lt wire circuit.inputs) (is_among wire (take n circuit.gates)) is) [
  | inl input ↦ inl (ltb-true wire circuit.inputs input)
  | inr by ↦ inr (among_so circuit.gates n wire by)
]

pub input_set : (circuit : Arith) (n wire : ℕ) → wire < circuit.inputs → SetBy circuit n wire
unfolding is_set
input_set circuit n wire input = or_left _ _ (lt-ltb wire circuit.inputs input)

pub gate_sets : (circuit : Arith) (n wire : ℕ) → IsSetBy circuit.gates n wire → SetBy circuit n wire
unfolding is_set
gate_sets circuit n wire by = or_right _ _ (among circuit.gates by.number n wire by.gate by.before by.stands by.sets_it)

pub set_later : (circuit : Arith) (k n wire : ℕ) → k ≤ n → SetBy circuit k wire → SetBy circuit n wire
set_later circuit k n wire more is = elim (set_so circuit k wire is) [
  | inl input ↦ input_set circuit n wire input
  | inr by ↦ gate_sets circuit n wire (record { number = by.number; gate = by.gate; before = omega (arith, by.before, more); stands = by.stands; sets_it = by.sets_it })
]

-- ---- the wires of a gate

-- P holds of the wires that a gate reads
abbrev pub EachRead : (ℕ → Type 0) → ArithRow → Type 0
EachRead P (Add a b out) = P a × P b
EachRead P (Mul a b out) = P a × P b
EachRead P (Const value out) = Unit {0}
EachRead P (Assert a) = P a

-- and of the one that it sets
abbrev pub OfSet : (ℕ → Type 0) → ArithRow → Type 0
OfSet P (Add a b out) = P out
OfSet P (Mul a b out) = P out
OfSet P (Const value out) = P out
OfSet P (Assert a) = Unit {0}

pub each_read : (P Q : ℕ → Type 0) (gate : ArithRow) → ((wire : ℕ) → P wire → Q wire) → EachRead P gate → EachRead Q gate
each_read P Q (Add a b out) more are = (more a are.0, more b are.1)
each_read P Q (Mul a b out) more are = (more a are.0, more b are.1)
each_read P Q (Const value out) more are = tt
each_read P Q (Assert a) more are = more a are

pub reads_set : (circuit : Arith) (n : ℕ) (gate : ArithRow) → IsWellFormed circuit → slice_get circuit.gates n ≡ Some gate
    → EachRead (λ wire. MayRead circuit (take n circuit.gates) wire) gate
reads_set circuit n gate formed stands = of gate (formed.gates_fit n gate stands)
  where
    of : (gate : ArithRow) → MayCome circuit (take n circuit.gates) gate → EachRead (λ wire. MayRead circuit (take n circuit.gates) wire) gate
    of (Add a b out) may = (may.0, may.1)
    of (Mul a b out) may = (may.0, may.1)
    of (Const value out) may = tt
    of (Assert a) may = may

pub sets_free : (circuit : Arith) (n : ℕ) (gate : ArithRow) → IsWellFormed circuit → slice_get circuit.gates n ≡ Some gate
    → OfSet (λ wire. MaySet circuit (take n circuit.gates) wire) gate
sets_free circuit n gate formed stands = of gate (formed.gates_fit n gate stands)
  where
    of : (gate : ArithRow) → MayCome circuit (take n circuit.gates) gate → OfSet (λ wire. MaySet circuit (take n circuit.gates) wire) gate
    of (Add a b out) may = may.2
    of (Mul a b out) may = may.2
    of (Const value out) may = may.1
    of (Assert a) may = tt

-- the wire that an earlier gate sets is set
pub set_before : (circuit : Arith) (k n : ℕ) (gate : ArithRow) → k < n → slice_get circuit.gates k ≡ Some gate → OfSet (SetBy circuit n) gate
set_before circuit k n gate less stands = of gate refl
  where
    one : (out : ℕ) → sets out gate ≡ true → SetBy circuit n out
    one out is = gate_sets circuit n out (record { number = k; gate = gate; before = less; stands = stands; sets_it = is })

    of : (other : ArithRow) → gate ≡ other → OfSet (SetBy circuit n) other
    of (Add a b out) same = one out (ap (sets out) same ∙ eq-eqb out out refl)
    of (Mul a b out) same = one out (ap (sets out) same ∙ eq-eqb out out refl)
    of (Const value out) same = one out (ap (sets out) same ∙ eq-eqb out out refl)
    of (Assert a) same = tt

-- a wire that is set is not one that is free
pub apart : (inputs : ℕ) (gates : List ArithRow) (wire out : ℕ) → is_set inputs gates wire ≡ true → is_set inputs gates out ≡ false → wire ≢ out
apart inputs gates wire out on off same = not_both (is_set inputs gates out) (ap (is_set inputs gates) (sym same) ∙ on) off
  where
    not_both : (b : Bool) → b ≡ true → b ≡ false → ⊥
    not_both true on off = absurd cc
    not_both false on off = absurd cc
