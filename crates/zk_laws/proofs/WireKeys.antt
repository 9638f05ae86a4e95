-- Keys that fit the pairs of the given values carry over to keys that fit the pairs of the wires.
use Rattle.std.proofs.Common.{◌≡◌, ℕ, zero, suc, ◌+◌, ◌*◌, ◌%◌, List, [], ◌∷◌, map, zip, take, drop, refl, sym, ◌∙◌, ap, zero-mul, arith}
use Rattle.std.specs.Prelude.{get_or, slice_index}
use Rattle.std.specs.List.{take-map, drop-map}
use Rattle.std.proofs.Math.Nat.{add-mod-mod}
use Rattle.std.proofs.lemmas.List.{length-map}
use Rattle.std.proofs.lemmas.List.Sums.{sum_by-cons}
use Rattle.mersenne_field.proofs.Flatten.{flatten}
use Rattle.zk_model.specs.Field.{prime, ◌+ₚ◌, ◌*ₚ◌}
use Rattle.zk_model.specs.Mac.{Pair, fitting_key}
use Rattle.zk_model.specs.Program.{Term, Step, weighted, MeetsStep}
use Rattle.zk_laws.specs.Sessions.{WireKeysFit}

-- ---- one pair

abbrev value_of : Pair → ℕ
value_of pair = pair.x

abbrev mac_of : Pair → ℕ
mac_of pair = pair.m

-- the key that fits a value and a MAC
abbrev key_for : ℕ → ℕ → ℕ → ℕ
key_for key x m = m +ₚ x *ₚ key

-- a wire's key fits its value and its MAC, and past the end all three are 0
wire_key : (key : ℕ) (wires : List Pair) (i : ℕ)
    → slice_index (map (fitting_key key) wires) i ≡ key_for key (slice_index (map value_of wires) i) (slice_index (map mac_of wires) i)
wire_key key [] i = ap (λ n. (0 + n % prime) % prime) (sym (zero-mul key))
wire_key key (wire ∷ wires) zero = refl
wire_key key (wire ∷ wires) (suc i) = wire_key key wires i

-- ---- linear forms

-- one term more, with its factor
one_term : (key f x m sum sx sm : ℕ) → sum % prime ≡ (sm + sx * key) % prime
    → (f * key_for key x m + sum) % prime ≡ (f * m + sm + (f * x + sx) * key) % prime
one_term key f x m sum sx sm same =
    sym (add-mod-mod (f * key_for key x m) sum prime)
    ∙ (λ i. (f * key_for key x m + same i) % prime)
    ∙ whole key f x m sx sm
  where
    whole : (key f x m sx sm : ℕ)
        → (f * (m +ₚ x *ₚ key) + (sm + sx * key) % prime) % prime ≡ (f * m + sm + (f * x + sx) * key) % prime
    whole key f x m sx sm = simp flatten (omega arith)

-- a weighted sum of keys is that of the MACs, and that of the values times the one key
weighted_keys : (key : ℕ) (pairs : List Pair) (terms : List Term) → weighted (map (fitting_key key) pairs) terms % prime
    ≡ (weighted (map mac_of pairs) terms + weighted (map value_of pairs) terms * key) % prime
weighted_keys key pairs [] = ap (λ n. n % prime) none
  where
    none : 0 ≡ 0 + 0 * key
    none = omega arith
weighted_keys key pairs (term ∷ terms) =
    (λ i. (one_more (map (fitting_key key) pairs) i) % prime)
    ∙ (λ i. (term.factor * wire_key key pairs term.place i + weighted (map (fitting_key key) pairs) terms) % prime)
    ∙ one_term key term.factor (slice_index (map value_of pairs) term.place) (slice_index (map mac_of pairs) term.place)
    (weighted (map (fitting_key key) pairs) terms) (weighted (map value_of pairs) terms) (weighted (map mac_of pairs) terms)
    (weighted_keys key pairs terms)
    ∙ sym (λ i. (one_more (map mac_of pairs) i + one_more (map value_of pairs) i * key) % prime)
  where
    one_more : (numbers : List ℕ) → weighted numbers (term ∷ terms) ≡ term.factor * slice_index numbers term.place + weighted numbers terms
    one_more numbers = sum_by-cons (λ (t : Term). t.factor * slice_index numbers t.place) term terms

-- a linear form of keys fits those of the values and of the MACs
form_key : (key wk wx wm gk gx gm c : ℕ) → wk % prime ≡ (wm + wx * key) % prime → gk % prime ≡ (gm + gx * key) % prime
    → (wk + gk + c * key) % prime ≡ key_for key ((wx + gx + c * 1) % prime) ((wm + gm + c * 0) % prime)
form_key key wk wx wm gk gx gm c wires given =
    apart wk gk (c * key)
    ∙ (λ i. (wires i + given i + c * key) % prime)
    ∙ sym (apart (wm + wx * key) (gm + gx * key) (c * key))
    ∙ whole key wx wm gx gm c
  where
    apart : (a b d : ℕ) → (a + b + d) % prime ≡ (a % prime + b % prime + d) % prime
    apart a b d = omega arith

    whole : (key wx wm gx gm c : ℕ) → (wm + wx * key + (gm + gx * key) + c * key) % prime
        ≡ (wm + gm + c * 0) % prime +ₚ (wx + gx + c * 1) % prime *ₚ key
    whole key wx wm gx gm c = simp flatten (omega arith)

-- one step: where values and MACs meet it, so do the keys
step_keys : (key : ℕ) (wires given : List Pair) (step : Step)
    → MeetsStep 1 (map value_of wires) (map value_of given) step
    → MeetsStep 0 (map mac_of wires) (map mac_of given) step
    → MeetsStep key (map (fitting_key key) wires) (map (fitting_key key) given) step
step_keys key wires given step values macs =
    wire_key key wires step.out
    ∙ (λ i. key_for key (values i) (macs i))
    ∙ sym (form_key key
    (weighted (map (fitting_key key) wires) step.wires) (weighted (map value_of wires) step.wires) (weighted (map mac_of wires) step.wires)
    (weighted (map (fitting_key key) given) step.given) (weighted (map value_of given) step.given) (weighted (map mac_of given) step.given)
    step.constant (weighted_keys key wires step.wires) (weighted_keys key given step.given))

-- ---- the first wires

-- the keys of a list of pairs, from the values and the MACs apart
abbrev joined_keys : ℕ → List ℕ → List ℕ → List ℕ
joined_keys key values macs = map (λ q. key_for key q.0 q.1) (zip values macs)

keys_apart : (key : ℕ) (pairs : List Pair) → map (fitting_key key) pairs ≡ joined_keys key (map value_of pairs) (map mac_of pairs)
keys_apart key [] = refl
keys_apart key (pair ∷ pairs) = ap (λ ks. fitting_key key pair ∷ ks) (keys_apart key pairs)

-- the key of a public value is that value times the one key
public_key : (key value : ℕ) → key_for key (value *ₚ 1) (value *ₚ 0) ≡ value *ₚ key
public_key key value = simp flatten (omega arith)

public_keys : (key : ℕ) (public : List ℕ)
    → joined_keys key (map (λ value. value *ₚ 1) public) (map (λ value. value *ₚ 0) public) ≡ map (λ value. value *ₚ key) public
public_keys key [] = refl
public_keys key (value ∷ values) = λ i. public_key key value i ∷ public_keys key values i

-- the first of the keys, from the first of the values and of the MACs
first_keys : (key n : ℕ) (pairs : List Pair) → take n (map (fitting_key key) pairs)
    ≡ joined_keys key (take n (map value_of pairs)) (take n (map mac_of pairs))
first_keys key n pairs =
    take-map (fitting_key key) n pairs
    ∙ keys_apart key (take n pairs)
    ∙ sym (λ i. joined_keys key (take-map value_of n pairs i) (take-map mac_of n pairs i))

-- and of those after them
next_keys : (key m n : ℕ) (pairs : List Pair) → take n (drop m (map (fitting_key key) pairs))
    ≡ joined_keys key (take n (drop m (map value_of pairs))) (take n (drop m (map mac_of pairs)))
next_keys key m n pairs =
    ap (take n) (drop-map (fitting_key key) m pairs)
    ∙ first_keys key n (drop m pairs)
    ∙ sym (λ i. joined_keys key (take n (drop-map value_of m pairs i)) (take n (drop-map mac_of m pairs i)))

-- ---- all wires

pub wire_keys_fit : WireKeysFit
wire_keys_fit key program public pairs element are = record {
  whole = length-map pairs.wires (fitting_key key) ∙ sym (length-map pairs.wires value_of) ∙ are.values.whole;
  constants = first_keys key program.public pairs.wires
      ∙ (λ i. joined_keys key (are.values.constants i) (are.macs.constants i))
      ∙ public_keys key public;
  inputs = next_keys key program.public program.inputs pairs.wires
      ∙ (λ i. joined_keys key (are.values.inputs i) (are.macs.inputs i))
      ∙ sym (first_keys key program.inputs pairs.given);
  steps = λ n d below.
      step_keys key pairs.wires pairs.given (get_or program.steps n d) (are.values.steps n d below) (are.macs.steps n d below);
}
