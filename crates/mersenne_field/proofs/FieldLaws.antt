-- The laws of a commutative ring, modulo the prime, and what they say of keys. Where a side has no remainder of its
-- own, its number is an element.
use Rattle.std.proofs.Common.{◌≡◌, ℕ, ◌+◌, ◌*◌, ◌%◌, ◌<◌, ◌∙◌, arith, lit<}
use Rattle.std.proofs.Math.Nat.{add-mod-mod, mod-mod}
use Rattle.std.proofs.lemmas.Nat.{mod_below}
use Rattle.mersenne_field.specs.Laws.{IsRing}
use Rattle.zk_model.specs.Field.{prime, IsElement, ◌+ₚ◌, ◌-ₚ◌, ◌*ₚ◌}
use Rattle.zk_model.specs.Mac.{Pair, fitting_key, corrected_pair, corrected_key}
use Rattle.mersenne_field.proofs.Flatten.{flatten}

pub some_prime : 0 < prime
some_prime = lit< tt

-- a remainder is an element
pub reduced : (n : ℕ) → IsElement (n % prime)
reduced n = mod_below n prime some_prime

pub plus_comm : (a b : ℕ) → a +ₚ b ≡ b +ₚ a
plus_comm a b = omega arith

pub plus_assoc : (a b c : ℕ) → a +ₚ b +ₚ c ≡ a +ₚ (b +ₚ c)
plus_assoc a b c = simp flatten (omega arith)

pub plus-zero : (a : ℕ) → IsElement a → a +ₚ 0 ≡ a
plus-zero a h = omega arith

pub times_comm : (a b : ℕ) → a *ₚ b ≡ b *ₚ a
times_comm a b = omega arith

pub times_assoc : (a b c : ℕ) → a *ₚ b *ₚ c ≡ a *ₚ (b *ₚ c)
times_assoc a b c = simp flatten (omega arith)

pub times-one : (a : ℕ) → IsElement a → a *ₚ 1 ≡ a
times-one a h = omega arith

pub times-plus : (a b c : ℕ) → a *ₚ (b +ₚ c) ≡ a *ₚ b +ₚ a *ₚ c
times-plus a b c = simp flatten (omega arith)

pub minus-self : (a : ℕ) → a -ₚ a ≡ 0
minus-self a = simp flatten (omega arith)

-- to take away is to add the negative
pub minus-negative : (a b : ℕ) → a -ₚ b ≡ a +ₚ (0 -ₚ b)
minus-negative a b = simp flatten (omega arith)

-- a number and its negative
plus-negative : (a : ℕ) → a +ₚ (0 -ₚ a) ≡ 0
plus-negative a = simp flatten (omega arith)

-- the laws of a commutative ring, together
pub is_ring : IsRing
is_ring = record {
  plus_commutes = plus_comm;
  plus_associates = plus_assoc;
  plus_zero = plus-zero;
  plus_negative = plus-negative;
  minus = minus-negative;
  times_commutes = times_comm;
  times_associates = times_assoc;
  times_one = times-one;
  times_plus = times-plus;
}

-- the difference corrects one number to the other
pub plus-minus : (a b : ℕ) → IsElement a → b +ₚ (a -ₚ b) ≡ a
plus-minus a b h = omega arith

-- elements whose difference is 0 are equal
pub minus-eq-zero : (a b : ℕ) → IsElement a → IsElement b → a -ₚ b ≡ 0 → a ≡ b
minus-eq-zero a b h k e = omega arith

-- ---- Keys that fit. The key of a value x with the MAC m is m +ₚ x *ₚ key; the verifier has the one key.

-- what a fitting key leaves is what its value and its MAC leave
pub fitting_key-mod : (key : ℕ) (pair : Pair) → fitting_key key pair % prime ≡ (pair.m + pair.x * key) % prime
fitting_key-mod key pair = mod-mod (pair.m + (pair.x * key) % prime) prime ∙ add-mod-mod pair.m (pair.x * key) prime

-- ---- the check of a product

-- over plain numbers, with the error of the product
pub product_check : (key xa ma xb mb xc mc : ℕ) →
    (ma +ₚ xa *ₚ key) *ₚ (mb +ₚ xb *ₚ key) -ₚ (mc +ₚ xc *ₚ key) *ₚ key
    ≡ ma *ₚ mb +ₚ (xa *ₚ mb +ₚ xb *ₚ ma -ₚ mc) *ₚ key +ₚ (xa *ₚ xb -ₚ xc) *ₚ (key *ₚ key)
product_check key xa ma xb mb xc mc = simp flatten (omega arith)

-- ---- corrections

-- a correction of the value and of the key
pub corrected_key_fits : (key x m d : ℕ) → m +ₚ x *ₚ key +ₚ d *ₚ key ≡ m +ₚ (x +ₚ d) *ₚ key
corrected_key_fits key x m d = simp flatten (omega arith)

pub corrected_key-fitting : (key : ℕ) (pair : Pair) (d : ℕ) →
    corrected_key key (fitting_key key pair) d ≡ fitting_key key (corrected_pair pair d)
corrected_key-fitting key pair d = corrected_key_fits key pair.x pair.m d

-- ---- linear combinations

-- the key of a sum is the sum of the keys
pub sum_key_fits : (key xa ma xb mb : ℕ) →
    (ma +ₚ xa *ₚ key) +ₚ (mb +ₚ xb *ₚ key) ≡ (ma +ₚ mb) +ₚ (xa +ₚ xb) *ₚ key
sum_key_fits key xa ma xb mb = simp flatten (omega arith)

-- of a multiple
pub scaled_key_fits : (key x m w : ℕ) → (m +ₚ x *ₚ key) *ₚ w ≡ m *ₚ w +ₚ (x *ₚ w) *ₚ key
scaled_key_fits key x m w = simp flatten (omega arith)

-- of an exclusive or, whose product has the value xc and the MAC mc
pub xor_key_fits : (key xa ma xb mb xc mc : ℕ) →
    (ma +ₚ xa *ₚ key) +ₚ (mb +ₚ xb *ₚ key) -ₚ 2 *ₚ (mc +ₚ xc *ₚ key)
    ≡ (ma +ₚ mb -ₚ 2 *ₚ mc) +ₚ (xa +ₚ xb -ₚ 2 *ₚ xc) *ₚ key
xor_key_fits key xa ma xb mb xc mc = simp flatten (omega arith)

-- of a negation: the constant 1 has the MAC 0 and the one key
pub not_key_fits : (key x m : ℕ) → key -ₚ (m +ₚ x *ₚ key) ≡ (0 -ₚ m) +ₚ (1 -ₚ x) *ₚ key
not_key_fits key x m = simp flatten (omega arith)

-- of the constant 1
pub one_key_fits : (key : ℕ) → IsElement key → key ≡ 0 +ₚ 1 *ₚ key
one_key_fits key element = omega arith
