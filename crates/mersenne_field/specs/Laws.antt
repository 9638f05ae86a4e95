-- What the definitions of the field promise.
use Rattle.std.specs.Prelude.{◌≡◌, ◌≢◌, ℕ, ◌*◌, ◌<◌, ◌⊎◌}
use Rattle.zk_model.specs.Field.{prime, IsElement, ◌+ₚ◌, ◌-ₚ◌, ◌*ₚ◌}

-- 2^61 - 1 is a prime: no number between 1 and itself divides it
abbrev pub PrimeIsPrime : Type 0
PrimeIsPrime = (divisor quotient : ℕ) → 1 < divisor → divisor < prime → divisor * quotient ≢ prime

-- a product is 0 only where a factor is
abbrev pub ZeroProduct : Type 0
ZeroProduct = (a b : ℕ) → IsElement a → IsElement b → a *ₚ b ≡ 0 → (a ≡ 0) ⊎ (b ≡ 0)

-- the laws of a commutative ring; to take away is to add what gives 0 with the number taken away
pub record IsRing : Type 0 where
  pub plus_commutes : (a b : ℕ) → a +ₚ b ≡ b +ₚ a
  pub plus_associates : (a b c : ℕ) → a +ₚ b +ₚ c ≡ a +ₚ (b +ₚ c)
  pub plus_zero : (a : ℕ) → IsElement a → a +ₚ 0 ≡ a
  pub plus_negative : (a : ℕ) → a +ₚ (0 -ₚ a) ≡ 0
  pub minus : (a b : ℕ) → a -ₚ b ≡ a +ₚ (0 -ₚ b)
  pub times_commutes : (a b : ℕ) → a *ₚ b ≡ b *ₚ a
  pub times_associates : (a b c : ℕ) → a *ₚ b *ₚ c ≡ a *ₚ (b *ₚ c)
  pub times_one : (a : ℕ) → IsElement a → a *ₚ 1 ≡ a
  pub times_plus : (a b c : ℕ) → a *ₚ (b +ₚ c) ≡ a *ₚ b +ₚ a *ₚ c
