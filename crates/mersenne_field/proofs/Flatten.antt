-- Nested sums, differences and products modulo the prime as one polynomial.
use Rattle.std.proofs.Common.{◌≡◌, ℕ, ◌+◌, ◌-◌, ◌*◌, ◌%◌, ap, arith, ◌∙◌, sym}
use Rattle.std.proofs.lemmas.Nat.{mul-mod_first, mul-mod_second}
use Rattle.std.proofs.Math.Nat.{mod-add-mod, add-mod-mod, mod-mod}
use Rattle.zk_model.specs.Field.{prime}

-- to take away is to add a product with p - 1
pub mod-sub_reduced : (a b : ℕ) → (a + (prime - b % prime)) % prime ≡ (a + (prime - 1) * b) % prime
mod-sub_reduced a b = omega arith

-- a remainder below a product, in a sum
pub mod-add-mul_mod : (m a b c : ℕ) → (a + b * (c % m)) % m ≡ (a + b * c) % m
mod-add-mul_mod m a b c =
    sym (add-mod-mod a (b * (c % m)) m) ∙ ap (λ n. (a + n) % m) (mul-mod_second b c m) ∙ add-mod-mod a (b * c) m

pub mod-add-mod_mul : (m a b c : ℕ) → (a + b % m * c) % m ≡ (a + b * c) % m
mod-add-mod_mul m a b c =
    sym (add-mod-mod a (b % m * c) m) ∙ ap (λ n. (a + n) % m) (mul-mod_first b c m) ∙ add-mod-mod a (b * c) m

pub mod-mul_mod-add : (m a b c : ℕ) → (b * (c % m) + a) % m ≡ (b * c + a) % m
mod-mul_mod-add m a b c =
    sym (mod-add-mod (b * (c % m)) m a) ∙ ap (λ n. (n + a) % m) (mul-mod_second b c m) ∙ mod-add-mod (b * c) m a

pub mod-mod_mul-add : (m a b c : ℕ) → (b % m * c + a) % m ≡ (b * c + a) % m
mod-mod_mul-add m a b c =
    sym (mod-add-mod (b % m * c) m a) ∙ ap (λ n. (n + a) % m) (mul-mod_first b c m) ∙ mod-add-mod (b * c) m a

-- An identity of +ₚ, -ₚ and *ₚ over plain variables is proved by `simp flatten (omega arith)`: the first
-- strips the remainders inside, and the second multiplies out. It does so up to seven variables or some
-- sixty terms. State the identity as a lemma of its own, and cite that by its name.
pub ruleset flatten = (mul-mod_first, mul-mod_second, mod-add-mod, add-mod-mod, mod-mod, mod-sub_reduced, mod-add-mul_mod, mod-add-mod_mul, mod-mul_mod-add, mod-mod_mul-add)
