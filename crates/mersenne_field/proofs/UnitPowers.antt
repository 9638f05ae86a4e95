-- Powers of 2 + √3, and their remainders modulo 2^61 - 1 in Lucas and Lehmer's test.
use Rattle.std.proofs.Common.{◌≡◌, ℕ, ◌+◌, ◌-◌, ◌*◌, ◌%◌, ◌^◌, zero, suc, arith, refl}
use Rattle.std.proofs.Math.Nat.{zero-add, suc-add, two-pow-succ, mod-mod}
use Rattle.mersenne_field.proofs.Congruence.{same-*}
use Rattle.zk_model.specs.Field.{prime}

-- (2 + √3) ^ n, as its whole part and what stands before √3
pub unit_power : ℕ → ℕ × ℕ
unit_power zero = (1, 0)
unit_power (suc n) = (2 * (unit_power n).0 + 3 * (unit_power n).1, (unit_power n).0 + 2 * (unit_power n).1)

-- its whole part
pub whole : ℕ → ℕ
whole n = (unit_power n).0

-- what stands before √3
pub root : ℕ → ℕ
root n = (unit_power n).1

-- the powers by 0 and by 1, and the step from n to n + 1
pub whole-zero : whole 0 ≡ 1
unfolding whole unit_power
whole-zero = refl

pub root-zero : root 0 ≡ 0
unfolding root unit_power
root-zero = refl

pub whole-suc : (n : ℕ) → whole (suc n) ≡ 2 * whole n + 3 * root n
unfolding whole root unit_power
whole-suc n = refl

pub root-suc : (n : ℕ) → root (suc n) ≡ whole n + 2 * root n
unfolding whole root unit_power
root-suc n = refl

pub whole-one : whole 1 ≡ 2
unfolding whole unit_power
whole-one = refl

-- the power by a sum is the product of the powers
pub power-add : (m n : ℕ) → (whole (m + n) ≡ whole m * whole n + root m * (3 * root n)) × (root (m + n) ≡ whole m * root n + root m * whole n)
power-add zero n = (rw (zero-add, whole-zero, root-zero) (omega arith), rw (zero-add, whole-zero, root-zero) (omega arith))
power-add (suc m) n =
    let h = power-add m n in (
      rw (suc-add, whole-suc (m + n), whole-suc m, root-suc m, h.0, h.1) (omega arith),
      rw (suc-add, root-suc (m + n), whole-suc m, root-suc m, h.0, h.1) (omega arith),
    )

-- the norm of each power is 1
pub pell : (n : ℕ) → whole n * whole n ≡ 3 * (root n * root n) + 1
pell zero = rw (whole-zero, root-zero) refl
pell (suc n) = rw (whole-suc n, root-suc n) (omega (arith, pell n))

-- the power by n + n, from that by n
pub whole-double : (n : ℕ) → whole (n + n) + 1 ≡ 2 * (whole n * whole n)
whole-double n = omega (arith, power-add n n, pell n)

pub root-double : (n : ℕ) → root (n + n) ≡ 2 * (whole n * root n)
root-double n = omega (arith, power-add n n)

-- the whole parts of the powers by 2 ^ k, modulo the prime
abbrev pub square_step : ℕ → ℕ
square_step c = (2 * (c * c) + (prime - 1)) % prime

-- their first is 2, and each is the step of the one before
abbrev pub residue : ℕ → ℕ
residue zero = 2
residue (suc k) = square_step (residue k)

-- the step, for a number and what its double power has in its place
pub double_residue : (w d c : ℕ) → w % prime ≡ c → d + 1 ≡ 2 * (w * w) → d % prime ≡ square_step c
double_residue w d c e h =
    let squares : (w % prime * (w % prime)) % prime ≡ (w * w) % prime = same-* prime (w % prime) w (w % prime) w (mod-mod w prime) (mod-mod w prime) in
    rw (← e) (omega (arith, squares))

-- the remainders of the whole parts are those of the steps
pub whole-residue : (k : ℕ) → whole (2 ^ k) % prime ≡ residue k
whole-residue zero = rw whole-one refl
whole-residue (suc k) = rw two-pow-succ (double_residue (whole (2 ^ k)) (whole (2 ^ k + 2 ^ k)) (residue k) (whole-residue k) (whole-double (2 ^ k)))

-- the last of the test's steps gives 0
pub residue-last : residue 59 ≡ 0
residue-last = refl
