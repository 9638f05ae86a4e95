-- Powers by squaring.
use Rattle.std.proofs.Common.{◌≡◌, ℕ, suc, ◌+◌, ◌*◌, ◌^◌, ◌%◌, ◌/◌, arith, ap, sym, ◌∙◌}
use Rattle.std.proofs.lemmas.Nat.{pow-mod, mul-pow, pow-add, mul-mod_first, mul-mod_second}
use Rattle.std.proofs.Math.Nat.{pow-suc}

-- half the power of the square, modulo any number
squared : (m p s q : ℕ) → (p * (s * s % m) ^ q) % m ≡ (p * s ^ (q + q)) % m
squared m p s q =
    sym (mul-mod_second p ((s * s % m) ^ q) m)
    ∙ ap (λ n. (p * n) % m) (pow-mod (s * s) q m)
    ∙ mul-mod_second p ((s * s) ^ q) m
    ∙ ap (λ n. (p * n) % m) (mul-pow s s q ∙ sym (pow-add s q q))

-- an even power
pub even_step : (m p s n : ℕ) → n % 2 ≡ 0 → (p * (s * s % m) ^ (n / 2)) % m ≡ (p * s ^ n) % m
even_step m p s n even =
    let twice : n / 2 + n / 2 ≡ n = omega arith in
    squared m p s (n / 2) ∙ ap (λ k. (p * s ^ k) % m) twice

-- an odd power
pub odd_step : (m p s n : ℕ) → n % 2 ≡ 1 → ((p * s % m) * (s * s % m) ^ (n / 2)) % m ≡ (p * s ^ n) % m
odd_step m p s n odd =
    let q = n / 2 in
    let twice : suc (q + q) ≡ n = omega arith in
    mul-mod_first (p * s) ((s * s % m) ^ q) m
    ∙ squared m (p * s) s q
    ∙ ap (λ k. k % m) (regroup p s (s ^ (q + q)))
    ∙ ap (λ k. (p * k) % m) (sym (pow-suc s (q + q)) ∙ ap (λ k. s ^ k) twice)
  where
    regroup : (p s w : ℕ) → p * s * w ≡ p * (w * s)
    regroup p s w = omega arith
