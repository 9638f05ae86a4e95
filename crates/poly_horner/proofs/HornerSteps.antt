-- Horner's rule, from the last coefficient down.
use Rattle.std.proofs.Common.{◌≡◌, ℕ, ◌+◌, ◌*◌, ◌^◌, ◌%◌, ◌<◌, suc, List, [], ◌∷◌, ◌++◌, length, arith, ap, sym, ◌∙◌, length-append}
use Rattle.std.proofs.Math.Nat.{pow-suc, pow-zero}
use Rattle.zk_model.specs.Field.{prime, ◌+ₚ◌, ◌*ₚ◌}
use Rattle.zk_model.specs.Polynomial.{power_sum}
use Rattle.mersenne_field.proofs.Flatten.{flatten}

-- one more coefficient, at the end
power_sum-push : (v i : ℕ) (cs : List ℕ) (c : ℕ) → power_sum v i (cs ++ c ∷ []) ≡ power_sum v i cs + c * v ^ (i + length cs)
power_sum-push v i [] c = let none : i + 0 ≡ i = omega arith in rw none (omega arith)
power_sum-push v i (d ∷ cs) c =
    let more : i + 1 + length cs ≡ i + suc (length cs) = omega arith in
    ap (λ n. d * v ^ i + n) (power_sum-push v (i + 1) cs c) ∙ rw more (omega arith)

-- the coefficients that are left, and what has come so far times the next power
abbrev pub rest_and_value : List ℕ → ℕ → ℕ → ℕ
rest_and_value rest point value = (power_sum point 0 rest + point ^ length rest * value) % prime

-- the last coefficient that is left
pub horner_step : (before after : List ℕ) (c value new point whole : ℕ) → before ≡ after ++ c ∷ []
    → new ≡ c +ₚ value *ₚ point → rest_and_value before point value ≡ whole → rest_and_value after point new ≡ whole
horner_step before after c value new point whole split is h =
    ap (rest_and_value after point) is
    ∙ stripped (power_sum point 0 after) (point ^ length after) c value point
    ∙ ap (λ n. n % prime) (regroup (power_sum point 0 after) (point ^ length after) c value point)
    ∙ ap (λ n. (power_sum point 0 after + c * point ^ length after + n * value) % prime) (sym (pow-suc point (length after)))
    ∙ (λ i. (sym (power_sum-push point 0 after c ∙ zero_first) i + point ^ longer i * value) % prime)
    ∙ ap (λ l. rest_and_value l point value) (sym split) ∙ h
  where
    stripped : (s w c v x : ℕ) → (s + w * ((c + v * x % prime) % prime)) % prime ≡ (s + w * (c + v * x)) % prime
    stripped s w c v x = simp flatten (omega arith)

    regroup : (s w c v x : ℕ) → s + w * (c + v * x) ≡ s + c * w + w * x * v
    regroup s w c v x = omega arith

    zero_first : power_sum point 0 after + c * point ^ (0 + length after) ≡ power_sum point 0 after + c * point ^ length after
    zero_first = let same : 0 + length after ≡ length after = omega arith in ap (λ n. power_sum point 0 after + c * point ^ n) same

    longer : suc (length after) ≡ length (after ++ c ∷ [])
    longer = omega (arith, length-append after (c ∷ []))

-- at the end none is left
pub horner_end : (rest : List ℕ) (value point whole : ℕ) → length rest ≡ 0 → value < prime
    → rest_and_value rest point value ≡ whole → value ≡ whole
horner_end [] value point whole none below h = let plain = rw pow-zero at h in omega arith
horner_end (c ∷ cs) value point whole none below h = absurd (omega arith)
