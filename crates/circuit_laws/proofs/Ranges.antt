-- Numbers one after another.
use Rattle.std.proofs.Common.{◌≡◌, ℕ, zero, suc, ◌+◌, ◌∷◌, ◌++◌, sym, ap, ◌∙◌, arith, add-zero, zero-add}
use Rattle.std.specs.List.{range_with_len}

-- n numbers and then m are n + m numbers
pub range-append : (a n m : ℕ) → range_with_len a (n + m) ≡ range_with_len a n ++ range_with_len (a + n) m
range-append a zero m = (λ i. range_with_len (sym (add-zero a) i) (zero-add m i))
range-append a (suc n) m =
    let count : suc n + m ≡ suc (n + m) = omega arith in
    let place : a + 1 + n ≡ a + suc n = omega arith in
    ap (range_with_len a) count
    ∙ ap (λ l. a ∷ l) (range-append (a + 1) n m ∙ ap (λ k. range_with_len (a + 1) n ++ range_with_len k m) place)
