-- Bytes laid over a file that zeros were added to.
use Rattle.std.proofs.Common.{◌≡◌, ◌≢◌, ◌≤◌, ◌+◌, ◌-◌, ◌++◌, ℕ, zero, suc, List, [], ◌∷◌, length, take, drop, replicate, refl, ap, sym, ◌∙◌, arith, append-nil}
use Rattle.std.proofs.lemmas.List.{take-replicate, drop-replicate, take_all, drop_all}
use Rattle.zk_port.specs.Images.{laid_at, written_at}

-- the first of two lists that stand together, and what is behind them
split_over : (n : ℕ) (xs ys : List ℕ)
    → (take n (xs ++ ys) ≡ take n xs ++ take (n - length xs) ys) × (drop n (xs ++ ys) ≡ drop n xs ++ drop (n - length xs) ys)
split_over n [] ys =
    let none : List ℕ = [] in
    let same : n ≡ n - length none = omega arith in (
      ap (λ k. take k ys) same ∙ ap (λ l. l ++ take (n - length none) ys) (sym (take_all n none (omega arith))),
      ap (λ k. drop k ys) same ∙ ap (λ l. l ++ drop (n - length none) ys) (sym (drop_all n none (omega arith))),
    )
split_over zero (x ∷ xs) ys =
    let none : 0 ≡ 0 - length (x ∷ xs) = omega arith in (ap (λ k. take k ys) none, ap (λ k. x ∷ xs ++ drop k ys) none)
split_over (suc n) (x ∷ xs) ys =
    let same : n - length xs ≡ suc n - length (x ∷ xs) = omega arith in
    let rest = split_over n xs ys in
    (ap (λ l. x ∷ l) rest.0 ∙ ap (λ k. x ∷ take n xs ++ take k ys) same, rest.1 ∙ ap (λ k. drop n xs ++ drop k ys) same)

pub laid_over : (at n : ℕ) (bytes old : List ℕ) → n ≡ at + length bytes - length old
    → take at (old ++ replicate n 0) ++ bytes ++ drop (at + length bytes) (old ++ replicate n 0) ≡ laid_at at bytes old
laid_over at n bytes old is =
    let zero_byte : ℕ = 0 in
    let within : at - length old ≤ n = omega (arith, is) in
    let front : take at (old ++ replicate n 0) ≡ take at old ++ replicate (at - length old) 0 =
    (split_over at old (replicate n 0)).0 ∙ ap (λ l. take at old ++ l) (take-replicate (at - length old) n 0 within) in
    let gone : n - (at + length bytes - length old) ≡ 0 = omega (arith, is) in
    let back : drop (at + length bytes) (old ++ replicate n 0) ≡ drop (at + length bytes) old =
    (split_over (at + length bytes) old (replicate n 0)).1
    ∙ ap (λ l. drop (at + length bytes) old ++ l) (drop-replicate (at + length bytes - length old) n 0 ∙ ap (λ k. replicate k zero_byte) gone)
    ∙ append-nil (drop (at + length bytes) old) in
    ap (λ l. l ++ bytes ++ drop (at + length bytes) (old ++ replicate n 0)) front
    ∙ ap (λ l. (take at old ++ replicate (at - length old) zero_byte) ++ bytes ++ l) back

-- a file that was reached so far, with bytes laid over it, is written
pub written_over : (at : ℕ) (bytes old reached new : List ℕ) → bytes ≢ []
    → reached ≡ old ++ replicate (at + length bytes - length old) 0
    → new ≡ take at reached ++ bytes ++ drop (at + length bytes) reached
    → new ≡ written_at at bytes old
written_over at [] old reached new some is_reached is_new = absurd (some refl)
written_over at (byte ∷ bytes) old reached new some is_reached is_new =
    is_new
    ∙ ap (λ r. take at r ++ (byte ∷ bytes) ++ drop (at + length (byte ∷ bytes)) r) is_reached
    ∙ laid_over at (at + length (byte ∷ bytes) - length old) (byte ∷ bytes) old refl
