-- The first number at which something fails: it is one, and what can be decided has one or holds throughout.
use Rattle.std.proofs.Common.{◌≡◌, ℕ, zero, suc, ◌<◌, ◌⊎◌, ⊎_elim, inl, inr, List, [], ◌∷◌, refl, sym, subst, arith}
use Rattle.std.proofs.lemmas.Bool.{cases_eq, cases_lt}
use Rattle.zk_model.specs.Polynomial.{IsZero, IsNonzero}
use Rattle.zk_model.specs.Check.{AllBelow, IsFirstFailure}

-- ---- the first failure

-- there is one at most
pub one_first : (P : ℕ → Type 0) (bound n m : ℕ) → IsFirstFailure P bound n → IsFirstFailure P bound m → n ≡ m
one_first P bound n m left right = ⊎_elim
    (λ less. absurd (left.fails (right.before n less)))
    (λ above. ⊎_elim (λ less. absurd (right.fails (left.before m less))) (λ below. omega (arith, above, below)) (cases_lt m n))
    (cases_lt n m)

-- where there is one, not all hold
pub not_all : (P : ℕ → Type 0) (bound n : ℕ) → IsFirstFailure P bound n → AllBelow bound P → ⊥
not_all P bound n first all = first.fails (all n first.below)

-- it is that of what holds at the same numbers
pub first_of_same : (P Q : ℕ → Type 0) (bound n : ℕ) → ((k : ℕ) → P k → Q k) → ((k : ℕ) → Q k → P k)
    → IsFirstFailure P bound n → IsFirstFailure Q bound n
first_of_same P Q bound n there back first = record {
  below = first.below;
  fails = λ holds. first.fails (back n holds);
  before = λ k below. there k (first.before k below);
}

-- what can be decided holds of all numbers below a bound, or there is a first one at which it fails
pub first_failure : (P : ℕ → Type 0) → ((n : ℕ) → P n ⊎ (¬ P n)) → (bound : ℕ)
    → AllBelow bound P ⊎ ((n : ℕ) × IsFirstFailure P bound n)
first_failure P decide zero = inl (λ n below. absurd (omega (arith, below)))
first_failure P decide (suc bound) = ⊎_elim
    (λ all. ⊎_elim (λ last. inl (one_more all last)) (λ fails. inr (bound, record { below = omega arith; fails = fails; before = all })) (decide bound))
    (λ first. inr (
      first.0,
      record {
        below = let below = first.1.below in omega (arith, below);
        fails = first.1.fails;
        before = first.1.before;
      },
    ))
    (first_failure P decide bound)
  where
    one_more : ((n : ℕ) → n < bound → P n) → P bound → (n : ℕ) → n < suc bound → P n
    one_more all last n below = ⊎_elim (λ e. subst P (sym e) last) (λ ne. all n (omega (arith, below, ne))) (cases_eq n bound)

-- ---- polynomials that are 0

-- a coefficient 0 in front of zeros
zero_first : (xs : List ℕ) → IsZero xs → IsZero (0 ∷ xs)
zero_first xs none zero d below = refl
zero_first xs none (suc k) d below = none k d (omega (arith, below))

-- all numbers of a list are 0, or they are not
pub zero_or_not : (xs : List ℕ) → IsZero xs ⊎ (¬ IsZero xs)
zero_or_not [] = inl (λ k d below. absurd (omega (arith, below)))
zero_or_not (suc a ∷ xs) = inr (λ none. let first = none 0 0 (omega arith) in absurd (omega (arith, first)))
zero_or_not (zero ∷ xs) = ⊎_elim (λ none. inl (zero_first xs none))
    (λ some. inr (λ none. some (λ k d below. none (suc k) d (omega (arith, below)))))
    (zero_or_not xs)

-- where not every coefficient is 0, one of them is not
pub some_not_zero : (xs : List ℕ) → ¬ IsZero xs → IsNonzero xs
some_not_zero [] not_zero = absurd (not_zero (λ k d below. absurd (omega (arith, below))))
some_not_zero (suc a ∷ xs) not_zero = (0, omega arith, λ e. absurd (omega (arith, e)))
some_not_zero (zero ∷ xs) not_zero =
    let later = some_not_zero xs (λ none. not_zero (zero_first xs none)) in
    (suc later.0, omega (arith, later.1), later.2)
