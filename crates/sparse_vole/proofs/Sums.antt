-- Sums of elements.
use Rattle.std.proofs.Common.{◌≡◌, ℕ, ◌+◌, ◌<◌, List, length, get_or, sum, set, arith}
use Rattle.std.proofs.lemmas.List.Sums.{sum_by-set}

-- the sum of all, and of all but one
pub sum_without : (xs : List ℕ) (i : ℕ) → i < length xs → sum (set xs i 0) + get_or xs i 0 ≡ sum xs
sum_without xs i below = let swapped = sum_by-set (λ x. x) xs i 0 0 below in omega (arith, swapped)
