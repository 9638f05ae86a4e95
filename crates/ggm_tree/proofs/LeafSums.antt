-- Sums of leaves.
use Rattle.std.proofs.Common.{◌≡◌, ℕ, ◌+◌, ◌%◌, List, ◌++◌, sum, sym, ◌∙◌, ap, arith}
use Rattle.std.proofs.lemmas.List.Sums.{sum_by-append}
use Rattle.mersenne_field.proofs.Flatten.{flatten}
use Rattle.zk_model.specs.Field.{prime, ◌+ₚ◌}

-- the sum of two sums
of_two : (a b : ℕ) → (a % prime) +ₚ (b % prime) ≡ (a + b) % prime
of_two a b = simp flatten (omega arith)

-- the sum of two lists, from the sum of each
pub sum_two : (front back : List ℕ) (first last all : ℕ) → first ≡ sum front % prime → last ≡ sum back % prime → all ≡ first +ₚ last
    → all ≡ sum (front ++ back) % prime
sum_two front back first last all left right is =
    is ∙ (λ i. left i +ₚ right i) ∙ of_two (sum front) (sum back) ∙ ap (λ n. n % prime) (sym (sum_by-append (λ x. x) front back))
