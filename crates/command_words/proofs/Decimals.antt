-- Numbers that are read with a cap.
use Rattle.std.proofs.Common.{◌≡◌, ◌+◌, ◌*◌, ◌-◌, ◌<◌, min, ℕ, List, length, take, get_or, ap, sym, ◌∙◌, arith}
use Rattle.std.proofs.lemmas.List.Sums.{fold_more}
use Rattle.zk_model.specs.Bristol.{decimal_value}

capped_digit : (n c most : ℕ) → min (10 * min n most + (c - 48)) most ≡ min (10 * n + (c - 48)) most
capped_digit n c most = omega arith

-- a cap before the next digit changes nothing below it
pub capped_step : (word : List ℕ) (i value next c most : ℕ) → i < length word → c ≡ get_or word i 0
    → value ≡ min (decimal_value (take i word)) most → next ≡ min (10 * value + (c - 48)) most
    → next ≡ min (decimal_value (take (i + 1) word)) most
capped_step word i value next c most within is_c before step =
    step
    ∙ ap (λ v. min (10 * v + (c - 48)) most) before
    ∙ capped_digit (decimal_value (take i word)) c most
    ∙ ap (λ d. min (10 * decimal_value (take i word) + (d - 48)) most) is_c
    ∙ sym (ap (λ v. min v most) (fold_more _ 0 word i 0 within))
