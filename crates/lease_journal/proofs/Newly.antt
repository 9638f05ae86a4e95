-- Bytes of new journals.
use Rattle.std.proofs.Common.{◌≡◌, ◌<◌, ◌≤◌, ◌==◌, ◌&&◌, ◌||◌, not, nat_lt, nat_le, if◌then◌else◌, Bool, true, false, ℕ, get_or, replicate, ⊎_elim, arith}
use Rattle.std.proofs.lemmas.Bool.{cases_lt}
use Rattle.std.proofs.lemmas.Bool.Decides.{nat_tests}
use Rattle.std.proofs.lemmas.List.{get_or-replicate, get_or_past, length-replicate}

pub same_at : (n i z : ℕ) → get_or (replicate n z) i z ≡ z
same_at n i z = ⊎_elim
    (λ inside. get_or-replicate n i z z inside)
    (λ past. get_or_past (replicate n z) i z (omega (arith, past, length-replicate n z)))
    (cases_lt i n)

-- a byte of a header is judged
pub not_wrong : (place x y : ℕ) (fits : Bool) → fits ≡ true → (place < 24 → x ≡ y) → (32 ≤ place → x ≡ y)
    → (if place == 24 then not fits else ((nat_lt place 24 || nat_le 32 place) && not (x == y))) ≡ false
not_wrong place x y fits is ahead behind = ⊎_elim
    (λ before. let same : x ≡ y = ahead before in grind (arith, nat_tests))
    (λ from. ⊎_elim
    (λ inside. grind (arith, nat_tests))
    (λ later. let same : x ≡ y = behind later in grind (arith, nat_tests))
    (cases_lt place 32))
    (cases_lt place 24)
