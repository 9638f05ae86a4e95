-- What torn and finished writes leave of a journal's slots.
use Rattle.std.proofs.Common.{◌≡◌, ◌<◌, ◌≤◌, ◌+◌, ◌-◌, ◌++◌, ℕ, zero, suc, List, [], ◌∷◌, length, get_or, take, drop, max, min, replicate, inr, ⊎_elim, refl, ap, sym, ◌∙◌, arith}
use Rattle.std.proofs.lemmas.Bool.{cases_lt}
use Rattle.std.proofs.lemmas.List.{ext_get_or, get_or-take, get_or-drop, get_or_append_left, get_or-append_right, length-append, length-take, length-drop, length-replicate}
use Rattle.zk_port.specs.Images.{IsTorn, laid_at, written_at}

pub untorn : (at n : ℕ) (image : List ℕ) → IsTorn at n image image
untorn at n image = record { least = omega arith; most = omega arith; kept = λ place inside outside. refl }

-- there is nothing past the end
pub past_end : (bytes : List ℕ) (place : ℕ) → length bytes ≤ place → get_or bytes place 0 ≡ 0
past_end [] zero past = refl
past_end [] (suc place) past = refl
past_end (b ∷ bytes) zero past = absurd (omega arith)
past_end (b ∷ bytes) (suc place) past = past_end bytes place (omega arith)

-- a byte that is not 0 stands before the end
pub before_end : (bytes : List ℕ) (place byte : ℕ) → get_or bytes place 0 ≡ byte → 0 < byte → place < length bytes
before_end bytes place byte is some = ⊎_elim (λ inside. inside) (λ past. absurd (omega (arith, some, is, past_end bytes place past))) (cases_lt place (length bytes))

-- a torn write leaves each byte after its range
pub behind_torn : (at n : ℕ) (old new : List ℕ) → IsTorn at n old new → (place : ℕ) → at + n ≤ place → get_or new place 0 ≡ get_or old place 0
behind_torn at n old new torn place behind = ⊎_elim
    (λ inside. torn.kept place inside (inr behind))
    (λ past. past_end new place (omega (arith, torn.most, past, behind)) ∙ sym (past_end old place past))
    (cases_lt place (length old))

-- bytes that agree place by place are the same part
pub same_part : (old new : List ℕ) (at n : ℕ) → at + n ≤ length old → at + n ≤ length new
    → ((i : ℕ) → i < n → get_or new (at + i) 0 ≡ get_or old (at + i) 0)
    → take n (drop at new) ≡ take n (drop at old)
same_part old new at n within_old within_new same =
    let size_new : length (take n (drop at new)) ≡ n = length-take n (drop at new) ∙ (omega (arith, length-drop at new, within_new)) in
    let size_old : length (take n (drop at old)) ≡ n = length-take n (drop at old) ∙ (omega (arith, length-drop at old, within_old)) in
    ext_get_or 0 (take n (drop at new)) (take n (drop at old)) (size_new ∙ sym size_old) (λ i inside.
    let below : i < n = omega (arith, inside, size_new) in
    get_or-take n (drop at new) i 0 below ∙ get_or-drop at new i 0 ∙ same i below ∙ sym (get_or-take n (drop at old) i 0 below ∙ get_or-drop at old i 0))

-- the size of what is written, and the bytes in its range
laid_size : (at : ℕ) (bytes old : List ℕ) → length (laid_at at bytes old) ≡ max (length old) (at + length bytes)
laid_size at bytes old =
    let zero_byte : ℕ = 0 in
    let a : length (take at old) ≡ min at (length old) = length-take at old in
    let z : length (replicate (at - length old) zero_byte) ≡ at - length old = length-replicate (at - length old) zero_byte in
    let b : length (take at old ++ replicate (at - length old) zero_byte) ≡ length (take at old) + length (replicate (at - length old) zero_byte) = length-append (take at old) (replicate (at - length old) zero_byte) in
    let d : length (drop (at + length bytes) old) ≡ length old - (at + length bytes) = length-drop (at + length bytes) old in
    let e : length ((take at old ++ replicate (at - length old) zero_byte) ++ bytes) ≡ length (take at old ++ replicate (at - length old) zero_byte) + length bytes = length-append (take at old ++ replicate (at - length old) zero_byte) bytes in
    length-append ((take at old ++ replicate (at - length old) zero_byte) ++ bytes) (drop (at + length bytes) old) ∙ omega (arith, a, z, b, d, e)

laid_inside : (at : ℕ) (bytes old : List ℕ) (i : ℕ) → i < length bytes → get_or (laid_at at bytes old) (at + i) 0 ≡ get_or bytes i 0
laid_inside at bytes old i inside =
    let zero_byte : ℕ = 0 in
    let front : List ℕ = take at old ++ replicate (at - length old) zero_byte in
    let a : length (take at old) ≡ min at (length old) = length-take at old in
    let z : length (replicate (at - length old) zero_byte) ≡ at - length old = length-replicate (at - length old) zero_byte in
    let b : length front ≡ length (take at old) + length (replicate (at - length old) zero_byte) = length-append (take at old) (replicate (at - length old) zero_byte) in
    let size : length front ≡ at = omega (arith, a, z, b) in
    let all : length (front ++ bytes) ≡ length front + length bytes = length-append front bytes in
    let same : at + i - at ≡ i = omega arith in
    get_or_append_left (front ++ bytes) (drop (at + length bytes) old) 0 (at + i) (omega (arith, all, size, inside))
    ∙ get_or-append_right front bytes at (at + i) 0 size (omega arith)
    ∙ ap (λ k. get_or bytes k 0) same

pub written_size : (at : ℕ) (bytes old : List ℕ) → 0 < length bytes → length (written_at at bytes old) ≡ max (length old) (at + length bytes)
written_size at [] old some = absurd (omega arith)
written_size at (b ∷ bytes) old some = laid_size at (b ∷ bytes) old

pub written_inside : (at : ℕ) (bytes old : List ℕ) (i : ℕ) → i < length bytes → get_or (written_at at bytes old) (at + i) 0 ≡ get_or bytes i 0
written_inside at [] old i inside = absurd (omega arith)
written_inside at (b ∷ bytes) old i inside = laid_inside at (b ∷ bytes) old i inside
