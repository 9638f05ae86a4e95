-- What was read into a buffer.
use Rattle.std.proofs.Common.{◌≡◌, ◌<◌, ◌≤◌, ◌+◌, ◌-◌, ◌*◌, ℕ, List, length, get_or, take, drop, min, refl, ap, sym, ◌∙◌, subst, arith}
use Rattle.std.proofs.lemmas.List.{take_all, drop-drop, drop-take, take-take, get_or-take, get_or-drop}
use Rattle.std.specs.Int.{w64, from_le_bytes}
use Rattle.lease_journal.specs.Journals.{body_at, number_at}
use Rattle.lease_journal.specs.Headers.{IsRead}

pub read_byte : (buffer bytes : List ℕ) (at size : ℕ) → IsRead buffer bytes at size → (i : ℕ) → i < size → get_or buffer i 0 ≡ get_or bytes (at + i) 0
read_byte buffer bytes at size is i below =
    sym (get_or-take size buffer i 0 below) ∙ ap (λ l. get_or l i 0) is.same ∙ get_or-take size (drop at bytes) i 0 below ∙ get_or-drop at bytes i 0

-- of n bytes that a read says it gave
pub is_read : (buffer bytes : List ℕ) (at size n : ℕ) → length buffer ≡ size → n ≡ min size (length bytes - at) → take n buffer ≡ take n (drop at bytes) → at + size ≤ length bytes
    → IsRead buffer bytes at size
is_read buffer bytes at size n whole is same inside =
    let full : n ≡ size = omega (arith, is, inside) in
    record { whole = whole; inside = inside; same = subst (λ k. take k buffer ≡ take k (drop at bytes)) full same }

pub read_word : (buffer bytes : List ℕ) (at size off place : ℕ) → IsRead buffer bytes at size → off + 8 ≤ size → at + off ≡ place → number_at buffer off ≡ number_at bytes place
read_word buffer bytes at size off place is fits there =
    ap (from_le_bytes w64) (part ∙ ap (λ p. take 8 (drop p bytes)) there)
  where
    part : take 8 (drop off buffer) ≡ take 8 (drop (at + off) bytes)
    part =
        let split : size ≡ off + (size - off) = omega (arith, fits) in
        let all : buffer ≡ take size (drop at bytes) = sym (take_all size buffer (omega (arith, is.whole))) ∙ is.same in
        ap (λ l. take 8 (drop off l)) (all ∙ ap (λ n. take n (drop at bytes)) split)
        ∙ ap (take 8) (drop-take off (size - off) (drop at bytes))
        ∙ take-take 8 (size - off) (drop off (drop at bytes)) (omega (arith, fits))
        ∙ ap (take 8) (drop-drop off at bytes)

pub read_body_at : (at : ℕ) (buffer bytes : List ℕ) (slot size : ℕ) → IsRead buffer bytes (at + 32 * slot) size → 16 ≤ size → ◌≡◌ {A = ℕ × ℕ} (number_at buffer 0, number_at buffer 8) (body_at at bytes slot)
read_body_at at buffer bytes slot size is fits =
    let first : number_at buffer 0 ≡ number_at bytes (at + 32 * slot) = read_word buffer bytes (at + 32 * slot) size 0 (at + 32 * slot) is (omega (arith, fits)) (omega arith) in
    let second : number_at buffer 8 ≡ number_at bytes (at + 32 * slot + 8) = read_word buffer bytes (at + 32 * slot) size 8 (at + 32 * slot + 8) is (omega (arith, fits)) refl in
    λ i. (first i, second i)
