-- How long frames are.
use Rattle.std.proofs.Common.{◌≡◌, ℕ, ◌+◌, ◌<◌, ◌≤◌, ◌⊎◌, inl, inr, Bool, true, false, nat_eq, List, [], ◌∷◌, ◌++◌, length, refl, sym, ◌∙◌, ap, arith, length-append, subst}
use Rattle.std.proofs.lemmas.Bool.{cases_lt}
use Rattle.zk_model.specs.Frames.{Frame, IsWhole, frame_length}
use Rattle.zk_model.specs.declared.Expect.{Expect}
use Rattle.zk_model.specs.declared.Expect.TheVariants as expect
use Rattle.zk_model.specs.declared.limits.TheConstants.{MAX_PAYLOAD}
use Rattle.proof_frames.specs.declared.row.Row.{Row}
use Rattle.proof_frames.specs.Holding.{longest}
use Rattle.proof_frames.specs.Readings.{IsShortPlace}
use Rattle.proof_frames.specs.Rows.{row_of, told_at, told, payload_length, payload_fields}
use Rattle.proof_frames.proofs.EveryRow.{every_row, told_early, told_stays}
use Rattle.proof_frames.proofs.Fields.{fits_length, payload_sized}
use Rattle.proof_frames.proofs.Words.{IsWord, IsWordAt, allowed_word}

-- a frame of which the byte that tells its row is known
pub length_told : (place : Expect) (bytes : List ℕ) → told_at place < length bytes
    → frame_length place bytes ≡ 5 + payload_length (row_of place (told place bytes)).payload
length_told expect.Hello [] some = absurd (omega arith)
length_told expect.Hello (first ∷ []) some = absurd (omega arith)
length_told expect.Hello (first ∷ low ∷ bytes) some = by_low (nat_eq low 129) refl
  where
    by_low : (b : Bool) → nat_eq low 129 ≡ b → frame_length expect.Hello (first ∷ low ∷ bytes) ≡ 5 + payload_length (row_of expect.Hello low).payload
    by_low true e = rw e refl
    by_low false e = rw e refl
length_told expect.Grant [] some = absurd (omega arith)
length_told expect.Grant (first ∷ bytes) some = by_first (nat_eq first 10) refl
  where
    by_first : (b : Bool) → nat_eq first 10 ≡ b → frame_length expect.Grant (first ∷ bytes) ≡ 5 + payload_length (row_of expect.Grant first).payload
    by_first true e = rw e refl
    by_first false e = rw e refl
length_told expect.Block [] some = absurd (omega arith)
length_told expect.Block (first ∷ bytes) some = by_first (nat_eq first 13) refl
  where
    by_first : (b : Bool) → nat_eq first 13 ≡ b → frame_length expect.Block (first ∷ bytes) ≡ 5 + payload_length (row_of expect.Block first).payload
    by_first true e = rw e refl
    by_first false e = rw e refl
length_told place bytes some = omega arith

-- without it no more than up to it is wanted
pub length_untold : (place : Expect) (bytes : List ℕ) → length bytes ≤ told_at place → frame_length place bytes ≡ frame_length place []
length_untold expect.Hello [] early = refl
length_untold expect.Hello (first ∷ []) early = refl
length_untold expect.Hello (first ∷ low ∷ bytes) early = absurd (omega arith)
length_untold expect.Grant [] early = refl
length_untold expect.Grant (first ∷ bytes) early = absurd (omega arith)
length_untold expect.Block [] early = refl
length_untold expect.Block (first ∷ bytes) early = absurd (omega arith)
length_untold place bytes early = refl

-- what is wanted before the first byte goes beyond it, and no row has less
first_wanted : (place : Expect) → told_at place < frame_length place []
first_wanted expect.Hello = omega arith
first_wanted place = omega arith

least_row : (place : Expect) (byte : ℕ) → frame_length place [] ≤ 5 + payload_length (row_of place byte).payload
least_row = every_row (λ place row. frame_length place [] ≤ 5 + payload_length row.payload) (omega arith) (omega arith) (omega arith) by_place
  where
    by_place : (place : Expect) → frame_length place [] ≤ 5 + payload_length (row_of place 0).payload
    by_place expect.Hello = omega arith
    by_place place = omega arith

-- so no frame is shorter than what is wanted before its first byte
pub least_length : (place : Expect) (bytes : List ℕ) → frame_length place [] ≤ frame_length place bytes
least_length place bytes = by_length (cases_lt (told_at place) (length bytes))
  where
    by_length : (told_at place < length bytes) ⊎ (length bytes ≤ told_at place) → frame_length place [] ≤ frame_length place bytes
    by_length (inl some) = omega (arith, length_told place bytes some, least_row place (told place bytes))
    by_length (inr early) = omega (arith, length_untold place bytes early)

-- and every frame goes beyond the byte that tells its row
pub told_within : (place : Expect) (bytes : List ℕ) → told_at place < frame_length place bytes
told_within place bytes = omega (arith, first_wanted place, least_length place bytes)

-- a frame of a short place has a short payload
pub short_row : (place : Expect) (byte : ℕ) → IsShortPlace place → payload_length (row_of place byte).payload ≤ MAX_PAYLOAD
short_row = every_row (λ place row. IsShortPlace place → payload_length row.payload ≤ MAX_PAYLOAD) (λ short. omega arith) (λ short. omega arith) (λ short. omega arith) by_place
  where
    by_place : (place : Expect) → IsShortPlace place → payload_length (row_of place 0).payload ≤ MAX_PAYLOAD
    by_place expect.Hello short = omega arith
    by_place place short = omega arith

-- and is short
pub short_frame : (place : Expect) (bytes : List ℕ) → IsShortPlace place → frame_length place bytes ≤ MAX_PAYLOAD + 5
short_frame place bytes short = by_length (cases_lt (told_at place) (length bytes))
  where
    by_length : (told_at place < length bytes) ⊎ (length bytes ≤ told_at place) → frame_length place bytes ≤ MAX_PAYLOAD + 5
    by_length (inl some) = omega (arith, length_told place bytes some, short_row place (told place bytes) short)
    by_length (inr early) = omega (arith, length_untold place bytes early, short)

-- no frame of a place is longer than the longest
longest_row : (place : Expect) (byte : ℕ) → payload_length (row_of place byte).payload ≤ payload_length (longest place)
longest_row = every_row (λ place row. payload_length row.payload ≤ payload_length (longest place)) (omega arith) (omega arith) (omega arith) by_place
  where
    by_place : (place : Expect) → payload_length (row_of place 0).payload ≤ payload_length (longest place)
    by_place expect.Hello = omega arith
    by_place place = omega arith

pub longest_frame : (place : Expect) (bytes : List ℕ) → frame_length place bytes ≤ 5 + payload_length (longest place)
longest_frame place bytes = by_length (cases_lt (told_at place) (length bytes))
  where
    by_length : (told_at place < length bytes) ⊎ (length bytes ≤ told_at place) → frame_length place bytes ≤ 5 + payload_length (longest place)
    by_length (inl some) = omega (arith, length_told place bytes some, longest_row place (told place bytes))
    by_length (inr early) = omega (arith, length_untold place bytes early, least_row place 129)

-- the length of a frame is told by one byte
pub same_length : (place : Expect) (bytes more : List ℕ) → told_at place < length bytes → frame_length place (bytes ++ more) ≡ frame_length place bytes
same_length place bytes more some =
    length_told place (bytes ++ more) (omega (arith, some, length-append bytes more))
    ∙ ap (λ n. 5 + payload_length (row_of place n).payload) (told_stays place bytes more some) ∙ sym (length_told place bytes some)

-- fewer bytes fit, too
pub front_fits : (place : Expect) (bytes more : List ℕ) → length (bytes ++ more) ≤ frame_length place (bytes ++ more) → length bytes ≤ frame_length place bytes
front_fits place bytes more within = by_length (cases_lt (told_at place) (length bytes))
  where
    by_length : (told_at place < length bytes) ⊎ (length bytes ≤ told_at place) → length bytes ≤ frame_length place bytes
    by_length (inl some) = omega (arith, within, same_length place bytes more some, length-append bytes more)
    by_length (inr early) = omega (arith, early, told_within place bytes)

-- ---- whole frames

word_sized : (row : Row) (word : List ℕ) → IsWord row word → length word ≡ 5 + payload_length row.payload
word_sized row word is =
    omega (arith, ap length is.spelled, fits_length (payload_fields row.payload) is.payload is.fits, payload_sized row.payload)

pub word_length : (place : Expect) (word : List ℕ) → IsWordAt place word → length word ≡ frame_length place word
word_length place word is =
    let sized = word_sized (row_of place (told place word)) word is in
    sized ∙ sym (length_told place word (omega (arith, sized, told_early place)))

-- a whole frame is as long as a frame is
pub whole_length : (place : Expect) (bytes : List ℕ) (frame : Frame) → IsWhole place bytes frame → length bytes ≡ frame_length place bytes
whole_length place bytes frame whole = word_length place bytes (subst (IsWordAt place) (sym whole.spelled) (allowed_word place frame whole.allowed))
