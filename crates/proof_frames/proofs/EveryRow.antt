-- What holds of the row of every frame: which byte tells it, and which bytes may come.
use Rattle.std.proofs.Common.{◌≡◌, ℕ, zero, suc, ◌<◌, ◌≤◌, Bool, true, false, nat_eq, List, [], ◌∷◌, ◌++◌, map, length, get_or, refl, sym, ◌∙◌, arith}
use Rattle.std.specs.List.{AllByRecursion}
use Rattle.std.proofs.lemmas.Bool.{false≢true}
use Rattle.std.proofs.lemmas.List.{get_or_append_left}
use Rattle.zk_model.specs.declared.Expect.{Expect}
use Rattle.zk_model.specs.declared.Expect.TheVariants as expect
use Rattle.proof_frames.specs.declared.row.Field.{Field}
use Rattle.proof_frames.specs.declared.row.Field.TheVariants as field
use Rattle.proof_frames.specs.declared.row.Payload.{Payload}
use Rattle.proof_frames.specs.declared.row.Payload.TheVariants as payload
use Rattle.proof_frames.specs.declared.row.Row.{Row}
use Rattle.proof_frames.specs.Holding.{is_list, elements_in, longest}
use Rattle.proof_frames.specs.Rows.{row_of, told_at, told, header, payload_fields, row_fields, frame_slots, free, repeat, exactly}
use Rattle.proof_frames.proofs.Fields.{slots}

-- What holds of the row at each place told by 0, of the long form of a hello, in a grant's place of a refusal, and in a block's place
-- of an out, holds whatever byte tells it.
pub every_row : (P : Expect → Row → Type 0) → P expect.Hello (row_of expect.Hello 129) → P expect.Grant (row_of expect.Grant 10)
    → P expect.Block (row_of expect.Block 13) → ((place : Expect) → P place (row_of place 0)) → (place : Expect) (byte : ℕ) → P place (row_of place byte)
every_row P long refusal out other expect.Hello low = by_low (nat_eq low 129) refl
  where
    by_low : (b : Bool) → nat_eq low 129 ≡ b → P expect.Hello (row_of expect.Hello low)
    by_low true e = rw e long
    by_low false e = rw e (other expect.Hello)
every_row P long refusal out other expect.Grant first = by_first (nat_eq first 10) refl
  where
    by_first : (b : Bool) → nat_eq first 10 ≡ b → P expect.Grant (row_of expect.Grant first)
    by_first true e = rw e refusal
    by_first false e = rw e (other expect.Grant)
every_row P long refusal out other expect.Block first = by_first (nat_eq first 13) refl
  where
    by_first : (b : Bool) → nat_eq first 13 ≡ b → P expect.Block (row_of expect.Block first)
    by_first true e = rw e out
    by_first false e = rw e (other expect.Block)
every_row P long refusal out other place byte = other place

-- ---- the byte that tells the row

-- it is one of the first two
pub told_early : (place : Expect) → told_at place ≤ 1
told_early expect.Hello = omega arith
told_early place = omega arith

-- what comes after it does not change it
pub told_stays : (place : Expect) (bytes more : List ℕ) → told_at place < length bytes → told place (bytes ++ more) ≡ told place bytes
told_stays place bytes more some = get_or_append_left bytes more 0 (told_at place) some

-- a header tells its row
pub header_tells : (place : Expect) (byte : ℕ) → row_of place (told place (header (row_of place byte))) ≡ row_of place byte
header_tells = every_row (λ place row. row_of place (told place (header row)) ≡ row) refl refl refl by_place
  where
    by_place : (place : Expect) → row_of place (told place (header (row_of place 0))) ≡ row_of place 0
    by_place expect.Hello = refl
    by_place place = refl

-- before it all rows of a place allow the same
pub early_slot : (place : Expect) (one other n : ℕ) → n < told_at place → get_or (frame_slots place one) n free ≡ get_or (frame_slots place other) n free
early_slot place one other (suc n) early = absurd (let first = told_early place in omega arith)
early_slot place one other zero early = first place one early ∙ sym (first place other early)
  where
    by_place : (place : Expect) → 0 < told_at place → get_or (frame_slots place 0) 0 free ≡ get_or (frame_slots place 0) 0 free
    by_place place some = refl

    first : (place : Expect) (byte : ℕ) → 0 < told_at place → get_or (frame_slots place byte) 0 free ≡ get_or (frame_slots place 0) 0 free
    first = every_row (λ place row. 0 < told_at place → get_or (slots (row_fields row)) 0 free ≡ get_or (frame_slots place 0) 0 free)
        (λ some. refl) (λ some. absurd (omega arith)) (λ some. absurd (omega arith)) by_place

-- ---- what all rows of a place have in common

-- whether they are elements alone, and how many
pub same_list : (place : Expect) (byte : ℕ) → is_list (row_of place byte).payload ≡ is_list (longest place)
same_list = every_row (λ place row. is_list row.payload ≡ is_list (longest place)) refl refl refl by_place
  where
    by_place : (place : Expect) → is_list (row_of place 0).payload ≡ is_list (longest place)
    by_place expect.Hello = refl
    by_place place = refl

-- where they are, the row is that of the longest frame
pub list_row : (place : Expect) (byte : ℕ) → is_list (longest place) ≡ true → (row_of place byte).payload ≡ payload.Elements (elements_in (longest place))
list_row = every_row (λ place row. is_list (longest place) ≡ true → row.payload ≡ payload.Elements (elements_in (longest place)))
    (λ is. absurd (false≢true is)) (λ is. absurd (false≢true is)) (λ is. absurd (false≢true is)) by_place
  where
    by_place : (place : Expect) → is_list (longest place) ≡ true → (row_of place 0).payload ≡ payload.Elements (elements_in (longest place))
    by_place expect.Hello is = absurd (false≢true is)
    by_place expect.ShortHello is = absurd (false≢true is)
    by_place expect.Grant is = absurd (false≢true is)
    by_place (expect.Ask height trees left) is = absurd (false≢true is)
    by_place (expect.Reply height trees left) is = absurd (false≢true is)
    by_place expect.Verdict is = absurd (false≢true is)
    by_place expect.PolyVerdict is = absurd (false≢true is)
    by_place expect.Want is = absurd (false≢true is)
    by_place expect.Block is = absurd (false≢true is)
    by_place place is = refl

-- ---- bytes that begin fields go on

-- a range that is not empty
abbrev pub IsSoundField : Field → Type 0
IsSoundField (field.Bytes count size least most) = least ≤ most
IsSoundField field.Element = Unit {0}
IsSoundField (field.Number least most) = least ≤ most
IsSoundField field.Decision = Unit {0}

-- the fields of all payloads
abbrev AreSound : Payload → Type 0
AreSound (payload.Elements count) = Unit {0}
AreSound (payload.Fields times first second) = IsSoundField first × IsSoundField second
AreSound (payload.Three first second third) = IsSoundField first × IsSoundField second × IsSoundField third

sound_payload : (place : Expect) (byte : ℕ) → AreSound (row_of place byte).payload
sound_payload = every_row (λ place row. AreSound row.payload) (omega arith, omega arith) (omega arith, omega arith) (omega arith, omega arith) by_place
  where
    by_place : (place : Expect) → AreSound (row_of place 0).payload
    by_place expect.Hello = (omega arith, omega arith)
    by_place expect.ShortHello = (omega arith, omega arith)
    by_place expect.Grant = (omega arith, omega arith)
    by_place (expect.Ask height trees left) = (omega arith, tt)
    by_place (expect.Reply height trees left) = (omega arith, tt)
    by_place expect.Verdict = (omega arith, omega arith)
    by_place expect.PolyVerdict = (tt, omega arith)
    by_place expect.Want = (omega arith, omega arith, omega arith)
    by_place expect.Block = (omega arith, omega arith)
    by_place place = tt

sound_append : (some more : List Field) → AllByRecursion IsSoundField some → AllByRecursion IsSoundField more → AllByRecursion IsSoundField (some ++ more)
sound_append [] more all each = each
sound_append (one ∷ some) more all each = (all.0, sound_append some more all.1 each)

sound_repeat : (fields : List Field) (count : ℕ) → AllByRecursion IsSoundField fields → AllByRecursion IsSoundField (repeat count fields)
sound_repeat fields zero each = tt
sound_repeat fields (suc count) each = sound_append fields (repeat count fields) each (sound_repeat fields count each)

sound_fields : (p : Payload) → AreSound p → AllByRecursion IsSoundField (payload_fields p)
sound_fields (payload.Elements count) sound = sound_repeat (field.Element ∷ []) count (tt, tt)
sound_fields (payload.Fields times first second) sound = sound_repeat (first ∷ second ∷ []) times (sound.0, (sound.1, tt))
sound_fields (payload.Three first second third) sound = (sound.0, (sound.1, (sound.2, tt)))

sound_exact : (bytes : List ℕ) → AllByRecursion IsSoundField (map exactly bytes)
sound_exact [] = tt
sound_exact (byte ∷ bytes) = (omega arith, sound_exact bytes)

-- all fields of a frame are
pub sound_row : (place : Expect) (byte : ℕ) → AllByRecursion IsSoundField (row_fields (row_of place byte))
sound_row place byte =
    let row = row_of place byte in
    sound_append (map exactly (header row)) (payload_fields row.payload) (sound_exact (header row)) (sound_fields row.payload (sound_payload place byte))
