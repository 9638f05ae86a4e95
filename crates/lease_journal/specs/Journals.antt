-- Journals: the header of one of one area, and what stands in the slots of any. Numbers have their low byte first.
use Rattle.std.specs.Prelude.{◌≡◌, ◌⊎◌, ℕ, zero, suc, ◌+◌, ◌*◌, ◌%◌, ◌<◌, ◌≤◌, min, List, [], ◌∷◌, ◌++◌, length, get_or, take, drop, map, replicate, codes, Option, Some, None, Bool, true, false, not, ◌&&◌, ◌||◌, ◌==◌, nat_le, nat_lt, if◌then◌else◌}
use Rattle.std.specs.Int.{w64, to_le_bytes, from_le_bytes}
use Rattle.std.specs.List.{range_with_len}
use Rattle.zk_model.specs.Program.{part_count}
use Rattle.zk_model.specs.declared.JournalKind.{JournalKind}
use Rattle.zk_model.specs.declared.JournalKind.TheVariants.{Claims, Ceilings}
use Rattle.zk_model.specs.declared.limits.TheConstants.{MAX_CLAIM_SLOTS, MAX_SLOTS}

-- the byte of a kind
abbrev pub journal_code : JournalKind → ℕ
journal_code Claims = 0
journal_code Ceilings = 1

-- the first 64 bytes of a journal of one area: a magic word, the kind and 7 zero bytes, the total of units, the number of slots, and the id of the dealt
-- files
abbrev pub journal_header : JournalKind → List ℕ → ℕ → ℕ → List ℕ
journal_header kind id total slots =
    codes "WQSJRNL1" ++ (journal_code kind ∷ replicate 7 0) ++ to_le_bytes w64 total ++ to_le_bytes w64 slots ++ id

-- how many slots a verifier's journal of one area has: one for each 16 units, rounded up
abbrev pub ceiling_slots : ℕ → ℕ
ceiling_slots total = part_count total 16

-- how many slots the prover's journal has that is made with the dealt files: one for each unit, and at most 4,096
abbrev pub claim_slots : ℕ → ℕ
claim_slots total = min total MAX_CLAIM_SLOTS

-- ---- An area of a journal: slots of 32 bytes from a place on; in a journal of one area, from 64. A byte past the end counts as 0, so that
-- a slot is not open there.

-- the slot of this number, from 0, is open: its last byte is 0x5A
abbrev pub IsOpen : ℕ → List ℕ → ℕ → Type 0
IsOpen at bytes slot = get_or bytes (at + 32 * slot + 31) 0 ≡ 90

-- the number that 8 bytes from a place on say
abbrev pub number_at : List ℕ → ℕ → ℕ
number_at bytes place = from_le_bytes w64 (take 8 (drop place bytes))

-- the body of a slot: the two numbers that its first 16 bytes say
abbrev pub body_at : ℕ → List ℕ → ℕ → ℕ × ℕ
body_at at bytes slot = (number_at bytes (at + 32 * slot), number_at bytes (at + 32 * slot + 8))

-- the bodies of the first slots, so many of them
abbrev pub first_bodies : ℕ → ℕ → List ℕ → List (ℕ × ℕ)
first_bodies at used bytes = map (body_at at bytes) (range_with_len 0 used)

-- the first slots are open, as many as there are bodies, and have these bodies; the next slot, if there is one, is not open
pub record Recovers (at slots : ℕ) (bytes : List ℕ) (bodies : List (ℕ × ℕ)) : Type 0 where
  pub within : length bodies ≤ slots
  pub opened : (slot : ℕ) → slot < length bodies → IsOpen at bytes slot
  pub closed : length bodies < slots → ¬ (IsOpen at bytes (length bodies))
  pub read : bodies ≡ first_bodies at (length bodies) bytes

-- no slot after one that is not open is open
abbrev pub IsTidy : ℕ → ℕ → List ℕ → Type 0
IsTidy at slots bytes = (earlier later : ℕ) → earlier < later → later < slots → IsOpen at bytes later → IsOpen at bytes earlier

-- it is tidy, and these bodies are recovered, or these and one more
pub record IsOldOrNew (at slots : ℕ) (bodies : List (ℕ × ℕ)) (body : ℕ × ℕ) (bytes : List ℕ) : Type 0 where
  pub tidy : IsTidy at slots bytes
  pub recovered : Recovers at slots bytes bodies ⊎ Recovers at slots bytes (bodies ++ body ∷ [])

-- not shorter, and the same byte at each place that has P
pub record SameWhere (P : ℕ → Type 0) (old new : List ℕ) : Type 0 where
  pub longer : length old ≤ length new
  pub same : (place : ℕ) → P place → get_or new place 0 ≡ get_or old place 0

-- ---- the header

-- how many slots a header says
abbrev pub slots_at : List ℕ → ℕ
slots_at bytes = number_at bytes 24

-- whether a journal may have so many slots: 1 to 2^28, and in the verifier's one for each 16 units
abbrev pub are_slots : JournalKind → ℕ → ℕ → Bool
are_slots Claims total slots = nat_le 1 slots && nat_le slots MAX_SLOTS
are_slots Ceilings total slots = nat_le 1 slots && nat_le slots MAX_SLOTS && slots == ceiling_slots total

-- whether the byte of a header at this place is not as kind, id and total ask for; of the number of slots, 24 is such a place
-- where there may not be so many, and 25 to 31 are not judged
abbrev pub is_wrong_at : JournalKind → List ℕ → ℕ → List ℕ → ℕ → Bool
is_wrong_at kind id total bytes place =
    if place == 24 then not (are_slots kind total (slots_at bytes))
    else ((nat_lt place 24 || nat_le 32 place) && not (get_or bytes place 0 == get_or (journal_header kind id total 0) place 0))

-- ---- bodies and their rules

-- whether a body is as its kind asks for, after one whose first number is `before` (0 where there is none): a claim is a span up
-- to the total; ceilings rise, up to the total, and are multiples of 16 or the total, and their second number is 0
abbrev pub keeps_rule : JournalKind → ℕ → ℕ → ℕ × ℕ → Bool
keeps_rule Claims total before body = nat_lt body.0 body.1 && nat_le body.1 total
keeps_rule Ceilings total before body =
    body.1 == 0 && nat_lt before body.0 && nat_le body.0 total && (body.0 % 16 == 0 || body.0 == total)

-- the body before this place of a list; zeros where there is none
abbrev pub body_before : List (ℕ × ℕ) → ℕ → ℕ × ℕ
body_before bodies zero = (0, 0)
body_before bodies (suc place) = get_or bodies place (0, 0)

-- each of these bodies keeps its rule after the one before it
abbrev pub AreSound : JournalKind → ℕ → List (ℕ × ℕ) → Type 0
AreSound kind total bodies =
    (place : ℕ) → place < length bodies → keeps_rule kind total (body_before bodies place).0 (get_or bodies place (0, 0)) ≡ true

-- the last of the first bodies, so many of them; zeros where there is none
abbrev pub last_body : ℕ → List ℕ → ℕ → ℕ × ℕ
last_body at bytes zero = (0, 0)
last_body at bytes (suc slot) = body_at at bytes slot

-- whether the body in a slot keeps the rule
abbrev pub is_sound_at : JournalKind → ℕ → ℕ → List ℕ → ℕ → Bool
is_sound_at kind total at bytes slot = keeps_rule kind total (last_body at bytes slot).0 (body_at at bytes slot)

-- the file ends inside a slot that is read: all before it are open
pub record IsCut (at slots : ℕ) (bytes : List ℕ) : Type 0 where
  pub slot : ℕ
  pub within : slot < slots
  pub opened : (earlier : ℕ) → earlier < slot → IsOpen at bytes earlier
  pub ends : length bytes < at + 32 * slot + 32

-- the first slots are open, as many as are in use, and the next one, if there is one, is whole and is not
pub record AreUsed (at slots used : ℕ) (bytes : List ℕ) : Type 0 where
  pub within : used ≤ slots
  pub opened : (slot : ℕ) → slot < used → IsOpen at bytes slot
  pub whole : used < slots → at + 32 * used + 32 ≤ length bytes
  pub closed : used < slots → ¬ (IsOpen at bytes used)

-- the first slot in use whose body breaks its rule, where there is one
abbrev pub IsFirstBad : JournalKind → ℕ → ℕ → List ℕ → ℕ → Option ℕ → Type 0
IsFirstBad kind total at bytes used None = (slot : ℕ) → slot < used → is_sound_at kind total at bytes slot ≡ true
IsFirstBad kind total at bytes used (Some bad) =
    (bad < used) × (is_sound_at kind total at bytes bad ≡ false)
    × ((slot : ℕ) → slot < bad → is_sound_at kind total at bytes slot ≡ true)
