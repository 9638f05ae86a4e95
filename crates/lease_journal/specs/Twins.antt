-- Journals of two areas: the bytes of a new one, which area counts, and what is recovered. Numbers have their low byte first.
--
-- Such a journal begins at a place of its file, 0 in one that was made so: a header of 64 bytes, and two areas, each a head of 32 bytes
-- and as many slots of 32 bytes as the header says. A head has a generation in its first 8 bytes, and is open where its last byte is
-- 0x5A. An area is named by whether it is the second. A migrated journal begins behind the journal of one area that it was made from.
use Rattle.std.specs.Prelude.{◌≡◌, ◌⊎◌, ℕ, ◌+◌, ◌-◌, ◌*◌, ◌<◌, ◌≤◌, min, List, [], ◌∷◌, ◌++◌, length, get_or, replicate, codes, sum_by, Bool, true, false, not, ◌&&◌, ◌||◌, ◌==◌, nat_le, nat_lt, if◌then◌else◌}
use Rattle.std.specs.Int.{w64, to_le_bytes}
use Rattle.lease_journal.specs.Journals.{IsTidy, Recovers, body_before, ceiling_slots, is_wrong_at, journal_code, number_at, slots_at}
use Rattle.zk_model.specs.declared.JournalKind.{JournalKind}
use Rattle.zk_model.specs.declared.JournalKind.TheVariants.{Claims, Ceilings}
use Rattle.zk_model.specs.declared.limits.TheConstants.{MAX_CEILING_SLOTS, MAX_SLOTS}

-- ---- the header

-- the byte of a kind
abbrev pub twin_code : JournalKind → ℕ
twin_code Claims = 2
twin_code Ceilings = 3

-- the first 64 bytes: a magic word, the kind and 7 zero bytes, the total of units, the number of slots of an area, and the id of the
-- dealt files
abbrev pub twin_header : JournalKind → List ℕ → ℕ → ℕ → List ℕ
twin_header kind id total slots =
    codes "WQSJRNL1" ++ (twin_code kind ∷ replicate 7 0) ++ to_le_bytes w64 total ++ to_le_bytes w64 slots ++ id

-- how many slots an area of the verifier's journal has: one for each 16 units, rounded up, and at most 4,096
abbrev pub twin_ceiling_slots : ℕ → ℕ
twin_ceiling_slots total = min MAX_CEILING_SLOTS (ceiling_slots total)

-- whether an area may have so many slots: 1 to 2^28, and in the verifier's journal one number of them
abbrev pub are_twin_slots : JournalKind → ℕ → ℕ → Bool
are_twin_slots Claims total slots = nat_le 1 slots && nat_le slots MAX_SLOTS
are_twin_slots Ceilings total slots = nat_le 1 slots && nat_le slots MAX_SLOTS && slots == twin_ceiling_slots total

-- how many slots the header says that an area has
abbrev pub twin_slots_at : ℕ → List ℕ → ℕ
twin_slots_at begin bytes = number_at bytes (begin + 24)

-- whether the byte at this place of the header, from 0, is not as kind, id and total ask for; of the number of slots, 24 is such a
-- place where there may not be so many, and 25 to 31 are not judged
abbrev pub is_twin_wrong_at : JournalKind → List ℕ → ℕ → ℕ → List ℕ → ℕ → Bool
is_twin_wrong_at kind id total begin bytes place =
    if place == 24 then not (are_twin_slots kind total (twin_slots_at begin bytes))
    else ((nat_lt place 24 || nat_le 32 place) && not (get_or bytes (begin + place) 0 == get_or (twin_header kind id total 0) place 0))

-- there is a header, and no byte of it is wrong
pub record HasTwinHeader (kind : JournalKind) (id : List ℕ) (total begin : ℕ) (bytes : List ℕ) : Type 0 where
  pub whole : begin + 64 ≤ length bytes
  pub right : (place : ℕ) → place < 64 → is_twin_wrong_at kind id total begin bytes place ≡ false

-- the first byte of a header that is wrong
pub record IsFirstTwinWrong (kind : JournalKind) (id : List ℕ) (total begin : ℕ) (bytes : List ℕ) (place : ℕ) : Type 0 where
  pub whole : begin + 64 ≤ length bytes
  pub inside : place < 64
  pub wrong : is_twin_wrong_at kind id total begin bytes place ≡ true
  pub first : (earlier : ℕ) → earlier < place → is_twin_wrong_at kind id total begin bytes earlier ≡ false

-- how many bytes a journal with areas of so many slots has
abbrev pub twin_length : ℕ → ℕ
twin_length slots = 64 + 64 * (slots + 1)

-- A journal of this kind, id and total, with areas of so many slots, stands in these bytes from a place on: its header is right and says
-- this number of slots, and the file has its full length.
pub record TwinStands (kind : JournalKind) (id : List ℕ) (total begin slots : ℕ) (bytes : List ℕ) : Type 0 where
  pub header : HasTwinHeader kind id total begin bytes
  pub says : twin_slots_at begin bytes ≡ slots
  pub full : begin + twin_length slots ≤ length bytes

-- ---- files: a journal of one area that was migrated has byte 15 of its header, the gate of the migration, 0x5A

-- whether a file of this side holds a journal of one area that was migrated
abbrev pub is_migrated : JournalKind → List ℕ → Bool
is_migrated kind bytes = nat_le 64 (length bytes) && (get_or bytes 8 0 == journal_code kind) && (get_or bytes 15 0 == 90)

-- where the journal of two areas begins in a file: where the journal of one area ends, in one that was migrated
abbrev pub twin_begin : JournalKind → List ℕ → ℕ
twin_begin kind bytes = if is_migrated kind bytes then 64 + 32 * slots_at bytes else 0

-- whether the byte at this place of the header of a journal of one area is wrong, where the gate of the migration is not judged
abbrev pub is_wrong_beside_gate : JournalKind → List ℕ → ℕ → List ℕ → ℕ → Bool
is_wrong_beside_gate kind id total bytes place = not (place == 15) && is_wrong_at kind id total bytes place

-- there is a header of a journal of one area, and no byte of it is wrong but the gate
pub record HasMovedHeader (kind : JournalKind) (id : List ℕ) (total : ℕ) (bytes : List ℕ) : Type 0 where
  pub whole : 64 ≤ length bytes
  pub right : (place : ℕ) → place < 64 → is_wrong_beside_gate kind id total bytes place ≡ false

-- the first byte of it that is wrong
pub record IsFirstMovedWrong (kind : JournalKind) (id : List ℕ) (total : ℕ) (bytes : List ℕ) (place : ℕ) : Type 0 where
  pub whole : 64 ≤ length bytes
  pub inside : place < 64
  pub wrong : is_wrong_beside_gate kind id total bytes place ≡ true
  pub first : (earlier : ℕ) → earlier < place → is_wrong_beside_gate kind id total bytes earlier ≡ false

-- A file of a journal of two areas, which begins at this place of it and has areas of so many slots: it stands there, and where it was
-- migrated, the header before it is right too.
pub record HoldsTwin (kind : JournalKind) (id : List ℕ) (total begin slots : ℕ) (bytes : List ℕ) : Type 0 where
  pub begins : twin_begin kind bytes ≡ begin
  pub moved : is_migrated kind bytes ≡ true → HasMovedHeader kind id total bytes
  pub stands : TwinStands kind id total begin slots bytes

-- ---- areas

-- where the head of an area stands
abbrev pub head_at : ℕ → ℕ → Bool → ℕ
head_at begin slots false = begin + 64
head_at begin slots true = begin + 64 + 32 * (slots + 1)

-- where the slots of an area stand
abbrev pub area_at : ℕ → ℕ → Bool → ℕ
area_at begin slots second = head_at begin slots second + 32

-- the head of an area is open
abbrev pub IsHeadOpen : ℕ → ℕ → List ℕ → Bool → Type 0
IsHeadOpen begin slots bytes second = get_or bytes (head_at begin slots second + 31) 0 ≡ 90

-- the generation that the head of an area says
abbrev pub generation_at : ℕ → ℕ → List ℕ → Bool → ℕ
generation_at begin slots bytes second = number_at bytes (head_at begin slots second)

-- whether an area of this generation goes before the other one of that generation: the greater generation does, and the first area
-- where both are equal
abbrev pub GoesBefore : Bool → ℕ → ℕ → Type 0
GoesBefore false generation other = other ≤ generation
GoesBefore true generation other = other < generation

-- the area that counts: its head is open, and it goes before the other area where the head of that is open too
pub record IsActive (begin slots : ℕ) (bytes : List ℕ) (second : Bool) : Type 0 where
  pub opened : IsHeadOpen begin slots bytes second
  pub before : IsHeadOpen begin slots bytes (not second)
      → GoesBefore second (generation_at begin slots bytes second) (generation_at begin slots bytes (not second))

-- ---- what such a journal says

-- the bodies of the active area's first slots that are open, up to the first that is not
pub record TwinRecovers (begin slots : ℕ) (bytes : List ℕ) (bodies : List (ℕ × ℕ)) : Type 0 where
  pub second : Bool
  pub active : IsActive begin slots bytes second
  pub recovered : Recovers (area_at begin slots second) slots bytes bodies

-- in the active area no slot after one that is not open is open
abbrev pub IsTwinTidy : ℕ → ℕ → List ℕ → Type 0
IsTwinTidy begin slots bytes = (second : Bool) → IsActive begin slots bytes second → IsTidy (area_at begin slots second) slots bytes

-- this area is the active one, has this generation, is tidy, and these bodies are recovered from it
pub record IsAreaOf (begin slots : ℕ) (second : Bool) (generation : ℕ) (bodies : List (ℕ × ℕ)) (bytes : List ℕ) : Type 0 where
  pub active : IsActive begin slots bytes second
  pub generation_is : generation_at begin slots bytes second ≡ generation
  pub tidy : IsTidy (area_at begin slots second) slots bytes
  pub recovered : Recovers (area_at begin slots second) slots bytes bodies

-- it is tidy, and these bodies are recovered from an area of this generation
pub record SaysTwin (begin slots generation : ℕ) (bodies : List (ℕ × ℕ)) (bytes : List ℕ) : Type 0 where
  pub second : Bool
  pub area : IsAreaOf begin slots second generation bodies bytes

-- it says the old bodies in the old generation, or the new bodies in the new one
pub record SaysOldOrNew (begin slots generation : ℕ) (bodies : List (ℕ × ℕ)) (next_generation : ℕ) (next_bodies : List (ℕ × ℕ)) (bytes : List ℕ) : Type 0 where
  pub says : SaysTwin begin slots generation bodies bytes ⊎ SaysTwin begin slots next_generation next_bodies bytes

-- how many units bodies say: those of all claims, each counted by itself, or the last ceiling
abbrev pub claimed_units : JournalKind → List (ℕ × ℕ) → ℕ
claimed_units Claims bodies = sum_by (λ (body : ℕ × ℕ). body.1 - body.0) bodies
claimed_units Ceilings bodies = (body_before bodies (length bodies)).0

-- a generation that an area of these bodies may have: each generation but the first is due to a body that was put
pub record MayHaveGeneration (kind : JournalKind) (bodies : List (ℕ × ℕ)) (generation : ℕ) : Type 0 where
  pub least : 1 ≤ generation
  pub most : generation ≤ claimed_units kind bodies + 1

-- ---- a new one

-- the head of a new journal's first area: generation 1, and open
abbrev pub first_head : List ℕ
first_head = to_le_bytes w64 1 ++ replicate 23 0 ++ 90 ∷ []

-- a journal of two areas in which nothing is written yet: the header, the first area's head, and zero bytes
abbrev pub blank_twin_bytes : JournalKind → List ℕ → ℕ → ℕ → List ℕ
blank_twin_bytes kind id total slots =
    twin_header kind id total slots ++ first_head ++ replicate (32 * slots + 32 * (slots + 1)) 0
