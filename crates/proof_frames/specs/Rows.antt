-- The rows of frames: a kind and fields, and the bytes that they allow.
use Rattle.std.specs.Prelude.{◌≡◌, ℕ, zero, suc, ◌+◌, ◌-◌, ◌*◌, ◌%◌, ◌^◌, ◌<◌, ◌≤◌, if◌then◌else◌, nat_eq, List, [], ◌∷◌, ◌++◌, map, flat_map, length, take, drop, get_or, replicate, All}
use Rattle.std.specs.Int.{w32, w64, to_le_bytes, from_le_bytes}
use Rattle.zk_model.specs.Field.{IsElement}
use Rattle.zk_model.specs.Bytes.{element_bytes}
use Rattle.zk_model.specs.Frames.{FitsPolyVerdict, frame_length}
use Rattle.zk_model.specs.Transcript.{kind_number}
use Rattle.zk_model.specs.declared.Expect.{Expect}
use Rattle.zk_model.specs.declared.Expect.TheVariants as expect
use Rattle.zk_model.specs.declared.FrameKind.TheVariants as kind
use Rattle.zk_model.specs.declared.limits.TheConstants.{MAX_NODES, MAX_UNITS}
use Rattle.proof_frames.specs.declared.row.Field.{Field}
use Rattle.proof_frames.specs.declared.row.Field.TheVariants as field
use Rattle.proof_frames.specs.declared.row.Payload.{Payload}
use Rattle.proof_frames.specs.declared.row.Payload.TheVariants as payload
use Rattle.proof_frames.specs.declared.row.Row.{Row}
use Rattle.proof_frames.specs.declared.row.Slot.{Slot}
use Rattle.proof_frames.specs.declared.row.Slot.TheVariants as slot

-- ---- the row of each frame

-- the place of the byte that tells the row of a frame: of a hello the first of the length, else the kind
abbrev pub told_at : Expect → ℕ
told_at expect.Hello = 1
told_at place = 0

-- that byte, or 0 where it is not there
abbrev pub told : Expect → List ℕ → ℕ
told place bytes = get_or bytes (told_at place) 0

-- so many bytes of any value
abbrev pub any : ℕ → Field
any count = field.Bytes count 1 0 255

-- a byte in a range
abbrev pub between : ℕ → ℕ → Field
between least most = field.Bytes 1 1 least most

-- one field alone
abbrev pub one_field : Field → Payload
one_field one = payload.Fields 1 one (any 0)

-- a node, any number of 64 bits, and a count of units
abbrev pub want_payload : Payload
want_payload = payload.Three (field.Number 0 (MAX_NODES - 1)) (any 8) (field.Number 1 MAX_UNITS)

-- for each level of a tree so many bytes, each up to the most
abbrev pub levels : ℕ → ℕ → ℕ → Field
levels height size most = field.Bytes height size 0 most

-- the row of the frame at a place, of which the byte that tells it is known
abbrev pub row_of : Expect → ℕ → Row
row_of expect.Hello low =
    if nat_eq low 129 then record { kind = kind.Hello; payload = one_field (any 129) } else record { kind = kind.Hello; payload = one_field (any 97) }
row_of expect.ShortHello first = record { kind = kind.Hello; payload = one_field (any 97) }
row_of expect.Grant first =
    if nat_eq first 10
    then record { kind = kind.Refuse; payload = one_field (between 1 4) }
    else record { kind = kind.Grant; payload = one_field (any 16) }
row_of (expect.Ask height trees left) first =
    record { kind = kind.ExtendAsk; payload = payload.Fields trees (levels height 1 1) field.Element }
row_of (expect.Reply height trees left) first =
    record { kind = kind.ExtendReply; payload = payload.Fields trees (levels height 32 255) field.Element }
row_of (expect.Corrections count) first = record { kind = kind.Corrections; payload = payload.Elements count }
row_of expect.Challenge first = record { kind = kind.Challenge; payload = payload.Elements 1 }
row_of (expect.Sums sections) first = record { kind = kind.Sums; payload = payload.Elements (2 * sections) }
row_of (expect.Openings count) first = record { kind = kind.Openings; payload = payload.Elements count }
row_of expect.Verdict first = record { kind = kind.Verdict; payload = payload.Fields 1 (between 0 2) (any 4) }
row_of (expect.PolySums count) first = record { kind = kind.Sums; payload = payload.Elements count }
row_of expect.PolyVerdict first = record { kind = kind.Verdict; payload = one_field field.Decision }
row_of expect.Want first = record { kind = kind.Want; payload = want_payload }
row_of expect.Block first =
    if nat_eq first 13
    then record { kind = kind.Out; payload = one_field (any 20) }
    else record { kind = kind.Block; payload = one_field (any 24) }

-- ---- fields

-- how many bytes a field has
abbrev pub width : Field → ℕ
width (field.Bytes count size least most) = size * count
width field.Element = 8
width (field.Number least most) = 4
width field.Decision = 5

-- how many bytes a payload has
abbrev pub payload_length : Payload → ℕ
payload_length (payload.Elements count) = 8 * count
payload_length (payload.Fields times first second) = times * (width first + width second)
payload_length (payload.Three first second third) = width first + width second + width third

-- the bytes of a kind and of a length
abbrev pub header : Row → List ℕ
header row = kind_number row.kind ∷ to_le_bytes w32 (payload_length row.payload)

-- a list so many times
abbrev pub repeat : ℕ → List Field → List Field
repeat zero fields = []
repeat (suc times) fields = fields ++ repeat times fields

-- the fields of a payload, one after another
abbrev pub payload_fields : Payload → List Field
payload_fields (payload.Elements count) = repeat count (field.Element ∷ [])
payload_fields (payload.Fields times first second) = repeat times (first ∷ second ∷ [])
payload_fields (payload.Three first second third) = first ∷ second ∷ third ∷ []

-- the bytes of a tree: those of its levels, and an element
abbrev pub tree_fields : ℕ → ℕ → ℕ → List Field
tree_fields height size most = levels height size most ∷ field.Element ∷ []

-- the field of a byte that is fixed
abbrev pub exactly : ℕ → Field
exactly byte = between byte byte

-- all fields of a frame
abbrev pub row_fields : Row → List Field
row_fields row = map exactly (header row) ++ payload_fields row.payload

-- so many bytes, each in the range
pub record AreWithin (count least most : ℕ) (bytes : List ℕ) : Type 0 where
  pub counted : length bytes ≡ count
  pub ranged : All (λ byte. (least ≤ byte) × (byte ≤ most)) bytes

-- the bytes of an element
pub record SpellElement (bytes : List ℕ) : Type 0 where
  pub element : ℕ
  pub is : IsElement element
  pub spelled : bytes ≡ element_bytes element

-- the bytes of a number in a range
pub record SpellNumber (least most : ℕ) (bytes : List ℕ) : Type 0 where
  pub number : ℕ
  pub at_least : least ≤ number
  pub at_most : number ≤ most
  pub spelled : bytes ≡ to_le_bytes w32 number

-- the bytes of a verdict about constraints
pub record SpellDecision (bytes : List ℕ) : Type 0 where
  pub code : ℕ
  pub number : ℕ
  pub fits : FitsPolyVerdict code number
  pub spelled : bytes ≡ code ∷ to_le_bytes w32 number

-- bytes that a field allows
abbrev pub FitsField : Field → List ℕ → Type 0
FitsField (field.Bytes count size least most) bytes = AreWithin (size * count) least most bytes
FitsField field.Element bytes = SpellElement bytes
FitsField (field.Number least most) bytes = SpellNumber least most bytes
FitsField field.Decision bytes = SpellDecision bytes

-- bytes that fields allow, one field after another
abbrev pub FitsFields : List Field → List ℕ → Type 0
FitsFields [] bytes = bytes ≡ []
FitsFields (one ∷ fields) bytes = (front : List ℕ) × (rest : List ℕ) × (bytes ≡ front ++ rest) × FitsField one front × FitsFields fields rest

-- ---- byte by byte

-- any byte
abbrev pub free : Slot
free = slot.Range 0 255

-- a field of bytes of any value
abbrev pub IsFree : Field → Type 0
IsFree (field.Bytes count size least most) = (least ≡ 0) × (most ≡ 255)
IsFree field = ⊥

-- what may come at each byte of a field
abbrev pub field_slots : Field → List Slot
field_slots (field.Bytes count size least most) = replicate (size * count) (slot.Range least most)
field_slots field.Element = replicate 7 free ++ slot.Last ∷ []
field_slots (field.Number least most) = map (slot.Number least most) (0 ∷ 1 ∷ 2 ∷ 3 ∷ [])
field_slots field.Decision = slot.Range 0 1 ∷ map slot.Behind (0 ∷ 1 ∷ 2 ∷ 3 ∷ [])

-- what may come at each byte of a frame
abbrev pub frame_slots : Expect → ℕ → List Slot
frame_slots place byte = flat_map field_slots (row_fields (row_of place byte))

-- how many numbers the bytes of one tell apart, up to the byte at a place
abbrev pub number_size : ℕ → ℕ
number_size zero = 2 ^ 8
number_size (suc zero) = 2 ^ 16
number_size (suc (suc zero)) = 2 ^ 24
number_size (suc (suc (suc at))) = 2 ^ 32

-- the least number from one on that has these low bytes
abbrev pub next_with : ℕ → ℕ → ℕ → ℕ
next_with least size low = least + (low + size - least % size) % size

-- as many last bytes, or all
abbrev pub last_bytes : ℕ → List ℕ → List ℕ
last_bytes count bytes = drop (length bytes - count) bytes

-- A byte may come after others: it is in the range; with the seven before it, where they are, it spells an element; or with as many
-- before it it is the low bytes of a number in the range; or it is 0 where the byte so many and one before it is 1.
abbrev pub May : Slot → List ℕ → ℕ → Type 0
May (slot.Range least most) before byte = (least ≤ byte) × (byte ≤ most)
May slot.Last before byte = (byte < 256) × (7 ≤ length before → IsElement (from_le_bytes w64 (drop (length before - 7) before ++ byte ∷ [])))
May (slot.Number least most at) before byte =
    (byte < 256) × (next_with least (number_size at) (from_le_bytes w32 (last_bytes at before ++ byte ∷ [])) ≤ most)
May (slot.Behind at) before byte = (byte < 256) × (get_or before (length before - at - 1) 0 ≡ 1 → byte ≡ 0)

-- a byte may come after others at a place
abbrev pub MayFollow : Expect → List ℕ → ℕ → Type 0
MayFollow place before byte = May (get_or (frame_slots place (told place (before ++ byte ∷ []))) (length before) free) before byte

-- each of the bytes may come after those before it
abbrev pub Come : List Slot → List ℕ → Type 0
Come slots bytes = (n : ℕ) → n < length bytes → May (get_or slots n free) (take n bytes) (get_or bytes n 0)

-- the bytes begin a frame at a place: they are no more than it has, and each may come
pub record BeginsFrame (place : Expect) (bytes : List ℕ) : Type 0 where
  pub within : length bytes ≤ frame_length place bytes
  pub each : Come (frame_slots place (told place bytes)) bytes
