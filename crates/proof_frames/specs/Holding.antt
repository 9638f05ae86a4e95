-- What a decoder keeps, and what holds of it.
use Rattle.std.specs.Prelude.{◌≡◌, ℕ, ◌+◌, ◌^◌, ◌<◌, ◌≤◌, Bool, true, false, Option, Some, None, List, [], ◌∷◌, ◌++◌, flat_map, length, take, vec_capacity, All}
use Rattle.zk_model.specs.Bytes.{element_bytes}
use Rattle.zk_model.specs.Field.{IsElement}
use Rattle.zk_model.specs.Frames.{CanGoOn}
use Rattle.zk_model.specs.declared.Expect.{Expect}
use Rattle.proof_frames.specs.Readings.{IsShortPlace}
use Rattle.proof_frames.specs.Rows.{BeginsFrame, row_of, payload_length}
use Rattle.proof_frames.specs.declared.decoder.BadFrame.{BadFrame}
use Rattle.proof_frames.specs.declared.held.Held.{Held}
use Rattle.proof_frames.specs.declared.row.Payload.{Payload}
use Rattle.proof_frames.specs.declared.row.Payload.TheVariants as payload

-- whether a payload is elements alone, which are held as elements
abbrev pub is_list : Payload → Bool
is_list (payload.Elements count) = true
is_list other = false

-- how many elements a payload alone is
abbrev pub elements_in : Payload → ℕ
elements_in (payload.Elements count) = count
elements_in other = 0

-- how many bytes of a frame are held as they came
abbrev pub raw_length : Payload → ℕ
raw_length (payload.Elements count) = 5
raw_length other = 5 + payload_length other

-- the payload of the longest frame at a place
abbrev pub longest : Expect → Payload
longest place = (row_of place 129).payload

-- the bytes that are held: as they came, as elements, and as part of an element
abbrev pub spelled : List ℕ → List ℕ → List ℕ → List ℕ
spelled start elements part = start ++ flat_map element_bytes elements ++ part

abbrev pub bytes_of : Held → List ℕ
bytes_of held = spelled held.start.items held.elements.items held.part.items

-- after the header elements, and part of the next
pub record AreElementsApart (start elements part : List ℕ) : Type 0 where
  pub header : length start ≤ 5
  pub first : length start < 5 → (elements ≡ []) × (part ≡ [])
  pub ranged : All IsElement elements
  pub partial : length part < 8

-- all bytes as they came, or elements apart from the header
abbrev pub AreKept : Bool → List ℕ → List ℕ → List ℕ → Type 0
AreKept false start elements part = (elements ≡ []) × (part ≡ [])
AreKept true start elements part = AreElementsApart start elements part

-- nothing is held
pub record IsEmpty (held : Held) : Type 0 where
  pub start : held.start.items ≡ []
  pub elements : held.elements.items ≡ []
  pub part : held.part.items ≡ []

-- there is room for a whole frame at the place
pub record HasFrameRoom (place : Expect) (held : Held) : Type 0 where
  pub start : raw_length (longest place) ≤ vec_capacity held.start
  pub elements : elements_in (longest place) ≤ vec_capacity held.elements
  pub part : 8 ≤ vec_capacity held.part

-- what is held begins a frame at the place, and there is room for the rest of it
pub record Holds (place : Expect) (held : Held) : Type 0 where
  pub short : IsShortPlace place
  pub begun : BeginsFrame place (bytes_of held)
  pub kept : AreKept (is_list (longest place)) held.start.items held.elements.items held.part.items
  pub room : HasFrameRoom place held

-- a byte was taken, or no frame goes on with it and nothing has changed
abbrev pub Steps : Expect → Held → ℕ → Bool → Held → Type 0
Steps place old byte true new = Holds place new × (bytes_of new ≡ bytes_of old ++ byte ∷ [])
Steps place old byte false new = (new ≡ old) × ¬ CanGoOn place (bytes_of old ++ byte ∷ [])

-- as many bytes of a piece were taken, and no frame goes on with the next
pub record StopsAt (place : Expect) (old : Held) (piece : List ℕ) (n : ℕ) (new : Held) : Type 0 where
  pub within : n < length piece
  pub holds : Holds place new
  pub bytes : bytes_of new ≡ bytes_of old ++ take n piece
  pub ends : ¬ CanGoOn place (bytes_of old ++ take (n + 1) piece)

-- a piece was taken, or the bytes of it before the first bad one
abbrev pub Runs : Expect → Held → List ℕ → Option ℕ → Held → Type 0
Runs place old piece None new = Holds place new × (bytes_of new ≡ bytes_of old ++ piece)
Runs place old piece (Some n) new = StopsAt place old piece n new

-- a frame is under way; once a byte is bad more may be held than is taken
pub record IsUnderWay (place : Expect) (received : ℕ) (bad : Option BadFrame) (taken : ℕ) (held : Held) : Type 0 where
  pub fits : received + 2 ^ 29 ≤ 2 ^ 64
  pub holds : Holds place held
  pub most : taken ≤ length (bytes_of held)
  pub all : bad ≡ None → taken ≡ length (bytes_of held)

-- nothing is expected, bad, taken or held
pub record IsIdle (bad : Option BadFrame) (taken : ℕ) (held : Held) : Type 0 where
  pub fine : bad ≡ None
  pub none_taken : taken ≡ 0
  pub empty : IsEmpty held

-- what holds of a decoder's fields: those of a frame under way, or of none
abbrev pub IsSound : Option Expect → ℕ → Option BadFrame → ℕ → Held → Type 0
IsSound None received bad taken held = IsIdle bad taken held
IsSound (Some place) received bad taken held = IsUnderWay place received bad taken held
