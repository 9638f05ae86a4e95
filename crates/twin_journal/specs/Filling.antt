-- How an area is filled.
use Rattle.std.specs.Prelude.{◌≡◌, ℕ, ◌+◌, ◌*◌, ◌<◌, ◌≤◌, List, [], ◌∷◌, ◌++◌, length, drop, get_or, replicate}
use Rattle.lease_journal.specs.Steps.{body_bytes}
use Rattle.lease_journal.specs.Journals.{IsOpen, body_at, number_at}

-- these 32 bytes are an open slot with this body
pub record IsOpenSlot (body : ℕ × ℕ) (slot : List ℕ) : Type 0 where
  pub whole : length slot ≡ 32
  pub low : number_at slot 0 ≡ body.0
  pub high : number_at slot 8 ≡ body.1
  pub gate : get_or slot 31 0 ≡ 90

-- these 32 bytes are a slot that is not open
pub record IsClosedSlot (slot : List ℕ) : Type 0 where
  pub whole : length slot ≡ 32
  pub gate : get_or slot 31 0 ≡ 0

-- these 32 bytes are a slot for the first of these bodies, if there is one
abbrev pub IsSlotFor : List (ℕ × ℕ) → List ℕ → Type 0
IsSlotFor [] slot = IsClosedSlot slot
IsSlotFor (body ∷ bodies) slot = IsOpenSlot body slot

-- the bytes of an open slot with this body: both numbers, 15 zeros, and 0x5A
abbrev pub open_slot : ℕ × ℕ → List ℕ
open_slot body = body_bytes body ++ replicate 15 0 ++ 90 ∷ []

-- and of a slot for the first of these bodies: zeros where there is none
abbrev pub slot_bytes : List (ℕ × ℕ) → List ℕ
slot_bytes [] = replicate 32 0
slot_bytes (body ∷ bodies) = open_slot body

-- so many slots from a place on are those of these bodies to the byte, and zeros behind the last of them
abbrev pub AreBodySlots : ℕ → ℕ → List (ℕ × ℕ) → List ℕ → Type 0
AreBodySlots at count bodies bytes = (slot : ℕ) → slot < count → (i : ℕ) → i < 32
    → get_or bytes (at + 32 * slot + i) 0 ≡ get_or (slot_bytes (drop slot bodies)) i 0

-- the last body after the first of these, if there is one
abbrev pub last_after : ℕ × ℕ → List (ℕ × ℕ) → ℕ × ℕ
last_after last [] = last
last_after last (body ∷ bodies) = body

-- the first slots, so many of them, have these bodies in order, and those of them after the last body are not open
pub record IsFilled (at count : ℕ) (bodies : List (ℕ × ℕ)) (bytes : List ℕ) : Type 0 where
  pub inside : at + 32 * count ≤ length bytes
  pub opened : (slot : ℕ) → slot < count → slot < length bodies → IsOpen at bytes slot
  pub bodies_are : (slot : ℕ) → slot < count → slot < length bodies → body_at at bytes slot ≡ get_or bodies slot (0, 0)
  pub closed : (slot : ℕ) → slot < count → length bodies ≤ slot → ¬ (IsOpen at bytes slot)
  pub exact : AreBodySlots at count bodies bytes
