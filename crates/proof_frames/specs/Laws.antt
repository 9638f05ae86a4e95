-- What frames promise at a place.
use Rattle.std.specs.Prelude.{◌≡◌, ◌⊎◌, ℕ, ◌<◌, ◌≤◌, List, length, All}
use Rattle.zk_model.specs.Transcript.{BeginsWith}
use Rattle.zk_model.specs.Frames.{Frame, Allows, IsWhole, CanGoOn, IsFirstBad, bytes_wanted, frame_spelling, frame_length}
use Rattle.zk_model.specs.declared.Expect.{Expect}

-- bytes are one whole frame at a place at most
abbrev pub OneFrame : Type 0
OneFrame = (place : Expect) (bytes : List ℕ) (one other : Frame) → IsWhole place bytes one → IsWhole place bytes other → one ≡ other

-- of two frames that a place allows, none begins with the other, unless they are the same
abbrev pub NoneBeginsAnother : Type 0
NoneBeginsAnother =
    (place : Expect) (one other : Frame) → Allows place one → Allows place other
    → BeginsWith (frame_spelling one) (frame_spelling other) → one ≡ other

-- bytes that are no more than a frame has can go on, or have a first bad one
abbrev pub GoesOnOrIsBad : Type 0
GoesOnOrIsBad =
    (place : Expect) (bytes : List ℕ) → All (λ byte. byte < 256) bytes → length bytes ≤ frame_length place bytes
    → CanGoOn place bytes ⊎ ((n : ℕ) × IsFirstBad place bytes n)

-- and never both
abbrev pub NeverBoth : Type 0
NeverBoth = (place : Expect) (bytes : List ℕ) (n : ℕ) → CanGoOn place bytes → IsFirstBad place bytes n → ⊥

-- a whole frame wants no more bytes
abbrev pub WholeWantsNothing : Type 0
WholeWantsNothing = (place : Expect) (bytes : List ℕ) (frame : Frame) → IsWhole place bytes frame → bytes_wanted place bytes ≡ 0

-- what can go on and wants no more bytes is a whole frame
abbrev pub NothingWantedIsWhole : Type 0
NothingWantedIsWhole =
    (place : Expect) (bytes : List ℕ) → CanGoOn place bytes → bytes_wanted place bytes ≡ 0 → (frame : Frame) × IsWhole place bytes frame
