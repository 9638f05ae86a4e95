-- What a decoder has received, and what its calls do.
use Rattle.std.specs.Prelude.{◌≡◌, ◌≢◌, ◌⊎◌, ℕ, ◌+◌, ◌≤◌, min, Option, Some, None, List, [], ◌++◌, length, take}
use Rattle.zk_model.specs.Frames.{Frame, CanGoOn, IsWhole, IsFirstBad, bytes_wanted, frame_length, expected_kind}
use Rattle.zk_model.specs.declared.Expect.{Expect}
use Rattle.proof_frames.specs.declared.decoder.BadFrame.{BadFrame}
use Rattle.zk_model.specs.declared.limits.TheConstants.{MAX_PAYLOAD}

-- The bytes of all earlier frames, by their number; the frame that is expected, if one is; those bytes of it that are taken;
-- and where a byte was bad.
pub record Reading : Type 0 where
  pub received : ℕ
  pub expected : Option Expect
  pub taken : List ℕ
  pub bad : Option BadFrame

-- the frame at a place has at most 2^24 bytes after its kind and its length
abbrev pub IsShortPlace : Expect → Type 0
IsShortPlace place = frame_length place [] ≤ MAX_PAYLOAD + 5

-- What is taken can still become a frame that is expected, and is no longer than that; where none is expected nothing is
-- taken, and nothing is bad.
pub record IsReading (reading : Reading) : Type 0 where
  pub goes_on : (place : Expect) → reading.expected ≡ Some place → CanGoOn place reading.taken
  pub within : (place : Expect) → reading.expected ≡ Some place → length reading.taken ≤ frame_length place reading.taken
  pub idle : reading.expected ≡ None → (reading.taken ≡ []) × (reading.bad ≡ None)

-- the bytes that are still wanted: none where nothing is expected, or something is bad
abbrev pub wanted : Reading → ℕ
wanted reading = if_fine reading.bad (if_expected reading.expected)
  where
    if_expected : Option Expect → ℕ
    if_expected None = 0
    if_expected (Some place) = bytes_wanted place reading.taken

    if_fine : Option BadFrame → ℕ → ℕ
    if_fine None count = count
    if_fine (Some bad) count = 0

-- nothing was bad, and as many bytes of the piece as there are, or as are wanted, are taken
pub record Takes (old : Reading) (piece : List ℕ) (count : ℕ) (new : Reading) : Type 0 where
  pub fine : old.bad ≡ None
  pub counted : count ≡ min (length piece) (wanted old)
  pub goes_on : (place : Expect) → old.expected ≡ Some place → CanGoOn place new.taken
  pub becomes : new ≡ record old { taken = old.taken ++ take count piece }

-- Nothing was bad, and of the bytes that are taken and wanted the one at a place n, which is none of those that were taken
-- before, is the first bad one.
pub record TurnsBad (old : Reading) (piece : List ℕ) (bad : BadFrame) (new : Reading) : Type 0 where
  pub fine : old.bad ≡ None
  pub place : Expect
  pub expected : old.expected ≡ Some place
  pub n : ℕ
  pub behind : length old.taken ≤ n
  pub first : IsFirstBad place (old.taken ++ take (bytes_wanted place old.taken) piece) n
  pub at : bad.place ≡ old.received + n
  pub kind : bad.kind ≡ expected_kind place (take n (old.taken ++ take (bytes_wanted place old.taken) piece))
  pub becomes : new ≡ record old { bad = Some bad }

-- a byte was bad before, and the same is said again; or one is found now
abbrev pub Refuses : Reading → List ℕ → BadFrame → Reading → Type 0
Refuses old piece bad new = ((old.bad ≡ Some bad) × (new ≡ old)) ⊎ TurnsBad old piece bad new

-- what is taken is a whole frame that is expected, which is handed out
pub record Gives (old : Reading) (frame : Frame) (new : Reading) : Type 0 where
  pub fine : old.bad ≡ None
  pub place : Expect
  pub expected : old.expected ≡ Some place
  pub whole : IsWhole place old.taken frame
  pub becomes : new ≡ record { received = old.received + length old.taken; expected = None; taken = []; bad = None }

-- what is taken is no whole frame, or is bad
abbrev pub IsNotWhole : Reading → Type 0
IsNotWhole reading =
    (place : Expect) (frame : Frame) → reading.bad ≡ None → reading.expected ≡ Some place
    → IsWhole place reading.taken frame → ⊥

-- nothing is expected, or a byte was bad
abbrev pub IsIdle : Reading → Type 0
IsIdle reading = (reading.expected ≡ None) ⊎ (reading.bad ≢ None)
