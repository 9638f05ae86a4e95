-- Frames that are read from the bytes of a log.
use Rattle.std.specs.Prelude.{◌≡◌, ◌⊎◌, ℕ, ◌+◌, Some, None, List, [], ◌++◌, length}
use Rattle.zk_model.specs.Frames.{Frame, frame_spelling, Allows, CanGoOn, IsWhole}
use Rattle.zk_model.specs.Audit.{IsBadByte}
use Rattle.zk_model.specs.declared.Expect.{Expect}
use Rattle.proof_frames.specs.Readings.{Reading, wanted}
use Rattle.proof_audit.specs.declared.fault.AuditFault.{AuditFault}
use Rattle.proof_audit.specs.declared.fault.AuditFault.TheVariants.{NotDealt, LogFault, NoMemory}
use Rattle.proof_audit.specs.declared.reading.LogReader.{LogReader}

-- a reader between two frames
pub record IsBetweenFrames (reader : LogReader) : Type 0 where
  pub idle : reader.decoder.expected ≡ None
  pub empty : reader.decoder.taken ≡ []
  pub fine : reader.decoder.bad ≡ None

-- one that has read nothing of a log
pub record IsFreshReader (log : List ℕ) (reader : LogReader) : Type 0 where
  pub between : IsBetweenFrames reader
  pub rest : reader.rest.now ≡ log
  pub received : reader.decoder.received ≡ 0

-- a decoder has taken bytes from the front of a log
pub record IsFed
    (place : Expect)
    (log : List ℕ)
    (old : Reading)
    (rest : List ℕ)
    (new : Reading) : Type 0 where
  pub expected : new.expected ≡ Some place
  pub fine : new.bad ≡ None
  pub received : new.received ≡ old.received
  pub taken : log ≡ new.taken ++ rest

-- it has taken all that the frame wants, or all there is
pub record IsFedWhole
    (place : Expect)
    (log : List ℕ)
    (old : Reading)
    (rest : List ℕ)
    (new : Reading) : Type 0 where
  pub fed : IsFed place log old rest new
  pub goes_on : CanGoOn place new.taken
  pub ended : (wanted new ≡ 0) ⊎ (rest ≡ [])

-- a byte of the log is bad, and this its number among all that were received
pub record FindsBad (place : Expect) (log : List ℕ) (old : Reading) (at : ℕ) : Type 0 where
  pub n : ℕ
  pub bad : IsBadByte place log n
  pub at_is : at ≡ old.received + n

-- the bytes of a frame that the place allows are taken from the front of what is left
pub record TakesFrame (place : Expect) (frame : Frame) (old new : LogReader) : Type 0 where
  pub allowed : Allows place frame
  pub bytes : old.rest.now ≡ frame_spelling frame ++ new.rest.now
  pub received : new.decoder.received ≡ old.decoder.received + length (frame_spelling frame)
  pub between : IsBetweenFrames new

-- what is left is no whole frame that the place allows, and can become one
pub record StopsEarly (place : Expect) (rest : List ℕ) : Type 0 where
  pub begun : CanGoOn place rest
  pub unfinished : (frame : Frame) → ¬ IsWhole place rest frame

-- why no frame is read: a bad byte of what is left
abbrev pub FindsFault : Expect → LogReader → AuditFault → Type 0
FindsFault place reader (NotDealt unit) = ⊥
FindsFault place reader (LogFault at) = FindsBad place reader.rest.now reader.decoder at
FindsFault place reader NoMemory = Unit {0}
