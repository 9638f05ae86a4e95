-- A session over a line: the frames that were taken and answered, in order, and how it stopped.
use Rattle.std.specs.Prelude.{ℕ, ◌+◌, List, [], ◌∷◌, ◌++◌, flat_map, ◌≡◌, ◌⊎◌, ◌≤◌, length, true, Option, None, Some}
use Rattle.zk_model.specs.Transcript.{bytes_from, sent_by, refuse_frame}
use Rattle.zk_model.specs.Frames.{Frame, frame_spelling, Allows}
use Rattle.zk_model.specs.declared.Side.{Side}
use Rattle.zk_model.specs.declared.Side.TheVariants.{Prover, Verifier}
use Rattle.frame_link.specs.Sides.{peer_of}
use Rattle.zk_model.specs.declared.Expect.{Expect}
use Rattle.zk_port.specs.Logs.{appended, put_before}
use Rattle.proof_frames.specs.Readings.{IsShortPlace}
use Rattle.frame_link.specs.Lines.{LineState, Arrives, Fails, Sends, IsSendRefused, counted_times}
use Rattle.frame_link.specs.declared.fault.LineFault.{LineFault}
use Rattle.frame_link.specs.declared.fault.LineFault.TheVariants.{NoMemory}
use Rattle.session_driver.specs.declared.drive.Outcome.{Outcome}
use Rattle.session_driver.specs.declared.drive.Outcome.TheVariants.{Done, Refused, Cut}

-- ---- what passes in a session, turn by turn, and the bytes that are logged of it

-- a frame that was taken, and what it was answered by
pub record Turn : Type 0 where
  pub frame : Frame
  pub answer : List Frame

-- frames of one side
abbrev pub said : Side → List Frame → List (Side × ℕ)
said side frames = bytes_from side (flat_map frame_spelling frames)

-- a turn: a frame of the peer's, and the answer
abbrev pub turn_log : Side → Turn → List (Side × ℕ)
turn_log side turn = bytes_from (peer_of side) (frame_spelling turn.frame) ++ said side turn.answer

-- a greeting, and turns after it
abbrev pub whole_log : Side → List Frame → List Turn → List (Side × ℕ)
whole_log side greeting turns = said side greeting ++ flat_map (turn_log side) turns

-- what is said by this side, after a byte of that side, is a new answer of the first's
abbrev pub new_answer : Side → Side → Side → ℕ
new_answer Prover Verifier Prover = 1
new_answer Verifier Prover Verifier = 1
new_answer side last next = 0

-- how many answers of a side a log has after a byte of that side: runs of its bytes
abbrev pub answers_behind : Side → Side → List (Side × ℕ) → ℕ
answers_behind side last [] = 0
answers_behind side last (entry ∷ log) = new_answer side last entry.0 + answers_behind side entry.0 log

-- how many a log has, a greeting too
abbrev pub answers_in : Side → List (Side × ℕ) → ℕ
answers_in side log = answers_behind side (peer_of side) log

-- ---- the end of a session

-- What an end of a session does: which frame it expects; where its place may be answered by a refusal, the code of the one that
-- goes out if memory is missing for the answer; with what it answers a frame, and where that leads; and why it refuses one, with
-- the code of the refusal that goes out, if one does.
pub record Moves (S F : Type 0) : Type 1 where
  pub expects : S → Option Expect
  pub lack_code : S → Option ℕ
  pub answers : S → Frame → List Frame → S → Type 0
  pub refuses : S → Frame → F → Option ℕ → S → Type 0

-- of an end and the one whom it asks, as one state
abbrev pub moves_of : {S O F : Type 0} → (S → Option Expect) → (S → Option ℕ) → (S → O → Frame → List Frame → S → O → Type 0)
    → (S → O → Frame → F → Option ℕ → S → O → Type 0) → Moves (S × O) F
moves_of expects lack_code answers refuses = record {
  expects = λ s. expects s.0;
  lack_code = λ s. lack_code s.0;
  answers = λ s frame answer t. answers s.0 s.1 frame answer t.0 t.1;
  refuses = λ s frame fault code t. refuses s.0 s.1 frame fault code t.0 t.1;
}

-- of states that are seen as others
abbrev pub seen_as : {S T F : Type 0} → (S → T) → Moves T F → Moves S F
seen_as view moves = record {
  expects = λ s. moves.expects (view s);
  lack_code = λ s. moves.lack_code (view s);
  answers = λ s frame answer t. moves.answers (view s) frame answer (view t);
  refuses = λ s frame fault code t. moves.refuses (view s) frame fault code (view t);
}

-- ---- turns

-- a frame came where it was expected, and was answered
pub record IsTurn {S F : Type 0} (moves : Moves S F) (old : S) (turn : Turn) (new : S) : Type 0 where
  pub place : Expect
  pub expected : moves.expects old ≡ Some place
  pub allowed : Allows place turn.frame
  pub answered : moves.answers old turn.frame turn.answer new

-- one turn after another
abbrev pub Goes : {S F : Type 0} → Moves S F → S → List Turn → S → Type 0
Goes moves old [] new = new ≡ old
Goes {S} moves old (turn ∷ turns) new = (mid : S) × IsTurn moves old turn mid × Goes moves mid turns new

-- ---- lines

-- a line over which nothing is logged or read yet
pub record IsFresh (line : LineState) : Type 0 where
  pub log : line.log ≡ []
  pub reading : line.reading ≡ record { received = 0; expected = None; taken = []; bad = None }
  pub is_open : line.is_open ≡ true

-- What passed since a first moment: all of it is logged, and the link tells it, each answer by one send, of which none was refused, and
-- at most as many receives as bytes came; no frame is under way, and nothing failed.
pub record HasPassed (log : List (Side × ℕ)) (first now : LineState) : Type 0 where
  pub logged : now.log ≡ log
  pub reading : now.reading ≡ record { received = length (sent_by (peer_of first.side) log); expected = None; taken = []; bad = None }
  pub told : now.told ≡ appended log first.told
  pub came : first.to_come ≡ put_before (sent_by (peer_of first.side) log) now.to_come
  pub side : now.side ≡ first.side
  pub is_open : now.is_open ≡ true
  pub sends : now.sends ≡ counted_times (answers_in first.side log) first.sends
  pub refused_sends : now.refused_sends ≡ first.refused_sends
  pub receives : now.receives ≤ first.receives + length (sent_by (peer_of first.side) log)
  pub faults : now.faults ≡ first.faults

-- frames were sent by one send, or there are none
abbrev pub SendsAll : List Frame → LineState → LineState → Type 0
SendsAll frames old new = ((frames ≡ []) × (new ≡ old)) ⊎ ((1 ≤ length frames) × Sends (flat_map frame_spelling frames) old new)

-- A refusal of this code went out by one send, if there is a code, or that send was refused, and counted so.
abbrev pub TriesRefusal : Option ℕ → LineState → LineState → Type 0
TriesRefusal None old new = new ≡ old
TriesRefusal (Some code) old new =
    Sends (refuse_frame code) old new ⊎ ((fault : LineFault) × IsSendRefused (refuse_frame code) fault old new)

-- Frames were not sent: memory was missing before, and a refusal of this code went out in their place, if there is a code; or their
-- one send was refused.
pub record IsUnsent (code : Option ℕ) (frames : List Frame) (fault : LineFault) (old new : LineState) : Type 0 where
  pub at_least_one : 1 ≤ length frames
  pub unsent :
      ((fault ≡ NoMemory) × TriesRefusal code old new)
      ⊎ IsSendRefused (flat_map frame_spelling frames) fault old new

-- ---- one turn over a line

-- a frame came and was answered, once there was room in the log for so many bytes
pub record TurnGoes {S F : Type 0} (moves : Moves S F) (old new : S) (line now : LineState) : Type 0 where
  pub turn : Turn
  pub is : IsTurn moves old turn new
  pub short : IsShortPlace is.place
  pub room : ℕ
  pub heard : LineState
  pub arrives : Arrives is.place turn.frame (record line { room = room }) heard
  pub sends : SendsAll turn.answer heard now

-- a frame came and was answered, but the answer was not sent
pub record LeavesUnsent {S F : Type 0} (moves : Moves S F) (old new : S) (fault : LineFault) (line now : LineState) : Type 0 where
  pub turn : Turn
  pub is : IsTurn moves old turn new
  pub room : ℕ
  pub heard : LineState
  pub arrives : Arrives is.place turn.frame (record line { room = room }) heard
  pub unsent : IsUnsent (moves.lack_code old) turn.answer fault heard now

-- the frame that was expected did not come
pub record LacksFrame {S F : Type 0} (moves : Moves S F) (old new : S) (fault : LineFault) (line now : LineState) : Type 0 where
  pub same : new ≡ old
  pub place : Expect
  pub expected : moves.expects old ≡ Some place
  pub room : ℕ
  pub fails : Fails place fault (record line { room = room }) now

-- a frame came, and was refused
pub record RefusesFrame {S F : Type 0} (moves : Moves S F) (old new : S) (fault : F) (line now : LineState) : Type 0 where
  pub place : Expect
  pub expected : moves.expects old ≡ Some place
  pub frame : Frame
  pub room : ℕ
  pub heard : LineState
  pub arrives : Arrives place frame (record line { room = room }) heard
  pub code : Option ℕ
  pub refused : moves.refuses old frame fault code new
  pub tried : TriesRefusal code heard now

-- a turn that stopped so
abbrev pub TurnStops : {S F : Type 0} → Moves S F → S → S → Outcome F → LineState → LineState → Type 0
TurnStops moves old new Done line now = ⊥
TurnStops moves old new (Refused fault) line now = RefusesFrame moves old new fault line now
TurnStops moves old new (Cut fault) line now = LeavesUnsent moves old new fault line now ⊎ LacksFrame moves old new fault line now

-- ---- whole runs

-- so many turns passed, in order, and this is where they led
pub record Runs {S F : Type 0} (moves : Moves S F) (greeting : List Frame) (old mid : S) (first was : LineState) : Type 0 where
  pub turns : List Turn
  pub went : Goes moves old turns mid
  pub passed : HasPassed (whole_log first.side greeting turns) first was
