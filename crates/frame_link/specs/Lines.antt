-- One end of a session's stream: what is logged, what its link tells, and why a frame does not pass.
use Rattle.std.specs.Prelude.{◌≡◌, ◌⊎◌, ℕ, zero, suc, ◌+◌, ◌≤◌, ◌<◌, List, [], ◌++◌, length, take, Bool, true, Option, None, IfSome}
use Rattle.std.specs.Option.{option_map}
use Rattle.zk_model.specs.Transcript.{bytes_from}
use Rattle.zk_model.specs.Frames.{Frame, CanGoOn, IsWhole, IsFirstBad, frame_length}
use Rattle.zk_model.specs.declared.Expect.{Expect}
use Rattle.zk_model.specs.declared.Side.{Side}
use Rattle.zk_port.specs.Counts.{Rose, counted}
use Rattle.zk_port.specs.Links.{LinkState}
use Rattle.zk_port.specs.Logs.{appended, put_before, AppendsPart}
use Rattle.zk_port.specs.declared.fault.PortFault.{PortFault}
use Rattle.zk_port.specs.declared.fault.PortFault.TheVariants as port
use Rattle.proof_frames.specs.Readings.{Reading, wanted}
use Rattle.frame_link.specs.Sides.{peer_of, seen_by}
use Rattle.frame_link.specs.declared.fault.LineFault.{LineFault}
use Rattle.frame_link.specs.declared.fault.LineFault.TheVariants.{PeerEnded, BadFrame, Link, NoMemory}

-- a receive that was refused, or not made: only the counts of receives and of failed calls differ, that of receives by one at most
pub record RefusesReceive (old new : LinkState) : Type 0 where
  pub untaken : new ≡ record old { receives = new.receives; faults = new.faults }
  pub receives : new.receives ≤ old.receives + 1

-- what a refusal of the link's is called
abbrev pub port_fault : PortFault → LineFault
port_fault port.Failed = Link
port_fault port.NoMemory = NoMemory

-- a count of calls after so many more; at the end of its type it stays there
abbrev pub counted_times : ℕ → ℕ → ℕ
counted_times zero before = before
counted_times (suc n) before = counted true (counted_times n before)

-- What is logged at one end of a stream, and what its link tells then: its log, seen from this side, what is to come, whether the
-- peer has ended, and how many sends, refused sends, receives and failed calls there were.
pub record LinkSnapshot : Type 0 where
  pub log : List (Side × ℕ)
  pub told : Option (List (Side × ℕ))
  pub to_come : Option (List ℕ)
  pub ended : Option Bool
  pub sends : ℕ
  pub refused_sends : ℕ
  pub receives : ℕ
  pub faults : ℕ

-- by the side, what is logged, and what the link tells
abbrev pub snapshot : Side → List (Side × ℕ) → LinkState → LinkSnapshot
snapshot side log link = record {
  log = log;
  told = option_map (seen_by side) link.log;
  to_come = link.to_come;
  ended = link.ended;
  sends = link.sends;
  refused_sends = link.refused_sends;
  receives = link.receives;
  faults = link.faults;
}

-- One end of a stream: whose end it is, what was read of the peer's bytes, for how many bytes of one send there is room in the log,
-- whether the link is open, and what is logged and the link tells.
pub record LineState : Type 0 where
  pub side : Side
  pub reading : Reading
  pub room : ℕ
  pub is_open : Bool
  pub seen : LinkSnapshot
  pub open seen use *

-- by the side, what is logged, what was read, the room, and what the link tells
abbrev pub line_state : Side → List (Side × ℕ) → Reading → ℕ → LinkState → LineState
line_state side log reading room link =
    record { side = side; reading = reading; room = room; is_open = link.is_open; seen = snapshot side log link }

-- a line of this side over which nothing is logged or read yet
abbrev pub fresh_line : Side → LinkState → LineState
fresh_line side link = line_state side [] (record { received = 0; expected = None; taken = []; bad = None }) 0 link

-- what is logged on a line, and what its link tells
abbrev pub snapshot_of : LineState → LinkSnapshot
snapshot_of line = line.seen

-- These bytes of the peer's have come: they are logged, the link tells them, and they are no longer to come; nothing is sent, and
-- the room in the log stays.
pub record Came (bytes : List ℕ) (old new : LineState) : Type 0 where
  pub logged : new.log ≡ old.log ++ bytes_from (peer_of old.side) bytes
  pub told : new.told ≡ appended (bytes_from (peer_of old.side) bytes) old.told
  pub came : old.to_come ≡ put_before bytes new.to_come
  pub side : new.side ≡ old.side
  pub is_open : new.is_open ≡ old.is_open
  pub sends : new.sends ≡ old.sends
  pub refused_sends : new.refused_sends ≡ old.refused_sends
  pub room : new.room ≡ old.room

-- some more bytes of the frame that is expected have come, by one receive
pub record PieceComes (place : Expect) (old new : LineState) : Type 0 where
  pub bytes : List ℕ
  pub some : 1 ≤ length bytes
  pub came : Came bytes old new
  pub read : new.reading ≡ record old.reading { taken = old.reading.taken ++ bytes }
  pub goes_on : CanGoOn place new.reading.taken
  pub receives : new.receives ≤ old.receives + 1
  pub unfailed : new.faults ≡ old.faults

-- bytes of the frame that is expected have come, by at most as many receives
pub record PiecesBegin (place : Expect) (old new : LineState) : Type 0 where
  pub came : Came new.reading.taken old new
  pub read : new.reading ≡ record old.reading { taken = new.reading.taken }
  pub receives : new.receives ≤ old.receives + length new.reading.taken
  pub unfailed : new.faults ≡ old.faults

-- and no more are wanted
pub record PiecesCome (place : Expect) (old new : LineState) : Type 0 where
  pub begin : PiecesBegin place old new
  pub whole : wanted new.reading ≡ 0

-- a frame that is expected has come, by at most as many receives as it has bytes
pub record Arrives (place : Expect) (frame : Frame) (old new : LineState) : Type 0 where
  pub bytes : List ℕ
  pub whole : IsWhole place bytes frame
  pub came : Came bytes old new
  pub read : new.reading ≡ record { received = old.reading.received + length bytes; expected = None; taken = []; bad = None }
  pub receives : new.receives ≤ old.receives + length bytes
  pub unfailed : new.faults ≡ old.faults

-- Why no frame came, where these are all bytes of it that came: the peer has ended, with bytes still wanted; one of them is
-- bad; the link failed; memory was missing.
abbrev pub Breaks : Expect → List ℕ → LineState → LineState → LineFault → Type 0
Breaks place bytes old new (PeerEnded at) =
    (at ≡ old.reading.received + length bytes)
    × CanGoOn place bytes
    × (length bytes < frame_length place bytes)
    × IfSome new.ended (λ ended. ended ≡ true)
    × IfSome new.to_come (λ rest. rest ≡ [])
Breaks place bytes old new (BadFrame at) = (n : ℕ) × IsFirstBad place bytes n × (at ≡ old.reading.received + n)
Breaks place bytes old new Link = Rose old.faults new.faults
Breaks place bytes old new NoMemory = Unit {0}

-- it is not the link that failed
abbrev pub IsNoLink : LineFault → Type 0
IsNoLink Link = ⊥
IsNoLink fault = Unit {0}

-- no failed call but where the link failed
pub record CountsFault (fault : LineFault) (old new : LineState) : Type 0 where
  pub later : old.faults ≤ new.faults
  pub unfailed : IsNoLink fault → new.faults ≡ old.faults

-- these bytes begin a frame that the place allows, and more of it are missing
pub record IsCutShort (place : Expect) (bytes : List ℕ) : Type 0 where
  pub goes_on : CanGoOn place bytes
  pub short : length bytes < frame_length place bytes

-- it is no bad byte for which no frame came
abbrev pub IsNoBadByte : LineFault → Type 0
IsNoBadByte (BadFrame at) = ⊥
IsNoBadByte fault = Unit {0}

-- these bytes are no whole frame: more are wanted, or one is bad
abbrev pub IsUnfinished : Expect → List ℕ → Type 0
IsUnfinished place bytes = (length bytes < frame_length place bytes) ⊎ ((n : ℕ) × IsFirstBad place bytes n)

-- No byte was taken past the frame: after some first part of these bytes, which the place allows, no more of them came than the frame
-- wants that begins so.
pub record IsWithinFrame (place : Expect) (bytes : List ℕ) : Type 0 where
  pub count : ℕ
  pub goes_on : CanGoOn place (take count bytes)
  pub most : length bytes ≤ frame_length place (take count bytes)

-- These bytes are no more than a frame has, and no whole one; where none of them is bad, they begin one of which more are missing.
pub record IsPartOnly (place : Expect) (fault : LineFault) (bytes : List ℕ) : Type 0 where
  pub few : IsWithinFrame place bytes
  pub unfinished : IsUnfinished place bytes
  pub cut : IsNoBadByte fault → IsCutShort place bytes

-- a piece is refused: after those bytes of the frame that were taken before, these came
pub record PieceFails (place : Expect) (fault : LineFault) (old new : LineState) : Type 0 where
  pub bytes : List ℕ
  pub part : IsPartOnly place fault (old.reading.taken ++ bytes)
  pub came : Came bytes old new
  pub broken : Breaks place (old.reading.taken ++ bytes) old new fault
  pub receives : new.receives ≤ old.receives + 1
  pub count : CountsFault fault old new

-- No whole frame has come, but a part of one, by at most one receive more than it has bytes; and the cause: the link may have
-- failed, or memory be missing.
pub record Fails (place : Expect) (fault : LineFault) (old new : LineState) : Type 0 where
  pub bytes : List ℕ
  pub part : IsPartOnly place fault bytes
  pub came : Came bytes old new
  pub broken : Breaks place bytes old new fault
  pub receives : new.receives ≤ old.receives + length bytes + 1
  pub count : CountsFault fault old new

-- all but the log, the room in it, what the link tells of it, and the counts of sends and of refused ones, is as it was
pub record OnlySends (old new : LineState) : Type 0 where
  pub side : new.side ≡ old.side
  pub reading : new.reading ≡ old.reading
  pub to_come : new.to_come ≡ old.to_come
  pub ended : new.ended ≡ old.ended
  pub is_open : new.is_open ≡ old.is_open
  pub receives : new.receives ≡ old.receives

-- bytes were sent, by one send, which was not refused: they are logged, and the link tells them
pub record Sends (bytes : List ℕ) (old new : LineState) : Type 0 where
  pub logged : new.log ≡ old.log ++ bytes_from old.side bytes
  pub told : new.told ≡ appended (bytes_from old.side bytes) old.told
  pub sends : new.sends ≡ counted true old.sends
  pub refused_sends : new.refused_sends ≡ old.refused_sends
  pub others : OnlySends old new
  pub unfailed : new.faults ≡ old.faults

-- why a send is refused: the link failed, or memory was missing
abbrev pub IsSendCause : LineState → LineState → LineFault → Type 0
IsSendCause old new Link = Rose old.faults new.faults
IsSendCause old new NoMemory = Unit {0}
IsSendCause old new fault = ⊥

-- The one send of these bytes was refused, and counted so: nothing of it is logged, and the link tells a first part, maybe none or
-- all.
pub record IsSendRefused (bytes : List ℕ) (fault : LineFault) (old new : LineState) : Type 0 where
  pub logged : new.log ≡ old.log
  pub told : AppendsPart (bytes_from old.side bytes) old.told new.told
  pub sends : new.sends ≡ counted true old.sends
  pub refused_sends : new.refused_sends ≡ counted true old.refused_sends
  pub others : OnlySends old new
  pub cause : IsSendCause old new fault
  pub count : CountsFault fault old new
