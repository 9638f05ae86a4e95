-- What a run of a session's end over a link leaves: what passed, what was sent behind it, and what the link tells.
use Rattle.std.specs.Prelude.{◌≡◌, ◌⊎◌, ℕ, ◌+◌, ◌≤◌, List, [], ◌++◌, flat_map, length, take, true, Option, None, Some, IfSome}
use Rattle.zk_model.specs.Transcript.{bytes_from, sent_by, refuse_frame}
use Rattle.zk_model.specs.Frames.{Frame, frame_spelling, Allows, IsFirstBad}
use Rattle.zk_model.specs.declared.Expect.{Expect}
use Rattle.zk_model.specs.declared.Side.{Side}
use Rattle.zk_port.specs.Counts.{Rose, counted}
use Rattle.zk_port.specs.Logs.{appended, put_before}
use Rattle.frame_link.specs.Sides.{peer_of}
use Rattle.frame_link.specs.Lines.{LineState, LinkSnapshot, IsNoLink, IsPartOnly, IsWithinFrame, counted_times, snapshot_of}
use Rattle.frame_link.specs.declared.fault.LineFault.{LineFault}
use Rattle.frame_link.specs.declared.fault.LineFault.TheVariants.{PeerEnded, BadFrame, Link, NoMemory}
use Rattle.session_driver.specs.Runs.{Turn, Moves, IsTurn, Goes, answers_in, whole_log}
use Rattle.session_driver.specs.declared.drive.Outcome.{Outcome}
use Rattle.session_driver.specs.declared.drive.Outcome.TheVariants.{Done, Refused, Cut}

-- ---- what was sent, and what failed

-- this is logged, and the link tells it, each answer of this side by one send, of which none was refused
pub record IsSent (side : Side) (log : List (Side × ℕ)) (first now : LinkSnapshot) : Type 0 where
  pub logged : now.log ≡ log
  pub told : now.told ≡ appended log first.told
  pub sends : now.sends ≡ counted_times (answers_in side log) first.sends
  pub refused_sends : now.refused_sends ≡ first.refused_sends

-- and no call failed; there were at most as many receives as bytes came
pub record GoesWell (side : Side) (log : List (Side × ℕ)) (first now : LinkSnapshot) : Type 0 where
  pub sent : IsSent side log first now
  pub open sent use *
  pub receives : now.receives ≤ first.receives + length (sent_by (peer_of side) log)
  pub faults : now.faults ≡ first.faults

-- So it was, and then the one send of these bytes was refused: nothing of it is logged, and the link tells a first part of them, maybe
-- none or all.
pub record IsLost (side : Side) (log : List (Side × ℕ)) (bytes : List ℕ) (first now : LinkSnapshot) : Type 0 where
  pub count : ℕ
  pub logged : now.log ≡ log
  pub told : now.told ≡ appended (log ++ bytes_from side (take count bytes)) first.told
  pub sends : now.sends ≡ counted_times (answers_in side log + 1) first.sends
  pub refused_sends : now.refused_sends ≡ counted true first.refused_sends
  pub receives : now.receives ≤ first.receives + length (sent_by (peer_of side) log)
  pub later : first.faults ≤ now.faults

-- No send was refused, and nothing is told beside the log; or one was, where one may be, and a first part of it may be told.
abbrev pub RefusesSends : Type 0 → List ℕ → LinkSnapshot → LinkSnapshot → Type 0
RefusesSends may part first now =
    ((part ≡ []) × (now.refused_sends ≡ first.refused_sends)) ⊎ (may × (now.refused_sends ≡ counted true first.refused_sends))

-- they were sent once: they went out, or that send was refused
abbrev pub Tries : Side → List (Side × ℕ) → List ℕ → LinkSnapshot → LinkSnapshot → Type 0
Tries side log bytes first now = GoesWell side (log ++ bytes_from side bytes) first now ⊎ IsLost side log bytes first now

-- so was a refusal of this code, if there is a code
abbrev pub TriesCode : Side → List (Side × ℕ) → Option ℕ → LinkSnapshot → LinkSnapshot → Type 0
TriesCode side log None first now = GoesWell side log first now
TriesCode side log (Some code) first now = Tries side log (refuse_frame code) first now

-- The count of failed calls does not fall; it rises where the link failed, and only there.
pub record CountsCalls (fault : LineFault) (first now : LinkSnapshot) : Type 0 where
  pub later : first.faults ≤ now.faults
  pub failed : fault ≡ Link → Rose first.faults now.faults
  pub unfailed : IsNoLink fault → now.faults ≡ first.faults

-- why a send is refused: the link failed, or memory was missing
abbrev pub IsSendFault : LineFault → Type 0
IsSendFault Link = Unit {0}
IsSendFault NoMemory = Unit {0}
IsSendFault fault = ⊥

-- bytes whose one send was refused for this fault
pub record IsLostBy (fault : LineFault) (side : Side) (log : List (Side × ℕ)) (bytes : List ℕ) (first now : LinkSnapshot) : Type 0 where
  pub lost : IsLost side log bytes first now
  pub open lost use *
  pub fault_is : IsSendFault fault
  pub calls : CountsCalls fault first now

-- They were not sent: memory was missing before, and a refusal of this code was tried in their place, if there is a code; or their one
-- send was refused.
abbrev pub KeepsBack : Option ℕ → Side → List (Side × ℕ) → List ℕ → LineFault → LinkSnapshot → LinkSnapshot → Type 0
KeepsBack code side log bytes fault first now =
    ((fault ≡ NoMemory) × TriesCode side log code first now) ⊎ IsLostBy fault side log bytes first now

-- ---- where no frame came

-- why not, after these bytes of one: the peer has ended; one of the bytes is bad
abbrev pub IsShortBy : Side → Expect → List ℕ → LineFault → LinkSnapshot → Type 0
IsShortBy peer place rest (PeerEnded at) now =
    (at ≡ length (sent_by peer now.log))
    × IfSome now.ended (λ ended. ended ≡ true)
    × IfSome now.to_come (λ bytes. bytes ≡ [])
IsShortBy peer place rest (BadFrame at) now =
    (n : ℕ) × IsFirstBad place rest n × (at + length rest ≡ length (sent_by peer now.log) + n)
IsShortBy peer place rest fault now = Unit {0}

-- These bytes came, which are no whole frame of the place, and end this log; nothing was sent behind it.
pub record StopsShort
    (side : Side)
    (log : List (Side × ℕ))
    (place : Expect)
    (rest : List ℕ)
    (fault : LineFault)
    (first now : LinkSnapshot) : Type 0 where
  pub part : IsPartOnly place fault rest
  pub cause : IsShortBy (peer_of side) place rest fault now
  pub sent : IsSent side log first now
  pub open sent use *
  pub calls : CountsCalls fault first now

-- Where this was logged, bytes of the frame that was expected then came, and none past it.
pub record ComesAt
    {P : Type 0}
    (stands : P → List (Side × ℕ) → Type 0)
    (expects : P → Option Expect)
    (peer : Side)
    (stage : P)
    (log : List (Side × ℕ)) : Type 0 where
  pub before : List (Side × ℕ)
  pub waited : stands stage before
  pub place : Expect
  pub expected : expects stage ≡ Some place
  pub rest : List ℕ
  pub few : IsWithinFrame place rest
  pub logged : log ≡ before ++ bytes_from peer rest

-- ---- how it stopped

module _ {S F : Type 0} (moves : Moves S F) (side : Side) (log : List (Side × ℕ)) (mid new : S) where
  -- nothing more was expected
  pub record Finishes (first now : LinkSnapshot) : Type 0 where
    pub same : new ≡ mid
    pub expected : moves.expects new ≡ None
    pub well : GoesWell side log first now

  -- a frame came, and was refused; a refusal was tried, if it has a code
  pub record TurnsDown (fault : F) (first now : LinkSnapshot) : Type 0 where
    pub place : Expect
    pub expected : moves.expects mid ≡ Some place
    pub frame : Frame
    pub allowed : Allows place frame
    pub code : Option ℕ
    pub refused : moves.refuses mid frame fault code new
    pub tried : TriesCode side (log ++ bytes_from (peer_of side) (frame_spelling frame)) code first now

  -- the frame that was expected did not come, but these bytes of it
  pub record Misses (fault : LineFault) (first now : LinkSnapshot) : Type 0 where
    pub same : new ≡ mid
    pub place : Expect
    pub expected : moves.expects mid ≡ Some place
    pub rest : List ℕ
    pub short : StopsShort side (log ++ bytes_from (peer_of side) rest) place rest fault first now

  -- a frame came and was answered, but the answer was not sent
  pub record KeepsAnswer (fault : LineFault) (first now : LinkSnapshot) : Type 0 where
    pub turn : Turn
    pub is : IsTurn moves mid turn new
    pub some : 1 ≤ length turn.answer
    pub kept : KeepsBack (moves.lack_code mid) side (log ++ bytes_from (peer_of side) (frame_spelling turn.frame))
        (flat_map frame_spelling turn.answer) fault first now

-- the greeting was not sent, and no turn passed
pub record KeepsGreeting {S : Type 0} (greeting : List Frame) (side : Side) (turns : List Turn) (mid new : S) (fault : LineFault)
    (first now : LinkSnapshot) : Type 0 where
  pub none : turns ≡ []
  pub same : new ≡ mid
  pub some : 1 ≤ length greeting
  pub kept : KeepsBack None side [] (flat_map frame_spelling greeting) fault first now

-- after these turns
abbrev pub Halts : {S F : Type 0} → Moves S F → List Frame → Side → List Turn → S → S → Outcome F → LinkSnapshot → LinkSnapshot → Type 0
Halts moves greeting side turns mid new Done first now = Finishes moves side (whole_log side greeting turns) mid new first now
Halts moves greeting side turns mid new (Refused fault) first now =
    TurnsDown moves side (whole_log side greeting turns) mid new fault first now
Halts moves greeting side turns mid new (Cut fault) first now =
    Misses moves side (whole_log side greeting turns) mid new fault first now
    ⊎ KeepsAnswer moves side (whole_log side greeting turns) mid new fault first now
    ⊎ KeepsGreeting greeting side turns mid new fault first now

-- What came of the peer's bytes is what the link no longer has to come, by at most one receive more than bytes came.
pub record HasCome (peer : Side) (first now : LinkSnapshot) : Type 0 where
  pub came : first.to_come ≡ put_before (sent_by peer now.log) now.to_come
  pub receives : now.receives ≤ first.receives + length (sent_by peer now.log) + 1

-- These turns passed, in order, and then the session stopped so.
pub record PartyLeaves {S F : Type 0} (moves : Moves S F) (greeting : List Frame) (side : Side) (old new : S) (outcome : Outcome F)
    (first now : LinkSnapshot) : Type 0 where
  pub turns : List Turn
  pub mid : S
  pub went : Goes moves old turns mid
  pub halts : Halts moves greeting side turns mid new outcome first now
  pub come : HasCome (peer_of side) first now

-- A whole session over a line, which is still open.
pub record IsRun {S F : Type 0} (moves : Moves S F) (greeting : List Frame) (old new : S) (outcome : Outcome F) (first now : LineState) : Type 0 where
  pub leaves : PartyLeaves moves greeting first.side old new outcome (snapshot_of first) (snapshot_of now)
  pub side : now.side ≡ first.side
  pub is_open : now.is_open ≡ true
