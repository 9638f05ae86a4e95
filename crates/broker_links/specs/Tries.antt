-- What a node's exchange with a broker leaves.
use Rattle.std.specs.Prelude.{◌≡◌, ◌⊎◌, ℕ, ◌+◌, ◌≤◌, List, [], ◌++◌, length, true, false, Option, Some, None, IfSome}
use Rattle.zk_model.specs.Frames.{Frame, Allows, IsFirstBad, frame_spelling}
use Rattle.zk_model.specs.Messages.{want_frame}
use Rattle.zk_model.specs.Transcript.{BeginsWith, bytes_from, sent_by}
use Rattle.zk_model.specs.declared.Expect.{Expect}
use Rattle.zk_model.specs.declared.Expect.TheVariants as expect
use Rattle.zk_model.specs.declared.Side.{Side}
use Rattle.zk_model.specs.declared.Side.TheVariants.{Prover, Verifier}
use Rattle.zk_model.specs.declared.messages.Want.{Want}
use Rattle.zk_port.specs.Counts.{Rose}
use Rattle.zk_port.specs.Links.{LinkState}
use Rattle.zk_port.specs.Logs.{put_before}
use Rattle.frame_link.specs.Lines.{LinkSnapshot, IsCutShort, IsWithinFrame, snapshot}
use Rattle.frame_link.specs.declared.fault.LineFault.{LineFault}
use Rattle.frame_link.specs.declared.fault.LineFault.TheVariants as line
use Rattle.session_driver.specs.Leaving.{HasCome}
use Rattle.session_driver.specs.Runs.{Moves}
use Rattle.session_driver.specs.declared.drive.Outcome.{Outcome}
use Rattle.session_driver.specs.declared.drive.Outcome.TheVariants.{Done, Refused, Cut}
use Rattle.broker_links.specs.Counts.{NeverSends, SendsOnce, LosesSend, TellsLog, CountsFailures}
use Rattle.broker_links.specs.Replies.{FitsReply, reply_frame}
use Rattle.broker_links.specs.declared.note.TryOutcome.{TryOutcome}
use Rattle.broker_links.specs.declared.note.TryOutcome.TheVariants as outcome
use Rattle.broker_links.specs.declared.reply.Reply.{Reply}
use Rattle.broker_links.specs.declared.reply.Reply.TheVariants as reply

-- ---- outcomes

-- of a reply that came
abbrev pub reply_outcome : Reply → TryOutcome
reply_outcome (reply.Block given) = outcome.Block given
reply_outcome (reply.Out said) = outcome.Out said

-- of a frame that did not pass
abbrev pub try_line_outcome : LineFault → TryOutcome
try_line_outcome (line.PeerEnded at) = outcome.PeerEnded at
try_line_outcome (line.BadFrame place) = outcome.BadFrame place
try_line_outcome line.Link = outcome.Link
try_line_outcome line.NoMemory = outcome.NoMemory

-- of a run, in which this came; one that is done has a reply
abbrev pub outcome_told : Option Reply → Outcome TryOutcome → TryOutcome
outcome_told (Some given) Done = reply_outcome given
outcome_told None Done = outcome.NoMemory
outcome_told came (Refused fault) = fault
outcome_told came (Cut fault) = try_line_outcome fault

-- ---- what a node's end does

-- the frame that it expects: none once a reply came
abbrev pub try_expects : Option Reply → Option Expect
try_expects None = Some expect.Block
try_expects (Some given) = None

-- how many frames it takes yet
abbrev pub tries_left : Option Reply → ℕ
tries_left None = 1
tries_left (Some given) = 0

-- a reply came, and nothing is said to it
pub record TakesReply (old : Option Reply) (frame : Frame) (answer : List Frame) (new : Option Reply) : Type 0 where
  pub waits : old ≡ None
  pub given : Reply
  pub is : frame ≡ reply_frame given
  pub fits : FitsReply given
  pub silent : answer ≡ []
  pub becomes : new ≡ Some given

-- it takes the reply, and refuses none
abbrev pub asks : Moves (Option Reply) TryOutcome
asks = record { expects = try_expects; lack_code = λ s. None; answers = TakesReply; refuses = λ s frame fault code t. ⊥ }

-- ---- why it ended

-- the want, and these bytes that came after it
abbrev pub asked_log : Want → List ℕ → List (Side × ℕ)
asked_log want rest = bytes_from Prover (want_frame want) ++ bytes_from Verifier rest

-- The want was sent, and bytes came of the frame that is to come, none past it; and this holds of them.
pub record StopsAsked (want : Want) (P : List ℕ → Type 0) (first now : LinkSnapshot) : Type 0 where
  pub rest : List ℕ
  pub logged : now.log ≡ asked_log want rest
  pub few : IsWithinFrame expect.Block rest
  pub cause : P rest
  pub sent : SendsOnce first now

-- nothing passed, and the send of the want was refused
pub record LosesWant (first now : LinkSnapshot) : Type 0 where
  pub none : now.log ≡ []
  pub lost : LosesSend first now

-- nothing passed, and nothing was sent
pub record IsUnasked (first now : LinkSnapshot) : Type 0 where
  pub none : now.log ≡ []
  pub unsent : NeverSends first now

-- the reply came after the want
pub record HasReply (want : Want) (given : Reply) (first now : LinkSnapshot) : Type 0 where
  pub fits : FitsReply given
  pub logged : now.log ≡ asked_log want (frame_spelling (reply_frame given))
  pub sent : SendsOnce first now

-- Why a try ended so. A reply came; the broker has ended, with bytes still wanted, when so many bytes had come; a byte at this place of
-- those that came is the first bad one; the link failed, or memory was missing, where a reply was to come or the want to be sent; or it
-- was missing before anything was sent.
abbrev pub IsTryCause : Want → LinkSnapshot → TryOutcome → LinkSnapshot → Type 0
IsTryCause want first (outcome.Block given) now = HasReply want (reply.Block given) first now
IsTryCause want first (outcome.Out said) now = HasReply want (reply.Out said) first now
IsTryCause want first (outcome.PeerEnded at) now =
    StopsAsked want (λ rest. IsCutShort expect.Block rest × (at ≡ length rest)) first now
    × IfSome now.ended (λ ended. ended ≡ true) × IfSome now.to_come (λ bytes. bytes ≡ [])
IsTryCause want first (outcome.BadFrame at) now = StopsAsked want (λ rest. IsFirstBad expect.Block rest at) first now
IsTryCause want first outcome.Link now =
    Rose first.faults now.faults × (StopsAsked want (IsCutShort expect.Block) first now ⊎ LosesWant first now)
IsTryCause want first outcome.NoMemory now =
    StopsAsked want (IsCutShort expect.Block) first now ⊎ (LosesWant first now ⊎ IsUnasked first now)

-- the link failed, or memory was missing
abbrev pub IsTryFault : TryOutcome → Type 0
IsTryFault outcome.Link = Unit {0}
IsTryFault outcome.NoMemory = Unit {0}
IsTryFault result = ⊥

-- ---- with a broker that answers

-- this is the outcome of a frame that came
abbrev pub IsOutcomeOf : Frame → TryOutcome → Type 0
IsOutcomeOf frame result = (given : Reply) × (frame ≡ reply_frame given) × (result ≡ reply_outcome given)

-- Where what came of the broker's bytes begins a frame that is allowed, the broker ended only after all of it, and no call of the link
-- failed, that frame is the outcome, unless memory was missing.
abbrev pub TryCompletes : LinkSnapshot → TryOutcome → LinkSnapshot → Type 0
TryCompletes first result now = (frame : Frame) → Allows expect.Block frame → BeginsWith (frame_spelling frame) (sent_by Verifier now.log)
    → ((at : ℕ) → result ≡ outcome.PeerEnded at → sent_by Verifier now.log ≡ frame_spelling frame) → ¬ Rose first.faults now.faults
    → IsOutcomeOf frame result ⊎ (result ≡ outcome.NoMemory)

-- ---- all together

-- a try that ended so
pub record TryLeaves (want : Want) (first : LinkSnapshot) (result : TryOutcome) (now : LinkSnapshot) : Type 0 where
  pub cause : IsTryCause want first result now
  pub told : TellsLog Prover (IsTryFault result × (now.log ≡ [])) (want_frame want) first now
  pub come : HasCome Verifier first now
  pub faults : CountsFailures (result ≡ outcome.Link) first.faults now.faults
  pub complete : TryCompletes first result now

-- A try over a link that told the first before: why it ended, and what was logged then, with how many sends; what the link tells beside
-- the log; which bytes came, by how many receives; how often the link failed; that it is ended; and that with a broker that answers
-- the reply is the outcome, unless memory was missing.
pub record IsTry (want : Want) (first : LinkState) (result : TryOutcome) (log : List (Side × ℕ)) (link : LinkState) : Type 0 where
  pub cause : IsTryCause want (snapshot Prover [] first) result (snapshot Prover log link)
  pub told : TellsLog Prover (IsTryFault result × (log ≡ [])) (want_frame want) (snapshot Prover [] first) (snapshot Prover log link)
  pub came : first.to_come ≡ put_before (sent_by Verifier log) link.to_come
  pub receives : link.receives ≤ first.receives + length (sent_by Verifier log) + 1
  pub faults : CountsFailures (result ≡ outcome.Link) first.faults link.faults
  pub ended : link.is_open ≡ false
  pub complete : TryCompletes (snapshot Prover [] first) result (snapshot Prover log link)
