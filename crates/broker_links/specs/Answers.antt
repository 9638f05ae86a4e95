-- What a broker's exchange with a node leaves.
use Rattle.std.specs.Prelude.{◌≡◌, ◌⊎◌, ℕ, ◌+◌, ◌≤◌, List, [], ◌∷◌, ◌++◌, length, true, false, Option, Some, None, IfSome, Result, Ok, Err}
use Rattle.zk_model.specs.Frames.{Frame, IsFirstBad, frame_spelling, want}
use Rattle.zk_model.specs.Messages.{FitsWant, want_frame}
use Rattle.zk_model.specs.Transcript.{BeginsWith, bytes_from, sent_by}
use Rattle.zk_model.specs.declared.Expect.{Expect}
use Rattle.zk_model.specs.declared.Expect.TheVariants as expect
use Rattle.zk_model.specs.declared.Side.{Side}
use Rattle.zk_model.specs.declared.Side.TheVariants.{Prover, Verifier}
use Rattle.zk_model.specs.declared.messages.Want.{Want}
use Rattle.zk_port.specs.Counts.{Rose}
use Rattle.zk_port.specs.Links.{LinkState}
use Rattle.zk_port.specs.Logs.{put_before}
use Rattle.frame_link.specs.Lines.{LinkSnapshot, IsCutShort, IsWithinFrame, snapshot}
use Rattle.frame_link.specs.declared.fault.LineFault.{LineFault}
use Rattle.frame_link.specs.declared.fault.LineFault.TheVariants as line
use Rattle.session_driver.specs.Leaving.{HasCome}
use Rattle.session_driver.specs.Runs.{Moves}
use Rattle.session_driver.specs.declared.drive.Outcome.{Outcome}
use Rattle.session_driver.specs.declared.drive.Outcome.TheVariants as run
use Rattle.broker_links.specs.Counts.{NeverSends, SendsOnce, LosesSend, TellsLog, CountsFailures}
use Rattle.broker_links.specs.Replies.{FitsReply, reply_frame}
use Rattle.broker_links.specs.declared.note.BrokerOutcome.{BrokerOutcome}
use Rattle.broker_links.specs.declared.note.BrokerOutcome.TheVariants.{Answered, PeerEnded, BadFrame, Link, NoMemory, Refused}
use Rattle.broker_links.specs.declared.reply.Reply.{Reply}

-- ---- who answers

-- what an answerer tells of itself: the want that it was asked for, what it answered, whether it may be asked, and what it becomes
pub record AnswererTells (O F : Type 0) : Type 1 where
  pub asked : O → Option Want
  pub answer : O → Option (Result Reply F)
  pub may : O → Want → Type 0
  pub moves : O → Want → Result Reply F → O → Type 0

-- by these
abbrev pub answerer_tells : {O F : Type 0} → (O → Option Want) → (O → Option (Result Reply F)) → (O → Want → Type 0)
    → (O → Want → Result Reply F → O → Type 0) → AnswererTells O F
answerer_tells asked answer may moves = record { asked = asked; answer = answer; may = may; moves = moves }

-- what was asked for, and what was answered
pub record Asked (F : Type 0) : Type 0 where
  pub want : Option Want
  pub answer : Option (Result Reply F)

abbrev pub told_asked : {O F : Type 0} → AnswererTells O F → O → Asked F
told_asked tells answerer = record { want = tells.asked answerer; answer = tells.answer answerer }

-- it was asked for this want, and answered so
pub record AnswersSo {O F : Type 0} (tells : AnswererTells O F) (said : Want) (answer : Result Reply F) (old new : O) : Type 0 where
  pub asked : tells.asked new ≡ Some said
  pub answered : tells.answer new ≡ Some answer
  pub moved : tells.moves old said answer new

-- ---- outcomes

-- of a frame that did not pass
abbrev pub broker_line_outcome : {F : Type 0} → LineFault → BrokerOutcome F
broker_line_outcome (line.PeerEnded at) = PeerEnded at
broker_line_outcome (line.BadFrame place) = BadFrame place
broker_line_outcome line.Link = Link
broker_line_outcome line.NoMemory = NoMemory

-- of a run, in which this was answered; one that is done has an answer
abbrev pub broker_told : {F : Type 0} → Option (Want × Reply) → Outcome (BrokerOutcome F) → BrokerOutcome F
broker_told (Some both) run.Done = Answered both.0 both.1
broker_told None run.Done = NoMemory
broker_told answered (run.Refused fault) = fault
broker_told answered (run.Cut fault) = broker_line_outcome fault

-- ---- what a broker's end does

-- the want that was answered and its reply, once one was; and who answers
pub record Brokering (O : Type 0) : Type 0 where
  pub answered : Option (Want × Reply)
  pub answerer : O

-- by these
abbrev pub brokering : {O : Type 0} → Option (Want × Reply) → O → Brokering O
brokering answered answerer = record { answered = answered; answerer = answerer }

-- the frame that it expects: none once a want is answered
abbrev pub want_expects : Option (Want × Reply) → Option Expect
want_expects None = Some expect.Want
want_expects (Some both) = None

-- how many frames it takes yet
abbrev pub wants_left : Option (Want × Reply) → ℕ
wants_left None = 1
wants_left (Some both) = 0

-- a want came where one is expected
pub record TakesWant {O : Type 0} (old : Brokering O) (frame : Frame) : Type 0 where
  pub waits : old.answered ≡ None
  pub said : Want
  pub is : frame ≡ want said
  pub fits : FitsWant said

-- and is answered
pub record AnswersWant {O F : Type 0} (tells : AnswererTells O F) (old : Brokering O) (frame : Frame) (answer : List Frame) (new : Brokering O) : Type 0 where
  pub takes : TakesWant old frame
  pub given : Reply
  pub fits : FitsReply given
  pub answers : AnswersSo tells takes.said (Ok given) old.answerer new.answerer
  pub sent : answer ≡ reply_frame given ∷ []
  pub becomes : new.answered ≡ Some (takes.said, given)

-- and is not answered
pub record RefusesWant {O F : Type 0} (tells : AnswererTells O F) (old : Brokering O) (frame : Frame) (outcome : BrokerOutcome F) (new : Brokering O) : Type 0 where
  pub takes : TakesWant old frame
  pub fault : F
  pub answers : AnswersSo tells takes.said (Err fault) old.answerer new.answerer
  pub outcome_is : outcome ≡ Refused fault

-- and no answerer was asked, since memory was missing
pub record LacksRoom {O F : Type 0} (old : Brokering O) (frame : Frame) (outcome : BrokerOutcome F) (new : Brokering O) : Type 0 where
  pub takes : TakesWant old frame
  pub answerer : new.answerer ≡ old.answerer
  pub outcome_is : outcome ≡ NoMemory

-- it has the want answered, and sends no refusals
abbrev pub answers_wants : {O F : Type 0} → AnswererTells O F → Moves (Brokering O) (BrokerOutcome F)
answers_wants tells = record {
  expects = λ s. want_expects s.answered;
  lack_code = λ s. None;
  answers = AnswersWant tells;
  refuses = λ s frame outcome code t. (code ≡ None) × (RefusesWant tells s frame outcome t ⊎ LacksRoom s frame outcome t);
}

-- an answerer that was not asked may be asked for any want
pub record IsReady {O F : Type 0} (tells : AnswererTells O F) (answerer : O) : Type 0 where
  pub once : tells.answer answerer ≡ None
  pub may : (said : Want) → FitsWant said → tells.may answerer said

-- what holds between its steps
abbrev pub MayAnswer : {O F : Type 0} → AnswererTells O F → Option (Want × Reply) → O → Type 0
MayAnswer tells answered answerer = answered ≡ None → IsReady tells answerer

-- ---- why it ended

-- No want came, but bytes of one, none past it; nobody was asked, and nothing sent; and this holds of the bytes.
pub record StopsUnasked {F : Type 0} (asked : Asked F) (P : List ℕ → Type 0) (first now : LinkSnapshot) : Type 0 where
  pub unasked : asked.answer ≡ None
  pub rest : List ℕ
  pub logged : now.log ≡ bytes_from Prover rest
  pub few : IsWithinFrame expect.Want rest
  pub cause : P rest
  pub unsent : NeverSends first now

-- a want came, and the answerer was asked for it, and answered so
pub record IsAnsweredSo {F : Type 0} (asked : Asked F) (said : Want) (answer : Result Reply F) : Type 0 where
  pub fits : FitsWant said
  pub asked_is : asked.want ≡ Some said
  pub answer_is : asked.answer ≡ Some answer

-- and the reply was sent
pub record HasAnswered {F : Type 0} (asked : Asked F) (said : Want) (given : Reply) (first now : LinkSnapshot) : Type 0 where
  pub answered : IsAnsweredSo asked said (Ok given)
  pub fits : FitsReply given
  pub logged : now.log ≡ bytes_from Prover (want_frame said) ++ bytes_from Verifier (frame_spelling (reply_frame given))
  pub sent : SendsOnce first now

-- or it was not: no more than the want is logged, and this holds of what was sent
pub record KeepsReply {F : Type 0} (asked : Asked F) (P : LinkSnapshot → LinkSnapshot → Type 0) (first now : LinkSnapshot) : Type 0 where
  pub said : Want
  pub given : Reply
  pub answered : IsAnsweredSo asked said (Ok given)
  pub logged : now.log ≡ bytes_from Prover (want_frame said)
  pub sent : P first now

-- a want came, and the answerer did not answer it
pub record IsRefused {F : Type 0} (asked : Asked F) (fault : F) (first now : LinkSnapshot) : Type 0 where
  pub said : Want
  pub answered : IsAnsweredSo asked said (Err fault)
  pub logged : now.log ≡ bytes_from Prover (want_frame said)
  pub unsent : NeverSends first now

-- a want came, and the answerer was not asked
pub record LeavesWant {F : Type 0} (asked : Asked F) (first now : LinkSnapshot) : Type 0 where
  pub unasked : asked.answer ≡ None
  pub said : Want
  pub fits : FitsWant said
  pub logged : now.log ≡ bytes_from Prover (want_frame said)
  pub unsent : NeverSends first now

-- Why an exchange ended so. The want was answered, and the reply sent; the node has ended, with bytes still wanted, when so many bytes
-- had come; a byte at this place is the first bad one; the link failed, where the want was to come or the reply to be sent; memory was
-- missing there, or before the answerer was asked, or for the reply; or the answerer refused.
abbrev pub IsBrokerCause : {F : Type 0} → Asked F → LinkSnapshot → BrokerOutcome F → LinkSnapshot → Type 0
IsBrokerCause asked first (Answered said given) now = HasAnswered asked said given first now
IsBrokerCause asked first (PeerEnded at) now =
    StopsUnasked asked (λ rest. IsCutShort expect.Want rest × (at ≡ length rest)) first now
    × IfSome now.ended (λ ended. ended ≡ true) × IfSome now.to_come (λ bytes. bytes ≡ [])
IsBrokerCause asked first (BadFrame at) now = StopsUnasked asked (λ rest. IsFirstBad expect.Want rest at) first now
IsBrokerCause asked first Link now =
    Rose first.faults now.faults × (StopsUnasked asked (IsCutShort expect.Want) first now ⊎ KeepsReply asked LosesSend first now)
IsBrokerCause asked first NoMemory now =
    StopsUnasked asked (IsCutShort expect.Want) first now ⊎ (LeavesWant asked first now
    ⊎ (KeepsReply asked NeverSends first now ⊎ KeepsReply asked LosesSend first now))
IsBrokerCause asked first (Refused fault) now = IsRefused asked fault first now

-- the link failed, or memory was missing
abbrev pub IsBrokerFault : {F : Type 0} → BrokerOutcome F → Type 0
IsBrokerFault Link = Unit {0}
IsBrokerFault NoMemory = Unit {0}
IsBrokerFault outcome = ⊥

-- the bytes of the reply, if there is one
abbrev pub replied : {F : Type 0} → Option (Result Reply F) → List ℕ
replied None = []
replied (Some (Ok given)) = frame_spelling (reply_frame given)
replied (Some (Err fault)) = []

-- ---- with a node that asks

-- Where what came of the node's bytes begins a want that fits, the node ended only after all of it, the answerer did not refuse, and no
-- call of the link failed, the want is answered, unless memory was missing.
abbrev pub BrokerCompletes : {F : Type 0} → Asked F → LinkSnapshot → BrokerOutcome F → LinkSnapshot → Type 0
BrokerCompletes {F} asked first outcome now = (said : Want) → FitsWant said → BeginsWith (want_frame said) (sent_by Prover now.log)
    → ((at : ℕ) → outcome ≡ PeerEnded at → sent_by Prover now.log ≡ want_frame said)
    → ((fault : F) → asked.answer ≡ Some (Err fault) → ⊥) → ¬ Rose first.faults now.faults
    → ((given : Reply) × (outcome ≡ Answered said given)) ⊎ (outcome ≡ NoMemory)

-- ---- all together

-- an exchange that ended so
pub record BrokerLeaves {F : Type 0} (asked : Asked F) (first : LinkSnapshot) (outcome : BrokerOutcome F) (now : LinkSnapshot) : Type 0 where
  pub cause : IsBrokerCause asked first outcome now
  pub told : TellsLog Verifier (IsBrokerFault outcome × (sent_by Verifier now.log ≡ [])) (replied asked.answer) first now
  pub come : HasCome Prover first now
  pub faults : CountsFailures (outcome ≡ Link) first.faults now.faults
  pub complete : BrokerCompletes asked first outcome now

-- An exchange over a link that told the first before, in which that was asked and answered: why it ended, and what was logged then, with
-- how many sends; what the link tells beside the log; which bytes came, by how many receives; how often the link failed; that it is
-- ended; and that with a node that asks the want is answered, unless memory was missing.
pub record IsBrokerNote {F : Type 0} (asked : Asked F) (first : LinkState) (outcome : BrokerOutcome F) (log : List (Side × ℕ)) (link : LinkState) : Type 0 where
  pub cause : IsBrokerCause asked (snapshot Verifier [] first) outcome (snapshot Verifier log link)
  pub told : TellsLog Verifier (IsBrokerFault outcome × (sent_by Verifier log ≡ [])) (replied asked.answer)
      (snapshot Verifier [] first) (snapshot Verifier log link)
  pub came : first.to_come ≡ put_before (sent_by Prover log) link.to_come
  pub receives : link.receives ≤ first.receives + length (sent_by Prover log) + 1
  pub faults : CountsFailures (outcome ≡ Link) first.faults link.faults
  pub ended : link.is_open ≡ false
  pub complete : BrokerCompletes asked (snapshot Verifier [] first) outcome (snapshot Verifier log link)
