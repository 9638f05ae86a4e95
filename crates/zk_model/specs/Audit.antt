-- What the log of a session proves to one who has both dealt files. A log is bytes here, without their sides: it is read frame by
-- frame, and each frame is judged by the files, the statement and the frames before it.
use Rattle.std.specs.Prelude.{◌≡◌, ◌≢◌, ◌⊎◌, ℕ, ◌+◌, ◌-◌, ◌<◌, Option, Some, None, List, [], ◌∷◌, ◌++◌, map, flat_map, take, length, slice_get}
use Rattle.std.specs.List.{range_with_len}
use Rattle.zk_model.specs.Program.{Program, section_count}
use Rattle.zk_model.specs.Statement.{Statement}
use Rattle.zk_model.specs.Files.{ProverFile, rounds_of}
use Rattle.zk_model.specs.Transcript.{Hello, Grant, TreeAsk, TreeReply, Round, Setup, Transcript, IsHelloFor, IsGrant, BeginsWith, spelling}
use Rattle.zk_model.specs.Frames.{Frame, hello, grant, asks, replies, corrections, challenge, sums, openings, verdict, refuse, poly_sums, want, block, out, frame_spelling, Allows, IsWhole, CanGoOn, IsFirstBad}
use Rattle.zk_model.specs.Replies.{unit_reply}
use Rattle.zk_model.specs.View.{IsVerdict}
use Rattle.zk_model.specs.ServedVerifier.{VerifierTask, challenge_coin, IsServed}
use Rattle.zk_model.specs.Finding.{Finding, IsFinding}
use Rattle.zk_model.specs.Headline.{SaysInputs}
use Rattle.zk_model.specs.declared.Expect.{Expect}
use Rattle.zk_model.specs.declared.Expect.TheVariants as expect
use Rattle.zk_model.specs.declared.Params.{Params}
use Rattle.zk_model.specs.declared.Side.{Side}
use Rattle.zk_model.specs.declared.StatementKind.{StatementKind}
use Rattle.zk_model.specs.declared.StatementKind.TheVariants.{Boolean, Arithmetic}
use Rattle.zk_model.specs.declared.Verdict.{Verdict}
use Rattle.zk_model.specs.declared.Verdict.TheVariants.{Accepted}

-- ---- a session as frames

-- all asks of a round, unit by unit, and then all replies
abbrev pub round_frames : Round → List Frame
round_frames round = map asks round.asks ++ map replies round.replies

-- the hello, the grant, and the rounds
abbrev pub setup_frames : Setup → List Frame
setup_frames setup = hello setup.hello ∷ grant setup.grant ∷ flat_map round_frames setup.rounds

-- all frames of a session, in order
abbrev pub session_frames : Transcript → List Frame
session_frames t =
    setup_frames t.commitment.setup
    ++ corrections t.commitment.corrections
    ∷ challenge t.challenge
    ∷ sums t.sums
    ∷ openings t.openings
    ∷ verdict t.code t.number
    ∷ []

-- the bytes of frames, one after another
abbrev pub frames_spelling : List Frame → List ℕ
frames_spelling frames = flat_map frame_spelling frames

-- the bytes of a log, whoever sent them
abbrev pub bytes_in : List (Side × ℕ) → List ℕ
bytes_in log = map (λ entry. entry.1) log

-- ---- the places of frames

-- the places of a round: an ask for each unit of the grant, and then a reply for each
abbrev pub round_places : Params → Grant → List Expect
round_places params given =
    map (λ i. expect.Ask params.height params.trees (given.count - i)) (range_with_len 0 given.count)
    ++ map (λ i. expect.Reply params.height params.trees (given.count - i)) (range_with_len 0 given.count)

-- the places of a session behind its grant
abbrev pub places_behind : Params → Program → Grant → List Expect
places_behind params program given =
    flat_map (λ n. round_places params given) (range_with_len 0 (rounds_of params.kind))
    ++ expect.Corrections program.givens
    ∷ expect.Challenge
    ∷ expect.Sums (section_count program given.section_length)
    ∷ expect.Openings (length program.opened)
    ∷ expect.Verdict
    ∷ []

-- the place of a hello: about a Boolean circuit it may be of either form
abbrev pub hello_place : StatementKind → Expect
hello_place Boolean = expect.Hello
hello_place Arithmetic = expect.ShortHello

-- The place of the next frame: of a hello, of a grant, and then those that the grant leaves. There is none after a verdict, nor
-- after a refusal.
abbrev pub place_after : Params → Statement → List Frame → Option Expect
place_after params statement [] = Some (hello_place statement.kind)
place_after params statement (first ∷ []) = Some expect.Grant
place_after params statement (first ∷ grant given ∷ behind) =
    slice_get (places_behind params statement.program given) (length behind)
place_after params statement (first ∷ other ∷ behind) = None

-- ---- what frames are given

-- frames that begin with a hello and this grant
pub record IsGranted (frames : List Frame) (given : Grant) (behind : List Frame) : Type 0 where
  pub greeting : Hello
  pub begun : frames ≡ hello greeting ∷ grant given ∷ behind

-- The replies are those of the verifier's file to the ask of the same unit, which stands as many frames before as the grant has
-- units.
pub record IsReplyAfter (task : VerifierTask) (before : List Frame) (said : List TreeReply) : Type 0 where
  pub given : Grant
  pub behind : List Frame
  pub granted : IsGranted before given behind
  pub unit : ℕ
  pub counted : length behind ≡ given.count + unit
  pub asked : List TreeAsk
  pub stands : slice_get behind unit ≡ Some (asks asked)
  pub replied : said ≡ unit_reply task.file (given.start + unit) asked

-- the challenge is the coin of the grant's first unit
pub record IsCoinAfter (task : VerifierTask) (before : List Frame) (element : ℕ) : Type 0 where
  pub given : Grant
  pub behind : List Frame
  pub granted : IsGranted before given behind
  pub coin : element ≡ challenge_coin task.file given.start

-- the verdict is that of the checks of the session whose frames these are
pub record IsVerdictAfter (task : VerifierTask) (before : List Frame) (code number : ℕ) : Type 0 where
  pub t : Transcript
  pub frames : session_frames t ≡ before ++ verdict code number ∷ []
  pub verdict : Verdict
  pub judged : IsVerdict task.file task.statement t verdict

-- What the files, the statement and the earlier frames give: a hello for the statement, a grant of as many units as it takes, the
-- verifier's replies, its coin and its verdict. What the prover chooses may be anything, and so may a refusal. What
-- nodes and a broker send is of no session, and sums of constraints are of none about a circuit.
abbrev pub IsGiven : VerifierTask → List Frame → Frame → Type 0
IsGiven task before (hello said) = IsHelloFor task.file.id task.statement said
IsGiven task before (grant given) = IsGrant task.file.params task.statement.program given
IsGiven task before (asks said) = Unit {0}
IsGiven task before (replies said) = IsReplyAfter task before said
IsGiven task before (corrections elements) = Unit {0}
IsGiven task before (challenge element) = IsCoinAfter task before element
IsGiven task before (sums both) = Unit {0}
IsGiven task before (openings macs) = Unit {0}
IsGiven task before (verdict code number) = IsVerdictAfter task before code number
IsGiven task before (refuse code) = Unit {0}
IsGiven task before (poly_sums elements) = ⊥
IsGiven task before (want said) = ⊥
IsGiven task before (block given) = ⊥
IsGiven task before (out said) = ⊥

-- a frame may stand at its place
pub record IsPlaced
    (task : VerifierTask)
    (before : List Frame)
    (place : Expect)
    (frame : Frame) : Type 0 where
  pub place_is : place_after task.file.params task.statement before ≡ Some place
  pub allowed : Allows place frame

-- a frame stands at its place, and is given
pub record IsRight (task : VerifierTask) (before : List Frame) (frame : Frame) : Type 0 where
  pub place : Expect
  pub placed : IsPlaced task before place frame
  pub given : IsGiven task before frame

-- each frame is right, by those before it
abbrev pub AreFaultless : VerifierTask → List Frame → Type 0
AreFaultless task frames = (before : List Frame) (frame : Frame) (behind : List Frame)
    → frames ≡ before ++ frame ∷ behind → IsRight task before frame

-- the bytes are those of faultless frames and a rest
pub record IsReadAs (task : VerifierTask) (log : List ℕ) (frames : List Frame) (rest : List ℕ) : Type 0 where
  pub faultless : AreFaultless task frames
  pub bytes : log ≡ frames_spelling frames ++ rest

-- ---- faults

-- Of the bytes at a place, the one at n is the first after which no frame can follow that the place allows; before it none is
-- whole.
pub record IsBadByte (place : Expect) (rest : List ℕ) (n : ℕ) : Type 0 where
  pub first : IsFirstBad place rest n
  pub unfinished : (frame : Frame) → ¬ IsWhole place (take n rest) frame

-- a bad byte at the place after some frames; where none is left, each byte is one
abbrev pub IsBadAt : Option Expect → List ℕ → ℕ → Type 0
IsBadAt None rest n = (n ≡ 0) × (0 < length rest)
IsBadAt (Some place) rest n = IsBadByte place rest n

-- the byte at n is the last one of a frame that the place allows, and that is not given
pub record IsWrongAt (task : VerifierTask) (before : List Frame) (rest : List ℕ) (n : ℕ) : Type 0 where
  pub place : Expect
  pub frame : Frame
  pub placed : IsPlaced task before place frame
  pub wrong : ¬ IsGiven task before frame
  pub spelled : BeginsWith rest (frame_spelling frame)
  pub last : n + 1 ≡ length (frame_spelling frame)

-- The log has a fault at this byte, counted from its first: after faultless frames a bad byte, or the last byte of a wrong frame.
pub record HasFaultAt (task : VerifierTask) (log : List ℕ) (place : ℕ) : Type 0 where
  pub frames : List Frame
  pub rest : List ℕ
  pub read : IsReadAs task log frames rest
  pub n : ℕ
  pub fault : IsBadAt (place_after task.file.params task.statement frames) rest n
      ⊎ IsWrongAt task frames rest n
  pub at : place ≡ length (frames_spelling frames) + n

-- ---- sessions that are not accepted

-- the log ends early: faultless frames, and then nothing, or bytes that begin a frame which may follow and is not whole
pub record EndsEarly (task : VerifierTask) (log : List ℕ) : Type 0 where
  pub frames : List Frame
  pub rest : List ℕ
  pub read : IsReadAs task log frames rest
  pub place : Expect
  pub place_is : place_after task.file.params task.statement frames ≡ Some place
  pub begun : CanGoOn place rest
  pub unfinished : (frame : Frame) → ¬ IsWhole place rest frame

-- a refusal, or a verdict that rejects
abbrev pub Declines : Frame → Type 0
Declines (hello said) = ⊥
Declines (grant given) = ⊥
Declines (asks said) = ⊥
Declines (replies said) = ⊥
Declines (corrections elements) = ⊥
Declines (challenge element) = ⊥
Declines (sums both) = ⊥
Declines (openings macs) = ⊥
Declines (verdict code number) = code ≢ 0
Declines (refuse code) = Unit {0}
Declines (poly_sums elements) = ⊥
Declines (want said) = ⊥
Declines (block given) = ⊥
Declines (out said) = ⊥

-- the log is that of faultless frames, of which the last declines
pub record EndsDeclined (task : VerifierTask) (log : List ℕ) : Type 0 where
  pub before : List Frame
  pub last : Frame
  pub read : IsReadAs task log (before ++ last ∷ []) []
  pub declined : Declines last

-- no session was accepted, and nothing is wrong with the log
abbrev pub IsNotAccepted : VerifierTask → List ℕ → Type 0
IsNotAccepted task log = EndsEarly task log ⊎ EndsDeclined task log

-- ---- accepted sessions

-- the bytes are those of a whole session that the verifier leads and accepts
pub record IsAcceptedLog (task : VerifierTask) (log : List ℕ) (t : Transcript) : Type 0 where
  pub served : IsServed task t Accepted (spelling t)
  pub bytes : log ≡ bytes_in (spelling t)

-- The log is that of an accepted session, and this its finding, with what that says of inputs.
pub record IsFoundIn
    (Satisfy : List ℕ → Type 0)
    (prover : ProverFile)
    (task : VerifierTask)
    (log : List ℕ)
    (finding : Finding) : Type 0 where
  pub t : Transcript
  pub accepted : IsAcceptedLog task log t
  pub found : IsFinding prover task.statement t finding
  pub says : SaysInputs Satisfy task.file.key task.statement t finding
