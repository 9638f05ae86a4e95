-- The script of a session: the places of its frames in order, what frames that pass at them leave, how an end goes by it, and what a run
-- of such an end over a link leaves.
use Rattle.std.specs.Prelude.{◌≡◌, ◌⊎◌, ℕ, ◌+◌, ◌^◌, ◌≤◌, if◌then◌else◌, Option, Some, None, List, [], ◌∷◌, ◌++◌, flat_map, length}
use Rattle.zk_model.specs.Transcript.{Grant, bytes_from, same_side}
use Rattle.zk_model.specs.Frames.{Frame, hello, grant, asks, replies, corrections, challenge, sums, openings, verdict, refuse, poly_sums, want, block, out, frame_spelling, Allows}
use Rattle.zk_model.specs.declared.Expect.{Expect}
use Rattle.zk_model.specs.declared.Expect.TheVariants as expect
use Rattle.zk_model.specs.declared.Side.{Side}
use Rattle.zk_model.specs.declared.Side.TheVariants.{Prover, Verifier}
use Rattle.frame_link.specs.Sides.{peer_of}
use Rattle.frame_link.specs.Lines.{LinkSnapshot}
use Rattle.frame_link.specs.declared.fault.LineFault.{LineFault}
use Rattle.session_driver.specs.Runs.{Moves}
use Rattle.session_driver.specs.Leaving.{GoesWell, TriesCode, StopsShort, KeepsBack, HasCome}
use Rattle.session_driver.specs.declared.drive.Outcome.{Outcome}
use Rattle.session_driver.specs.declared.drive.Outcome.TheVariants.{Done, Refused, Cut}
use Rattle.session_script.specs.declared.after.After.{After}
use Rattle.session_script.specs.declared.after.After.TheVariants.{Behind, Nothing, Rest}
use Rattle.session_script.specs.declared.fault.EndFault.{EndFault}
use Rattle.session_script.specs.declared.fault.EndFault.TheVariants.{OfVoice, NoMemory}

-- ---- who says what

-- Who says the frame of a place. A node stands where a prover does, its broker where a verifier.
abbrev pub side_at : Expect → Side
side_at expect.Hello = Prover
side_at expect.ShortHello = Prover
side_at expect.Grant = Verifier
side_at (expect.Ask height trees left) = Prover
side_at (expect.Reply height trees left) = Verifier
side_at (expect.Corrections count) = Prover
side_at expect.Challenge = Verifier
side_at (expect.Sums sections) = Prover
side_at (expect.Openings count) = Prover
side_at expect.Verdict = Verifier
side_at (expect.PolySums count) = Prover
side_at expect.PolyVerdict = Verifier
side_at expect.Want = Prover
side_at expect.Block = Verifier

-- who says a frame
abbrev pub said_by : Frame → Side
said_by (hello said) = Prover
said_by (grant given) = Verifier
said_by (asks said) = Prover
said_by (replies said) = Verifier
said_by (corrections elements) = Prover
said_by (challenge element) = Verifier
said_by (sums both) = Prover
said_by (openings macs) = Prover
said_by (verdict code number) = Verifier
said_by (refuse code) = Verifier
said_by (poly_sums elements) = Prover
said_by (want said) = Prover
said_by (block given) = Verifier
said_by (out said) = Verifier

-- one side says all of these
abbrev pub Says : Side → List Frame → Type 0
Says side [] = Unit {0}
Says side (frame ∷ frames) = (said_by frame ≡ side) × Says side frames

-- the bytes of frames, one after another, each with the side that says it
abbrev pub log_of : List Frame → List (Side × ℕ)
log_of frames = flat_map (λ frame. bytes_from (said_by frame) (frame_spelling frame)) frames

-- ---- places

-- what a frame leaves: a grant the places of its session, a refusal none, another frame those after its own
abbrev pub after_in : Frame → After
after_in (hello said) = Rest
after_in (grant given) = Behind given
after_in (asks said) = Rest
after_in (replies said) = Rest
after_in (corrections elements) = Rest
after_in (challenge element) = Rest
after_in (sums both) = Rest
after_in (openings macs) = Rest
after_in (verdict code number) = Rest
after_in (refuse code) = Nothing
after_in (poly_sums elements) = Rest
after_in (want said) = Rest
after_in (block given) = Rest
after_in (out said) = Rest

abbrev pub left_after : (Grant → List Expect) → List Expect → After → List Expect
left_after behind rest (Behind given) = behind given
left_after behind rest Nothing = []
left_after behind rest Rest = rest

-- the next place, and whether it is one's own
abbrev pub next_of : List Expect → Option Expect
next_of [] = None
next_of (place ∷ places) = Some place

abbrev pub own_of : Side → List Expect → Option Expect
own_of side [] = None
own_of side (place ∷ places) = if same_side side (side_at place) then Some place else None

-- how many places there are at most, where a grant may leave so many
abbrev pub place_weight : Expect → ℕ
place_weight expect.Grant = 2 ^ 24 + 1
place_weight place = 1

abbrev pub weight : List Expect → ℕ
weight [] = 0
weight (place ∷ places) = place_weight place + weight places

-- and after a frame
abbrev pub weight_after : After → ℕ → ℕ
weight_after (Behind given) rest = 2 ^ 24
weight_after Nothing rest = 0
weight_after Rest rest = rest

-- Frames fill the first places, and these are left. So a session is in order as far as it went.
abbrev pub Fills : (Grant → List Expect) → List Expect → List Frame → List Expect → Type 0
Fills behind places [] left = left ≡ places
Fills behind [] (frame ∷ frames) left = ⊥
Fills behind (place ∷ places) (frame ∷ frames) left =
    Allows place frame × Fills behind (left_after behind places (after_in frame)) frames left

-- ---- what an end knows, and what it does by that

-- What an end goes by: the places of its session before all frames, and what it may know then; what it knows once a frame has passed, the peer's or its own; why it refuses
-- a frame of the peer's, and what it knows then; why it says none at a place of its own; the code of a refusal for that; and which places
-- a grant leaves.
pub record Rules (K F : Type 0) : Type 1 where
  pub places : List Expect
  pub first : K → Type 0
  pub passes : K → Frame → K → Type 0
  pub refuses : K → Frame → F → K → Type 0
  pub declines : K → Expect → F → K → Type 0
  pub code : F → ℕ
  pub behind : Grant → List Expect

-- A stage of a session: what is known of the frames so far, and the places that are left.
pub record Stage (K : Type 0) : Type 0 where
  pub known : K
  pub left : List Expect

-- by these
abbrev pub stage_of : {K : Type 0} → K → List Expect → Stage K
stage_of known left = record { known = known; left = left }

-- a frame passes at the next place
pub record Fits {K F : Type 0} (rules : Rules K F) (old : Stage K) (frame : Frame) (new : Stage K) : Type 0 where
  pub place : Expect
  pub places : List Expect
  pub next : old.left ≡ place ∷ places
  pub allowed : Allows place frame
  pub passes : rules.passes old.known frame new.known
  pub left : new.left ≡ left_after rules.behind places (after_in frame)

-- frames pass, one after another
abbrev pub Passes : {K F : Type 0} → Rules K F → Stage K → List Frame → Stage K → Type 0
Passes rules old [] new = new ≡ old
Passes {K} rules old (frame ∷ frames) new = (mid : Stage K) × Fits rules old frame mid × Passes rules mid frames new

-- some frames lead to a stage, from what may be known before all frames
pub record Reached {K F : Type 0} (rules : Rules K F) (stage : Stage K) : Type 0 where
  pub start : K
  pub begins : rules.first start
  pub frames : List Frame
  pub passed : Passes rules (stage_of start rules.places) frames stage

-- ---- an end that goes by a script

-- A frame of the peer's passes, and then own ones, up to the peer's next place.
pub record AnswersBy {K F : Type 0} (side : Side) (rules : Rules K F) (old : Stage K) (frame : Frame) (answer : List Frame) (new : Stage K)
    : Type 0 where
  pub passes : Passes rules old (frame ∷ answer) new
  pub own : Says side answer
  pub waits : own_of side new.left ≡ None

-- Here it stops for this: it says no frame at its own place, or memory is missing.
abbrev pub FailsThere : {K F : Type 0} → Side → Rules K F → Stage K → EndFault F → K → Type 0
FailsThere side rules stage (OfVoice fault) known =
    (place : Expect) × (own_of side stage.left ≡ Some place) × rules.declines stage.known place fault known
FailsThere side rules stage NoMemory known = known ≡ stage.known

-- these frames pass, and then it stops
pub record AnswerFails {K F : Type 0} (side : Side) (rules : Rules K F) (old : Stage K) (frames : List Frame) (fault : EndFault F) (known : K)
    : Type 0 where
  pub stage : Stage K
  pub passes : Passes rules old frames stage
  pub fails : FailsThere side rules stage fault known

-- A frame of the peer's is refused; or it passes, and own ones behind it, and then the end stops.
abbrev pub TurnsDown : {K F : Type 0} → Side → Rules K F → Stage K → Frame → EndFault F → K → Type 0
TurnsDown {K} {F} side rules old frame fault known =
    ((cause : F) × (fault ≡ OfVoice cause) × rules.refuses old.known frame cause known)
    ⊎ ((said : List Frame) × Says side said × AnswerFails side rules old (frame ∷ said) fault known)

-- only a hello may be answered by a refusal
abbrev pub refusal_at : List Expect → ℕ → Option ℕ
refusal_at [] code = None
refusal_at (expect.Hello ∷ places) code = Some code
refusal_at (expect.ShortHello ∷ places) code = Some code
refusal_at (place ∷ places) code = None

-- that for missing memory has code 4
abbrev pub code_for : {K F : Type 0} → Rules K F → EndFault F → ℕ
code_for rules (OfVoice fault) = rules.code fault
code_for rules NoMemory = 4

-- as a driver sees it
abbrev pub scripted : {S T K F : Type 0} → Side → (T → Rules K F) → (S → T) → (S → Stage K) → Moves S (EndFault F)
scripted side rules task stage = record {
  expects = λ s. next_of (stage s).left;
  lack_code = λ s. refusal_at (stage s).left 4;
  answers = λ s frame answer t. AnswersBy side (rules (task s)) (stage s) frame answer (stage t) × (task t ≡ task s);
  refuses = λ s frame fault code t.
      TurnsDown side (rules (task s)) (stage s) frame fault (stage t).known
      × (code ≡ refusal_at (stage s).left (code_for (rules (task s)) fault))
      × (task t ≡ task s);
}

-- ---- what a run leaves

module _ {K F : Type 0} (rules : Rules K F) (side : Side) (log : List (Side × ℕ)) (stage : Stage K) (known : K) where
  -- no place is left
  pub record IsOver (first now : LinkSnapshot) : Type 0 where
    pub same : known ≡ stage.known
    pub none : stage.left ≡ []
    pub well : GoesWell side log first now

  -- a frame came, and was refused or not answered; a refusal was tried, if it has a code
  pub record Refuses (fault : EndFault F) (first now : LinkSnapshot) : Type 0 where
    pub place : Expect
    pub next : next_of stage.left ≡ Some place
    pub frame : Frame
    pub allowed : Allows place frame
    pub refused : TurnsDown side rules stage frame fault known
    pub tried : TriesCode side (log ++ bytes_from (peer_of side) (frame_spelling frame)) (refusal_at stage.left (code_for rules fault)) first now

  -- the frame of the next place did not come, but these bytes of it
  pub record LacksFrame (fault : LineFault) (first now : LinkSnapshot) : Type 0 where
    pub same : known ≡ stage.known
    pub place : Expect
    pub next : next_of stage.left ≡ Some place
    pub rest : List ℕ
    pub short : StopsShort side (log ++ bytes_from (peer_of side) rest) place rest fault first now

  -- a frame came and was answered, but the answer was not sent
  pub record KeepsAnswer (fault : LineFault) (first now : LinkSnapshot) : Type 0 where
    pub frame : Frame
    pub answer : List Frame
    pub some : 1 ≤ length answer
    pub after : Stage K
    pub answered : AnswersBy side rules stage frame answer after
    pub same : known ≡ after.known
    pub kept : KeepsBack (refusal_at stage.left 4) side (log ++ bytes_from (peer_of side) (frame_spelling frame))
        (flat_map frame_spelling answer) fault first now

  -- the greeting was not sent
  pub record KeepsGreeting (greeting frames : List Frame) (fault : LineFault) (first now : LinkSnapshot) : Type 0 where
    pub same : known ≡ stage.known
    pub none : frames ≡ []
    pub some : 1 ≤ length greeting
    pub kept : KeepsBack None side [] (flat_map frame_spelling greeting) fault first now

-- after a greeting and these frames, of which all passed
abbrev pub StopsAt : {K F : Type 0} → Rules K F → Side → List Frame → List Frame → Stage K → K → Outcome (EndFault F) → LinkSnapshot → LinkSnapshot → Type 0
StopsAt rules side greeting frames stage known Done first now = IsOver rules side (log_of (greeting ++ frames)) stage known first now
StopsAt rules side greeting frames stage known (Refused fault) first now =
    Refuses rules side (log_of (greeting ++ frames)) stage known fault first now
StopsAt rules side greeting frames stage known (Cut fault) first now =
    LacksFrame rules side (log_of (greeting ++ frames)) stage known fault first now
    ⊎ KeepsAnswer rules side (log_of (greeting ++ frames)) stage known fault first now
    ⊎ KeepsGreeting rules side (log_of (greeting ++ frames)) stage known greeting frames fault first now

-- What a run of an end leaves: after its greeting these frames passed, the peer's and its own, from a first stage on; then it stopped so;
-- and what came is what the link no longer has to come.
pub record ScriptLeaves {K F : Type 0} (rules : Rules K F) (side : Side) (greeting : List Frame) (old : Stage K) (known : K)
    (outcome : Outcome (EndFault F)) (first now : LinkSnapshot) : Type 0 where
  pub frames : List Frame
  pub stage : Stage K
  pub passed : Passes rules old frames stage
  pub waits : own_of side stage.left ≡ None
  pub stops : StopsAt rules side greeting frames stage known outcome first now
  pub come : HasCome (peer_of side) first now

-- A log of whole frames that fill a script, of which the last is an acceptance.
pub record EndsAccepted (behind : Grant → List Expect) (places : List Expect) (log : List (Side × ℕ)) : Type 0 where
  pub frames : List Frame
  pub number : ℕ
  pub fills : Fills behind places (frames ++ verdict 0 number ∷ []) []
  pub logged : log ≡ log_of (frames ++ verdict 0 number ∷ [])

-- The session is over, and the verdict that was said last accepts.
pub record EndsSo {K F : Type 0} (rules : Rules K F) (outcome : Outcome (EndFault F)) (known : K) : Type 0 where
  pub over : outcome ≡ Done
  pub stage : Stage K
  pub number : ℕ
  pub said : rules.passes stage.known (verdict 0 number) known
