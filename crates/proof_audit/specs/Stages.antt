-- What is known of a session whose log is being read.
use Rattle.std.specs.Prelude.{◌≡◌, ℕ, ◌-◌, ◌*◌, ◌<◌, Option, Some, None, List, [], ◌∷◌, ◌++◌, map, take, length, All}
use Rattle.zk_model.specs.Field.{IsElement}
use Rattle.zk_model.specs.Program.{section_count}
use Rattle.zk_model.specs.Files.{VerifierFile, correlations_per_unit}
use Rattle.zk_model.specs.Correlations.{span_keys}
use Rattle.zk_model.specs.Transcript.{Hello, Grant, TreeAsk, TreeReply, Round, Setup, Commitment, Transcript, IsHello, IsHelloFor, IsGrant, IsSetup, spelling}
use Rattle.zk_model.specs.Frames.{Frame, hello, grant, asks, replies, corrections, challenge, sums, openings, AreAsks, AreElements, AreSums}
use Rattle.zk_model.specs.View.{span_of}
use Rattle.zk_model.specs.ServedVerifier.{VerifierTask, challenge_coin, RepliesAre, IsServed}
use Rattle.zk_model.specs.Audit.{setup_frames, session_frames, hello_place, place_after, IsGiven, Declines}
use Rattle.zk_model.specs.declared.Expect.{Expect}
use Rattle.zk_model.specs.declared.Expect.TheVariants as expect
use Rattle.zk_model.specs.declared.Kind.{Kind}
use Rattle.zk_model.specs.declared.Kind.TheVariants.{Direct, Extended}
use Rattle.zk_model.specs.declared.Verdict.TheVariants.{Accepted}
use Rattle.proof_frames.specs.declared.frame.Frame as coded
use Rattle.session_core.specs.Extending.{asks_of, replies_of}
use Rattle.proof_audit.specs.declared.session.Session.{Session}
use Rattle.proof_audit.specs.declared.session.Stage.{Stage}
use Rattle.proof_audit.specs.declared.session.Stage.TheVariants as at

-- a session of which nothing has been read behind this grant
pub record IsNew (given : Grant) (s : Session) : Type 0 where
  pub grant : s.grant ≡ given
  pub asked : s.asked.items ≡ []
  pub replied : s.replied.items ≡ []

-- the same session with the asks for one unit more
pub record HasAskMore (old : Session) (frame : coded.Frame) (new : Session) : Type 0 where
  pub grant : new.grant ≡ old.grant
  pub asked : new.asked.items ≡ old.asked.items ++ frame ∷ []

-- ---- the parts of a transcript that have been read

-- the rounds, none in kind direct
abbrev pub rounds_read : Kind → List (List TreeAsk) → List (List TreeReply) → List Round
rounds_read Direct asked replied = []
rounds_read Extended asked replied = record { asks = asked; replies = replied } ∷ []

abbrev pub setup_read : VerifierTask → Hello → Session → Setup
setup_read task greeting s = record {
  hello = greeting;
  grant = s.grant;
  rounds = rounds_read task.file.params.kind (asks_of s.asked.items) (replies_of s.replied.items);
}

abbrev pub commitment_read : VerifierTask → Hello → Session → Commitment
commitment_read task greeting s =
    record { setup = setup_read task greeting s; corrections = s.corrections.items }

-- all of it, with a verdict
abbrev pub transcript_read : VerifierTask → Hello → Session → ℕ → ℕ → Transcript
transcript_read task greeting s code number = record {
  commitment = commitment_read task greeting s;
  challenge = s.challenge;
  sums = s.sums.items;
  openings = s.openings.items;
  code = code;
  number = number;
}

-- ---- what holds of them

-- the verifier's keys that a round makes are kept; in kind direct they are dealt
abbrev pub HoldsRoundKeys : Kind → VerifierFile → Grant → List ℕ → Type 0
HoldsRoundKeys Direct file given keys = Unit {0}
HoldsRoundKeys Extended file given keys =
    (keys ≡ span_keys file (span_of given)) × (length keys ≡ given.count * correlations_per_unit file.params)

-- a hello for the statement, a grant that fits, and rounds with the verifier's replies
pub record IsSetUp (task : VerifierTask) (setup : Setup) (keys : List ℕ) : Type 0 where
  pub fits : IsHelloFor task.file.id task.statement setup.hello
  pub whole : IsSetup task.file.params task.statement.program setup
  pub replies : RepliesAre task.file setup
  pub kept : HoldsRoundKeys task.file.params.kind task.file setup.grant keys

-- and a correction for each given value
pub record IsCommitted (task : VerifierTask) (commitment : Commitment) (keys : List ℕ) : Type 0 where
  pub set : IsSetUp task commitment.setup keys
  pub corrections : AreElements task.statement.program.givens commitment.corrections

-- and the verifier's coin
pub record IsChallenged
    (task : VerifierTask)
    (commitment : Commitment)
    (keys : List ℕ)
    (element : ℕ) : Type 0 where
  pub committed : IsCommitted task commitment keys
  pub coin : element ≡ challenge_coin task.file commitment.setup.grant.start
  pub ranged : IsElement element

-- and U and V for each section
pub record IsSummed
    (task : VerifierTask)
    (commitment : Commitment)
    (keys : List ℕ)
    (element : ℕ)
    (both : List (ℕ × ℕ)) : Type 0 where
  pub challenged : IsChallenged task commitment keys element
  pub sums : AreSums (section_count task.statement.program commitment.setup.grant.section_length) both

-- and a MAC for each opened wire
pub record IsOpened
    (task : VerifierTask)
    (commitment : Commitment)
    (keys : List ℕ)
    (element : ℕ)
    (both : List (ℕ × ℕ))
    (macs : List ℕ) : Type 0 where
  pub summed : IsSummed task commitment keys element both
  pub openings : AreElements (length task.statement.program.opened) macs

-- a hello in range, for the statement, and a grant that fits, in kind extended, with asks for some of its units
pub record IsAsking (task : VerifierTask) (greeting : Hello) (s : Session) : Type 0 where
  pub hello : IsHello greeting
  pub fits : IsHelloFor task.file.id task.statement greeting
  pub granted : IsGrant task.file.params task.statement.program s.grant
  pub extended : task.file.params.kind ≡ Extended
  pub each : All (AreAsks task.file.params.height task.file.params.trees) (asks_of s.asked.items)

-- ---- the stages

-- a stage is what these frames leave
abbrev pub Describes : VerifierTask → List Frame → Stage → Type 0
Describes task frames at.Hello = frames ≡ []
Describes task frames at.Grant = (greeting : Hello)
    × (frames ≡ hello greeting ∷ [])
    × IsHello greeting
    × IsHelloFor task.file.id task.statement greeting
Describes task frames (at.Asks s) = (greeting : Hello)
    × (frames ≡ hello greeting ∷ grant s.grant ∷ map asks (asks_of s.asked.items))
    × IsAsking task greeting s
    × (length s.asked.items < s.grant.count)
Describes task frames (at.Replies s done) = (greeting : Hello)
    × (frames ≡ hello greeting ∷ grant s.grant
    ∷ map asks (asks_of s.asked.items) ++ map replies (take done (replies_of s.replied.items)))
    × IsSetUp task (setup_read task greeting s) s.keys.items
    × (task.file.params.kind ≡ Extended)
    × (done < s.grant.count)
Describes task frames (at.Corrections s) = (greeting : Hello)
    × (frames ≡ setup_frames (setup_read task greeting s))
    × IsSetUp task (setup_read task greeting s) s.keys.items
Describes task frames (at.Challenge s) = (greeting : Hello)
    × (frames ≡ setup_frames (setup_read task greeting s) ++ corrections s.corrections.items ∷ [])
    × IsCommitted task (commitment_read task greeting s) s.keys.items
Describes task frames (at.Sums s) = (greeting : Hello)
    × (frames ≡ setup_frames (setup_read task greeting s)
    ++ corrections s.corrections.items ∷ challenge s.challenge ∷ [])
    × IsChallenged task (commitment_read task greeting s) s.keys.items s.challenge
Describes task frames (at.Openings s) = (greeting : Hello)
    × (frames ≡ setup_frames (setup_read task greeting s)
    ++ corrections s.corrections.items ∷ challenge s.challenge ∷ sums s.sums.items ∷ [])
    × IsSummed task (commitment_read task greeting s) s.keys.items s.challenge s.sums.items
Describes task frames (at.Verdict s) = (greeting : Hello)
    × (frames ≡ setup_frames (setup_read task greeting s)
    ++ corrections s.corrections.items ∷ challenge s.challenge ∷ sums s.sums.items
    ∷ openings s.openings.items ∷ [])
    × IsOpened task (commitment_read task greeting s) s.keys.items s.challenge s.sums.items s.openings.items
Describes task frames (at.Accepted s) = (greeting : Hello)
    × (frames ≡ session_frames (transcript_read task greeting s 0 0))
    × IsServed task (transcript_read task greeting s 0 0) Accepted
    (spelling (transcript_read task greeting s 0 0))
    × HoldsRoundKeys task.file.params.kind task.file s.grant s.keys.items
Describes task frames at.Declined = (before : List Frame) × (last : Frame)
    × (frames ≡ before ++ last ∷ [])
    × Declines last
    × (place_after task.file.params task.statement frames ≡ None)

-- some frames leave this stage
abbrev pub IsDescribed : VerifierTask → Stage → Type 0
IsDescribed task stage = (frames : List Frame) × Describes task frames stage

-- the place of the next frame
abbrev pub expected_at : VerifierTask → Stage → Option Expect
expected_at task at.Hello = Some (hello_place task.statement.kind)
expected_at task at.Grant = Some expect.Grant
expected_at task (at.Asks s) =
    Some (expect.Ask task.file.params.height task.file.params.trees (s.grant.count - length s.asked.items))
expected_at task (at.Replies s done) =
    Some (expect.Reply task.file.params.height task.file.params.trees (s.grant.count - done))
expected_at task (at.Corrections s) = Some (expect.Corrections task.statement.program.givens)
expected_at task (at.Challenge s) = Some expect.Challenge
expected_at task (at.Sums s) =
    Some (expect.Sums (section_count task.statement.program s.grant.section_length))
expected_at task (at.Openings s) = Some (expect.Openings (length task.statement.program.opened))
expected_at task (at.Verdict s) = Some expect.Verdict
expected_at task (at.Accepted s) = None
expected_at task at.Declined = None

-- the frame is given, and leaves the next stage
pub record Continues (task : VerifierTask) (frames : List Frame) (frame : Frame) (next : Stage) : Type 0 where
  pub given : IsGiven task frames frame
  pub described : Describes task (frames ++ frame ∷ []) next

-- whatever frames leave a stage, a frame is given behind them, and leaves the next one
abbrev pub StageTakes : VerifierTask → Stage → Frame → Stage → Type 0
StageTakes task stage frame next =
    (frames : List Frame) → Describes task frames stage → Continues task frames frame next

-- or it is not given
abbrev pub Wrongs : VerifierTask → Stage → Frame → Type 0
Wrongs task stage frame = (frames : List Frame) → Describes task frames stage → ¬ IsGiven task frames frame
