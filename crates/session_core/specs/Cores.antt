-- What both ends of a session wait for, and what they answer.
use Rattle.std.specs.Prelude.{◌≡◌, ◌≢◌, ◌⊎◌, ◌+◌, ◌-◌, ◌<◌, ◌≤◌, ℕ, List, [], ◌∷◌, ◌++◌, map, length, drop, All, Option, Some, None}
use Rattle.zk_model.specs.Mac.{Pair, macs_of}
use Rattle.zk_model.specs.Program.{section_count}
use Rattle.zk_model.specs.Statement.{Statement}
use Rattle.zk_model.specs.Files.{span_pairs}
use Rattle.zk_model.specs.Check.{WirePairs, all_sums, opened_pairs}
use Rattle.zk_model.specs.Transcript.{Hello, Grant, TreeAsk, TreeReply, IsHelloFor, IsGrant, version_of, digest_said}
use Rattle.zk_model.specs.Frames.{Frame, hello, grant, asks, replies, corrections, challenge, sums, openings, verdict, refuse, AreAsks}
use Rattle.zk_model.specs.Audit.{hello_place}
use Rattle.zk_model.specs.View.{span_of, verdict_code, verdict_number}
use Rattle.zk_model.specs.HonestProver.{round_asks}
use Rattle.zk_model.specs.ServedVerifier.{challenge_coin, round_replies}
use Rattle.zk_model.specs.declared.Expect.{Expect}
use Rattle.zk_model.specs.declared.Expect.TheVariants as expect
use Rattle.zk_model.specs.declared.Kind.{Kind}
use Rattle.zk_model.specs.declared.Kind.TheVariants.{Direct, Extended}
use Rattle.round_fan.specs.Fans.{ArePairsFrom}
use Rattle.session_core.specs.Ends.{IsFixed}
use Rattle.session_core.specs.Jobs.{VerifierJob, ProverJob, Suits, units_of_job, granted_from}
use Rattle.session_core.specs.Judgements.{verdict_in, Finds}
use Rattle.session_core.specs.declared.fault.Digests.{Digests}
use Rattle.session_core.specs.declared.fault.HelloDiffers.{HelloDiffers}
use Rattle.session_core.specs.declared.fault.HelloDiffers.TheVariants as differs
use Rattle.session_core.specs.declared.fault.ProverFault.{ProverFault}
use Rattle.session_core.specs.declared.fault.ProverFault.TheVariants.{BadGrant, PeerRefused}
use Rattle.session_core.specs.declared.fault.ProverFault.TheVariants as prover
use Rattle.session_core.specs.declared.fault.VerifierFault.{VerifierFault}
use Rattle.session_core.specs.declared.fault.VerifierFault.TheVariants.{BadHello}
use Rattle.session_core.specs.declared.fault.VerifierFault.TheVariants as verifier
use Rattle.session_core.specs.declared.judgement.Judgement.{Judgement}

-- ---- the verifier

-- What a verifier waits for: the hello; nothing, while its own grant is due; then, with the first unit of its grant and what
-- it has taken since, the asks of the next unit, the corrections, the sums, and the openings; nothing more, once it has judged or
-- found a fault.
pub data VerifierStage : Type 0 where
  awaits_hello : VerifierStage
  owes_grant : VerifierStage
  awaits_asks : ℕ → List (List TreeAsk) → VerifierStage
  awaits_corrections : ℕ → VerifierStage
  awaits_sums : ℕ → List ℕ → VerifierStage
  awaits_openings : ℕ → List ℕ → List (ℕ × ℕ) → VerifierStage
  has_judged : ℕ → Judgement → VerifierStage
  has_refused : VerifierStage

-- a verifier in a session
pub record VerifierState : Type 0 where
  pub job : VerifierJob
  pub stage : VerifierStage

-- asks of fewer units than the grant has, an ask for each tree
pub record AreAsksSoFar (job : VerifierJob) (asked : List (List TreeAsk)) : Type 0 where
  pub extended : job.task.file.params.kind ≡ Extended
  pub more : length asked < units_of_job job
  pub each : All (AreAsks job.task.file.params.height job.task.file.params.trees) asked

-- the grant lies in the file, and what was taken since is as much as the statement wants
abbrev pub IsVerifierStage : VerifierJob → VerifierStage → Type 0
IsVerifierStage job awaits_hello = Unit {0}
IsVerifierStage job owes_grant = Unit {0}
IsVerifierStage job (awaits_asks start asked) =
    (start + units_of_job job ≤ job.task.file.params.total) × AreAsksSoFar job asked
IsVerifierStage job (awaits_corrections start) = start + units_of_job job ≤ job.task.file.params.total
IsVerifierStage job (awaits_sums start d) =
    (start + units_of_job job ≤ job.task.file.params.total) × (length d ≡ job.task.statement.program.givens)
IsVerifierStage job (awaits_openings start d both) =
    (start + units_of_job job ≤ job.task.file.params.total)
    × (length d ≡ job.task.statement.program.givens)
    × (length both ≡ section_count job.task.statement.program job.section_length)
IsVerifierStage job (has_judged start judgement) = Unit {0}
IsVerifierStage job has_refused = Unit {0}

-- what it found, where it has judged
abbrev pub judgement_at : VerifierStage → Option Judgement
judgement_at awaits_hello = None
judgement_at owes_grant = None
judgement_at (awaits_asks start asked) = None
judgement_at (awaits_corrections start) = None
judgement_at (awaits_sums start d) = None
judgement_at (awaits_openings start d both) = None
judgement_at (has_judged start judgement) = Some judgement
judgement_at has_refused = None

-- the frame that it expects
abbrev pub verifier_expects : VerifierJob → VerifierStage → Option Expect
verifier_expects job awaits_hello = Some (hello_place job.task.statement.kind)
verifier_expects job owes_grant = None
verifier_expects job (awaits_asks start asked) =
    Some (expect.Ask job.task.file.params.height job.task.file.params.trees (units_of_job job - length asked))
verifier_expects job (awaits_corrections start) = Some (expect.Corrections job.task.statement.program.givens)
verifier_expects job (awaits_sums start d) =
    Some (expect.Sums (section_count job.task.statement.program job.section_length))
verifier_expects job (awaits_openings start d both) =
    Some (expect.Openings (length job.task.statement.program.opened))
verifier_expects job (has_judged start judgement) = None
verifier_expects job has_refused = None

-- what it waits for after its grant: in kind extended the asks of the units
abbrev pub behind_grant : VerifierJob → ℕ → VerifierStage
behind_grant job start = by_kind job.task.file.params.kind
  where
    by_kind : Kind → VerifierStage
    by_kind Direct = awaits_corrections start
    by_kind Extended = awaits_asks start []

-- asks of so many units are answered by nothing, as long as others are to come, and then by the replies to all of them
abbrev pub AnswersAsks : VerifierJob → ℕ → List (List TreeAsk) → List Frame → VerifierStage → Type 0
AnswersAsks job start asked answer now =
    ((length asked < units_of_job job) × (answer ≡ []) × (now ≡ awaits_asks start asked))
    ⊎ ((length asked ≡ units_of_job job)
    × (answer ≡ map replies (round_replies job.task.file (granted_from job start) asked))
    × (now ≡ awaits_corrections start))

-- A hello for the statement leaves its grant due. The asks of the last unit are answered by all replies, corrections by the coin of the
-- first unit, sums by nothing, and openings by what it finds of the whole session.
abbrev pub VerifierAnswers : VerifierJob → VerifierStage → Frame → List Frame → VerifierStage → Type 0
VerifierAnswers job awaits_hello frame answer now = (said : Hello)
    × (frame ≡ hello said)
    × IsHelloFor job.task.file.id job.task.statement said
    × (answer ≡ [])
    × (now ≡ owes_grant)
VerifierAnswers job owes_grant frame answer now = ⊥
VerifierAnswers job (awaits_asks start asked) frame answer now = (trees : List TreeAsk)
    × (frame ≡ asks trees) × AnswersAsks job start (asked ++ trees ∷ []) answer now
VerifierAnswers job (awaits_corrections start) frame answer now = (d : List ℕ)
    × (frame ≡ corrections d)
    × (answer ≡ challenge (challenge_coin job.task.file start) ∷ [])
    × (now ≡ awaits_sums start d)
VerifierAnswers job (awaits_sums start d) frame answer now = (both : List (ℕ × ℕ))
    × (frame ≡ sums both) × (answer ≡ []) × (now ≡ awaits_openings start d both)
VerifierAnswers job (awaits_openings start d both) frame answer now = (macs : List ℕ) × (judgement : Judgement)
    × (frame ≡ openings macs)
    × Finds job start d both macs judgement
    × (answer ≡ verdict (verdict_code (verdict_in judgement)) (verdict_number (verdict_in judgement)) ∷ [])
    × (now ≡ has_judged start judgement)
VerifierAnswers job (has_judged start judgement) frame answer now = ⊥
VerifierAnswers job has_refused frame answer now = ⊥

-- the digests of a statement, and those that a hello says
abbrev pub digests_of : Statement → Digests
digests_of statement =
    record { circuit = statement.circuit; outputs = statement.outputs; public = statement.public_digest }

abbrev pub digests_said : Hello → Digests
digests_said said = record { circuit = said.circuit; outputs = said.outputs; public = digest_said said }

-- What differs first in a hello, with what is wanted and what came: the id; the version, of which its form wants one; the
-- digests of the statement.
abbrev pub DiffersFirst : List ℕ → Statement → Hello → HelloDiffers → Type 0
DiffersFirst id statement said (differs.Id want got) = (want ≡ id) × (got ≡ said.id) × (want ≢ got)
DiffersFirst id statement said (differs.Version want got) =
    (said.id ≡ id) × (want ≡ version_of statement.kind said.public) × (got ≡ said.version) × (want ≢ got)
DiffersFirst id statement said (differs.Statement want got) =
    (said.id ≡ id) × (said.version ≡ version_of statement.kind said.public)
    × (want ≡ digests_of statement) × (got ≡ digests_said said) × (want ≢ got)

-- why a verifier refuses a frame: a hello that differs
abbrev pub VerifierRefuses : VerifierJob → VerifierStage → Frame → VerifierFault → Type 0
VerifierRefuses job stage frame (BadHello differs) = (other : Hello)
    × (stage ≡ awaits_hello) × (frame ≡ hello other)
    × DiffersFirst job.task.file.id job.task.statement other differs
VerifierRefuses job stage frame verifier.NoMemory = Unit {0}

-- ---- the prover

-- What a prover waits for: a grant; with that and the replies that have come, unit by unit, the replies of the next unit; with the
-- pairs of all correlations and of all wires, the challenge; the verdict; nothing more.
pub data ProverStage : Type 0 where
  awaits_grant : ProverStage
  awaits_replies : Grant → List (List TreeReply) → ProverStage
  awaits_challenge : Grant → List Pair → WirePairs → ProverStage
  awaits_verdict : ProverStage
  has_ended : ProverStage

-- a prover in a session
pub record ProverState : Type 0 where
  pub job : ProverJob
  pub stage : ProverStage

-- the frame that it expects
abbrev pub prover_expects : ProverJob → ProverStage → Option Expect
prover_expects job awaits_grant = Some expect.Grant
prover_expects job (awaits_replies given came) =
    Some (expect.Reply job.file.params.height job.file.params.trees (given.count - length came))
prover_expects job (awaits_challenge given pairs wires) = Some expect.Challenge
prover_expects job awaits_verdict = Some expect.Verdict
prover_expects job has_ended = None

-- pairs of all correlations are answered by the corrections that make them those of the given values, which fixes all wires
abbrev pub Commits : ProverJob → Grant → List Pair → List Frame → ProverStage → Type 0
Commits job given pairs answer now = (d : List ℕ) × (wires : WirePairs)
    × IsFixed job.statement job.given pairs d wires
    × (answer ≡ corrections d ∷ [])
    × (now ≡ awaits_challenge given pairs wires)

-- the dealt pairs of a grant's units are those of kind direct, and in kind extended the prover asks for the trees of all units
abbrev pub AnswersGrant : ProverJob → Grant → List Frame → ProverStage → Type 0
AnswersGrant job given answer now = by_kind job.file.params.kind
  where
    by_kind : Kind → Type 0
    by_kind Direct = Commits job given (span_pairs job.file (span_of given)) answer now
    by_kind Extended =
        (answer ≡ map asks (round_asks job.file given)) × (now ≡ awaits_replies given [])

-- replies of so many units are answered by nothing, as long as those of others are to come, and then by the corrections of the pairs
-- that they make
abbrev pub GoesOn : ProverJob → Grant → List (List TreeReply) → List Frame → ProverStage → Type 0
GoesOn job given came answer now =
    ((length came < given.count) × (answer ≡ []) × (now ≡ awaits_replies given came))
    ⊎ ((length came ≡ given.count) × (pairs : List Pair)
    × ArePairsFrom job.file given.start came pairs × Commits job given pairs answer now)

-- A grant is answered by the corrections or the asks, the replies of the last unit by the corrections, the challenge by the sums
-- of all sections and the MACs of the opened wires, and a verdict by nothing.
abbrev pub ProverAnswers : ProverJob → ProverStage → Frame → List Frame → ProverStage → Type 0
ProverAnswers job awaits_grant frame answer now = (given : Grant)
    × (frame ≡ grant given)
    × IsGrant job.file.params job.statement.program given
    × AnswersGrant job given answer now
ProverAnswers job (awaits_replies given came) frame answer now = (trees : List TreeReply)
    × (frame ≡ replies trees) × GoesOn job given (came ++ trees ∷ []) answer now
ProverAnswers job (awaits_challenge given pairs wires) frame answer now = (element : ℕ)
    × (frame ≡ challenge element)
    × (answer
    ≡ sums (all_sums job.statement.program given.section_length element wires
    (drop job.statement.program.givens pairs))
    ∷ openings (macs_of (opened_pairs job.statement.program wires)) ∷ [])
    × (now ≡ awaits_verdict)
ProverAnswers job awaits_verdict frame answer now = (code : ℕ) × (number : ℕ)
    × (frame ≡ verdict code number) × (answer ≡ []) × (now ≡ has_ended)
ProverAnswers job has_ended frame answer now = ⊥

-- a grant that suits the program lies in the prover's file
abbrev pub StaysWithin : ProverJob → Frame → Type 0
StaysWithin job frame = (given : Grant) → frame ≡ grant given → Suits job.file.params job.statement.program given
    → given.start + given.count ≤ job.file.params.total

-- why a prover refuses a frame: a grant that does not suit the program, or a refusal
abbrev pub ProverRefuses : ProverJob → ProverStage → Frame → ProverFault → Type 0
ProverRefuses job stage frame BadGrant = (given : Grant)
    × (stage ≡ awaits_grant) × (frame ≡ grant given) × ¬ Suits job.file.params job.statement.program given
ProverRefuses job stage frame (PeerRefused code) = (stage ≡ awaits_grant) × (frame ≡ refuse code)
ProverRefuses job stage frame prover.NoMemory = Unit {0}
