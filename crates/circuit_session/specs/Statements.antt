-- Statements about circuits, as claims.
use Rattle.std.specs.Prelude.{◌≡◌, ℕ, ◌≤◌, List, [], ◌∷◌, length, drop}
use Rattle.zk_model.specs.Audit.{hello_place}
use Rattle.zk_model.specs.Check.{WireKeys, ProductCheck, OpeningCheck, AreKeysFor, ArePairsOf}
use Rattle.zk_model.specs.Finding.{Finding, Gives}
use Rattle.zk_model.specs.Frames.{Frame, sums, openings}
use Rattle.zk_model.specs.Mac.{Pair, corrected_keys, corrected_pairs}
use Rattle.zk_model.specs.Program.{section_count}
use Rattle.zk_model.specs.Statement.{Statement}
use Rattle.zk_model.specs.Transcript.{Transcript, IsHelloFor}
use Rattle.zk_model.specs.View.{View}
use Rattle.zk_model.specs.declared.Expect.TheVariants as expect
use Rattle.zk_laws.specs.Extraction.{Shows}
use Rattle.session_core.specs.Cores.{DiffersFirst}
use Rattle.session_core.specs.Judgements.{Judges}
use Rattle.session_core.specs.declared.judgement.Judgement.{Judgement}
use Rattle.session_claim.specs.Claims.{Claim, Exchange}

-- ---- answers

-- the sums that a prover answered
abbrev pub sums_in : List Frame → List (ℕ × ℕ)
sums_in (sums both ∷ frames) = both
sums_in frames = []

-- and the MACs
abbrev pub macs_in : List Frame → List ℕ
macs_in (first ∷ openings macs ∷ frames) = macs
macs_in frames = []

-- ---- the check

-- The keys of the given values are those of the correlations, as the corrections leave them, and the wires follow.
pub record AreWireKeys (statement : Statement) (key : ℕ) (keys corrections : List ℕ) (wires : WireKeys) : Type 0 where
  pub given : wires.given ≡ corrected_keys key keys corrections
  pub carried : AreKeysFor key statement.program statement.public wires

-- what the verifier tests of the products, with these sums: the keys of the masks are those after the given values'
abbrev pub exchange_products : Statement → ℕ → List ℕ → Exchange → List (ℕ × ℕ) → WireKeys → ProductCheck
exchange_products statement key keys exchange both wires = record {
  program = statement.program;
  section_length = exchange.section_length;
  key = key;
  keys = wires;
  masks = drop statement.program.givens keys;
  challenge = exchange.challenge;
  sums = both;
}

-- and of the opened wires, with these MACs
abbrev pub exchange_openings : Statement → ℕ → List ℕ → WireKeys → OpeningCheck
exchange_openings statement key macs wires =
    record { program = statement.program; key = key; keys = wires; macs = macs; claims = statement.claims }

-- The prover answered by sums and by MACs; over keys of all wires, the judgement is what the checks say, with both sides where one fails.
-- Sections have a product at least.
pub record IsJudgedBy (statement : Statement) (key : ℕ) (keys : List ℕ) (exchange : Exchange) (judgement : Judgement) : Type 0 where
  pub some : 1 ≤ exchange.section_length
  pub both : List (ℕ × ℕ)
  pub macs : List ℕ
  pub answers : exchange.answers ≡ sums both ∷ openings macs ∷ []
  pub wires : WireKeys
  pub carried : AreWireKeys statement key keys exchange.corrections wires
  pub judged : Judges (exchange_products statement key keys exchange both wires) (exchange_openings statement key macs wires) judgement

-- ---- what acceptance shows

-- The pairs of a session: those of all correlations; the corrections make the given values of them, and the wires follow.
pub record IsViewOf (statement : Statement) (pairs : List Pair) (corrections : List ℕ) (view : View) : Type 0 where
  pub pairs_are : view.pairs ≡ pairs
  pub given : view.carried.given ≡ corrected_pairs pairs corrections
  pub carried : ArePairsOf statement.program statement.public view.carried

-- a transcript of an exchange, whatever its hello, its units, its rounds and its verdict are
pub record IsTranscriptOf (exchange : Exchange) (t : Transcript) : Type 0 where
  pub section_length : t.commitment.setup.grant.section_length ≡ exchange.section_length
  pub corrections : t.commitment.corrections ≡ exchange.corrections
  pub challenge : t.challenge ≡ exchange.challenge
  pub answers : exchange.answers ≡ sums t.sums ∷ openings t.openings ∷ []

-- the finding that pairs and a transcript give
pub record IsFindingOf (statement : Statement) (pairs : List Pair) (t : Transcript) (finding : Finding) : Type 0 where
  pub view : View
  pub seen : IsViewOf statement pairs t.commitment.corrections view
  pub gives : Gives statement t view finding

-- There is a finding, and every finding shows inputs that make the program give the claims, or a named root at the challenge or at the key.
pub record IsExtractedFrom (statement : Statement) (pairs : List Pair) (key : ℕ) (t : Transcript) : Type 0 where
  pub finding : Finding
  pub found : IsFindingOf statement pairs t finding
  pub shows : (other : Finding) → IsFindingOf statement pairs t other
      → Shows statement t.commitment.setup.grant.section_length t.challenge key other

-- an exchange has a transcript, and of each of its transcripts there is a finding, and every finding shows what it says
pub record ShowsFindings (statement : Statement) (pairs : List Pair) (exchange : Exchange) (key : ℕ) : Type 0 where
  pub transcript : Transcript
  pub whole : IsTranscriptOf exchange transcript
  pub each : (t : Transcript) → IsTranscriptOf exchange t → IsExtractedFrom statement pairs key t

-- ---- the claim

-- a statement as a claim: the prover answers by the sums of all sections, and by the MACs of all opened wires
abbrev pub statement_claim : Statement → Claim
statement_claim statement = record {
  greeting = hello_place statement.kind;
  greets = λ id hello. IsHelloFor id statement hello;
  differs = λ id hello difference. DiffersFirst id statement hello difference;
  givens = statement.program.givens;
  masks = section_count statement.program;
  answers = λ section_length. expect.Sums (section_count statement.program section_length)
      ∷ expect.Openings (length statement.program.opened) ∷ [];
  verdict = expect.Verdict;
  judges = IsJudgedBy statement;
  shows = ShowsFindings statement;
}
