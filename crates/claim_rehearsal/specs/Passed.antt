-- What passes in a session about a claim between an honest prover and a verifier.
use Rattle.std.specs.Prelude.{◌≡◌, ℕ, List, [], ◌∷◌, ◌++◌, All, map, flat_map}
use Rattle.zk_model.specs.Audit.{round_frames}
use Rattle.zk_model.specs.Correlations.{IsProverView, span_keys}
use Rattle.zk_model.specs.Files.{ProverFile, VerifierFile}
use Rattle.zk_model.specs.Frames.{Frame, Allows, AreElements, hello, grant, corrections, challenge, verdict}
use Rattle.zk_model.specs.HonestProver.{honest_corrections, round_asks}
use Rattle.zk_model.specs.Mac.{Pair, AreKeysOf}
use Rattle.zk_model.specs.ServedVerifier.{challenge_coin}
use Rattle.zk_model.specs.Transcript.{Hello, Grant, Round}
use Rattle.zk_model.specs.View.{span_of, verdict_code, verdict_number}
use Rattle.zk_model.specs.declared.Side.{Side}
use Rattle.proof_frames.specs.Frames.{frame_value}
use Rattle.session_core.specs.Judgements.{verdict_in}
use Rattle.session_core.specs.declared.judgement.Judgement.{Judgement}
use Rattle.session_claim.specs.Claims.{Exchange, IsExchange}
use Rattle.session_rehearsal.specs.Holding.{AreRoundsHeld}
use Rattle.claim_prover.specs.Telling.{Knowledge}
use Rattle.claim_verifier.specs.Served.{ClaimSession, IsClaimServed}
use Rattle.claim_rehearsal.specs.declared.passing.Answers.{Answers}

-- ---- the turns

-- rounds that both ends hold under a grant, and their frames
pub record ArePassedRounds (prover : ProverFile) (verifier : VerifierFile) (given : Grant) (pairs : List Pair) (frames : List Frame) : Type 0 where
  pub rounds : List Round
  pub held : AreRoundsHeld prover verifier given pairs rounds
  pub frames_are : frames ≡ flat_map round_frames rounds

-- what the check is over
abbrev pub exchange_of : Grant → Answers → Exchange
exchange_of given said = record {
  section_length = given.section_length;
  corrections = said.corrections.items;
  challenge = said.challenge;
  answers = map frame_value said.answers.items;
}

-- An honest prover's corrections, the coin of the grant's first unit, the prover's answers, and what is found of them, each at its place.
pub record IsAnswered (knows : Knowledge) (file : VerifierFile) (given : Grant) (pairs : List Pair) (keys : List ℕ) (said : Answers) : Type 0 where
  pub corrections_are : said.corrections.items ≡ honest_corrections knows.values pairs
  pub challenge_is : said.challenge ≡ challenge_coin file given.start
  pub answers_are : map frame_value said.answers.items ≡ knows.answers pairs given.section_length said.challenge
  pub exchange : IsExchange knows.claim (exchange_of given said)
  pub placed : Allows knows.claim.verdict (verdict (verdict_code (verdict_in said.judgement)) (verdict_number (verdict_in said.judgement)))
  pub judged : knows.claim.judges file.key keys (exchange_of given said) said.judgement

-- all frames, with these of the rounds
abbrev pub passed_frames : Hello → Grant → List Frame → Answers → List Frame
passed_frames greeting given rounds said =
    hello greeting
    ∷ grant given
    ∷ rounds
    ++ corrections said.corrections.items
    ∷ challenge said.challenge
    ∷ map frame_value said.answers.items
    ++ verdict (verdict_code (verdict_in said.judgement)) (verdict_number (verdict_in said.judgement))
    ∷ []

-- ---- the session

-- The prover is honest, and sees these pairs: it says its hello, it asks as its file says, its corrections make the pairs those of its values,
-- and it answers the challenge by them.
pub record IsHonestWith (knows : Knowledge) (prover : ProverFile) (pairs : List Pair) (s : ClaimSession) : Type 0 where
  pub hello : s.setup.hello ≡ knows.greeting prover.id
  pub asks : All (λ round. round.asks ≡ round_asks prover s.setup.grant) s.setup.rounds
  pub seen : IsProverView prover s.setup pairs
  pub corrections : s.exchange.corrections ≡ honest_corrections knows.values pairs
  pub answers : s.exchange.answers ≡ knows.answers pairs s.exchange.section_length s.exchange.challenge

-- The log is that of a session under this grant that the verifier serves, its prover is honest, the verifier finds this, and its keys fit the
-- prover's pairs.
pub record IsClaimPassed (knows : Knowledge) (prover : ProverFile) (verifier : VerifierFile) (given : Grant) (judgement : Judgement)
    (log : List (Side × ℕ)) : Type 0 where
  pub session : ClaimSession
  pub granted : session.setup.grant ≡ given
  pub served : IsClaimServed knows.claim verifier given.section_length session log
  pub pairs : List Pair
  pub honest : IsHonestWith knows prover pairs session
  pub fits : AreKeysOf verifier.key pairs (span_keys verifier (span_of given))
  pub judgement_is : session.judgement ≡ judgement
