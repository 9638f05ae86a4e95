-- A whole session about a claim as the values that stand in its frames, and what it shows to one who has a prover's file.
use Rattle.std.specs.Prelude.{◌≡◌, ℕ, ◌≤◌, Some, List, [], ◌∷◌, ◌++◌, length}
use Rattle.zk_model.specs.Audit.{setup_frames}
use Rattle.zk_model.specs.Correlations.{IsProverView, span_keys}
use Rattle.zk_model.specs.Files.{ProverFile, VerifierFile, IsProverFile, AreDealt}
use Rattle.zk_model.specs.Frames.{Frame, corrections, challenge, verdict}
use Rattle.zk_model.specs.Mac.{Pair}
use Rattle.zk_model.specs.ServedVerifier.{RepliesAre, challenge_coin}
use Rattle.zk_model.specs.Transcript.{Setup}
use Rattle.zk_model.specs.View.{span_of, verdict_code, verdict_number}
use Rattle.zk_model.specs.declared.Side.{Side}
use Rattle.zk_laws.specs.SeenPairs.{AreRounds}
use Rattle.session_core.specs.Judgements.{verdict_in}
use Rattle.session_core.specs.declared.judgement.Judgement.{Judgement}
use Rattle.session_core.specs.declared.judgement.Judgement.TheVariants.{Accepted}
use Rattle.session_script.specs.Scripts.{log_of}
use Rattle.session_claim.specs.Claims.{Claim, Exchange, IsExchange, claim_needs}
use Rattle.claim_verifier.specs.Hearing.{Heard, grant_from}

-- a hello, a grant and its rounds; what was exchanged; and what the verifier found
pub record ClaimSession : Type 0 where
  pub setup : Setup
  pub exchange : Exchange
  pub judgement : Judgement

-- its frames, in order
abbrev pub claim_frames : ClaimSession → List Frame
claim_frames s =
    setup_frames s.setup
    ++ corrections s.exchange.corrections
    ∷ challenge s.exchange.challenge
    ∷ s.exchange.answers
    ++ verdict (verdict_code (verdict_in s.judgement)) (verdict_number (verdict_in s.judgement))
    ∷ []

-- The log is that of a whole session that a verifier leads about a claim: the hello is for it, the grant has the units that it takes, the
-- replies are those of the verifier's file to whatever was asked, the challenge is its coin, and the verdict says what it finds by its keys.
pub record IsClaimServed (claim : Claim) (file : VerifierFile) (section_length : ℕ) (s : ClaimSession) (log : List (Side × ℕ)) : Type 0 where
  pub bytes : log ≡ log_of (claim_frames s)
  pub hello : claim.greets file.id s.setup.hello
  pub grant : s.setup.grant ≡ grant_from claim file section_length s.setup.grant.start
  pub rounds : AreRounds file.params s.setup.grant s.setup.rounds
  pub replies : RepliesAre file s.setup
  pub section : s.exchange.section_length ≡ s.setup.grant.section_length
  pub coin : s.exchange.challenge ≡ challenge_coin file s.setup.grant.start
  pub exchange : IsExchange claim s.exchange
  pub enough : claim_needs claim s.exchange.section_length ≤ length (span_keys file (span_of s.setup.grant))
  pub judged : claim.judges file.key (span_keys file (span_of s.setup.grant)) s.exchange s.judgement

-- for every prover's file that is dealt with the verifier's there are pairs that it sees in the session; and of all such pairs a claim
-- shows what it says
pub record ShowsOf (claim : Claim) (file : VerifierFile) (s : ClaimSession) (prover : ProverFile) : Type 0 where
  pub pairs : List Pair
  pub seen : IsProverView prover s.setup pairs
  pub shows : (others : List Pair) → IsProverView prover s.setup others → claim.shows others s.exchange file.key

abbrev pub ShowsToAll : Claim → VerifierFile → ClaimSession → Type 0
ShowsToAll claim file s = (prover : ProverFile) → IsProverFile prover → AreDealt prover file → ShowsOf claim file s prover

-- What was heard, and the log, are those of such a session, which was judged so; and where it was accepted, it shows what the claim says.
pub record IsHeardWhole (claim : Claim) (file : VerifierFile) (section_length : ℕ) (heard : Heard) (judgement : Judgement) (log : List (Side × ℕ))
    : Type 0 where
  pub session : ClaimSession
  pub judgement_is : session.judgement ≡ judgement
  pub granted : heard.given ≡ Some session.setup.grant
  pub served : IsClaimServed claim file section_length session log
  pub shows : judgement ≡ Accepted → ShowsToAll claim file session
