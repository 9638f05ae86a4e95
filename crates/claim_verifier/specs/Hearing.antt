-- What a verifier of a claim knows of its session, and what it goes by.
use Rattle.std.specs.Prelude.{◌≡◌, ◌⊎◌, ℕ, ◌+◌, ◌<◌, ◌≤◌, Option, Some, None, List, [], ◌∷◌, ◌++◌, length, Ok, Err}
use Rattle.zk_model.specs.Correlations.{span_keys}
use Rattle.zk_model.specs.Files.{VerifierFile}
use Rattle.zk_model.specs.Frames.{Frame, hello, grant, asks, replies, corrections, challenge, sums, openings, verdict, refuse, poly_sums, want, block, out}
use Rattle.zk_model.specs.Frames.{hello as greeting}
use Rattle.zk_model.specs.ServedVerifier.{challenge_coin, round_replies}
use Rattle.zk_model.specs.Transcript.{Hello, Grant, TreeAsk, TreeReply, units_for}
use Rattle.zk_model.specs.View.{span_of, verdict_code, verdict_number}
use Rattle.zk_model.specs.declared.Expect.{Expect}
use Rattle.zk_model.specs.declared.Expect.TheVariants as expect
use Rattle.zk_model.specs.declared.Span.{Span}
use Rattle.zk_model.specs.declared.limits.TheConstants.{MAX_UNITS}
use Rattle.session_core.specs.Judgements.{verdict_in}
use Rattle.session_core.specs.declared.judgement.Judgement.{Judgement}
use Rattle.session_verifier.specs.Outcomes.{grant_code}
use Rattle.session_verifier.specs.Serving.{Grants, Leases}
use Rattle.session_script.specs.Scripts.{Rules}
use Rattle.session_claim.specs.Claims.{Claim, Exchange, claim_needs}
use Rattle.session_claim.specs.Script.{first_places, claim_behind}
use Rattle.claim_verifier.specs.declared.fault.VoiceFault.{VoiceFault}
use Rattle.claim_verifier.specs.declared.fault.VoiceFault.TheVariants.{BadHello, NoMemory}
use Rattle.claim_verifier.specs.declared.fault.VoiceFault.TheVariants as fault

-- ---- what a verifier has, and hears

-- a claim, a file, and how many products its sections have
pub record VerifierTask (C : Type 0) : Type 0 where
  pub claim : C
  pub file : VerifierFile
  pub section_length : ℕ

-- the units that its session takes
abbrev pub units_of : Claim → VerifierFile → ℕ → ℕ
units_of claim file section_length = units_for file.params (claim_needs claim section_length)

-- the grant of its units from this one on
abbrev pub grant_from : Claim → VerifierFile → ℕ → ℕ → Grant
grant_from claim file section_length start =
    record { start = start; count = units_of claim file section_length; section_length = section_length }

-- where its round is: asks that came, unit by unit; or replies that are still to be said
pub data RoundStage : Type 0 where
  asking : List (List TreeAsk) → RoundStage
  replying : List (List TreeReply) → RoundStage

-- what it has heard and said
pub record Heard : Type 0 where
  pub given : Option Grant
  pub round : RoundStage
  pub corrections : List ℕ
  pub answers : List Frame
  pub judged : Option Judgement

abbrev pub nothing_heard : Heard
nothing_heard = record { given = None; round = asking []; corrections = []; answers = []; judged = None }

-- that, and the one who leases it units
pub record Known (R : Type 0) : Type 0 where
  pub heard : Heard
  pub grantor : R

-- by these
abbrev pub known_of : {R : Type 0} → Heard → R → Known R
known_of heard grantor = record { heard = heard; grantor = grantor }

-- what its check is over
abbrev pub exchange_in : VerifierFile → Grant → Heard → Exchange
exchange_in file given heard = record {
  section_length = given.section_length;
  corrections = heard.corrections;
  challenge = challenge_coin file given.start;
  answers = heard.answers;
}

-- ---- what passes

-- asks of so many units leave others to come, or, with the last, the replies to all of them
abbrev pub AsksOn : VerifierFile → Grant → List (List TreeAsk) → RoundStage → Type 0
AsksOn file given asked new =
    ((length asked < given.count) × (new ≡ asking asked))
    ⊎ ((length asked ≡ given.count) × (new ≡ replying (round_replies file given asked)))

-- the asks of one unit more
pub record AsksMore (file : VerifierFile) (old : Heard) (said : List TreeAsk) (new : Heard) : Type 0 where
  pub given : Grant
  pub granted : old.given ≡ Some given
  pub asked : List (List TreeAsk)
  pub before : old.round ≡ asking asked
  pub round : RoundStage
  pub on : AsksOn file given (asked ++ said ∷ []) round
  pub heard : new ≡ record old { round = round }

-- what is found of the whole session, of which there are keys enough, and said
pub record JudgesSo (claim : Claim) (file : VerifierFile) (old : Heard) (code number : ℕ) (new : Heard) : Type 0 where
  pub given : Grant
  pub granted : old.given ≡ Some given
  pub enough : claim_needs claim given.section_length ≤ length (span_keys file (span_of given))
  pub judgement : Judgement
  pub judged : claim.judges file.key (span_keys file (span_of given)) (exchange_in file given old) judgement
  pub code_is : code ≡ verdict_code (verdict_in judgement)
  pub number_is : number ≡ verdict_number (verdict_in judgement)
  pub heard : new ≡ record old { judged = Some judgement }

-- What a frame makes of what was heard, but for a grant: a hello for the claim; asks, and the next of the replies that are due;
-- corrections; the coin of the first unit; the prover's answers; and the verdict.
abbrev pub Hears : Claim → VerifierFile → Heard → Frame → Heard → Type 0
Hears claim file old (hello said) new = claim.greets file.id said × (new ≡ old)
Hears claim file old (asks said) new = AsksMore file old said new
Hears claim file old (replies said) new =
    (due : List (List TreeReply)) × (old.round ≡ replying (said ∷ due)) × (new ≡ record old { round = replying due })
Hears claim file old (corrections elements) new = new ≡ record old { corrections = elements }
Hears claim file old (challenge element) new =
    (given : Grant) × (old.given ≡ Some given) × (element ≡ challenge_coin file given.start) × (new ≡ old)
Hears claim file old (sums both) new = new ≡ record old { answers = old.answers ++ sums both ∷ [] }
Hears claim file old (openings macs) new = new ≡ record old { answers = old.answers ++ openings macs ∷ [] }
Hears claim file old (verdict code number) new = JudgesSo claim file old code number new
Hears claim file old (grant given) new = ⊥
Hears claim file old (refuse code) new = ⊥
Hears claim file old (poly_sums elements) new = new ≡ record old { answers = old.answers ++ poly_sums elements ∷ [] }
Hears claim file old (want said) new = ⊥
Hears claim file old (block given) new = ⊥
Hears claim file old (out said) new = ⊥

module _ {R : Type 0} (grants : Grants R) (claim : Claim) (file : VerifierFile) (section_length : ℕ) where
  -- units were leased, not too many, and this is their grant
  pub record GrantsUnits (old : Known R) (given : Grant) (new : Known R) : Type 0 where
    pub span : Span
    pub leased : Leases grants (units_of claim file section_length) (Ok span) old.grantor new.grantor
    pub counted : span.end ≡ span.start + units_of claim file section_length
    pub within : span.end ≤ file.params.total
    pub few : units_of claim file section_length ≤ MAX_UNITS
    pub given_is : given ≡ grant_from claim file section_length span.start
    pub heard : new.heard ≡ record old.heard { given = Some given }

  -- a frame passes: a grant of units that were leased, or another that makes this of what was heard
  abbrev pub VerifierPasses : Known R → Frame → Known R → Type 0
  VerifierPasses old (grant given) new = GrantsUnits old given new
  VerifierPasses old frame new = Hears claim file old.heard frame new.heard × (new.grantor ≡ old.grantor)

  -- why it refuses a frame
  abbrev pub VerifierRefuses : Known R → Frame → VoiceFault → Known R → Type 0
  VerifierRefuses old frame (BadHello differs) new =
      (said : Hello) × (frame ≡ greeting said) × claim.differs file.id said differs × (new ≡ old)
  VerifierRefuses old frame (fault.Grant cause) new = ⊥
  VerifierRefuses old frame NoMemory new = new.grantor ≡ old.grantor

  -- why it says none
  abbrev pub VerifierDeclines : Known R → Expect → VoiceFault → Known R → Type 0
  VerifierDeclines old place (BadHello differs) new = ⊥
  VerifierDeclines old place (fault.Grant cause) new =
      (place ≡ expect.Grant) × Leases grants (units_of claim file section_length) (Err cause) old.grantor new.grantor × (new.heard ≡ old.heard)
  VerifierDeclines old place NoMemory new = new.grantor ≡ old.grantor

  -- it has heard nothing, and may ask for its units, which are not too many
  pub record IsUnheard (known : Known R) : Type 0 where
    pub heard : known.heard ≡ nothing_heard
    pub unasked : grants.answer known.grantor ≡ None
    pub total : grants.total known.grantor ≤ file.params.total
    pub few : units_of claim file section_length ≤ MAX_UNITS
    pub may : grants.may known.grantor (units_of claim file section_length)

-- the code of a refusal
abbrev pub voice_code : VoiceFault → ℕ
voice_code (BadHello differs) = 1
voice_code (fault.Grant cause) = grant_code cause
voice_code NoMemory = 4

abbrev pub verifier_rules : {R : Type 0} → Grants R → Claim → VerifierFile → ℕ → Rules (Known R) VoiceFault
verifier_rules grants claim file section_length = record {
  places = first_places claim;
  first = IsUnheard grants claim file section_length;
  passes = VerifierPasses grants claim file section_length;
  refuses = VerifierRefuses grants claim file section_length;
  declines = VerifierDeclines grants claim file section_length;
  code = voice_code;
  behind = claim_behind file.params claim;
}
