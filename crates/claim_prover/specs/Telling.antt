-- What a prover of a claim knows of its session, and what it goes by.
use Rattle.std.specs.Prelude.{◌≡◌, ◌⊎◌, ℕ, ◌+◌, ◌≤◌, Option, Some, None, List, [], ◌∷◌, ◌++◌, length, Ok, Err}
use Rattle.zk_model.specs.Files.{ProverFile, span_pairs}
use Rattle.zk_model.specs.Frames.{Frame, hello, grant, asks, replies, corrections, challenge, sums, openings, poly_sums, verdict, refuse, want, block, out}
use Rattle.zk_model.specs.HonestProver.{honest_corrections, round_asks}
use Rattle.zk_model.specs.Mac.{Pair}
use Rattle.zk_model.specs.Transcript.{Hello, Grant, TreeAsk, TreeReply, units_for}
use Rattle.zk_model.specs.View.{span_of}
use Rattle.zk_model.specs.declared.Expect.{Expect}
use Rattle.zk_model.specs.declared.Expect.TheVariants as expect
use Rattle.zk_model.specs.declared.Kind.{Kind}
use Rattle.zk_model.specs.declared.Kind.TheVariants.{Direct, Extended}
use Rattle.zk_model.specs.declared.Params.{Params}
use Rattle.zk_model.specs.declared.limits.TheConstants.{MAX_SECTION_LENGTH, MAX_UNITS}
use Rattle.round_fan.specs.Fans.{ArePairsFrom}
use Rattle.session_prover.specs.Stages.{ClaimantTells, Claimed}
use Rattle.session_script.specs.Scripts.{Rules}
use Rattle.session_claim.specs.Claims.{Claim, AllowsEach, claim_needs}
use Rattle.session_claim.specs.Script.{claim_behind}
use Rattle.claim_prover.specs.declared.fault.ProvingFault.{ProvingFault}
use Rattle.claim_prover.specs.declared.fault.ProvingFault.TheVariants.{BadGrant, PeerRefused, NoMemory}
use Rattle.claim_prover.specs.declared.fault.ProvingFault.TheVariants as fault

-- ---- what a prover has, and says

-- what it knows for a claim, and its file
pub record ProverTask (W : Type 0) : Type 0 where
  pub witness : W
  pub file : ProverFile

-- How a claim is proved: the hello by the id of the files, the values that are committed, and the answers, of the pairs of all
-- correlations, the length of sections and the challenge.
pub record Knowledge : Type 1 where
  pub claim : Claim
  pub greeting : List ℕ → Hello
  pub values : List ℕ
  pub answers : List Pair → ℕ → ℕ → List Frame

-- by these
abbrev pub knowledge_of : Claim → (List ℕ → Hello) → List ℕ → (List Pair → ℕ → ℕ → List Frame) → Knowledge
knowledge_of claim greeting values answers = record { claim = claim; greeting = greeting; values = values; answers = answers }

-- What it has said and heard: its grant; the asks that are still to be said, and the replies that came; the pairs of all correlations, once
-- its corrections have committed its values by them; the challenge, and the answers that are still to be said; and the verdict.
pub record Told : Type 0 where
  pub given : Option Grant
  pub asks : List (List TreeAsk)
  pub replies : List (List TreeReply)
  pub pairs : List Pair
  pub challenge : Option ℕ
  pub answers : List Frame
  pub verdict : Option (ℕ × ℕ)

abbrev pub nothing_told : Told
nothing_told = record { given = None; asks = []; replies = []; pairs = []; challenge = None; answers = []; verdict = None }

-- that, and the one who claims units for it
pub record Known (O : Type 0) : Type 0 where
  pub told : Told
  pub claimant : O

-- by these
abbrev pub known_of : {O : Type 0} → Told → O → Known O
known_of told claimant = record { told = told; claimant = claimant }

-- ---- what passes

-- A grant suits: a length of sections within its limits, as many units as the claim then needs, and few.
pub record SuitsClaim (claim : Claim) (params : Params) (given : Grant) : Type 0 where
  pub section_some : 1 ≤ given.section_length
  pub section_most : given.section_length ≤ MAX_SECTION_LENGTH
  pub count : given.count ≡ units_for params (claim_needs claim given.section_length)
  pub count_most : given.count ≤ MAX_UNITS

-- what it asks for the units of a grant
abbrev pub asks_in : ProverFile → Kind → Grant → List (List TreeAsk)
asks_in file Direct given = []
asks_in file Extended given = round_asks file given

-- the pairs of a grant's units: those that they were dealt, or those that the replies for all of them make
abbrev pub ArePairsOf : ProverFile → Kind → Grant → List (List TreeReply) → List Pair → Type 0
ArePairsOf file Direct given replied pairs = pairs ≡ span_pairs file (span_of given)
ArePairsOf file Extended given replied pairs = (length replied ≡ given.count) × ArePairsFrom file given.start replied pairs

-- its values are committed by the pairs of the granted units, which are enough
pub record Commits (knows : Knowledge) (file : ProverFile) (old : Told) (elements : List ℕ) (new : Told) : Type 0 where
  pub given : Grant
  pub granted : old.given ≡ Some given
  pub pairs : List Pair
  pub made : ArePairsOf file file.params.kind given old.replies pairs
  pub enough : claim_needs knows.claim given.section_length ≤ length pairs
  pub elements_are : elements ≡ honest_corrections knows.values pairs
  pub told : new ≡ record old { pairs = pairs }

-- its answers to a challenge are due, each at its place
pub record IsChallenged (knows : Knowledge) (old : Told) (element : ℕ) (new : Told) : Type 0 where
  pub given : Grant
  pub granted : old.given ≡ Some given
  pub placed : AllowsEach (knows.claim.answers given.section_length) (knows.answers old.pairs given.section_length element)
  pub told : new ≡ record old { challenge = Some element; answers = knows.answers old.pairs given.section_length element }

-- an answer that is due is said
abbrev pub AnswersSo : Told → Frame → Told → Type 0
AnswersSo old frame new = (due : List Frame) × (old.answers ≡ frame ∷ due) × (new ≡ record old { answers = due })

-- What a frame makes of what was said and heard, but for a grant: the next of the asks that are due; replies; corrections; a challenge;
-- the next of the answers that are due; and the verdict.
abbrev pub Tells : Knowledge → ProverFile → Told → Frame → Told → Type 0
Tells knows file old (hello said) new = ⊥
Tells knows file old (grant given) new = ⊥
Tells knows file old (asks said) new = (due : List (List TreeAsk)) × (old.asks ≡ said ∷ due) × (new ≡ record old { asks = due })
Tells knows file old (replies said) new = new ≡ record old { replies = old.replies ++ said ∷ [] }
Tells knows file old (corrections elements) new = Commits knows file old elements new
Tells knows file old (challenge element) new = IsChallenged knows old element new
Tells knows file old (sums both) new = AnswersSo old (sums both) new
Tells knows file old (openings macs) new = AnswersSo old (openings macs) new
Tells knows file old (poly_sums elements) new = AnswersSo old (poly_sums elements) new
Tells knows file old (verdict code number) new = new ≡ record old { verdict = Some (code, number) }
Tells knows file old (refuse code) new = ⊥
Tells knows file old (want said) new = ⊥
Tells knows file old (block given) new = ⊥
Tells knows file old (out said) new = ⊥

-- a grant suits, and its units were claimed
pub record TakesUnits {O : Type 0} (claims : ClaimantTells O) (claim : Claim) (file : ProverFile) (given : Grant) (old new : O) : Type 0 where
  pub suits : SuitsClaim claim file.params given
  pub claimed : Claimed claims given (Ok (span_of given)) old new
  pub within : given.start + given.count ≤ file.params.total

-- Why a grant is not taken: it does not suit, its units were not claimed, or memory was missing once they were.
abbrev pub RefusesGrant : {O : Type 0} → ClaimantTells O → Claim → ProverFile → Grant → ProvingFault → O → O → Type 0
RefusesGrant claims claim file given BadGrant old new = (SuitsClaim claim file.params given → ⊥) × (new ≡ old)
RefusesGrant claims claim file given (PeerRefused code) old new = ⊥
RefusesGrant claims claim file given (fault.Claim cause) old new = SuitsClaim claim file.params given × Claimed claims given (Err cause) old new
RefusesGrant claims claim file given NoMemory old new = TakesUnits claims claim file given old new

module _ {O : Type 0} (claims : ClaimantTells O) (knows : Knowledge) (file : ProverFile) where
  -- a grant is taken, and what is asked for its units is due
  pub record TakesGrant (old : Known O) (given : Grant) (new : Known O) : Type 0 where
    pub takes : TakesUnits claims knows.claim file given old.claimant new.claimant
    pub told : new.told ≡ record old.told { given = Some given; asks = asks_in file file.params.kind given }

  -- a frame passes: a grant whose units were claimed, or another that makes this of what was said and heard
  abbrev pub ProverPasses : Known O → Frame → Known O → Type 0
  ProverPasses old (grant given) new = TakesGrant old given new
  ProverPasses old frame new = Tells knows file old.told frame new.told × (new.claimant ≡ old.claimant)

  -- a grant is not taken
  pub record RefusesGranted (old : Known O) (frame : Frame) (cause : ProvingFault) (new : Known O) : Type 0 where
    pub given : Grant
    pub is : frame ≡ grant given
    pub refuses : RefusesGrant claims knows.claim file given cause old.claimant new.claimant
    pub told : new.told ≡ old.told

  -- why it refuses a frame: a refusal came in a grant's place, a grant is not taken, or memory is missing
  abbrev pub ProverRefuses : Known O → Frame → ProvingFault → Known O → Type 0
  ProverRefuses old frame BadGrant new = RefusesGranted old frame BadGrant new
  ProverRefuses old frame (PeerRefused code) new = (frame ≡ refuse code) × (new ≡ old)
  ProverRefuses old frame (fault.Claim cause) new = RefusesGranted old frame (fault.Claim cause) new
  ProverRefuses old frame NoMemory new = (new.claimant ≡ old.claimant) ⊎ RefusesGranted old frame NoMemory new

  -- why it says none: only memory may be missing
  abbrev pub ProverDeclines : Known O → Expect → ProvingFault → Known O → Type 0
  ProverDeclines old place BadGrant new = ⊥
  ProverDeclines old place (PeerRefused code) new = ⊥
  ProverDeclines old place (fault.Claim cause) new = ⊥
  ProverDeclines old place NoMemory new = new.claimant ≡ old.claimant

  -- nothing was said or heard after its hello, and no units were claimed
  pub record IsUntold (known : Known O) : Type 0 where
    pub told : known.told ≡ nothing_told
    pub unasked : claims.answer known.claimant ≡ None
    pub total : claims.total known.claimant ≤ file.params.total

abbrev pub prover_rules : {O : Type 0} → ClaimantTells O → Knowledge → ProverFile → Rules (Known O) ProvingFault
prover_rules claims knows file = record {
  places = expect.Grant ∷ [];
  first = IsUntold claims knows file;
  passes = ProverPasses claims knows file;
  refuses = ProverRefuses claims knows file;
  declines = ProverDeclines claims knows file;
  code = λ cause. 4;
  behind = claim_behind file.params knows.claim;
}
