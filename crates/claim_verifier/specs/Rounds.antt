-- What a verifier keeps of its round.
use Rattle.std.specs.Prelude.{◌≡◌, ◌⊎◌, ◌+◌, ◌*◌, ◌<◌, ◌≤◌, ℕ, All, Option, None, Some, IfSome, IsSomeAnd, List, [], length}
use Rattle.zk_model.specs.Correlations.{span_keys}
use Rattle.zk_model.specs.Files.{VerifierFile, correlations_per_unit}
use Rattle.zk_model.specs.Frames.{AreAsks}
use Rattle.zk_model.specs.Transcript.{Grant, TreeAsk}
use Rattle.zk_model.specs.View.{span_of}
use Rattle.zk_model.specs.declared.Kind.{Kind}
use Rattle.zk_model.specs.declared.Kind.TheVariants.{Direct, Extended}
use Rattle.round_fan.specs.Fans.{lists_of}
use Rattle.claim_verifier.specs.Hearing.{RoundStage, asking, replying, units_of}
use Rattle.session_claim.specs.Claims.{Claim, Exchange, IsExchange}
use Rattle.claim_verifier.specs.declared.rounds.Rounds.{Rounds}
use Rattle.claim_verifier.specs.declared.rounds.Rounds.TheVariants.{Asking, Replying}

-- where it is
abbrev pub round_stage : Rounds → RoundStage
round_stage (Asking asked) = asking (lists_of asked.items)
round_stage (Replying due keys) = replying (lists_of due.items)

-- these are the keys of a grant's units
pub record AreKeysFor (file : VerifierFile) (given : Grant) (keys : List ℕ) : Type 0 where
  pub spanned : keys ≡ span_keys file (span_of given)
  pub count : length keys ≡ given.count * correlations_per_unit file.params

-- the keys that it has, once all asks came
abbrev pub keys_in : Rounds → Option (List ℕ)
keys_in (Asking asked) = None
keys_in (Replying due keys) = Some keys.items

-- they are those of its grant
abbrev pub IsKeyed : VerifierFile → Option Grant → Rounds → Type 0
IsKeyed file granted rounds = IfSome (keys_in rounds) (λ keys. IsSomeAnd granted (λ given. AreKeysFor file given keys))

-- all rounds of a file are over: there is none, or all replies were said
abbrev pub IsRoundOver : Kind → RoundStage → Type 0
IsRoundOver kind stage = (kind ≡ Direct) ⊎ ((kind ≡ Extended) × (stage ≡ replying []))

-- Asks of a unit are due: of the grant's fewer were asked so far, each in range, and these are too.
pub record TakesAsks (file : VerifierFile) (granted : Option Grant) (round : RoundStage) (said : List TreeAsk) : Type 0 where
  pub given : Grant
  pub granted_is : granted ≡ Some given
  pub extended : file.params.kind ≡ Extended
  pub within : given.start + given.count ≤ file.params.total
  pub asked : List (List TreeAsk)
  pub round_is : round ≡ asking asked
  pub more : length asked < given.count
  pub each : All (AreAsks file.params.height file.params.trees) asked
  pub are : AreAsks file.params.height file.params.trees said

-- A verdict is due, over these: the units of the grant lie in the file, all rounds are over, and the exchange is whole.
pub record IsToJudge (claim : Claim) (file : VerifierFile) (section_length : ℕ) (given : Grant) (round : RoundStage) (exchange : Exchange) : Type 0 where
  pub within : given.start + given.count ≤ file.params.total
  pub count : given.count ≡ units_of claim file section_length
  pub section : given.section_length ≡ section_length
  pub over : IsRoundOver file.params.kind round
  pub exchange_is : IsExchange claim exchange
