-- What both ends keep of a session's correlations.
use Rattle.std.specs.Prelude.{◌≡◌, ◌*◌, ◌<◌, ◌≤◌, ℕ, List, length, take, All}
use Rattle.zk_model.specs.Mac.{Pair}
use Rattle.zk_model.specs.Program.{correlations_needed}
use Rattle.zk_model.specs.Check.{WirePairs}
use Rattle.zk_model.specs.Files.{ProverFile, correlations_per_unit}
use Rattle.zk_model.specs.Frames.{AreReplies}
use Rattle.zk_model.specs.Transcript.{Grant, TreeReply, IsGrant}
use Rattle.zk_model.specs.Correlations.{span_keys}
use Rattle.zk_model.specs.View.{span_of}
use Rattle.zk_model.specs.declared.Kind.TheVariants.{Extended}
pub use Rattle.round_fan.specs.Fans.{AreRoundUnits}
use Rattle.round_fan.specs.Fans.{ArePairsFrom}
use Rattle.wire_auth.specs.Walks.{side_made}
use Rattle.session_core.specs.Jobs.{ProverJob, VerifierJob, granted_from, units_of_job}

-- as many as a session about the statement takes with sections of this length
abbrev pub AreEnough : {A : Type 0} → ProverJob → ℕ → List A → Type 0
AreEnough job section_length items = correlations_needed job.statement.program section_length ≤ length items

-- a prover that has answered a grant by its corrections has pairs for all given values and masks
pub record IsFixedUnder (job : ProverJob) (grant : Grant) (pairs : List Pair) : Type 0 where
  pub some : 1 ≤ grant.section_length
  pub enough : AreEnough job grant.section_length pairs

-- the pairs of all wires that these pairs of a session's correlations make, once they are corrected to a prover's given values
abbrev pub pairs_fixed : ProverJob → List Pair → WirePairs
pairs_fixed job pairs =
    (side_made job.statement.program job.statement.public (take job.statement.program.inputs job.given) pairs).pairs

-- the pairs of the first units of a grant, from the replies that have come, unit by unit
abbrev pub AreFirstPairs : ProverFile → Grant → List (List TreeReply) → List Pair → Type 0
AreFirstPairs file grant replies pairs = ArePairsFrom file grant.start replies pairs

-- a prover that waits for replies has those of fewer units than its grant has, a reply for each tree
pub record IsGrowing (job : ProverJob) (grant : Grant) (came : List (List TreeReply)) : Type 0 where
  pub granted : IsGrant job.file.params job.statement.program grant
  pub extended : job.file.params.kind ≡ Extended
  pub more : length came < grant.count
  pub each : All (AreReplies job.file.params.height job.file.params.trees) came

-- a verifier whose grant begins at this unit has the keys of its units, as many as these give
pub record HoldsKeys (job : VerifierJob) (start : ℕ) (keys : List ℕ) : Type 0 where
  pub spanned : keys ≡ span_keys job.task.file (span_of (granted_from job start))
  pub count : length keys ≡ units_of_job job * correlations_per_unit job.task.file.params
