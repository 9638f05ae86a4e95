-- What is determined: what stands before the challenge has one commitment and one list of errors, and a session has one
-- view and one finding.
use Rattle.std.specs.Prelude.{◌≡◌, ℕ}
use Rattle.zk_model.specs.Program.{Program, IsSetInAll}
use Rattle.zk_model.specs.Statement.{Statement, IsStatement}
use Rattle.zk_model.specs.Files.{ProverFile, IsProverFile}
use Rattle.zk_model.specs.Transcript.{Commitment, Transcript, IsCommitment, IsTranscript, BeginsWith, commitment_bytes, spelling}
use Rattle.zk_model.specs.Mac.{pair_at}
use Rattle.zk_model.specs.View.{View, IsView}
use Rattle.zk_model.specs.Finding.{Finding, section_errors, IsFinding}

-- two views of one session agree on all correlations, on all given values, and on every wire that is set
pub record Agree (program : Program) (some others : View) : Type 0 where
  pub pairs : some.pairs ≡ others.pairs
  pub given : some.carried.given ≡ others.carried.given
  pub wires : (wire : ℕ) → IsSetInAll program wire → pair_at some.carried.wires wire ≡ pair_at others.carried.wires wire

-- whatever was replied, the prover sees one view
abbrev pub OneView : Type 0
OneView = (file : ProverFile) (statement : Statement) (commitment : Commitment) (some others : View)
    → IsProverFile file → IsStatement statement → IsCommitment file.params statement.program commitment
    → IsView file statement commitment some → IsView file statement commitment others
    → Agree statement.program some others

-- logs that agree before the challenge have one commitment, and so the same errors
abbrev pub FixedBeforeChallenge : Type 0
FixedBeforeChallenge = (file : ProverFile) (statement : Statement) (t u : Transcript)
    → IsProverFile file → IsStatement statement
    → IsTranscript file.params statement.program t → IsTranscript file.params statement.program u
    → BeginsWith (spelling u) (commitment_bytes t.commitment)
    → (t.commitment ≡ u.commitment)
    × ((view other : View) (s : ℕ) → IsView file statement t.commitment view → IsView file statement u.commitment other
    → section_errors statement.program t.commitment view s ≡ section_errors statement.program u.commitment other s)

-- a session has one finding
abbrev pub OneFinding : Type 0
OneFinding = (file : ProverFile) (statement : Statement) (t : Transcript) (some others : Finding)
    → IsProverFile file → IsStatement statement → IsTranscript file.params statement.program t
    → IsFinding file statement t some → IsFinding file statement t others → some ≡ others
