-- What a log tells of how its session ended.
use Rattle.std.specs.Prelude.{◌≡◌, ℕ, List}
use Rattle.zk_model.specs.Program.{Program}
use Rattle.zk_model.specs.Files.{AreParams}
use Rattle.zk_model.specs.Transcript.{Transcript, IsTranscript, spelling}
use Rattle.zk_model.specs.View.{SaysVerdict}
use Rattle.zk_model.specs.ServedVerifier.{VerifierTask, IsAccepted, IsCutInTurn}
use Rattle.zk_model.specs.declared.Params.{Params}
use Rattle.zk_model.specs.declared.Side.{Side}
use Rattle.zk_model.specs.declared.Verdict.{Verdict}

-- a log that is cut in a turn of the prover is not that of a whole session
abbrev pub CutIsNotWhole : Type 0
CutIsNotWhole = (params : Params) (program : Program) (t u : Transcript) (log : List (Side × ℕ)) → AreParams params
    → IsTranscript params program t → IsTranscript params program u → IsCutInTurn t log → ¬ (log ≡ spelling u)

-- so no verifier accepts on it
abbrev pub CutIsNotAccepted : Type 0
CutIsNotAccepted = (task : VerifierTask) (t : Transcript) (log : List (Side × ℕ)) → AreParams task.file.params
    → IsTranscript task.file.params task.statement.program t → IsCutInTurn t log → ¬ IsAccepted task log

-- the log of a whole session says one verdict
abbrev pub VerdictIsSaid : Type 0
VerdictIsSaid = (params : Params) (program : Program) (t u : Transcript) (log : List (Side × ℕ)) → AreParams params
    → IsTranscript params program t → IsTranscript params program u → log ≡ spelling t → log ≡ spelling u
    → (t.code ≡ u.code) × (t.number ≡ u.number)

-- and the verdict is one of the three
abbrev pub OneVerdictOfCode : Type 0
OneVerdictOfCode = (t : Transcript) (some others : Verdict) → SaysVerdict t some → SaysVerdict t others → some ≡ others
