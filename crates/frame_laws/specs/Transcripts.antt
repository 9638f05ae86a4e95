-- What a log determines.
use Rattle.std.specs.Prelude.{◌≡◌}
use Rattle.zk_model.specs.Files.{AreParams}
use Rattle.zk_model.specs.Program.{Program}
use Rattle.zk_model.specs.Transcript.{Transcript, IsTranscript, spelling}
use Rattle.zk_model.specs.declared.Params.{Params}

-- a log is the spelling of one transcript at most
abbrev pub OneTranscript : Type 0
OneTranscript = (params : Params) (program : Program) (t u : Transcript) → AreParams params
    → IsTranscript params program t → IsTranscript params program u → spelling t ≡ spelling u → t ≡ u
