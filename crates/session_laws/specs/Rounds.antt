-- Asks and replies of a round are in range.
use Rattle.std.specs.Prelude.{◌+◌, ◌≤◌, List}
use Rattle.zk_model.specs.Files.{ProverFile, VerifierFile, IsProverFile, IsVerifierFile}
use Rattle.zk_model.specs.Transcript.{Grant, TreeAsk, IsTreeAsk, IsTreeReply, ForEachTree}
use Rattle.zk_model.specs.HonestProver.{round_asks}
use Rattle.zk_model.specs.ServedVerifier.{round_replies}

-- an honest prover asks for every tree of every unit of a grant in its file
abbrev pub AsksAreInRange : Type 0
AsksAreInRange = (file : ProverFile) (grant : Grant) → IsProverFile file → grant.start + grant.count ≤ file.params.total
    → ForEachTree file.params grant (IsTreeAsk file.params.height) (round_asks file grant)

-- and a verifier replies to each ask, whatever it is
abbrev pub RepliesAreInRange : Type 0
RepliesAreInRange = (file : VerifierFile) (grant : Grant) (asks : List (List TreeAsk)) → IsVerifierFile file
    → grant.start + grant.count ≤ file.params.total → ForEachTree file.params grant (IsTreeAsk file.params.height) asks
    → ForEachTree file.params grant (IsTreeReply file.params.height) (round_replies file grant asks)
