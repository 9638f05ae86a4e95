-- What the definitions promise of the verifier's keys.
use Rattle.std.specs.Prelude.{List}
use Rattle.zk_model.specs.Mac.{Pair, AreKeysOf}
use Rattle.zk_model.specs.Files.{ProverFile, VerifierFile, IsProverFile, IsVerifierFile, AreDealt}
use Rattle.zk_model.specs.Transcript.{Setup}
use Rattle.zk_model.specs.Correlations.{IsProverView, span_keys}
use Rattle.zk_model.specs.View.{span_of}
use Rattle.zk_model.specs.ServedVerifier.{RepliesAre}
use Rattle.zk_laws.specs.SeenPairs.{AreRounds}

-- whatever the prover asked, the verifier's keys fit the pairs that the prover sees
abbrev pub KeysFit : Type 0
KeysFit = (prover : ProverFile) (verifier : VerifierFile) (setup : Setup) (pairs : List Pair)
    → IsProverFile prover → IsVerifierFile verifier → AreDealt prover verifier
    → AreRounds prover.params setup.grant setup.rounds → RepliesAre verifier setup → IsProverView prover setup pairs
    → AreKeysOf verifier.key pairs (span_keys verifier (span_of setup.grant))
