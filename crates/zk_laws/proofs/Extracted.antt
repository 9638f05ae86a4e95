-- What an accepted session shows.
use Rattle.std.proofs.Common.{sym, subst}
use Rattle.zk_model.specs.Mac.{AreKeysOf}
use Rattle.zk_model.specs.Files.{ProverFile, VerifierFile, IsProverFile, IsVerifierFile, AreDealt}
use Rattle.zk_model.specs.Statement.{Statement}
use Rattle.zk_model.specs.Transcript.{Transcript, IsTranscript}
use Rattle.zk_model.specs.View.{View, IsView, session_keys}
use Rattle.zk_model.specs.ServedVerifier.{RepliesAre}
use Rattle.zk_model.specs.declared.Params.{Params}
use Rattle.zk_laws.specs.Extraction.{Extraction}
use Rattle.zk_laws.proofs.KeysFit.{keys_fit}
use Rattle.zk_laws.proofs.Views.{rounds_are, view_exists}
use Rattle.zk_laws.proofs.FindingExists.{finding_exists}
use Rattle.zk_laws.proofs.FindingShows.{finding_shows}

-- the verifier's keys fit what the prover sees
seen_keys_fit : (prover : ProverFile) (verifier : VerifierFile) (statement : Statement) (t : Transcript) (view : View)
    → IsProverFile prover → IsVerifierFile verifier → AreDealt prover verifier
    → IsTranscript prover.params statement.program t → RepliesAre verifier t.commitment.setup
    → IsView prover statement t.commitment view → AreKeysOf verifier.key view.pairs (session_keys verifier t.commitment)
seen_keys_fit prover verifier statement t view left right dealt whole replied seen =
    keys_fit prover verifier t.commitment.setup view.pairs left right dealt
    (rounds_are prover.params statement.program t.commitment.setup whole.commitment.setup) replied seen.pairs

pub extraction_holds : Extraction
extraction_holds verifier statement t right stated there replied holds prover left dealt =
    let whole : IsTranscript prover.params statement.program t =
    subst (λ (params : Params). IsTranscript params statement.program t) (sym dealt.params) there in
    let view = view_exists prover statement t.commitment left stated whole.commitment in
    let found = finding_exists prover statement t view.0 view.1 in
    record {
      finding = found.0;
      found = record { view = view.0; seen = view.1; gives = found.1 };
      shows = λ other is. finding_shows prover verifier statement t is.view other left right.key stated whole is.seen
          (seen_keys_fit prover verifier statement t is.view left right dealt whole replied is.seen) holds is.gives;
    }
