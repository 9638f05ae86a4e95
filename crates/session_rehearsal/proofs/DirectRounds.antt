-- The rounds of a session over direct files: none.
use Rattle.std.proofs.Common.{◌≡◌, ℕ, List, [], sym, ap, subst, append-nil}
use Rattle.std.proofs.lemmas.List.Elements.{All-nil}
use Rattle.zk_model.specs.Mac.{Pair}
use Rattle.zk_model.specs.Files.{ProverFile, VerifierFile, span_pairs, rounds_of}
use Rattle.zk_model.specs.Transcript.{Grant, IsRound}
use Rattle.zk_model.specs.Correlations.{IsProverView}
use Rattle.zk_model.specs.HonestProver.{round_asks}
use Rattle.zk_model.specs.ServedVerifier.{round_replies}
use Rattle.zk_model.specs.View.{span_of}
use Rattle.zk_model.specs.declared.Kind.TheVariants.{Direct}
use Rattle.zk_model.specs.declared.Side.{Side}
use Rattle.session_core.proofs.DirectViews.{pairs_seen}
use Rattle.session_rehearsal.specs.Holding.{HoldsRounds}

-- in kind direct there are no rounds to hold
pub none_held : (prover : ProverFile) (verifier : VerifierFile) (grant : Grant) (pairs : List Pair) (log : List (Side × ℕ)) → verifier.params.kind ≡ Direct
    → pairs ≡ span_pairs prover (span_of grant) → HoldsRounds prover verifier grant pairs log log
none_held prover verifier grant pairs log direct are = record {
  rounds = [];
  held = record {
    served = record {
      count = sym (ap rounds_of direct);
      ranged = All-nil (IsRound verifier.params grant);
      replies = All-nil (λ round. round.replies ≡ round_replies verifier grant round.asks);
    };
    asks = All-nil (λ round. round.asks ≡ round_asks prover grant);
    seen = λ hello. subst (λ (l : List Pair). IsProverView prover (record { hello = hello; grant = grant; rounds = [] }) l) (sym are)
        (pairs_seen prover (record { hello = hello; grant = grant; rounds = [] }));
  };
  noted = sym (append-nil log);
}
