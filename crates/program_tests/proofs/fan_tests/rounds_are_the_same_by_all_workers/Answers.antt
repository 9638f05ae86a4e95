use Rattle.std.proofs.Common.{All, sym, subst}
use Rattle.zk_model.specs.Frames.{AreAsks, AreReplies}
use Rattle.zk_model.specs.declared.Params.{Params}
use Rattle.round_fan.specs.Fans.{lists_of}
use Rattle.program_tests.proofs.fan_tests.rounds_are_the_same_by_all_workers.Goals as goal

pub all_rounds-requires-clause-asks : goal.all_rounds-requires-clause-asks
all_rounds-requires-clause-asks g c κs =
    subst (λ (params : Params). All (AreAsks params.height params.trees) (lists_of c.deref-2.result.now)) c.in_ok-prover.ensures.dealt.params
    (subst (λ asks. All (AreAsks c.in_ok-prover.prover.params.height c.in_ok-prover.prover.params.trees) (lists_of asks)) (sym c.deref-2.ensures.value) c.in_ok-asks.ensures.fits)

pub all_rounds-requires-clause-replies : goal.all_rounds-requires-clause-replies
all_rounds-requires-clause-replies g c κs =
    subst (λ (params : Params). All (AreReplies params.height params.trees) (lists_of c.deref-3.result.now)) (sym c.in_ok-prover.ensures.dealt.params)
    (subst (λ replies. All (AreReplies c.in_ok-prover.verifier.params.height c.in_ok-prover.verifier.params.trees) (lists_of replies)) (sym c.deref-3.ensures.value) c.in_ok-replies.ensures.fits)
