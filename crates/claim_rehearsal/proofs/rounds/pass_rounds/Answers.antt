use Rattle.std.proofs.Common.{◌≡◌, ◌∙◌, ◌++◌, [], List, ap, sym, subst, map}
use Rattle.zk_model.specs.Files.{span_pairs}
use Rattle.zk_model.specs.declared.Params.{Params}
use Rattle.proof_frames.specs.Frames.{frame_value}
use Rattle.proof_frames.specs.declared.frame.Frame.{Frame}
use Rattle.claim_rehearsal.specs.Passed.{ArePassedRounds}
use Rattle.claim_rehearsal.proofs.PassedRounds.{direct_passed, extended_passed}
use Rattle.claim_rehearsal.proofs.rounds.pass_rounds.Goals as goal

pub returns-in-Direct-clause-passed : goal.returns-in-Direct-clause-passed
returns-in-Direct-clause-passed g c =
    let asked : c.new.result.items ≡ [] = c.new.ensures.items in
    let replied : c.new-in-Direct.result.items ≡ [] = c.new-in-Direct.ensures.items in
    subst (λ (q : List Frame × List Frame). ArePassedRounds c.args.prover.now c.args.verifier.now c.args.grant c.pairs.result.now
    (map frame_value q.0 ++ map frame_value q.1)) (λ i. (sym asked i, sym replied i))
    (direct_passed c.args.prover.now c.args.verifier.now c.args.grant c.pairs.result.now
    (ap (λ (p : Params). p.kind) (sym c.params.ensures.params) ∙ c.in-Direct.is)
    (c.pairs.ensures.pairs ∙ ap (span_pairs c.args.prover.now) c.units_of-span.ensures))

pub returns-in_ok-passed-in-Extended-clause-passed : goal.returns-in_ok-passed-in-Extended-clause-passed
returns-in_ok-passed-in-Extended-clause-passed g c =
    extended_passed c.args.prover.now c.args.verifier.now c.args.grant _ _ _ _ _
    (ap (λ (p : Params). p.kind) (sym c.params.ensures.params) ∙ c.in-Extended.is)
    c.in_ok-passed-in-Extended.ensures.held c.in_ok-passed-in-Extended.ensures.asked c.in_ok-passed-in-Extended.ensures.replied
