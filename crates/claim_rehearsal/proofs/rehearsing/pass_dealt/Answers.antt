use Rattle.std.proofs.Common.{◌≡◌, ◌∙◌, ap, sym, subst}
use Rattle.std.specs.Prelude.{map}
use Rattle.zk_model.specs.Files.{ProverFile, VerifierFile}
use Rattle.zk_model.specs.Transcript.{Grant}
use Rattle.zk_model.specs.declared.Params.{Params}
use Rattle.dealer_files.specs.Dealing.{dealt_prover, dealt_verifier}
use Rattle.proof_frames.specs.Frames.{frame_value}
use Rattle.session_core.specs.Ends.{whole_grant}
use Rattle.session_rehearsal.specs.Rehearsals.{rehearsed_params}
use Rattle.session_script.specs.Scripts.{log_of}
use Rattle.claim_prover.specs.Telling.{knowledge_of}
use Rattle.claim_rehearsal.specs.Passed.{IsClaimPassed}
use Rattle.claim_rehearsal.proofs.rehearsing.pass_dealt.Goals as goal

pub returns-clause-passed : goal.returns-clause-passed
returns-clause-passed g c =
    let knows = knowledge_of (g.W.Claim.claim c.args.witness.now) (g.W.Witness.said c.args.witness.now) (g.W.Witness.given c.args.witness.now) (g.W.Witness.replying c.args.witness.now) in
    let params : c.rehearsed_params-params.result ≡ rehearsed_params c.args.kind c.args.units = c.rehearsed_params-params.ensures in
    let prover = c.in_ok-prover.ensures.prover ∙ ap (λ (p : Params). dealt_prover p c.args.seed.now) params in
    let verifier = c.in_ok-prover.ensures.verifier ∙ ap (λ (p : Params). dealt_verifier p c.args.seed.now) params in
    subst (λ (q : ProverFile × VerifierFile). IsClaimPassed knows q.0 q.1 (whole_grant c.args.units c.args.section)
    c.in_ok-passed.passed.judgement (log_of (map frame_value c.in_ok-passed.passed.frames.items))) (λ i. (prover i, verifier i))
    c.in_ok-passed.ensures.passed
