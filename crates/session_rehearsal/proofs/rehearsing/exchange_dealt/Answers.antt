use Rattle.std.proofs.Common.{◌≡◌, ℕ, ◌∙◌, ap, sym, subst}
use Rattle.zk_model.specs.Files.{ProverFile, VerifierFile, IsProverFile, IsVerifierFile, AreDealt}
use Rattle.dealer_files.specs.Dealing.{dealt_prover, dealt_verifier}
use Rattle.zk_model.specs.declared.Params.{Params}
use Rattle.zk_model.specs.Transcript.{IsGrant}
use Rattle.session_core.specs.Ends.{whole_grant}
use Rattle.session_rehearsal.specs.Holding.{IsRehearsedSession, ends_with}
use Rattle.session_rehearsal.specs.Rehearsals.{rehearsed_params}
use Rattle.session_rehearsal.proofs.Rehearsed.{granted_all, total_is}
use Rattle.session_rehearsal.proofs.rehearsing.exchange_dealt.Goals as goal

pub run_session-requires-clause-granted : goal.run_session-requires-clause-granted
run_session-requires-clause-granted g c κs within =
    let params = ap (λ (f : ProverFile). f.params) (c.in_ok-prover.ensures.prover ∙ ap (λ (p : Params). dealt_prover p c.args.seed.now) c.rehearsed_params-params.ensures) in
    let total = ap (λ (p : Params). p.total) params ∙ total_is c.args.kind c.args.units in
    subst (λ (q : Params × ℕ). IsGrant q.0 c.args.statement.now.program (whole_grant q.1 c.args.section))
    (λ i. (sym params i, sym total i))
    (granted_all c.args.statement.now.program c.args.kind c.args.section c.args.units c.requires.at_least_one c.requires.at_most c.requires.units c.requires.units_most)

pub returns-clause-held : goal.returns-clause-held
returns-clause-held g c log noted =
    let params : c.rehearsed_params-params.result ≡ rehearsed_params c.args.kind c.args.units = c.rehearsed_params-params.ensures in
    let prover = c.in_ok-prover.ensures.prover ∙ ap (λ (p : Params). dealt_prover p c.args.seed.now) params in
    let verifier = c.in_ok-prover.ensures.verifier ∙ ap (λ (p : Params). dealt_verifier p c.args.seed.now) params in
    let total = ap (λ (f : ProverFile). f.params.total) prover ∙ total_is c.args.kind c.args.units in
    subst (λ (q : ProverFile × VerifierFile). IsRehearsedSession (ends_with c.args.statement.now c.args.inputs.now q.0 q.1)
    (whole_grant c.args.units c.args.section) c.in_ok-exchange.exchange.verdict log)
    (λ i. (prover i, verifier i))
    (subst (λ n. IsRehearsedSession (ends_with c.args.statement.now c.args.inputs.now c.in_ok-prover.prover c.in_ok-prover.verifier)
    (whole_grant n c.args.section) c.in_ok-exchange.exchange.verdict log) total (c.in_ok-exchange.ensures.session log noted))

pub returns-clause-files : goal.returns-clause-files
returns-clause-files g c =
    let params : c.rehearsed_params-params.result ≡ rehearsed_params c.args.kind c.args.units = c.rehearsed_params-params.ensures in
    let prover = c.in_ok-prover.ensures.prover ∙ ap (λ (p : Params). dealt_prover p c.args.seed.now) params in
    let verifier = c.in_ok-prover.ensures.verifier ∙ ap (λ (p : Params). dealt_verifier p c.args.seed.now) params in
    record {
      prover = subst IsProverFile prover c.in_ok-prover.ensures.files.0;
      verifier = subst IsVerifierFile verifier c.in_ok-prover.ensures.files.1;
      dealt = subst (λ (f : ProverFile). AreDealt f (dealt_verifier (rehearsed_params c.args.kind c.args.units) c.args.seed.now)) prover
          (subst (λ (f : VerifierFile). AreDealt c.in_ok-prover.prover f) verifier c.in_ok-prover.ensures.dealt);
    }
