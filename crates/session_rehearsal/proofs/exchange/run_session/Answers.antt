use Rattle.std.proofs.Common.{◌≡◌, ◌≤◌, ap, sym, subst, arith}
use Rattle.zk_model.specs.declared.Params.{Params}
use Rattle.session_core.specs.Ends.{whole_grant}
use Rattle.zk_model.specs.Files.{AreDealt}
use Rattle.session_core.specs.Jobs.{VerifierJob, granted_from, units_of_job, prover_from}
use Rattle.session_rehearsal.specs.Holding.{IsRehearsedSession, ends_of, ends_with}
use Rattle.session_rehearsal.proofs.Held.{units_of_pair}
use Rattle.session_rehearsal.proofs.exchange.run_session.Goals as goal

pub new-verifier-requires : goal.new-verifier-requires
new-verifier-requires g c =
    let units = units_of_pair c.args.prover_file.params c.args.verifier_file.now.params c.args.statement.now.program c.args.prover_file.params.total c.args.section
    c.requires.dealt.params c.requires.granted in
    record {
      section_some = c.requires.granted.section_some;
      section_most = c.requires.granted.section_most;
      units_most = omega (arith, units, c.requires.granted.count_most);
    }

within : (job made : VerifierJob) → units_of_job made ≤ made.task.file.params.total → job ≡ made → units_of_job job ≤ job.task.file.params.total
within job made few same = subst (λ (j : VerifierJob). units_of_job j ≤ j.task.file.params.total) (sym same) few

pub answer-requires-clause-within : goal.answer-requires-clause-within
answer-requires-clause-within g c κs inside =
    let units = units_of_pair c.args.prover_file.params c.args.verifier_file.now.params c.args.statement.now.program c.args.prover_file.params.total c.args.section
    c.requires.dealt.params c.requires.granted in
    within _ _ (omega (arith, units, ap (λ (p : Params). p.total) c.requires.dealt.params)) c.new-verifier.ensures

pub judge-exchange-requires-clause-within : goal.judge-exchange-requires-clause-within
judge-exchange-requires-clause-within g c =
    let units = units_of_pair c.args.prover_file.params c.args.verifier_file.now.params c.args.statement.now.program c.args.prover_file.params.total c.args.section
    c.requires.dealt.params c.requires.granted in
    within _ _ (omega (arith, units, ap (λ (p : Params). p.total) c.requires.dealt.params)) c.new-verifier.ensures

pub returns-clause-session : goal.returns-clause-session
returns-clause-session g c log noted =
    let units = units_of_pair c.args.prover_file.params c.args.verifier_file.now.params c.args.statement.now.program c.args.prover_file.params.total c.args.section
    c.requires.dealt.params c.requires.granted in
    let prover = prover_from c.args.statement.now c.args.inputs.now c.args.prover_file in
    let made = c.new-verifier.ensures in
    subst (λ n. IsRehearsedSession
    (ends_with c.args.statement.now c.args.inputs.now c.args.prover_file c.args.verifier_file.now)
    (whole_grant n c.args.section) c.judge-exchange.result.verdict log) units
    (subst (λ (j : VerifierJob). IsRehearsedSession (ends_of prover j) (granted_from j 0) c.judge-exchange.result.verdict log) made
    (c.judge-exchange.ensures.session prover log
    (sym (ap (λ (j : VerifierJob). j.task.statement) made))
    (subst (λ (j : VerifierJob). AreDealt c.args.prover_file j.task.file) (sym made) c.requires.dealt)
    c.in_ok-answered.ensures.answered noted))
