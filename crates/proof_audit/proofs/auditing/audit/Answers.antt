use Rattle.std.proofs.Common.{refl, subst}
use Rattle.std.specs.Prelude.{IfSome}
use Rattle.zk_model.specs.ServedVerifier.{VerifierTask}
use Rattle.proof_audit.specs.Audits.{IsAudited, audit_task}
use Rattle.proof_audit.specs.Sessions.{IsReadSession}
use Rattle.proof_audit.proofs.Audits.{finds}
use Rattle.proof_audit.proofs.auditing.audit.Goals as goal

pub returns : goal.returns
returns c = record {
  finding = finds c.args.prover.now task c.args.log.now c.in-Some.session c.in_ok-finding.finding audited read.bytes
      (c.in_ok-finding.ensures task refl audited);
  fault = tt;
}
  where
    task : VerifierTask
    task = audit_task c.args.statement.now c.args.verifier.now

    read : IsReadSession (audit_task c.args.statement.now c.args.verifier.now) c.args.log.now c.in-Some.session
    read = subst (λ (task : VerifierTask). IsReadSession task c.args.log.now c.in-Some.session) c.new-judge.ensures
        (subst (λ o. IfSome o (IsReadSession c.new-judge.result c.args.log.now)) c.in-Some.is c.in_ok-session.ensures.accepted)

    audited : IsAudited c.args.prover.now (audit_task c.args.statement.now c.args.verifier.now) c.in-Some.session
    audited = record {
      prover_file = c.total-prover.ensures.file;
      verifier_file = c.total-verifier.ensures.file;
      dealt = c.in_ok-dealt.ensures.dealt.0 refl;
      greeting = read.greeting;
      served = read.served;
      kept = read.kept;
    }
