use Rattle.std.proofs.Common.{inl, inr, subst}
use Rattle.zk_port.specs.Changes.{change}
use Rattle.claim_files.specs.declared.claim_names.ClaimNames.{ClaimNames}
use Rattle.file_commands.specs.Stops.{PrintsMade}
use Rattle.proof_audit.specs.AuditRuns.{finding_line, finding_status}
use Rattle.proof_audit.proofs.AuditOutcomes.{audits}
use Rattle.proof_audit.proofs.audit_command.run_named.Goals as goal

pub returns-in-Ok : goal.returns-in-Ok
returns-in-Ok g c =
    audits (record {
      circuits = c.one_circuit.ensures;
      ariths = c.texts_are_exact.ensures;
      elements = c.elements_are_exact.ensures;
      right = c.accepted_logs_are_right.ensures;
      answer = c.one_answer.ensures;
    }) _ _
    (inl (
      c.in-Ok.finding,
      c.in-Ok.ensures.found,
      subst (λ (claim : ClaimNames). PrintsMade (finding_status c.in-Ok.finding) (finding_line claim c.in-Ok.finding) c.say_finding.result
          (change (g.O.Sink.state c.args.out.now) (g.O.Sink.state c.say_finding.new.out))) c.claim.ensures c.say_finding.ensures,
    )) c.in-Ok.ensures.kept

pub returns-in-Err : goal.returns-in-Err
returns-in-Err g c =
    audits (record {
      circuits = c.one_circuit.ensures;
      ariths = c.texts_are_exact.ensures;
      elements = c.elements_are_exact.ensures;
      right = c.accepted_logs_are_right.ensures;
      answer = c.one_answer.ensures;
    }) _ _
    (inr record { stop = c.in-Err.stop; cause = c.in-Err.ensures.stop; prints = c.say_stop.ensures }) c.in-Err.ensures.kept
