use Rattle.std.proofs.Common.{subst}
use Rattle.zk_port.specs.Changes.{change}
use Rattle.file_commands.specs.Effects.{effects}
use Rattle.proof_audit.specs.AuditRuns.{Audits}
use Rattle.proof_audit.specs.NamedAudits.{Audit}
use Rattle.proof_audit.proofs.audit_command.run_audit.Goals as goal

pub returns : goal.returns
returns g c =
    subst (λ (audit : Audit). Audits audit (effects c.run_named.result
    (change (g.F.Shelf.state c.args.shelf.now) (g.F.Shelf.state c.run_named.new.shelf))
    (change (g.O.Sink.state c.args.out.now) (g.O.Sink.state c.run_named.new.out)))) c.of_bits-names.ensures c.run_named.ensures
