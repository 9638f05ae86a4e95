use Rattle.std.proofs.Common.{◌≡◌, take, string_bytes}
use Rattle.proof_audit.specs.AuditRuns.{coefficients}
use Rattle.proof_audit.proofs.audit_command.write_coefficients.Given as goal

abbrev pub invariant-loop-coefficient : goal.invariant-loop-coefficient
invariant-loop-coefficient l = string_bytes l.text ≡ coefficients (take l.coefficient-index l.polynomial)
