use Rattle.std.proofs.Common.{◌≡◌}
use Rattle.session_core.specs.Extending.{asks_of}
use Rattle.proof_audit.specs.SeenValues.{round_values}
use Rattle.proof_audit.proofs.values.round_values.Given as goal

abbrev pub invariant-loop-i : goal.invariant-loop-i
invariant-loop-i l = l.values.items ≡ round_values l.file l.start (asks_of l.asked) l.i
