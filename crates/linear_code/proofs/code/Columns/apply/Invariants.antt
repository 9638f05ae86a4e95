use Rattle.linear_code.specs.Codes.{output_at}
use Rattle.linear_code.proofs.Outputs.{AreOutputs}
use Rattle.linear_code.proofs.code.Columns.apply.Given as goal

abbrev pub invariant-loop-j : goal.invariant-loop-j
invariant-loop-j l = AreOutputs (output_at l.self.seed l.base) l.noise l.outputs.items l.j
