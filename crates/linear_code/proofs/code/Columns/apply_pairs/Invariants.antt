use Rattle.zk_model.specs.Mac.{values_of, macs_of}
use Rattle.linear_code.specs.Codes.{output_at}
use Rattle.linear_code.proofs.Outputs.{AreOutputs}
use Rattle.linear_code.proofs.code.Columns.apply_pairs.Given as goal

abbrev pub invariant-loop-j : goal.invariant-loop-j
invariant-loop-j l =
    AreOutputs (output_at l.self.seed (values_of l.base)) (values_of l.noise) (values_of l.outputs.items) l.j
    × AreOutputs (output_at l.self.seed (macs_of l.base)) (macs_of l.noise) (macs_of l.outputs.items) l.j
