use Rattle.std.proofs.Common.{◌≡◌, ◌++◌, take, flat_map}
use Rattle.zk_model.specs.FileBytes.{prover_unit_bytes}
use Rattle.dealer_files.proofs.prover_file.ProverFile.push_units.Given as goal

abbrev pub invariant-loop-unit : goal.invariant-loop-unit
invariant-loop-unit l = l.bytes.items ≡ l.fn.bytes.items ++ flat_map prover_unit_bytes (take l.unit l.self.units)
