use Rattle.std.proofs.Common.{◌≡◌, ◌++◌, take, flat_map}
use Rattle.zk_model.specs.FileBytes.{verifier_unit_bytes}
use Rattle.dealer_files.proofs.verifier_file.VerifierFile.push_units.Given as goal

abbrev pub invariant-loop-unit : goal.invariant-loop-unit
invariant-loop-unit l = l.bytes.items ≡ l.fn.bytes.items ++ flat_map verifier_unit_bytes (take l.unit l.self.units)
