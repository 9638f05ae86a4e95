use Rattle.std.proofs.Common.{◌≡◌, ◌++◌, length}
use Rattle.zk_model.specs.Bits.{digits_of}
use Rattle.file_commands.proofs.given_bits.bits_in.Given as goal

-- what is read, before the rest
abbrev pub invariant-loop-rest : goal.invariant-loop-rest
invariant-loop-rest l = l.fn.text ≡ digits_of l.bits.items ++ l.rest

abbrev pub decreases-loop-rest : goal.decreases-loop-rest
decreases-loop-rest l = length l.rest
