use Rattle.std.proofs.Common.{◌≡◌, take, string_bytes}
use Rattle.zk_model.specs.Bits.{digits_of}
use Rattle.command_words.proofs.bits.write_bits.Given as goal

abbrev pub invariant-loop-bit : goal.invariant-loop-bit
invariant-loop-bit l = string_bytes l.word ≡ digits_of (take l.bit-index l.bits)
