use Rattle.std.proofs.Common.{◌≡◌, ◌++◌, length}
use Rattle.std.specs.Option.{option_map}
use Rattle.command_words.specs.BitWords.{bits_of_digits}
use Rattle.command_words.proofs.bits.read_bits.Given as goal

-- what is read, before what the rest gives
abbrev pub invariant-loop-rest : goal.invariant-loop-rest
invariant-loop-rest l = bits_of_digits l.fn.word ≡ option_map (λ bits. l.items.items ++ bits) (bits_of_digits l.rest)

abbrev pub decreases-loop-rest : goal.decreases-loop-rest
decreases-loop-rest l = length l.rest
