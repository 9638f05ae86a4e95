use Rattle.std.proofs.Common.{◌≡◌, min, take}
use Rattle.zk_model.specs.Bristol.{decimal_value}
use Rattle.command_words.proofs.numbers.capped_value.Given as goal

-- the number of the digits so far
abbrev pub invariant-loop-c : goal.invariant-loop-c
invariant-loop-c l = l.value ≡ min (decimal_value (take l.c-index l.word)) l.most
