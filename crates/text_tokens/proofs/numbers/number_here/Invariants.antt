use Rattle.std.proofs.Common.{◌<◌, ◌^◌, take, true}
use Rattle.text_tokens.specs.Scans.{AreScanned}
use Rattle.text_tokens.proofs.numbers.number_here.Given as goal

abbrev pub invariant-loop-i : goal.invariant-loop-i
invariant-loop-i g l = record { scanned : AreScanned (take l.i l.text) true l.value; small : l.value < 10 ^ l.i }
