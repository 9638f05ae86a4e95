use Rattle.std.proofs.Common.{◌*◌}
use Rattle.dealer_files.specs.Reading.{a_pair, AreElementsFrom, AreAppended}
use Rattle.dealer_files.proofs.reading.read_pairs.Given as goal

abbrev pub invariant-loop-j : goal.invariant-loop-j
invariant-loop-j l = AreAppended a_pair l.fn.pairs.items l.pairs.items l.j l.bytes l.at × AreElementsFrom l.bytes l.at (2 * l.j)
