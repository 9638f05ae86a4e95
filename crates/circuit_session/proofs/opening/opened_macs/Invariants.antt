use Rattle.std.proofs.Common.{◌≡◌, take, All}
use Rattle.zk_model.specs.Field.{IsElement}
use Rattle.zk_model.specs.Mac.{macs_of}
use Rattle.zk_model.specs.Check.{opened_pairs}
use Rattle.circuit_session.proofs.opening.opened_macs.Given as goal

abbrev pub invariant-loop-o : goal.invariant-loop-o
invariant-loop-o l = record {
  macs : l.macs.items ≡ macs_of (take l.o (opened_pairs l.walk.side.program l.walk.side.pairs));
  elements : All IsElement l.macs.items;
}
