use Rattle.std.proofs.Common.{◌≡◌, take}
use Rattle.zk_model.specs.Mac.{macs_of}
use Rattle.zk_model.specs.Check.{opened_pairs}
use Rattle.session_core.proofs.prover_job.opened_macs.Given as goal

abbrev pub invariant-loop-o : goal.invariant-loop-o
invariant-loop-o l = l.macs.items ≡ macs_of (take l.o (opened_pairs l.walk.side.program l.walk.side.pairs))
