use Rattle.zk_model.specs.Mac.{values_of, macs_of}
use Rattle.linear_code.proofs.Terms.{IsSum}
use Rattle.linear_code.proofs.sums.pair_sums.Given as goal

abbrev pub invariant-loop-place : goal.invariant-loop-place
invariant-loop-place l =
    IsSum (values_of l.base) l.places l.place-index l.sums.x × IsSum (macs_of l.base) l.places l.place-index l.sums.m
