use Rattle.std.proofs.Common.{◌≡◌, ◌++◌, ◌-◌, map}
use Rattle.std.specs.List.{range_with_len}
use Rattle.zk_model.specs.declared.Expect.TheVariants as expect
use Rattle.session_claim.proofs.script.add_asks.Given as goal

abbrev pub invariant-loop-i : goal.invariant-loop-i
invariant-loop-i l = l.places.items ≡ l.fn.places.items ++ map (λ i. expect.Ask l.fn.height l.fn.trees (l.fn.count - i)) (range_with_len 0 l.i)
