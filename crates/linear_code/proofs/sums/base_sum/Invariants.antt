use Rattle.linear_code.proofs.Terms.{IsSum}
use Rattle.linear_code.proofs.sums.base_sum.Given as goal

abbrev pub invariant-loop-place : goal.invariant-loop-place
invariant-loop-place l = IsSum l.base l.places l.place-index l.sum
