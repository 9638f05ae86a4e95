use Rattle.std.proofs.Common.{◌≡◌, ◌++◌, take}
use Rattle.session_claim.proofs.script.add_all.Given as goal

abbrev pub invariant-loop-place : goal.invariant-loop-place
invariant-loop-place l = l.places.items ≡ l.fn.places.items ++ take l.place-index l.more
