use Rattle.std.proofs.Common.{◌≡◌, take}
use Rattle.proof_audit.proofs.judge.same_messages.Given as goal

abbrev pub invariant-loop-level : goal.invariant-loop-level
invariant-loop-level l = take l.level l.some ≡ take l.level l.others
