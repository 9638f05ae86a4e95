use Rattle.std.proofs.Common.{◌≡◌, take}
use Rattle.prove_command.proofs.bits_witness.first_difference.Given as goal

-- the places so far are the same
abbrev pub invariant-loop-place : goal.invariant-loop-place
invariant-loop-place l = take l.place l.some ≡ take l.place l.others
