use Rattle.std.proofs.Common.{◌≡◌, ◌≤◌, [], length}
use Rattle.std.specs.Prelude.{All, vec_len, vec_capacity}
use Rattle.proof_frames.proofs.rooms.blanks.Given as goal

abbrev pub invariant-loop : goal.invariant-loop
invariant-loop g l = record {
  count : length l.rooms.items ≡ l.counter;
  len : vec_len l.rooms ≡ l.counter;
  room : l.count ≤ vec_capacity l.rooms;
  blank : All (λ room. (room.items ≡ []) × (l.items ≤ vec_capacity room)) l.rooms.items;
}
