use Rattle.std.proofs.Common.{◌≡◌, ◌+◌, ◌++◌, take}
use Rattle.std.specs.Prelude.{vec_len, vec_capacity}
use Rattle.proof_frames.proofs.held.push_bytes.Given as goal

abbrev pub invariant-loop-byte : goal.invariant-loop-byte
invariant-loop-byte l = record {
  items : l.start.items ≡ l.fn.start.items ++ take l.byte-index l.bytes;
  count : vec_len l.start ≡ vec_len l.fn.start + l.byte-index;
  capacity : vec_capacity l.start ≡ vec_capacity l.fn.start;
}
