use Rattle.std.proofs.Common.{◌≡◌, ◌+◌, ◌*◌, ◌≤◌, ◌++◌, length, flat_map}
use Rattle.std.specs.Prelude.{All, vec_len, vec_capacity}
use Rattle.zk_model.specs.Field.{IsElement}
use Rattle.zk_model.specs.Bytes.{element_bytes}
use Rattle.proof_frames.proofs.held.take_elements.Given as goal

abbrev pub invariant-loop-element : goal.invariant-loop-element
invariant-loop-element l = record {
  ranged : All IsElement l.elements.items;
  bytes : flat_map element_bytes l.elements.items ++ l.rest ≡ flat_map element_bytes l.fn.elements.items ++ l.piece;
  capacity : vec_capacity l.elements ≡ vec_capacity l.fn.elements;
  less : length l.rest ≤ length l.piece;
  count : 8 * vec_len l.elements + length l.rest ≡ 8 * vec_len l.fn.elements + length l.piece;
}

abbrev pub decreases-loop-element : goal.decreases-loop-element
decreases-loop-element l = length l.rest
