use Rattle.std.proofs.Common.{◌≡◌, ◌+◌, ◌++◌, ◌≤◌, [], flat_map, length}
use Rattle.std.specs.Prelude.{All, vec_len, vec_capacity}
use Rattle.proof_frames.specs.Rows.{FitsFields, repeat, tree_fields}
use Rattle.proof_frames.proofs.spelling.trees_of.Given as goal

abbrev pub invariant-loop-levels : goal.invariant-loop-levels
invariant-loop-levels g l = record {
  bytes : flat_map g.T.Spelled.spelling l.rooms.trees.items ++ l.rest ≡ l.payload;
  each : All (g.T.Tree.is_tree l.height) l.rooms.trees.items;
  rest : FitsFields (repeat (length l.rooms.levels.items) (tree_fields l.height g.L.Level.SIZE g.L.Level.most)) l.rest;
  blank : All (λ room. (room.items ≡ []) × (l.height ≤ vec_capacity room)) l.rooms.levels.items;
  count : length l.rooms.levels.items + length l.rooms.trees.items ≡ length l.fn.rooms.levels.items;
  room : length l.fn.rooms.levels.items ≤ vec_capacity l.rooms.trees;
}

abbrev pub decreases-loop-levels : goal.decreases-loop-levels
decreases-loop-levels g l = vec_len l.rooms.levels
