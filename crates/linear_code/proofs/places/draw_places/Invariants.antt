use Rattle.std.proofs.Common.{◌≡◌, ◌+◌, ◌%◌, ◌++◌, map, take}
use Rattle.linear_code.proofs.places.draw_places.Given as goal

abbrev pub invariant-loop-word : goal.invariant-loop-word
invariant-loop-word l = record {
  items : l.places.items ≡ l.fn.places.items ++ map (λ word. word % l.base) (take l.word-index l.word-items);
  length : l.places.len ≡ l.fn.places.len + l.word-index;
}
