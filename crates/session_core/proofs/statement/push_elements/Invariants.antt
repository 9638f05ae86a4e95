use Rattle.std.proofs.Common.{◌≡◌, ◌++◌, take, flat_map}
use Rattle.std.specs.Prelude.{All}
use Rattle.zk_model.specs.Bytes.{element_bytes}
use Rattle.zk_model.specs.Field.{IsElement}
use Rattle.session_core.proofs.statement.push_elements.Given as goal

abbrev pub invariant-loop-element : goal.invariant-loop-element
invariant-loop-element l = record {
  bytes : l.bytes.items ≡ l.fn.bytes.items ++ flat_map element_bytes (take l.element-index l.elements);
  range : All IsElement (take l.element-index l.elements);
}
