use Rattle.std.proofs.Common.{◌++◌, ◌∷◌, [], ◌∙◌, ap, sym, subst, take}
use Rattle.std.specs.Prelude.{All}
use Rattle.std.proofs.lemmas.List.{take_more}
use Rattle.std.proofs.lemmas.List.Elements.{All-push}
use Rattle.zk_model.specs.Bytes.{element_bytes}
use Rattle.zk_model.specs.Field.{IsElement}
use Rattle.dealer_files.proofs.ByteLists.{item_more}
use Rattle.session_core.proofs.statement.push_elements.Goals as goal

pub loop-element-preserved : goal.loop-element-preserved
loop-element-preserved c = record {
  bytes = item_more element_bytes c.args.elements.now c.loop-element.element-index c.element-item.result c.args.bytes.now.items c.loop-element.bytes.items
      c.extend_from_slice.new.self.items c.to_le.result c.loop-element-test.true c.element-item.is c.loop-element.invariant.bytes
      c.in_ok-extend_from_slice.ensures.items c.to_le.ensures.bytes;
  range = subst (All IsElement)
      (ap (λ q. take c.loop-element.element-index c.args.elements.now ++ q ∷ []) c.element-item.is
      ∙ sym (take_more c.args.elements.now c.loop-element.element-index c.element-item.result c.loop-element-test.true))
      (All-push IsElement (take c.loop-element.element-index c.args.elements.now) c.element-item.result c.loop-element.invariant.range c.to_le.ensures.element);
}
