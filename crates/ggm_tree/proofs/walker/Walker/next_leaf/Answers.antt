use Rattle.std.proofs.Common.{◌+◌, ◌-◌, refl, ◌∙◌, sym, arith}
use Rattle.std.proofs.lemmas.List.{length-set}
use Rattle.ggm_tree.proofs.Pending.{left_none, left_taken, left_parted, low_more}
use Rattle.ggm_tree.proofs.walker.Walker.next_leaf.Goals as goal

pub returns-then-self-eq0 : goal.returns-then-self-eq0
returns-then-self-eq0 c =
    let none = sym c.self.view_is ∙ left_none c.self.inside.nodes c.self.inside.heights c.self.inside.held c.if-self-eq0.true in (none, none)

pub loop-height-init : goal.loop-height-init
loop-height-init c = record {
  nodes_long = omega arith;
  heights_long = omega arith;
  room = omega (arith, c.self.invariant.1 (c.self.inside.held - 1) (omega arith));
  low = λ k below. c.self.invariant.1 k (omega (arith, below));
  left = sym (left_taken c.self.inside.nodes c.self.inside.heights c.self.inside.held c.if-self-eq0.false) ∙ c.self.view_is;
}

pub loop-height-preserved : goal.loop-height-preserved
loop-height-preserved c =
    let height = c.loop-height.height - 1 in
    let held = c.loop-height.self-inside.held in
    record {
      nodes_long = length-set c.loop-height.self-inside.nodes held c.children.result.1 ∙ c.loop-height.invariant.nodes_long;
      heights_long = length-set c.loop-height.self-inside.heights held height ∙ c.loop-height.invariant.heights_long;
      room = omega arith;
      low = low_more c.loop-height.self-inside.heights held height (omega arith) (omega arith) c.loop-height.invariant.low;
      left = left_parted c.loop-height.self-inside.nodes c.loop-height.self-inside.heights held height c.loop-height.height (held + 1)
          c.loop-height.node c.children.result.0 c.children.result.1 (omega arith) (omega arith) (omega arith) refl
          c.children.ensures.left c.children.ensures.right ∙ c.loop-height.invariant.left;
    }
