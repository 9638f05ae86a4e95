use Rattle.std.proofs.Common.{[], ◌∷◌, get_or, ◌-◌, refl, arith}
use Rattle.ggm_tree.specs.Rows.{children_of}
use Rattle.ggm_tree.proofs.Below.{pow_more, leaves_none, leaves_two, added_more, added_two, pair_added}
use Rattle.ggm_tree.proofs.writing.+write_low.Goals as goal

pub write_low-requires : goal.write_low-requires
write_low-requires g t c κs within = (omega arith, (within, (omega arith, omega (arith, pow_more c.args.height c.if-height-eq0.false))))

pub write_low-requires-else-height-eq0 : goal.write_low-requires-else-height-eq0
write_low-requires-else-height-eq0 g t c κs within =
    (omega arith, (within, (omega arith, omega (arith, pow_more c.args.height c.if-height-eq0.false))))

pub returns-then-height-eq0-clause-leaves : goal.returns-then-height-eq0-clause-leaves
returns-then-height-eq0-clause-leaves g t c =
    leaves_none (c.args.node.now ∷ []) c.args.height c.put_leaves.new.leaves c.if-height-eq0.true c.put_leaves.ensures

pub returns-else-height-eq0-clause-leaves : goal.returns-else-height-eq0-clause-leaves
returns-else-height-eq0-clause-leaves g t c =
    leaves_two (c.args.node.now ∷ []) (c.double.result.0 ∷ []) (c.double.result.1 ∷ []) c.args.height c.write_low.new.leaves c.write_low-else-height-eq0.new.leaves
    c.if-height-eq0.false (λ i. c.double.ensures.left i ∷ c.double.ensures.right i ∷ []) c.write_low.ensures.leaves c.write_low-else-height-eq0.ensures.leaves

pub returns-else-height-eq0-clause-sums : goal.returns-else-height-eq0-clause-sums
returns-else-height-eq0-clause-sums g t c =
    added_more (c.args.node.now ∷ []) (children_of (c.args.node.now ∷ [])) c.args.height c.args.sums.now c.split_at_mut-here.result.0.now
    c.split_at_mut-here.result.1.now c.write_low-else-height-eq0.new.sums c.add_children.new.sums c.index-here-0.result
    c.split_at_mut-here.ensures.value c.split_at_mut-here.ensures.front_len
    (pair_added c.args.node.now c.double.result.0 c.double.result.1
    (get_or c.split_at_mut-here.result.0.now 0 c.index-here-0.result) c.add_children.new.sums
    c.double.ensures.left c.double.ensures.right c.add_children.ensures) refl c.if-height-eq0.false
    (added_two (children_of (c.args.node.now ∷ [])) (c.double.result.0 ∷ []) (c.double.result.1 ∷ []) (c.args.height - 1) c.split_at_mut-here.result.1.now
    c.write_low.new.sums c.write_low-else-height-eq0.new.sums (λ i. c.double.ensures.left i ∷ c.double.ensures.right i ∷ [])
    c.write_low.ensures.sums c.write_low-else-height-eq0.ensures.sums)

pub returns-else-height-eq0-clause-steps : goal.returns-else-height-eq0-clause-steps
returns-else-height-eq0-clause-steps g t c = omega (arith, pow_more c.args.height c.if-height-eq0.false)
