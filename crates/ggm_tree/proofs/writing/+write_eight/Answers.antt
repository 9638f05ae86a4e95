use Rattle.std.proofs.Common.{◌-◌, refl, arith}
use Rattle.ggm_tree.specs.Rows.{children_of}
use Rattle.ggm_tree.proofs.Below.{pow_more, leaves_none, leaves_two, added_more, added_two}
use Rattle.ggm_tree.proofs.writing.+write_eight.Goals as goal

pub write_eight-requires : goal.write_eight-requires
write_eight-requires g t c κs within = (omega arith, (within, (omega arith, omega (arith, pow_more c.args.height c.if-height-eq0.false))))

pub write_eight-requires-else-height-eq0 : goal.write_eight-requires-else-height-eq0
write_eight-requires-else-height-eq0 g t c κs within =
    (omega arith, (within, (omega arith, omega (arith, pow_more c.args.height c.if-height-eq0.false))))

pub returns-then-height-eq0-clause-leaves : goal.returns-then-height-eq0-clause-leaves
returns-then-height-eq0-clause-leaves g t c =
    leaves_none c.args.nodes.now c.args.height c.put_leaves.new.leaves c.if-height-eq0.true c.put_leaves.ensures

pub returns-else-height-eq0-clause-leaves : goal.returns-else-height-eq0-clause-leaves
returns-else-height-eq0-clause-leaves g t c =
    leaves_two c.args.nodes.now c.double_eight.result.0 c.double_eight.result.1 c.args.height c.write_eight.new.leaves c.write_eight-else-height-eq0.new.leaves
    c.if-height-eq0.false c.double_eight.ensures.children c.write_eight.ensures.leaves c.write_eight-else-height-eq0.ensures.leaves

pub returns-else-height-eq0-clause-sums : goal.returns-else-height-eq0-clause-sums
returns-else-height-eq0-clause-sums g t c =
    added_more c.args.nodes.now (children_of c.args.nodes.now) c.args.height c.args.sums.now c.split_at_mut-here.result.0.now
    c.split_at_mut-here.result.1.now c.write_eight-else-height-eq0.new.sums c.add_eight.new.sums c.index-here-0.result
    c.split_at_mut-here.ensures.value c.split_at_mut-here.ensures.front_len
    (c.add_eight.ensures c.args.nodes.now c.told-nodes c.double_eight.ensures.children) refl c.if-height-eq0.false
    (added_two (children_of c.args.nodes.now) c.double_eight.result.0 c.double_eight.result.1 (c.args.height - 1) c.split_at_mut-here.result.1.now
    c.write_eight.new.sums c.write_eight-else-height-eq0.new.sums c.double_eight.ensures.children
    c.write_eight.ensures.sums c.write_eight-else-height-eq0.ensures.sums)

pub returns-else-height-eq0-clause-steps : goal.returns-else-height-eq0-clause-steps
returns-else-height-eq0-clause-steps g t c = omega (arith, pow_more c.args.height c.if-height-eq0.false)
