use Rattle.std.proofs.Common.{[], ◌∷◌, arith}
use Rattle.ggm_tree.proofs.Below.{pow_eight, leaves_further, added_further}
use Rattle.ggm_tree.proofs.writing.write_one.Goals as goal

pub write_eight-requires-clause-places : goal.write_eight-requires-clause-places
write_eight-requires-clause-places g c = omega (arith, pow_eight c.args.height c.if-height-lt3.false)

pub returns-else-height-lt3-clause-leaves : goal.returns-else-height-lt3-clause-leaves
returns-else-height-lt3-clause-leaves g c =
    leaves_further (c.args.node.now ∷ []) c.eight_below-nodes.result 3 c.args.height c.write_eight.new.leaves c.if-height-lt3.false
    c.eight_below-nodes.ensures.nodes c.write_eight.ensures.leaves

pub returns-else-height-lt3-clause-sums : goal.returns-else-height-lt3-clause-sums
returns-else-height-lt3-clause-sums g c =
    added_further (c.args.node.now ∷ []) c.eight_below-nodes.result 3 c.args.height c.args.sums.now c.split_at_mut-top.result.0.now
    c.split_at_mut-top.result.1.now c.eight_below-nodes.new.sums c.write_eight.new.sums c.if-height-lt3.false
    c.split_at_mut-top.ensures.value c.split_at_mut-top.ensures.front_len (omega (arith, c.split_at_mut-top.ensures.front_len))
    c.eight_below-nodes.ensures.nodes c.eight_below-nodes.ensures.sums c.write_eight.ensures.sums

pub returns-else-height-lt3-clause-steps : goal.returns-else-height-lt3-clause-steps
returns-else-height-lt3-clause-steps g c = omega (arith, pow_eight c.args.height c.if-height-lt3.false)
