use Rattle.std.proofs.Common.{◌-◌, ◌%◌, [], ◌∷◌, sum, refl, ◌∙◌, ap, arith}
use Rattle.zk_model.specs.Field.{prime}
use Rattle.ggm_tree.specs.Rows.{leaves_below}
use Rattle.ggm_tree.proofs.Below.{pow_eight, leaves_further, added_further}
use Rattle.ggm_tree.proofs.summing.sum_one.Goals as goal

pub returns-else-height-lt3-clause-leaves : goal.returns-else-height-lt3-clause-leaves
returns-else-height-lt3-clause-leaves g c =
    c.sum_eight.ensures.leaves ∙ ap (λ leaves. sum leaves % prime) (leaves_further (c.args.node.now ∷ []) c.eight_below-nodes.result 3 c.args.height
    (leaves_below c.eight_below-nodes.result (c.args.height - 3)) c.if-height-lt3.false c.eight_below-nodes.ensures.nodes refl)

pub returns-else-height-lt3-clause-sums : goal.returns-else-height-lt3-clause-sums
returns-else-height-lt3-clause-sums g c =
    added_further (c.args.node.now ∷ []) c.eight_below-nodes.result 3 c.args.height c.args.sums.now c.split_at_mut-top.result.0.now
    c.split_at_mut-top.result.1.now c.eight_below-nodes.new.sums c.sum_eight.new.sums c.if-height-lt3.false
    c.split_at_mut-top.ensures.value c.split_at_mut-top.ensures.front_len (omega (arith, c.split_at_mut-top.ensures.front_len))
    c.eight_below-nodes.ensures.nodes c.eight_below-nodes.ensures.sums c.sum_eight.ensures.sums

pub returns-else-height-lt3-clause-steps : goal.returns-else-height-lt3-clause-steps
returns-else-height-lt3-clause-steps g c = omega (arith, pow_eight c.args.height c.if-height-lt3.false)
