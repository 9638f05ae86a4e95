use Rattle.std.proofs.Common.{◌-◌, ◌%◌, map, sum, refl, ◌∙◌, ap, arith}
use Rattle.zk_model.specs.Field.{prime}
use Rattle.zk_model.specs.Tree.{leaf_value}
use Rattle.ggm_tree.specs.Rows.{children_of, leaves_below}
use Rattle.ggm_tree.proofs.Below.{pow_more, leaves_none, leaves_two, added_more, added_two}
use Rattle.ggm_tree.proofs.LeafSums.{sum_two}
use Rattle.ggm_tree.proofs.summing.+sum_eight.Goals as goal

pub returns-then-height-eq0-clause-leaves : goal.returns-then-height-eq0-clause-leaves
returns-then-height-eq0-clause-leaves g t c =
    c.sum_of.ensures
    ∙ ap (λ leaves. sum leaves % prime) (leaves_none c.args.nodes.now c.args.height (map leaf_value c.args.nodes.now) c.if-height-eq0.true refl)

pub returns-else-height-eq0-clause-leaves : goal.returns-else-height-eq0-clause-leaves
returns-else-height-eq0-clause-leaves g t c =
    sum_two (leaves_below c.double_eight.result.0 (c.args.height - 1)) (leaves_below c.double_eight.result.1 (c.args.height - 1))
    c.sum_eight-front.result c.sum_eight-back.result c.add.result c.sum_eight-front.ensures.leaves c.sum_eight-back.ensures.leaves c.add.ensures
    ∙ ap (λ leaves. sum leaves % prime) (leaves_two c.args.nodes.now c.double_eight.result.0 c.double_eight.result.1 c.args.height
    (leaves_below c.double_eight.result.0 (c.args.height - 1)) (leaves_below c.double_eight.result.1 (c.args.height - 1))
    c.if-height-eq0.false c.double_eight.ensures.children refl refl)

pub returns-else-height-eq0-clause-sums : goal.returns-else-height-eq0-clause-sums
returns-else-height-eq0-clause-sums g t c =
    added_more c.args.nodes.now (children_of c.args.nodes.now) c.args.height c.args.sums.now c.split_at_mut-here.result.0.now
    c.split_at_mut-here.result.1.now c.sum_eight-back.new.sums c.add_eight.new.sums c.index-here-0.result
    c.split_at_mut-here.ensures.value c.split_at_mut-here.ensures.front_len
    (c.add_eight.ensures c.args.nodes.now c.told-nodes c.double_eight.ensures.children) refl c.if-height-eq0.false
    (added_two (children_of c.args.nodes.now) c.double_eight.result.0 c.double_eight.result.1 (c.args.height - 1) c.split_at_mut-here.result.1.now
    c.sum_eight-front.new.sums c.sum_eight-back.new.sums c.double_eight.ensures.children
    c.sum_eight-front.ensures.sums c.sum_eight-back.ensures.sums)

pub returns-else-height-eq0-clause-steps : goal.returns-else-height-eq0-clause-steps
returns-else-height-eq0-clause-steps g t c = omega (arith, pow_more c.args.height c.if-height-eq0.false)
