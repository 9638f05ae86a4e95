use Rattle.std.proofs.Common.{[], ◌∷◌, get_or, ◌-◌, ◌%◌, map, sum, refl, ◌∙◌, ap, arith}
use Rattle.zk_model.specs.Field.{prime}
use Rattle.zk_model.specs.Tree.{leaf_value}
use Rattle.ggm_tree.specs.Rows.{children_of, leaves_below}
use Rattle.ggm_tree.proofs.Below.{pow_more, leaves_none, leaves_two, added_more, added_two, pair_added}
use Rattle.ggm_tree.proofs.LeafSums.{sum_two}
use Rattle.ggm_tree.proofs.summing.+sum_low.Goals as goal

pub returns-then-height-eq0-clause-leaves : goal.returns-then-height-eq0-clause-leaves
returns-then-height-eq0-clause-leaves g t c =
    c.sum_of.ensures
    ∙ ap (λ leaves. sum leaves % prime) (leaves_none (c.args.node.now ∷ []) c.args.height (map leaf_value (c.args.node.now ∷ [])) c.if-height-eq0.true refl)

pub returns-else-height-eq0-clause-leaves : goal.returns-else-height-eq0-clause-leaves
returns-else-height-eq0-clause-leaves g t c =
    sum_two (leaves_below (c.double.result.0 ∷ []) (c.args.height - 1)) (leaves_below (c.double.result.1 ∷ []) (c.args.height - 1))
    c.sum_low-front.result c.sum_low-back.result c.add.result c.sum_low-front.ensures.leaves c.sum_low-back.ensures.leaves c.add.ensures
    ∙ ap (λ leaves. sum leaves % prime) (leaves_two (c.args.node.now ∷ []) (c.double.result.0 ∷ []) (c.double.result.1 ∷ []) c.args.height
    (leaves_below (c.double.result.0 ∷ []) (c.args.height - 1)) (leaves_below (c.double.result.1 ∷ []) (c.args.height - 1))
    c.if-height-eq0.false (λ i. c.double.ensures.left i ∷ c.double.ensures.right i ∷ []) refl refl)

pub returns-else-height-eq0-clause-sums : goal.returns-else-height-eq0-clause-sums
returns-else-height-eq0-clause-sums g t c =
    added_more (c.args.node.now ∷ []) (children_of (c.args.node.now ∷ [])) c.args.height c.args.sums.now c.split_at_mut-here.result.0.now
    c.split_at_mut-here.result.1.now c.sum_low-back.new.sums c.add_children.new.sums c.index-here-0.result
    c.split_at_mut-here.ensures.value c.split_at_mut-here.ensures.front_len
    (pair_added c.args.node.now c.double.result.0 c.double.result.1
    (get_or c.split_at_mut-here.result.0.now 0 c.index-here-0.result) c.add_children.new.sums
    c.double.ensures.left c.double.ensures.right c.add_children.ensures) refl c.if-height-eq0.false
    (added_two (children_of (c.args.node.now ∷ [])) (c.double.result.0 ∷ []) (c.double.result.1 ∷ []) (c.args.height - 1) c.split_at_mut-here.result.1.now
    c.sum_low-front.new.sums c.sum_low-back.new.sums (λ i. c.double.ensures.left i ∷ c.double.ensures.right i ∷ [])
    c.sum_low-front.ensures.sums c.sum_low-back.ensures.sums)

pub returns-else-height-eq0-clause-steps : goal.returns-else-height-eq0-clause-steps
returns-else-height-eq0-clause-steps g t c = omega (arith, pow_more c.args.height c.if-height-eq0.false)
