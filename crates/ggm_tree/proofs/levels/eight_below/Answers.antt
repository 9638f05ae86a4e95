use Rattle.std.proofs.Common.{[], ◌∷◌, ◌∙◌, ap}
use Rattle.ggm_tree.specs.Rows.{children_of, nodes_below}
use Rattle.ggm_tree.proofs.Below.{added_three}
use Rattle.ggm_tree.proofs.levels.eight_below.Goals as goal

pub returns-clause-nodes : goal.returns-clause-nodes
unfolding nodes_below
returns-clause-nodes g c =
    c.below_four.ensures.children ∙ ap children_of (c.below_two-four.ensures.children ∙ ap children_of c.below_one-two.ensures.children)

pub returns-clause-sums : goal.returns-clause-sums
returns-clause-sums g c =
    added_three (c.args.node.now ∷ []) c.below_one-two.result c.below_two-four.result c.args.sums.now c.below_one-two.new.sums c.below_two-four.new.sums
    c.below_four.new.sums c.index-sums-0.result c.index-sums-1.result c.index-sums-2.result c.requires c.below_one-two.ensures.children
    c.below_two-four.ensures.children c.below_one-two.ensures.sums c.below_two-four.ensures.sums c.below_four.ensures.sums
