use Rattle.std.proofs.Common.{◌%◌, sum, ◌∙◌, ap, arith}
use Rattle.zk_model.specs.Field.{prime}
use Rattle.ggm_tree.proofs.Trees.{leaves_root, sums_root, array_at}
use Rattle.ggm_tree.proofs.walking.walk_sums.Goals as goal

pub returns-clause-left : goal.returns-clause-left
returns-clause-left g c = λ level below.
    c.parted.ensures.left level (omega (arith, below))
    ∙ ap (λ both. both.left) (sums_root c.args.root.now c.args.height _ c.sum_one-leaf_sum.new.sums level c.sum_one-leaf_sum.ensures.sums below
    (array_at c.zeros-sums.result level c.zeros-sums.ensures (omega (arith, below))))

pub returns-clause-right : goal.returns-clause-right
returns-clause-right g c = λ level below.
    c.parted.ensures.right level (omega (arith, below))
    ∙ ap (λ both. both.right) (sums_root c.args.root.now c.args.height _ c.sum_one-leaf_sum.new.sums level c.sum_one-leaf_sum.ensures.sums below
    (array_at c.zeros-sums.result level c.zeros-sums.ensures (omega (arith, below))))

pub returns-clause-left_past : goal.returns-clause-left_past
returns-clause-left_past g c = λ level past below.
    c.parted.ensures.left level below
    ∙ ap (λ both. both.left) (c.sum_one-leaf_sum.ensures.sums.kept level past ∙ array_at c.zeros-sums.result level c.zeros-sums.ensures below)

pub returns-clause-right_past : goal.returns-clause-right_past
returns-clause-right_past g c = λ level past below.
    c.parted.ensures.right level below
    ∙ ap (λ both. both.right) (c.sum_one-leaf_sum.ensures.sums.kept level past ∙ array_at c.zeros-sums.result level c.zeros-sums.ensures below)

pub returns-clause-leaf_sum : goal.returns-clause-leaf_sum
returns-clause-leaf_sum g c =
    c.parted.ensures.leaf_sum ∙ c.sum_one-leaf_sum.ensures.leaves
    ∙ ap (λ leaves. sum leaves % prime) (leaves_root c.args.root.now c.args.height)
