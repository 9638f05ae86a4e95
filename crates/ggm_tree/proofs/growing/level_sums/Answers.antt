use Rattle.std.proofs.Common.{◌∙◌, arith}
use Rattle.ggm_tree.proofs.Trees.{all_sums, written, none_at}
use Rattle.ggm_tree.proofs.growing.level_sums.Goals as goal

pub returns-clause-sums : goal.returns-clause-sums
returns-clause-sums c =
    written c.in_ok-sums.sums.len c.in_ok-sums.sums.items c.deref_mut.result.now c.sum_leaves-leaf_sum.new.sums c.in_ok-sums.sums.ok.0
    c.deref_mut.ensures.value c.sum_leaves-leaf_sum.auto.sums
    ∙ all_sums c.args.seed.now c.args.height c.deref_mut.result.now c.sum_leaves-leaf_sum.new.sums c.sum_leaves-leaf_sum.ensures.sums
    (omega (arith, c.in_ok-sums.ensures.len))
    (none_at c.args.height c.zeros.result c.deref_mut.result.now c.in_ok-sums.sums.items c.zeros.ensures
    (c.in_ok-sums.ensures.items_if_clones_equal (λ y same. same)) c.deref_mut.ensures.value)
