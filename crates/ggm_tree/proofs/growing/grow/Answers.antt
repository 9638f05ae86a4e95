use Rattle.std.proofs.Common.{◌∙◌, arith}
use Rattle.ggm_tree.proofs.Trees.{leaves_root, all_sums, written, none_at}
use Rattle.ggm_tree.proofs.growing.grow.Goals as goal

pub returns-clause-leaves : goal.returns-clause-leaves
returns-clause-leaves c =
    written c.in_ok-leaves.leaves.len c.in_ok-leaves.leaves.items c.deref_mut-2.result.now c.write_leaves.new.leaves c.in_ok-leaves.leaves.ok.0
    c.deref_mut-2.ensures.value c.write_leaves.auto.leaves ∙ c.write_leaves.ensures.leaves ∙ leaves_root c.args.seed.now c.args.height

pub returns-clause-sums : goal.returns-clause-sums
returns-clause-sums c =
    written c.in_ok-sums.sums.len c.in_ok-sums.sums.items c.deref_mut.result.now c.write_leaves.new.sums c.in_ok-sums.sums.ok.0
    c.deref_mut.ensures.value c.write_leaves.auto.sums
    ∙ all_sums c.args.seed.now c.args.height c.deref_mut.result.now c.write_leaves.new.sums c.write_leaves.ensures.sums
    (omega (arith, c.in_ok-sums.ensures.len))
    (none_at c.args.height c.zeros.result c.deref_mut.result.now c.in_ok-sums.sums.items c.zeros.ensures
    (c.in_ok-sums.ensures.items_if_clones_equal (λ y same. same)) c.deref_mut.ensures.value)
