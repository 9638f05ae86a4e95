use Rattle.std.proofs.Common.{◌∙◌}
use Rattle.ggm_tree.proofs.Trees.{leaves_root, written}
use Rattle.ggm_tree.proofs.growing.expand.Goals as goal

pub returns-clause-leaves : goal.returns-clause-leaves
returns-clause-leaves c =
    written c.in_ok-leaves.leaves.len c.in_ok-leaves.leaves.items c.deref_mut.result.now c.write_leaves.new.leaves c.in_ok-leaves.leaves.ok.0
    c.deref_mut.ensures.value c.write_leaves.auto.leaves ∙ c.write_leaves.ensures.leaves ∙ leaves_root c.args.seed.now c.args.height
