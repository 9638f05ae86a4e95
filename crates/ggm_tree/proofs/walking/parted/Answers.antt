use Rattle.std.proofs.Common.{[], ◌∙◌, ap, arith}
use Rattle.std.proofs.lemmas.List.{length-set, get_or_default}
use Rattle.zk_model.specs.Bytes.{LeftRight}
use Rattle.ggm_tree.proofs.Trees.{node_written}
use Rattle.ggm_tree.specs.Rows.{level_in}
use Rattle.ggm_tree.proofs.walking.parted.Goals as goal

pub loop-level-preserved : goal.loop-level-preserved
loop-level-preserved c =
    let read = c.both.view_is
    ∙ get_or_default c.args.sums.now c.loop-level.level c.index-sums-level.result (record { left = []; right = [] }) (omega (arith, c.type_inv.sums)) in
    record {
      left_long = length-set c.loop-level.left c.loop-level.level c.both.inside.left ∙ c.loop-level.invariant.left_long;
      right_long = length-set c.loop-level.right c.loop-level.level c.both.inside.right ∙ c.loop-level.invariant.right_long;
      lefts = node_written c.loop-level.left c.loop-level.level c.both.inside.left (λ k. (level_in c.args.sums.now k).left) (omega arith)
          c.loop-level.invariant.lefts (ap (λ (both : LeftRight). both.left) read);
      rights = node_written c.loop-level.right c.loop-level.level c.both.inside.right (λ k. (level_in c.args.sums.now k).right) (omega arith)
          c.loop-level.invariant.rights (ap (λ (both : LeftRight). both.right) read);
    }
