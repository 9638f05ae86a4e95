use Rattle.std.proofs.Common.{◌++◌, ap, ◌∙◌}
use Rattle.zk_model.specs.FileBytes.{pair_bytes}
use Rattle.dealer_files.proofs.ByteLists.{item_of_two_more}
use Rattle.dealer_files.proofs.encoding.push_pairs.Goals as goal

pub loop-pair-preserved : goal.loop-pair-preserved
loop-pair-preserved c =
    item_of_two_more pair_bytes c.args.pairs.now c.loop-pair.pair-index c.pair-item.result c.args.bytes.now.items c.loop-pair.bytes.items
    c.extend_from_slice.new.self.items c.extend_from_slice-in-loop-pair.new.self.items c.to_le.result c.to_le-in-loop-pair.result
    c.loop-pair-test.true c.pair-item.is c.loop-pair.invariant c.in_ok-extend_from_slice.ensures.items c.in_ok-extend_from_slice-2.ensures.items
    ((λ i. c.to_le.ensures.bytes i ++ c.to_le-in-loop-pair.ensures.bytes i) ∙ ap pair_bytes c.pair.view_is)
