use Rattle.std.proofs.Common.{◌≡◌, ◌*◌, length, arith}
use Rattle.zk_model.specs.Files.{dealt_per_unit}
use Rattle.dealer_files.proofs.DealtLists.{pairs_more}
use Rattle.dealer_files.proofs.dealing.deal_pairs.Goals as goal

pub loop-unit-preserved : goal.loop-unit-preserved
loop-unit-preserved c =
    let whole : length c.loop-unit.words ≡ 2 * dealt_per_unit c.args.params.now = omega (arith, c.in_ok-buffer.ensures.len, c.as_mut_slice-words.ensures.len, c.dealt_per_unit-each.ensures.count) in
    pairs_more c.args.params.now c.args.coins.now c.words.new.words c.loop-unit.unit (length c.loop-unit.words)
    c.loop-unit.pairs.items c.push_pairs.new.pairs.items (record { are = c.words.ensures }) whole
    c.in_ok-push_pairs.ensures c.loop-unit.invariant
