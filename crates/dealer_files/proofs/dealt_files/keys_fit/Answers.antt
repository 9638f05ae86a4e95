use Rattle.std.proofs.Common.{refl, arith}
use Rattle.dealer_files.proofs.Zips.{KeyFits, all_zip_more, all_zip_whole, keys_are}
use Rattle.dealer_files.proofs.Fitting.{key_fits}
use Rattle.dealer_files.proofs.dealt_files.keys_fit.Goals as goal

pub loop-i-preserved : goal.loop-i-preserved
loop-i-preserved c =
    all_zip_more (KeyFits c.args.key) c.args.pairs.now c.args.keys.now c.loop-i.i c.index-pairs-i.result c.index-keys-i.result
    c.loop-i-test.true c.requires c.loop-i.invariant
    (key_fits c.args.key c.args.pairs.now c.args.keys.now c.loop-i.i _ c.index-pairs-i.result c.index-keys-i.result c.mul.result c.add.result
    c.pair.view_is c.index-pairs-i.is c.index-keys-i.is c.mul.ensures c.add.ensures c.if-ne.ensures)

pub returns : goal.returns
returns c = (
  λ yes. keys_are c.args.key c.args.pairs.now c.args.keys.now
      (all_zip_whole (KeyFits c.args.key) c.args.pairs.now c.args.keys.now c.loop-i.i (omega arith) c.requires c.loop-i.invariant),
  λ are. refl,
)
