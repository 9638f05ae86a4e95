use Rattle.dealer_files.specs.Dealt.{NamesItsPad}
use Rattle.dealer_files.proofs.Zips.{all_zip_more}
use Rattle.dealer_files.proofs.Fitting.{pad_fits, pad_differs}
use Rattle.dealer_files.proofs.dealt_files.pads_fit.Goals as goal

pub returns-then-ne : goal.returns-then-ne
returns-then-ne c = (
  λ no. cc,
  λ all. absurd (pad_differs c.args.transfers.now c.args.pads.now c.loop-i.i _ c.index-transfers-i.result c.index-pads-i.result c.choice.result
      c.transfer.view_is c.index-transfers-i.is c.index-pads-i.is c.choice.ensures c.if-ne.ensures c.loop-i-test.true all),
)

pub loop-i-preserved : goal.loop-i-preserved
loop-i-preserved c =
    all_zip_more NamesItsPad c.args.transfers.now c.args.pads.now c.loop-i.i c.index-transfers-i.result c.index-pads-i.result
    c.loop-i-test.true c.requires c.loop-i.invariant
    (pad_fits c.args.transfers.now c.args.pads.now c.loop-i.i _ c.index-transfers-i.result c.index-pads-i.result c.choice.result
    c.transfer.view_is c.index-transfers-i.is c.index-pads-i.is c.choice.ensures c.if-ne.ensures)
