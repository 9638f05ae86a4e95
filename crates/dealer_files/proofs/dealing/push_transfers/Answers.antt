use Rattle.dealer_files.specs.Words.{word_pads, word_transfer}
use Rattle.dealer_files.proofs.DealtLists.{one_more}
use Rattle.dealer_files.proofs.dealing.push_transfers.Goals as goal

pub loop-i-preserved : goal.loop-i-preserved
loop-i-preserved c = record {
  transfers = one_more (word_transfer c.args.words.now) c.args.transfers.now.items c.loop-i.transfers.items c.push.new.self.items _ c.loop-i.i
      c.transfer_of.ensures c.in_ok-push.ensures.items c.loop-i.invariant.transfers;
  pads = one_more (word_pads c.args.words.now) c.args.pads.now.items c.loop-i.pads.items c.push-in-loop-i.new.self.items _ c.loop-i.i
      c.pads_of.ensures c.in_ok-push-2.ensures.items c.loop-i.invariant.pads;
}
