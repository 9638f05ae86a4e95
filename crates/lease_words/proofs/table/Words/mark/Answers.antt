use Rattle.std.proofs.Common.{arith}
use Rattle.lease_words.proofs.OneFault.{mark_met}
use Rattle.lease_words.proofs.table.Words.mark.Goals as goal

pub store-requires : goal.store-requires
store-requires g c =
    let three = c.args.self.now.sized in
    (c.requires.own, omega arith, mark_met g.K.Keeper.label g.K.Keeper.stores _ _ _ _ _ c.args.seat.now.is_journal.journal c.requires.once c.requires.at_least_one)
