use Rattle.std.proofs.Common.{arith}
use Rattle.lease_words.proofs.OneFault.{raise_met}
use Rattle.lease_words.proofs.table.Words.raise.Goals as goal

pub store-requires : goal.store-requires
store-requires g c =
    let three = c.args.self.now.sized in
    (c.requires.own, omega arith, raise_met g.K.Keeper.label g.K.Keeper.stores _ _ _ _ _ c.args.seat.now.is_journal.journal c.requires.from c.requires.to c.requires.asked c.args.seat.now.keeper c.requires.named c.requires.stored)
