use Rattle.std.proofs.Common.{arith}
use Rattle.lease_words.proofs.OneFault.{read_met}
use Rattle.lease_words.proofs.table.Words.learn.Goals as goal

pub join_seat-requires : goal.join_seat-requires
join_seat-requires g c =
    let three = c.args.self.now.sized in
    let written = c.args.receipt.is_receipt in
    (c.requires.own, c.requires.receipt, written.slots, omega arith, read_met g.K.Keeper.label g.K.Keeper.stores _ _ _ _ _ written.view)
