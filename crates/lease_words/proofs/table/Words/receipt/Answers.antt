use Rattle.std.proofs.Common.{arith}
use Rattle.lease_words.proofs.OneFault.{write_met}
use Rattle.lease_words.proofs.table.Words.receipt.Goals as goal

pub split_seat-requires : goal.split_seat-requires
split_seat-requires g c =
    let three = c.args.self.now.sized in
    (c.requires, omega arith, write_met g.K.Keeper.label g.K.Keeper.stores _ _ _)
