use Rattle.std.proofs.Common.{arith}
use Rattle.lease_words.proofs.OneFault.{tell_met}
use Rattle.lease_words.proofs.table.Words.tell.Goals as goal

pub split_seat-requires : goal.split_seat-requires
split_seat-requires g c =
    let three = c.args.self.now.sized in
    (c.requires, omega arith, tell_met g.K.Keeper.label g.K.Keeper.stores _ _ _)
