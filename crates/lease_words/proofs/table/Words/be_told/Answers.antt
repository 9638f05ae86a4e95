use Rattle.std.proofs.Common.{arith}
use Rattle.lease_words.proofs.OneFault.{be_told_met}
use Rattle.lease_words.proofs.table.Words.be_told.Goals as goal

pub join_seat-requires : goal.join_seat-requires
join_seat-requires g c =
    let three = c.args.self.now.sized in
    let given = c.args.word.is_word in
    (c.requires.own, c.requires.word, given.slots, omega arith, be_told_met g.K.Keeper.label g.K.Keeper.stores _ _ _ _ _ given.view)
