use Rattle.std.proofs.Common.{◌≡◌, ◌++◌, sym, subst, rules}
use Rattle.round_fan.specs.Fans.{ArePairs}
use Rattle.round_fan.proofs.Pairs.{pairs_more}
use Rattle.round_fan.proofs.prover.ProverRoundsRoundsVecTreeReplyVecPair.add.Goals as goal

pub returns : goal.returns
returns c start first rest before behind =
    let pushed : c.extend_from_slice.new.self.items ≡ c.args.all.now.items ++ c.args.more.items = search rules in
    subst (ArePairs c.args.self.now.file.now start (first ++ rest)) (sym pushed)
    (pairs_more c.args.self.now.file.now start first rest c.args.all.now.items c.args.more.items before behind)
