use Rattle.std.proofs.Common.{◌≡◌, ◌++◌, ℕ, List, Vec, Global, sym, subst, rules}
use Rattle.zk_model.specs.Transcript.{TreeReply}
use Rattle.round_fan.specs.Fans.{AreReplied}
use Rattle.round_fan.proofs.Replies.{replies_more}
use Rattle.round_fan.proofs.verifier.VerifierRoundsRoundsVecTreeAskFanReply.add.Goals as goal

pub returns : goal.returns
returns c start first rest before behind =
    let keys : c.extend_from_slice.new.self.items ≡ c.args.all.now.keys.items ++ c.args.more.keys.items = search rules in
    let replies : c.append.new.self.items ≡ c.args.all.now.replies.items ++ c.args.more.replies.items = search rules in
    subst (λ (q : List (Vec TreeReply Global) × List ℕ). AreReplied c.args.self.now.file.now start (first ++ rest) q.0 q.1) (λ i. (sym replies i, sym keys i))
    (replies_more c.args.self.now.file.now start first rest c.args.all.now.replies.items c.args.more.replies.items c.args.all.now.keys.items c.args.more.keys.items before behind)
