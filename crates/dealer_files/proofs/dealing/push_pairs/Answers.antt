use Rattle.dealer_files.specs.Words.{word_pair}
use Rattle.dealer_files.proofs.DealtLists.{one_more}
use Rattle.dealer_files.proofs.dealing.push_pairs.Goals as goal

pub loop-j-preserved : goal.loop-j-preserved
loop-j-preserved c =
    one_more (word_pair c.args.words.now) c.args.pairs.now.items c.loop-j.pairs.items c.push.new.self.items _ c.loop-j.j
    (λ i. record { x = c.from_word.ensures i; m = c.from_word-in-loop-j.ensures i })
    c.in_ok-push.ensures.items c.loop-j.invariant
