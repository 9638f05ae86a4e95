use Rattle.std.proofs.Common.{◌≡◌, ◌+◌, arith, rules, ◌<◌, length, ap}
use Rattle.std.proofs.lemmas.List.FromFn.{fill_by_all}
use Rattle.std.proofs.lemmas.List.Edits.{fill_by_more}
use Rattle.zk_model.specs.Coins.{coin_word}
use Rattle.zk_coins.proofs.CoinWords.{coin_of_words}
use Rattle.zk_coins.proofs.CoinBox.fill.Goals as goal

pub loop-word-preserved : goal.loop-word-preserved
loop-word-preserved c =
    let here : c.next_pair.result ≡ coin_word c.args.self.now c.args.stream (c.args.first + c.loop-word.word-index) =
    coin_of_words c.args.self.now c.args.stream (c.args.first + c.loop-word.word-index) c.next_pair.result c.loop-word.generator
    c.loop-word.invariant.key c.loop-word.invariant.stream_is c.loop-word.invariant.place c.next_pair.ensures.value in
    let within : c.loop-word.word-index < length c.loop-word.words = omega arith in
    record {
      key = search rules;
      stream_is = search rules;
      place = omega (arith, ap (λ g. g.word_pos) c.next_pair.ensures.after);
      written = rw here (fill_by_more (λ i. coin_word c.args.self.now c.args.stream (c.args.first + i)) c.loop-word.words c.loop-word.word-index 0 within c.loop-word.invariant.written);
    }

pub returns : goal.returns
returns c =
    fill_by_all (λ i. coin_word c.args.self.now c.args.stream (c.args.first + i)) c.loop-word.words (length c.args.words.now) 0 (omega arith)
    (λ k h. c.loop-word.invariant.written k (omega arith))
