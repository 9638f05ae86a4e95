use Rattle.std.proofs.Common.{◌∙◌, ◌%◌, ◌*◌, ap, arith, get_or}
use Rattle.std.proofs.lemmas.List.{length-set}
use Rattle.std.proofs.lemmas.List.Edits.{fill_by_more}
use Rattle.zk_coins.specs.Words.{coin_words}
use Rattle.linear_code.proofs.Cuts.{column_filled}
use Rattle.linear_code.proofs.column.Goals as goal

pub loop-i-preserved : goal.loop-i-preserved
loop-i-preserved c = record {
  long = length-set c.loop-i.column c.loop-i.i (get_or c.words.new.words c.loop-i.i 0 % c.from.result) ∙ c.loop-i.invariant.long;
  each = rw c.from.ensures (fill_by_more (λ k. get_or c.words.new.words k 0 % c.args.base) c.loop-i.column c.loop-i.i 0
      (omega (arith, c.loop-i.invariant.long, c.loop-i-test.true)) c.loop-i.invariant.each);
}

pub returns : goal.returns
returns c =
    column_filled c.args.code_seed.now c.args.base c.args.j c.words.new.words c.loop-i.column
    (c.words.ensures ∙ ap (λ s. coin_words s 0 (10 * c.args.j) 10) c.new.ensures) c.loop-i.invariant.long
    (λ k below. c.loop-i.invariant.each k (omega (arith, below)))
