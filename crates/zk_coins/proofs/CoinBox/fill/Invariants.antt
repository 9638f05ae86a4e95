use Rattle.std.proofs.Common.{◌≡◌, ◌+◌, ◌*◌, ◌<◌, ℕ, List, get_or}
use Rattle.rand_chacha.specs.ChaCha.{ChaCha, key_of}
use Rattle.zk_model.specs.Coins.{coin_word}
use Rattle.zk_coins.proofs.CoinBox.fill.Given as goal

-- the generator stands after the words that are written
pub record Stands (box_key : List ℕ) (stream first : ℕ) (words : List ℕ) (index : ℕ) (generator : ChaCha) : Type 0 where
  pub key : generator.key ≡ key_of box_key
  pub stream_is : generator.stream ≡ stream
  pub place : generator.word_pos ≡ 2 * (first + index)
  pub written : (k : ℕ) → k < index → get_or words k 0 ≡ coin_word box_key stream (first + k)

abbrev pub invariant-loop-word : goal.invariant-loop-word
invariant-loop-word l = Stands l.self l.stream l.first l.words l.word-index l.generator
