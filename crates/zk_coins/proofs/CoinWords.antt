-- What the generator's next words are.
use Rattle.std.proofs.Common.{◌≡◌, ℕ, ◌+◌, ◌*◌, ◌^◌, List, ◌∙◌, refl}
use Rattle.rand_chacha.specs.ChaCha.{ChaCha, key_of, word_at}
use Rattle.zk_model.specs.Coins.{coin_word}

-- two words from twice a place on are the coin of that place
pub coin_of_words : (box_key : List ℕ) (stream place word : ℕ) (generator : ChaCha) → generator.key ≡ key_of box_key → generator.stream ≡ stream
    → generator.word_pos ≡ 2 * place
    → word ≡ word_at 10 generator.key generator.stream generator.word_pos + 2 ^ 32 * word_at 10 generator.key generator.stream (generator.word_pos + 1)
    → word ≡ coin_word box_key stream place
unfolding coin_word
coin_of_words box_key stream place word generator k s p w =
    w ∙ (rw (k, s, p) refl)
