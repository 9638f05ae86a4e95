-- Words that say their bits.
use Rattle.std.proofs.Common.{◌≡◌, ◌≢◌, ◌==◌, ℕ, List, [], ◌∷◌, Bool, true, false, Some, refl, ap, if◌then◌else◌}
use Rattle.std.proofs.lemmas.Bool.{eqb-true}
use Rattle.std.specs.Option.{option_map}
use Rattle.command_words.specs.BitWords.{said, named, bits_of, bits_word_of}

pub said_word : (word : List ℕ) → ((rest : List ℕ) → word ≢ 64 ∷ rest) → bits_word_of word ≡ option_map said (bits_of word)
said_word [] other = refl
said_word (c ∷ word) other = go (c == 64) refl
  where
    go : (b : Bool) → (c == 64) ≡ b → (if b then Some (named word) else option_map said (bits_of (c ∷ word))) ≡ option_map said (bits_of (c ∷ word))
    go true e = absurd (other word (ap (λ x. x ∷ word) (eqb-true c 64 e)))
    go false e = refl
