-- Short numbers that are read at once.
use Rattle.std.proofs.Common.{◌≡◌, ℕ, ◌+◌, ◌-◌, ◌^◌, ◌<◌, ◌≤◌, List, [], ◌∷◌, length, take, drop, subst, ap, sym, ◌∙◌, arith, refl, length-take, length-drop}
use Rattle.std.specs.Prelude.{Bool, true, false, if◌then◌else◌, min}
use Rattle.std.specs.List.{list_all}
use Rattle.std.proofs.Math.Nat.{pow-le-pow_right}
use Rattle.zk_model.specs.Bristol.{Lexeme, number, name, decimal_value, is_digit, tokens, lexeme}
use Rattle.zk_model.specs.ArithFaults.{Place}
use Rattle.text_tokens.specs.declared.tokens.Word.TheVariants.{Number, Name}
use Rattle.text_tokens.specs.Words.{greatest, left_of, word_of, place_of, Takes, TakesNumber}
use Rattle.text_tokens.specs.Scans.{IsEnded, StartsNumber}
use Rattle.text_tokens.proofs.Splitting.{left_ended, left_same}

-- a number of at most eight digits
pub below : (i n : ℕ) → i < 9 → n < 10 ^ i → n < 10 ^ 8
below i n few small =
    let some : 0 < 10 = omega arith in
    let most : i ≤ 8 = omega arith in
    let power : 10 ^ i ≤ 10 ^ 8 = pow-le-pow_right {n = 10} some {i = i} {j = 8} most in
    omega arith

number_word : (n : ℕ) → word_of (number n) ≡ Number (min n greatest)
unfolding word_of
number_word n = refl

name_word : (text : List ℕ) → word_of (name text) ≡ Name
unfolding word_of
name_word text = refl

-- a lexeme whose word is a number
pub said_number : (lexeme : Lexeme) (n : ℕ) → Number n ≡ word_of lexeme → (exact : ℕ) × (lexeme ≡ number exact) × (n ≡ min exact greatest)
said_number (number exact) n is = let same : Number n ≡ Number (min exact greatest) = is ∙ number_word exact in (exact, refl, cc)
said_number (name text) n is = let same : Number n ≡ Name = is ∙ name_word text in absurd cc

-- the text after a number and the blank that ends it
pub starts_number : (text : List ℕ) (i n : ℕ) → n < 10 ^ 8 → IsEnded text (record { length = i; word = Number n })
    → StartsNumber text n (take (length text - (i + 1)) (drop (i + 1) text))
starts_number text i n small is =
    let said = said_number (lexeme (take i text)) n is.is.word_is in
    record {
      small = small;
      shorter = omega (arith, is.within, length-take (length text - (i + 1)) (drop (i + 1) text), length-drop (i + 1) text);
      left = left_ended text (record { length = i; word = Number n }) is ∙ ap (λ l. l ∷ left_of (take (length text - (i + 1)) (drop (i + 1) text))) (said.1 ∙ ap number (exact said.0 said.2));
    }
  where
    exact : (k : ℕ) → n ≡ min k greatest → k ≡ n
    exact k same = omega (arith, small)

-- a text with the same tokens, as where blanks are skipped
pub number_after : (text start : List ℕ) (n : ℕ) (behind : List ℕ) → tokens start ≡ tokens text → length start ≤ length text → StartsNumber start n behind → StartsNumber text n behind
number_after text start n behind same within starts = record {
  small = starts.small;
  shorter = omega (arith, starts.shorter);
  left = left_same text start (sym same) ∙ starts.left;
}

-- ---- what the next token is

-- a token that is a number
pub takes_number : (before after : Place) (token : List ℕ) (n : ℕ) → Number n ≡ word_of (lexeme token) → Takes (lexeme token ∷ []) before after → TakesNumber before after n
takes_number before after token n is takes =
    let said = said_number (lexeme token) n is in
    record { exact = said.0; shown_is = said.2; takes = subst (λ (l : Lexeme). Takes (l ∷ []) before after) said.1 takes }

-- one that is a name
pub takes_name : (before after : Place) (token : List ℕ) → Name ≡ word_of (lexeme token) → Takes (lexeme token ∷ []) before after → Takes (name token ∷ []) before after
takes_name before after token is takes = subst (λ (l : Lexeme). Takes (l ∷ []) before after) (said (list_all is_digit token) is) takes
  where
    said : (b : Bool) → Name ≡ word_of (if b then number (decimal_value token) else name token) → (if b then number (decimal_value token) else name token) ≡ name token
    said true is = let same : Name ≡ Number (min (decimal_value token) greatest) = is ∙ number_word (decimal_value token) in absurd cc
    said false is = refl

-- a short number is the next token
pub short_next : (rest behind : List ℕ) (taken : ℕ) (before : Place) (n : ℕ) → place_of rest taken ≡ before → StartsNumber rest n behind
    → TakesNumber before (place_of behind (taken + 1)) n
short_next rest behind taken before n view starts = record {
  exact = n;
  shown_is = omega (arith, starts.small);
  takes = record { left = ap (λ (p : Place). p.left) (sym view) ∙ starts.left; taken = ap (λ (p : Place). p.taken + 1) view };
}
