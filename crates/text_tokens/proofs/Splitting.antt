-- The tokens of a text, taken off one after another.
use Rattle.std.proofs.Common.{◌≡◌, ℕ, zero, suc, ◌+◌, ◌*◌, ◌-◌, ◌^◌, ◌<◌, ◌≤◌, Bool, true, false, List, [], ◌∷◌, ◌++◌, map, filter, length, take, drop, get_or, min, refl, ap, sym, ◌∙◌, subst, arith, append-nil, length-take, length-drop}
use Rattle.std.specs.Prelude.{All, nat_le, nat_lt, ◌||◌, ◌==◌, ◌&&◌, if◌then◌else◌}
use Rattle.std.specs.List.{list_all, slice_split}
use Rattle.std.proofs.lemmas.List.{get_or-take, drop_more, take_more, take_all, take-append-drop}
use Rattle.std.proofs.lemmas.List.Elements.{All-head, All-push}
use Rattle.std.proofs.lemmas.List.Folds.{list_all-append}
use Rattle.std.proofs.lemmas.List.Splits.{slice_split-cons_yes, slice_split_none, slice_split_at}
use Rattle.std.proofs.lemmas.List.Sums.{fold_push}
use Rattle.std.proofs.Math.Nat.{pow-suc, pow-le-pow_right}
use Rattle.std.proofs.Math.Numerals.{add-one}
use Rattle.std.proofs.lemmas.Bool.{le-leb, leb-true, lt-ltb, ne_eqb}
use Rattle.zk_model.specs.Bristol.{number, name, is_blank, is_digit, decimal_value, tokens, lexeme, lexemes}
use Rattle.zk_model.specs.ArithFaults.{Place}
use Rattle.text_tokens.specs.declared.tokens.Scanned.{Scanned}
use Rattle.text_tokens.specs.declared.tokens.Word.TheVariants.{Number}
use Rattle.text_tokens.specs.Words.{greatest, left_of, word_of, place_of, BeginsToken, EndsToken, Takes}
use Rattle.text_tokens.specs.Scans.{AreScanned, IsScanned, IsEnded}

-- ---- tokens

abbrev kept : List (List ℕ) → List (List ℕ)
kept pieces = filter (λ piece. nat_lt 0 (length piece)) pieces

pub tokens_blank : (byte : ℕ) (text : List ℕ) → is_blank byte ≡ true → tokens (byte ∷ text) ≡ tokens text
tokens_blank byte text blank = ap kept (slice_split-cons_yes is_blank byte text blank)

kept_first : (token : List ℕ) (pieces : List (List ℕ)) → 0 < length token → kept (token ∷ pieces) ≡ token ∷ kept pieces
kept_first token pieces some = chosen (nat_lt 0 (length token)) (lt-ltb 0 (length token) some)
  where
    chosen : (b : Bool) → b ≡ true → (if b then token ∷ kept pieces else kept pieces) ≡ token ∷ kept pieces
    chosen true on = refl
    chosen false on = cc

-- a first token, and what is after it
pub tokens_first : (token rest : List ℕ) → 0 < length token → All (λ byte. is_blank byte ≡ false) token → EndsToken rest
    → tokens (token ++ rest) ≡ token ∷ tokens rest
tokens_first token [] some unbroken ends =
    ap tokens (append-nil token) ∙ ap kept (slice_split_none is_blank token unbroken) ∙ kept_first token [] some
tokens_first token (byte ∷ rest) some unbroken ends =
    ap kept (slice_split_at is_blank token byte rest unbroken ends) ∙ kept_first token (slice_split is_blank rest) some
    ∙ ap (λ l. token ∷ l) (sym (tokens_blank byte rest ends))

-- ---- a token, byte by byte

-- a digit is no blank
digit_no_blank : (byte : ℕ) → is_digit byte ≡ true → is_blank byte ≡ false
digit_no_blank byte digit =
    let low : 48 ≤ byte = leb-true 48 byte (first (nat_le 48 byte) (nat_le byte 57) digit) in
    (λ i. apart 32 (omega arith) i || apart 9 (omega arith) i || apart 13 (omega arith) i || apart 10 (omega arith) i)
  where
    first : (a b : Bool) → (a && b) ≡ true → a ≡ true
    first true b on = refl
    first false b on = on

    apart : (other : ℕ) → other < byte → (byte == other) ≡ false
    apart other less = ne_eqb byte other (λ same. absurd (omega (arith, same)))

pub scan_digit : (text : List ℕ) (i : ℕ) (is_number now : Bool) (value more : ℕ) → i < length text → is_digit (get_or text i 0) ≡ true
    → now ≡ is_number → more ≡ min (10 * value + (get_or text i 0 - 48)) greatest → AreScanned (take i text) is_number value → AreScanned (take (i + 1) text) now more
scan_digit text i is_number now value more within digit same more_is far =
    let byte : ℕ = get_or text i 0 in
    let next : take (i + 1) text ≡ take i text ++ byte ∷ [] = take_more text i 0 within in
    let all : list_all is_digit (take i text ++ byte ∷ []) ≡ list_all is_digit (take i text) =
    list_all-append is_digit (take i text) (byte ∷ []) ∙ last (list_all is_digit (take i text)) (is_digit byte) digit in
    subst (λ (l : List ℕ). AreScanned l now more) (sym next) (record {
      unbroken = All-push (λ b. is_blank b ≡ false) (take i text) byte far.unbroken (digit_no_blank byte digit);
      digits = same ∙ far.digits ∙ sym all;
      value_is = λ on. more_is ∙ capped value (decimal_value (take i text)) (decimal_value (take i text ++ byte ∷ [])) byte (far.value_is (sym same ∙ on))
          (fold_push (λ n c. 10 * n + (c - 48)) 0 (take i text) byte);
    })
  where
    last : (d e : Bool) → e ≡ true → (d && (e && true)) ≡ d
    last true true on = refl
    last true false on = cc
    last false e on = refl

    capped : (value exact more byte : ℕ) → value ≡ min exact greatest → more ≡ 10 * exact + (byte - 48) → min (10 * value + (byte - 48)) greatest ≡ min more greatest
    capped value exact more byte is next = omega arith

pub scan_other : (text : List ℕ) (i : ℕ) (is_number now : Bool) (value more : ℕ) → i < length text → is_blank (get_or text i 0) ≡ false → is_digit (get_or text i 0) ≡ false
    → now ≡ false → AreScanned (take i text) is_number value → AreScanned (take (i + 1) text) now more
scan_other text i is_number now value more within no_blank other off far =
    let byte : ℕ = get_or text i 0 in
    let next : take (i + 1) text ≡ take i text ++ byte ∷ [] = take_more text i 0 within in
    subst (λ (l : List ℕ). AreScanned l now more) (sym next) (record {
      unbroken = All-push (λ b. is_blank b ≡ false) (take i text) byte far.unbroken no_blank;
      digits = off ∙ sym (list_all-append is_digit (take i text) (byte ∷ []) ∙ last (list_all is_digit (take i text)) (is_digit byte) other);
      value_is = λ on. let no : true ≡ false = sym on ∙ off in absurd cc;
    })
  where
    last : (d e : Bool) → e ≡ false → (d && (e && true)) ≡ false
    last true true off = cc
    last true false off = refl
    last false e off = refl

-- digits that are scanned say their number
pub scanned_number : (bytes : List ℕ) (value : ℕ) → AreScanned bytes true value → Number value ≡ word_of (lexeme bytes)
unfolding word_of
scanned_number bytes value far = said (list_all is_digit bytes) (sym far.digits)
  where
    said : (b : Bool) → b ≡ true → Number value ≡ word_of (if b then number (decimal_value bytes) else name bytes)
    said true on = ap Number (far.value_is refl)
    said false on = cc

-- a number up to a blank
pub scan_ended : (text : List ℕ) (i value : ℕ) → i < length text → is_blank (get_or text i 0) ≡ true → AreScanned (take i text) true value
    → IsScanned text (record { length = i; word = Number value })
scan_ended text i value within blank far = record {
  within = omega arith;
  unbroken = far.unbroken;
  ends = subst EndsToken (sym (drop_more text i 0 within)) blank;
  word_is = scanned_number (take i text) value far;
}

-- ---- what is left of a text

-- a token that begins is not empty
token_some : (start : List ℕ) (n : ℕ) → 0 < length start → BeginsToken start → EndsToken (drop n start) → 0 < n
token_some [] n some begins ends = absurd (omega arith)
token_some (byte ∷ start) zero some begins ends = absurd cc
token_some (byte ∷ start) (suc n) some begins ends = omega arith

longer : (start : List ℕ) (n : ℕ) → 0 < length start → BeginsToken start → n ≤ length start → EndsToken (drop n start) → 0 < length (take n start)
longer start n some begins within ends = omega (arith, length-take n start, token_some start n some begins ends)

pub some_bytes : (text : List ℕ) (b : Bool) → b ≡ (length text == 0) → b ≡ false → 0 < length text
some_bytes [] b is off = let on : b ≡ true = is in absurd cc
some_bytes (byte ∷ text) b is off = omega arith

pub left_end : (rest start : List ℕ) → tokens start ≡ tokens rest → length start ≡ 0 → left_of rest ≡ []
unfolding left_of
left_end rest start same none = ap (map lexeme) (sym same ∙ ap tokens (empty start none))
  where
    empty : (l : List ℕ) → length l ≡ 0 → l ≡ []
    empty [] e = refl
    empty (x ∷ l) e = absurd (omega arith)

-- the first bytes of a text up to a blank are its first token
pub left_next : (rest start : List ℕ) (scanned : Scanned) → tokens start ≡ tokens rest → 0 < length start → BeginsToken start → IsScanned start scanned
    → left_of rest ≡ lexeme (take scanned.length start) ∷ left_of (take (length start - scanned.length) (drop scanned.length start))
unfolding left_of
left_next rest start scanned same some begins is =
    let token : List ℕ = take scanned.length start in
    let behind : List ℕ = drop scanned.length start in
    let first : tokens (token ++ behind) ≡ token ∷ tokens behind = tokens_first token behind (longer start scanned.length some begins is.within is.ends) is.unbroken is.ends in
    ap (map lexeme) (sym same ∙ ap tokens (sym (take-append-drop scanned.length start)) ∙ first)
    ∙ ap (λ l. lexeme token ∷ lexemes l) (sym (take_all (length start - scanned.length) behind (omega (arith, length-drop scanned.length start))))

pub left_same : (some other : List ℕ) → tokens some ≡ tokens other → left_of some ≡ left_of other
unfolding left_of
left_same some other same = ap (map lexeme) same

-- bytes without a blank begin a token
begins_unbroken : (text : List ℕ) (n : ℕ) → 0 < n → All (λ byte. is_blank byte ≡ false) (take n text) → BeginsToken text
begins_unbroken [] n some unbroken = tt
begins_unbroken (byte ∷ text) zero some unbroken = absurd (omega arith)
begins_unbroken (byte ∷ text) (suc n) some unbroken = All-head (λ b. is_blank b ≡ false) byte (take n text) unbroken

-- a first token, and what is after it and the blank that ends it
pub left_ended : (text : List ℕ) (scanned : Scanned) → IsEnded text scanned
    → left_of text ≡ lexeme (take scanned.length text) ∷ left_of (take (length text - (scanned.length + 1)) (drop (scanned.length + 1) text))
left_ended text scanned is =
    let n : ℕ = scanned.length in
    let byte : ℕ = get_or text n 0 in
    let behind : List ℕ = drop (n + 1) text in
    let within : n < length text = is.within in
    let next : drop n text ≡ byte ∷ behind = drop_more text n 0 within in
    let blank : is_blank byte ≡ true = subst EndsToken next is.is.ends in
    left_next text text scanned refl (omega arith) (begins_unbroken text n is.some is.is.unbroken) is.is
    ∙ ap (λ l. lexeme (take n text) ∷ l)
    (left_same (take (length text - n) (drop n text)) (take (length text - (n + 1)) behind)
    (ap tokens (take_all (length text - n) (drop n text) (omega (arith, length-drop n text)) ∙ next) ∙ tokens_blank byte behind blank
    ∙ sym (ap tokens (take_all (length text - (n + 1)) behind (omega (arith, length-drop (n + 1) text))))))

-- ---- a short number

short_byte : (text front : List ℕ) (i : ℕ) → front ≡ take 9 text → i < 9 → get_or front i 0 ≡ get_or text i 0
short_byte text front i same within = ap (λ l. get_or l i 0) same ∙ get_or-take 9 text i 0 within

-- one digit more
pub short_digit : (text front : List ℕ) (i value digit : ℕ) → front ≡ take 9 text → 9 ≤ length text → i < 9 → digit < 10 → get_or front i 0 ≡ digit + 48 → AreScanned (take i text) true value
    → value < 10 ^ i → AreScanned (take (i + 1) text) true (value * 10 + digit) × (value * 10 + digit < 10 ^ (i + 1))
short_digit text front i value digit same enough within below byte_is far small =
    let is : get_or text i 0 ≡ digit + 48 = sym (short_byte text front i same within) ∙ byte_is in
    let some : 0 < 10 = omega arith in
    let few : i ≤ 8 = omega arith in
    let power : 10 ^ i ≤ 10 ^ 8 = pow-le-pow_right {n = 10} some {i = i} {j = 8} few in
    let is_digit_is : is_digit (digit + 48) ≡ true = (λ j. le-leb 48 (digit + 48) (omega arith) j && le-leb (digit + 48) 57 (omega arith) j) in
    (scan_digit text i true true value (value * 10 + digit) (omega arith) (ap is_digit is ∙ is_digit_is) refl (omega (arith, is)) far, rw (add-one, pow-suc) (omega arith))

-- its end
pub short_ended : (text front : List ℕ) (i value : ℕ) → front ≡ take 9 text → 9 ≤ length text → i < 9 → 0 < i → is_blank (get_or front i 0) ≡ true → AreScanned (take i text) true value
    → IsEnded text (record { length = i; word = Number value })
short_ended text front i value same enough within some blank far = record {
  some = some;
  within = omega arith;
  is = scan_ended text i value (omega arith) (ap is_blank (sym (short_byte text front i same within)) ∙ blank) far;
}

-- ---- a token that is taken

pub takes_first : (rest start token behind : List ℕ) (taken : ℕ) (before : Place) (scanned : Scanned) → place_of rest taken ≡ before → tokens start ≡ tokens rest
    → 0 < length start → BeginsToken start → IsScanned start scanned → token ≡ take scanned.length start → behind ≡ drop scanned.length start
    → Takes (lexeme token ∷ []) before (place_of behind (taken + 1))
takes_first rest start token behind taken before scanned view same some begins is front back = record {
  left = ap (λ (p : Place). p.left) (sym view) ∙ left_next rest start scanned same some begins is
      ∙ (λ i. lexeme (sym front i) ∷ left_of (take_all (length start - scanned.length) (drop scanned.length start) (omega (arith, length-drop scanned.length start)) i))
      ∙ ap (λ l. lexeme token ∷ left_of l) (sym back);
  taken = ap (λ (p : Place). p.taken + 1) view;
}

pub ends_here : (rest start : List ℕ) (taken : ℕ) (before : Place) → place_of rest taken ≡ before → tokens start ≡ tokens rest → length start ≡ 0 → before.left ≡ []
ends_here rest start taken before view same none = ap (λ (p : Place). p.left) (sym view) ∙ left_end rest start same none
