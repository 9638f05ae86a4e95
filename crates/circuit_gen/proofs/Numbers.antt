-- Decimal numbers as tokens.
use Rattle.std.proofs.Common.{◌≡◌, ℕ, ◌+◌, ◌-◌, ◌*◌, ◌/◌, ◌%◌, ◌^◌, ◌<◌, ◌≤◌, Bool, true, false, List, [], ◌∷◌, ◌++◌, length, ◌∙◌, arith, length-append}
use Rattle.std.specs.Prelude.{All, ◌||◌, ◌==◌, ◌&&◌, if◌then◌else◌}
use Rattle.std.specs.Fmt.{decimal}
use Rattle.std.specs.List.{list_all}
use Rattle.std.proofs.lemmas.Bool.{le-leb, ne_eqb}
use Rattle.std.proofs.lemmas.Fmt.{decimal_by_steps, length-decimal-le}
use Rattle.std.proofs.lemmas.List.Elements.{All-nil, All-cons, All-push}
use Rattle.std.proofs.lemmas.List.Folds.{list_all-append}
use Rattle.std.proofs.lemmas.List.Sums.{fold_push}
use Rattle.zk_model.specs.Bristol.{number, name, is_blank, is_digit, decimal_value, lexeme}

-- a token: some bytes, none of them blank
pub record IsToken (bytes : List ℕ) : Type 0 where
  pub some : 0 < length bytes
  pub unbroken : All (λ byte. is_blank byte ≡ false) bytes

-- a token of digits that say a number
record SaysNumber (n : ℕ) (bytes : List ℕ) : Type 0 where
  token : IsToken bytes
  digits : list_all is_digit bytes ≡ true
  value : decimal_value bytes ≡ n

digit_is : (d : ℕ) → d < 10 → is_digit (48 + d) ≡ true
digit_is d below = (λ i. le-leb 48 (48 + d) (omega arith) i && le-leb (48 + d) 57 (omega arith) i)

digit_no_blank : (d : ℕ) → is_blank (48 + d) ≡ false
digit_no_blank d = (λ i. apart 32 (omega arith) i || apart 9 (omega arith) i || apart 13 (omega arith) i || apart 10 (omega arith) i)
  where
    apart : (other : ℕ) → other < 48 → (48 + d == other) ≡ false
    apart other less = ne_eqb (48 + d) other (λ same. absurd (omega (arith, same)))

one_digit : (n : ℕ) → n < 10 → SaysNumber n ((48 + n) ∷ [])
one_digit n below = record {
  token = record { some = omega arith; unbroken = All-cons (λ byte. is_blank byte ≡ false) (48 + n) [] (digit_no_blank n) (All-nil (λ byte. is_blank byte ≡ false)) };
  digits = (λ i. digit_is n below i && true);
  value = omega arith;
}

more_digits : (n : ℕ) (bytes : List ℕ) → 10 ≤ n → SaysNumber (n / 10) bytes → SaysNumber n (bytes ++ (48 + n % 10) ∷ [])
more_digits n bytes large says = record {
  token = record {
    some = omega (arith, length-append bytes ((48 + n % 10) ∷ []));
    unbroken = All-push (λ byte. is_blank byte ≡ false) bytes (48 + n % 10) says.token.unbroken (digit_no_blank (n % 10));
  };
  digits = list_all-append is_digit bytes ((48 + n % 10) ∷ []) ∙ (λ i. says.digits i && (digit_is (n % 10) (omega arith) i && true));
  value = fold_push (λ m c. 10 * m + (c - 48)) 0 bytes (48 + n % 10) ∙ omega (arith, says.value);
}

says_number : (n : ℕ) → n < 2 ^ 64 → SaysNumber n (decimal n)
says_number n fits = decimal_by_steps SaysNumber one_digit more_digits n fits

pub number_token : (n : ℕ) → n < 2 ^ 64 → IsToken (decimal n)
number_token n fits = (says_number n fits).token

pub number_lexeme : (n : ℕ) → n < 2 ^ 64 → lexeme (decimal n) ≡ number n
number_lexeme n fits = let says = says_number n fits in said (list_all is_digit (decimal n)) (decimal_value (decimal n)) says.digits says.value
  where
    said : (b : Bool) (value : ℕ) → b ≡ true → value ≡ n → (if b then number value else name (decimal n)) ≡ number n
    said true value on is = (λ i. number (is i))
    said false value on is = cc

-- a wire's number is short
pub short_number : (n : ℕ) → n < 10 ^ 7 → length (decimal n) ≤ 7
short_number n small = length-decimal-le 7 n (omega arith) small (omega arith)
