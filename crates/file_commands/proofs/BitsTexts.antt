-- Texts of bits: the digits before their rest, and how they may end.
use Rattle.std.proofs.Common.{◌≡◌, ◌⊎◌, ◌++◌, ◌||◌, ℕ, List, [], ◌∷◌, length, Bool, true, false, codes, refl, sym, ap, ◌∙◌, inl, inr, arith}
use Rattle.std.specs.Prelude.{◌≢◌}
use Rattle.std.specs.List.{prefix_len}
use Rattle.std.specs.Str.{bytes_eq}
use Rattle.std.proofs.Common.{append-nil}
use Rattle.zk_model.specs.Bits.{digit_of, digits_of}
use Rattle.command_words.proofs.Rows.{equals_itself, or_false, same_text}
use Rattle.command_words.specs.BitWords.{Bits}
use Rattle.file_commands.specs.BitsTexts.{is_end}
use Rattle.file_commands.specs.GivenBits.{is_bit_digit, IsBitsText, IsCutText}

-- ---- digits before a rest that begins with none

pub count_digits : (bits : Bits) (rest : List ℕ) → prefix_len is_bit_digit rest ≡ 0 → length bits ≡ prefix_len is_bit_digit (digits_of bits ++ rest)
count_digits [] rest ends = sym ends
count_digits (false ∷ bits) rest ends = let more = count_digits bits rest ends in omega (arith, more)
count_digits (true ∷ bits) rest ends = let more = count_digits bits rest ends in omega (arith, more)

no_digits : (bit : Bool) (bytes : List ℕ) → prefix_len is_bit_digit (digit_of bit ∷ bytes) ≢ 0
no_digits false bytes none = absurd (omega (arith, none))
no_digits true bytes none = absurd (omega (arith, none))

same_digit : (bit other : Bool) → digit_of bit ≡ digit_of other → bit ≡ other
same_digit false false same = refl
same_digit true true same = refl
same_digit false true same = absurd (omega (arith, same))
same_digit true false same = absurd (omega (arith, same))

no_letter : (bit : Bool) → digit_of bit ≢ 110
no_letter false same = absurd (omega (arith, same))
no_letter true same = absurd (omega (arith, same))

-- the digits and the rest are told apart
apart : (bits other : Bits) (rest tail : List ℕ) → prefix_len is_bit_digit rest ≡ 0 → prefix_len is_bit_digit tail ≡ 0
    → digits_of bits ++ rest ≡ digits_of other ++ tail → (bits ≡ other) × (rest ≡ tail)
apart [] [] rest tail none no_more same = (refl, same)
apart [] (o ∷ other) rest tail none no_more same =
    absurd (no_digits o (digits_of other ++ tail) (sym (ap (prefix_len is_bit_digit) same) ∙ none))
apart (b ∷ bits) [] rest tail none no_more same =
    absurd (no_digits b (digits_of bits ++ rest) (ap (prefix_len is_bit_digit) same ∙ no_more))
apart (b ∷ bits) (o ∷ other) rest tail none no_more same =
    let heads : digit_of b ≡ digit_of o = cc same in
    let behind : digits_of bits ++ rest ≡ digits_of other ++ tail = cc same in
    let more = apart bits other rest tail none no_more behind in
    ((λ i. same_digit b o heads i ∷ more.0 i), more.1)

-- ---- how a text of bits ends

either : (a b : Bool) → (a || b) ≡ true → (a ≡ true) ⊎ (b ≡ true)
either true b is = inl refl
either false b is = inr is

differs : (text other : List ℕ) → bytes_eq text other ≡ false → text ≢ other
differs text other unequal same = cc (equals_itself other, ap (λ (t : List ℕ). bytes_eq t other) same, unequal)

pub ended : (bits : Bits) (rest : List ℕ) → is_end bits rest ≡ true → IsBitsText (digits_of bits ++ rest) bits
ended [] rest ends = elim (either (bytes_eq rest (codes "none")) (bytes_eq rest (codes "none\n")) ends) [
  | inl is ↦ inl (same_text rest (codes "none") is)
  | inr is ↦ inr (same_text rest (codes "none\n") is)
]
ended (bit ∷ bits) rest ends = elim (either (bytes_eq rest []) (bytes_eq rest (codes "\n")) ends) [
  | inl is ↦ inl (ap (λ (r : List ℕ). digits_of (bit ∷ bits) ++ r) (same_text rest [] is) ∙ append-nil (digits_of (bit ∷ bits)))
  | inr is ↦ inr (ap (λ (r : List ℕ). digits_of (bit ∷ bits) ++ r) (same_text rest (codes "\n") is))
]

-- the text is no word of bits, nor one with a line feed
not_none : (bits : Bits) (rest : List ℕ) → is_end bits rest ≡ false → ¬ IsBitsText (digits_of bits ++ rest) []
not_none [] rest unended (inl same) =
    differs rest (codes "none") (or_false (bytes_eq rest (codes "none")) (bytes_eq rest (codes "none\n")) unended).0 same
not_none [] rest unended (inr same) =
    differs rest (codes "none\n") (or_false (bytes_eq rest (codes "none")) (bytes_eq rest (codes "none\n")) unended).1 same
not_none (b ∷ bits) rest unended (inl same) = let heads : digit_of b ≡ 110 = cc same in no_letter b heads
not_none (b ∷ bits) rest unended (inr same) = let heads : digit_of b ≡ 110 = cc same in no_letter b heads

not_some : (bits : Bits) (rest : List ℕ) → prefix_len is_bit_digit rest ≡ 0 → is_end bits rest ≡ false → (o : Bool) (other : Bits)
    → ¬ IsBitsText (digits_of bits ++ rest) (o ∷ other)
not_some bits rest none unended o other (inl same) =
    let are = apart bits (o ∷ other) rest [] none refl (same ∙ sym (append-nil (digits_of (o ∷ other)))) in
    let is : is_end (o ∷ other) [] ≡ false = sym (λ i. is_end (are.0 i) (are.1 i)) ∙ unended in
    cc is
not_some bits rest none unended o other (inr same) =
    let are = apart bits (o ∷ other) rest (10 ∷ []) none refl same in
    let is : is_end (o ∷ other) (10 ∷ []) ≡ false = sym (λ i. is_end (are.0 i) (are.1 i)) ∙ unended in
    cc is

not_bits : (bits : Bits) (rest : List ℕ) → prefix_len is_bit_digit rest ≡ 0 → is_end bits rest ≡ false → (other : Bits)
    → ¬ IsBitsText (digits_of bits ++ rest) other
not_bits bits rest none unended [] is = not_none bits rest unended is
not_bits bits rest none unended (o ∷ other) is = not_some bits rest none unended o other is

pub cut : (bits : Bits) (rest : List ℕ) → prefix_len is_bit_digit rest ≡ 0 → is_end bits rest ≡ false → IsCutText (digits_of bits ++ rest) (length bits)
cut bits rest none unended = record {
  none = λ other is. not_bits bits rest none unended other is;
  count = count_digits bits rest none;
}
