-- Lines and words, taken from the front.
use Rattle.std.proofs.Common.{◌≡◌, ◌<◌, ◌≤◌, ◌+◌, ◌-◌, ◌==◌, ℕ, Bool, true, false, List, [], ◌∷◌, All, None, Some, length, take, drop, refl, sym, ap, ◌∙◌, subst, arith}
use Rattle.std.specs.List.{slice_split, position, position_or_len, before_first, after_first}
use Rattle.std.specs.Str.{IsUtf8, is_utf8}
use Rattle.std.specs.Prelude.{if◌then◌else◌}
use Rattle.std.proofs.lemmas.Bool.Decides.{nat_tests}
use Rattle.std.proofs.lemmas.Grind.{common_steps}
use Rattle.std.proofs.lemmas.List.Quantifiers.{position-Some}
use Rattle.std.proofs.lemmas.List.Splits.{length-slice_split, slice_split_first, slice_split_none}
use Rattle.std.proofs.lemmas.List.Sums.{position_or_len_is, fails_before_first}
use Rattle.std.proofs.lemmas.Str.{IsUtf8-from_is_utf8, is_utf8-from_IsUtf8}
use Rattle.command_words.specs.BitWords.{bits_of}
use Rattle.statement_file.specs.Claims.{claim_in, claim_of_line, lines_of, named_claim, without_empty_last, words_of}

-- none passes where the first that does is behind all
none_passes : (p : ℕ → Bool) (xs : List ℕ) → length xs ≤ position_or_len p xs → All (λ x. p x ≡ false) xs
none_passes p xs behind = λ k d within. fails_before_first p xs k d (omega (arith, within, behind))

-- ---- lines

kept : (part : List ℕ) (parts : List (List ℕ)) → 0 < length parts → without_empty_last (part ∷ parts) ≡ part ∷ without_empty_last parts
kept part [] some = absurd (omega (arith, some))
kept part (next ∷ parts) some = refl

split_some : (p : ℕ → Bool) (xs : List ℕ) → 0 < length (slice_split p xs)
split_some p xs = omega (arith, length-slice_split p xs)

abbrev pub is_end : ℕ → Bool
is_end c = c == 10

pub ended_line : (text : List ℕ) (end : ℕ) → position is_end text ≡ Some end → lines_of text ≡ take end text ∷ lines_of (drop (end + 1) text)
ended_line text end found =
    let at = position-Some is_end text end 0 found in
    let same : position_or_len is_end text ≡ end = position_or_len_is is_end text end 0 (omega (arith, at.0)) at.2 (λ within. at.1) in
    let split : slice_split is_end text ≡ take end text ∷ slice_split is_end (drop (end + 1) text) =
    subst (λ (n : ℕ). slice_split is_end text ≡ take n text ∷ slice_split is_end (drop (n + 1) text)) same
    (slice_split_first is_end text 0 (omega (arith, same, at.0))) in
    ap without_empty_last split ∙ kept (take end text) (slice_split is_end (drop (end + 1) text)) (split_some is_end (drop (end + 1) text))

behind_all : (p : ℕ → Bool) (xs : List ℕ) → position p xs ≡ None → length xs ≤ position_or_len p xs
behind_all p xs none = grind (arith, nat_tests, none)

one_line : (text : List ℕ) → 0 < length text → without_empty_last (text ∷ []) ≡ text ∷ []
one_line [] some = absurd (omega (arith, some))
one_line (c ∷ text) some = grind (arith, nat_tests)

pub last_line : (text : List ℕ) → 0 < length text → position is_end text ≡ None → lines_of text ≡ text ∷ []
last_line text some none =
    ap without_empty_last (slice_split_none is_end text (none_passes is_end text (behind_all is_end text none))) ∙ one_line text some

-- ---- words

abbrev pub is_space : ℕ → Bool
is_space c = c == 32

pub one_word : (text : List ℕ) → position_or_len is_space text ≡ length text → words_of text ≡ text ∷ []
one_word text behind = slice_split_none is_space text (none_passes is_space text (omega (arith, behind)))

pub first_word : (text word rest : List ℕ) → position_or_len is_space text < length text → word ≡ before_first is_space text
    → rest ≡ after_first is_space text → words_of text ≡ word ∷ words_of rest
first_word text word rest within before after =
    slice_split_first is_space text 0 within ∙ ap (λ w. w ∷ words_of (after_first is_space text)) (sym before) ∙ ap (λ r. word ∷ words_of r) (sym after)

-- a line that is UTF-8 names what its words do
pub claim_by_words : (line : List ℕ) (words : List (List ℕ)) → IsUtf8 line → words_of line ≡ words → claim_of_line line ≡ claim_in words
claim_by_words line words valid same =
    subst (λ (b : Bool). (if b then claim_in (words_of line) else None) ≡ claim_in words) (sym (is_utf8-from_IsUtf8 line valid)) (ap claim_in same)

-- four words or more name nothing
pub too_many : (a b c : List ℕ) (words : List (List ℕ)) → 0 < length words → claim_in (a ∷ b ∷ c ∷ words) ≡ None
too_many a b c [] some = absurd (omega (arith, some))
too_many a b c (word ∷ words) some = refl

pub more_words : (text : List ℕ) → 0 < length (words_of text)
more_words text = split_some is_space text

-- what stands behind so many bytes
pub behind_line : (text : List ℕ) (n : ℕ) → take (length text - n) (drop n text) ≡ drop n text
behind_line text n = grind (arith, common_steps)

-- nor does a line that is not UTF-8
pub names_none : (line : List ℕ) → (IsUtf8 line → ⊥) → None ≡ claim_of_line line
names_none line invalid = elim (is_utf8 line) as (λ b. is_utf8 line ≡ b → None ≡ (if b then claim_in (words_of line) else None)) [
  | true ↦ λ valid. absurd (invalid (IsUtf8-from_is_utf8 line valid))
  | false ↦ λ _. refl
] refl

-- a line of three words, of which the first is not empty and the others say bits
pub names_claim : (line circuit public outputs : List ℕ) (bits claimed : List Bool) → IsUtf8 line → words_of line ≡ circuit ∷ public ∷ outputs ∷ []
    → (length circuit == 0) ≡ false → bits_of public ≡ Some bits → bits_of outputs ≡ Some claimed
    → Some (named_claim circuit bits claimed) ≡ claim_of_line line
names_claim line circuit public outputs bits claimed valid words some first second =
    sym (claim_by_words line (circuit ∷ public ∷ outputs ∷ []) valid words
    ∙ (rw (some, first, second) refl))
