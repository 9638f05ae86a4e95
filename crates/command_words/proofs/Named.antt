-- Words that begin with a command's name.
use Rattle.std.proofs.Common.{◌≡◌, ◌∙◌, ◌≤◌, ◌<◌, ℕ, List, [], ◌∷◌, Some, None, Option, refl, ap, sym, codes, drop, length, get_or, arith, string_bytes, String, true, true≢false}
use Rattle.std.specs.Option.{is_some, option_and_then, option_map}
use Rattle.std.specs.Prelude.{IfOk, IfSome, IsNone, IsSome, Result}
use Rattle.std.specs.Str.{bytes_eq}
use Rattle.std.specs.declared.alloc.Global.{Global}
use Rattle.std.proofs.lemmas.Result.{IfOk-weaker}
use Rattle.command_words.specs.Arguments.{arranged, is_flag, is_valued}
use Rattle.command_words.specs.Commands.{Command, ask_of, bits_ask}
use Rattle.command_words.specs.Found.{IsReadBy}
use Rattle.command_words.specs.Forms.{IsReadAs}
use Rattle.command_words.specs.Rows.{named}
use Rattle.command_words.specs.Words.{IsRead, asked, asked_of, texts}
use Rattle.command_words.specs.declared.bits.BitsWord.{BitsWord}
use Rattle.command_words.specs.declared.table.Name.{Name}
use Rattle.command_words.proofs.Rows.{same_text}

-- the first word is this
pub begins_so : (words : List (String Global)) (first : String Global) (now : List ℕ) → 1 ≤ length words → first ≡ get_or words 0 first → now ≡ string_bytes first → texts words ≡ now ∷ drop 1 (texts words)
begins_so [] first now some at value = absurd (omega arith)
begins_so (word ∷ words) first now some at value = ap (λ n. n ∷ texts words) (ap (λ w. string_bytes w) (sym at) ∙ sym value)

module _ (name : Name) (first : List ℕ) (is : named first ≡ Some name) (words : List (List ℕ)) (begins : words ≡ first ∷ drop 1 words) where
  means : (others : List (List ℕ)) → asked (first ∷ others) ≡ option_and_then (asked_of name) (arranged others)
  means others = ap (option_and_then (λ n. option_and_then (asked_of n) (arranged others))) is

  -- what is read of a command's words is read of the words with its name
  pub named_read : {E : Type 0} (result : Result (Option (Command BitsWord)) E) → IfOk result (λ found. IsReadBy name words (option_map (ask_of bits_ask) found))
      → IfOk result (λ found. IsRead words (option_map (ask_of bits_ask) found))
  named_read result read = IfOk-weaker result _ _ (λ found r. record {
    valid = λ {ask} e. r.valid (sym (means (drop 1 words)) ∙ sym (ap asked begins) ∙ e);
    other = λ {ask} e. let t = r.other e in (first ∷ t.others, means t.others ∙ t.asks);
  }) read

  alike_so : (found : Option (Command BitsWord)) → IsReadBy name words (option_map (ask_of bits_ask) found) → IfSome found (λ command. IsReadAs words (ask_of bits_ask command))
  alike_so None read = tt
  alike_so (Some command) read =
      let t = read.other refl in
      record { name = first; begins = begins; command = name; named = is; faultless = t.faultless; others = t.others; asks = means t.others ∙ t.asks; alike = t.alike first }

  pub alike_read : {E : Type 0} (result : Result (Option (Command BitsWord)) E) → IfOk result (λ found. IsReadBy name words (option_map (ask_of bits_ask) found))
      → IfOk result (λ found. IfSome found (λ command. IsReadAs words (ask_of bits_ask command)))
  alike_read result read = IfOk-weaker result _ _ (λ found r. alike_so found r) read

-- no command has this name
pub nothing_read : (words : List (List ℕ)) (first : List ℕ) → words ≡ first ∷ drop 1 words → named first ≡ None → IsRead words None
nothing_read words first begins other =
    let none : asked (first ∷ drop 1 words) ≡ None = ap (option_and_then (λ n. option_and_then (asked_of n) (arranged (drop 1 words)))) other in
    record {
      valid = λ {ask} h. let never : None ≡ Some ask = sym none ∙ sym (ap asked begins) ∙ h in absurd (cc);
      other = λ {ask} h. absurd (cc);
    }

-- ---- words that ask for help are not valid

none_then : {A B : Type 0} (o : Option A) → option_and_then {T = A} {U = B} (λ a. None) o ≡ None
none_then None = refl
none_then (Some a) = refl

help_behind : (name : List ℕ) → asked (name ∷ codes "--help" ∷ []) ≡ None
unfolding is_valued is_flag
help_behind name = none_then (named name)

-- a name and `--help`
pub help_of_name : (words : List (String Global)) (item : String Global) (now : List ℕ) {X : Type 0} (found : Option X) → 2 ≤ length words → length words < 3 → item ≡ get_or words 1 item
    → now ≡ string_bytes item → bytes_eq now (codes "--help") ≡ true → IsSome (asked (texts words)) → IsNone found
help_of_name [] item now found some few at value same valid = absurd (omega arith)
help_of_name (name ∷ []) item now found some few at value same valid = absurd (omega arith)
help_of_name (name ∷ word ∷ []) item now found some few at value same valid =
    let word_is : string_bytes word ≡ codes "--help" = ap (λ w. string_bytes w) (sym at) ∙ sym value ∙ same_text now (codes "--help") same in
    absurd (true≢false (sym valid ∙ ap is_some (ap (λ w. asked (string_bytes name ∷ w ∷ [])) word_is ∙ help_behind (string_bytes name))))
help_of_name (name ∷ word ∷ more ∷ words) item now found some few at value same valid = absurd (omega arith)
