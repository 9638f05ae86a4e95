-- Whatever clap finds, some words say it.
use Rattle.std.proofs.Common.{◌≡◌, ◌∙◌, ◌==◌, ℕ, List, [], ◌∷◌, ◌++◌, Bool, true, false, not, ◌&&◌, ◌||◌, cond, drop, Some, None, Option, refl, ap, ap₂, sym, subst, codes, if◌then◌else◌, true≢false}
use Rattle.std.specs.Option.{is_some}
use Rattle.std.specs.List.{list_all, list_any}
use Rattle.std.specs.Str.{bytes_eq}
use Rattle.clap.proofs.WalkLemmas.{both}
use Rattle.clap.proofs.SimpleLemmas.{is_false}
use Rattle.command_words.specs.Arguments.{Positional, Valued, Flag, arranged, begins_with_dash, is_flag, is_valued, kind_of, option_named, Word}
use Rattle.command_words.specs.Orders.{StandsAmong, nothing as no_words, place as in_place, valued as with_value, flag as by_itself}
use Rattle.command_words.specs.Words.{stand_once_among}
use Rattle.command_words.specs.Found.{are_plain, flag_value, is_plain, places_in, value_at, with_place}
use Rattle.command_words.proofs.Orders.{complete}
use Rattle.command_words.proofs.Finding.{plain_both}
use Rattle.command_words.proofs.Rows.{equals_itself, same_text}
use Rattle.command_words.proofs.Walks.{are_apart, is_among, is_apart}
use Rattle.command_words.proofs.Taking.{among_all}

-- the options that were found
abbrev pub with_option : List ℕ → Option (List ℕ) → List Word → List Word
with_option name None options = options
with_option name (Some value) options = (name, value) ∷ options

abbrev pub options_in : (List ℕ → Option (List ℕ)) → List (List ℕ) → List Word
options_in given [] = []
options_in given (name ∷ names) = with_option name (value_at given name) (options_in given names)

-- the words of options
abbrev pub written : List Word → List (List ℕ)
written [] = []
written (option ∷ options) = if is_flag option.0 then option.0 ∷ written options else option.0 ∷ option.1 ∷ written options

abbrev pub KindsFit : List (List ℕ) → Type 0
KindsFit [] = Unit {0}
KindsFit (name ∷ names) = (kind_of name ≡ (if is_flag name then Flag else Valued)) × KindsFit names

-- these are names of options, no two the same, whose values are found under these ids
pub record AreNames (names valued : List (List ℕ)) : Type 0 where
  pub kinds : KindsFit names
  pub apart : are_apart names ≡ true
  pub covered : list_all (λ name. is_flag name || is_among valued (drop 2 name)) names ≡ true

not_dash : (b : Bool) → (b && true) ≡ false → b ≡ false
not_dash true e = e
not_dash false e = refl

plain_kind : (word : List ℕ) → begins_with_dash word ≡ false → kind_of word ≡ Positional
unfolding is_valued is_flag
plain_kind [] e = refl
plain_kind (c ∷ word) e =
    let d : (c == 45) ≡ false = not_dash (c == 45) e in
    rw d (refl {a = Positional})

stands_places : {words : List (List ℕ)} {options : List Word} → StandsAmong words [] options → (positional : List (List ℕ)) → list_all (λ word. not (begins_with_dash word)) positional ≡ true
    → StandsAmong (positional ++ words) positional options
stands_places stand [] plain = stand
stands_places stand (word ∷ positional) plain =
    let parts = both _ _ plain in
    in_place (plain_kind word (is_false _ parts.0)) (stands_places stand positional parts.1)

plain_places : (given : List ℕ → Option (List ℕ)) (ids : List (List ℕ)) → are_plain given ids ≡ true → list_all (λ word. not (begins_with_dash word)) (places_in given ids) ≡ true
plain_places given [] plain = refl
plain_places given (id ∷ ids) plain =
    let parts = both _ _ plain in
    go (given id) parts.0 (plain_places given ids parts.1)
  where
    go : (o : Option (List ℕ)) → is_plain o ≡ true → list_all (λ word. not (begins_with_dash word)) (places_in given ids) ≡ true
        → list_all (λ word. not (begins_with_dash word)) (with_place o (places_in given ids)) ≡ true
    go None p rest = rest
    go (Some word) p rest = ap₂ (λ a b. a && b) p rest

-- one option that was found, in its words
stands_option : (name : List ℕ) (given : Option (List ℕ)) (options : List Word) → kind_of name ≡ (if is_flag name then Flag else Valued) → (is_flag name || is_plain given) ≡ true
    → StandsAmong (written options) [] options
    → StandsAmong (written (with_option name (if is_flag name then flag_value given else given) options)) [] (with_option name (if is_flag name then flag_value given else given) options)
stands_option name given options kind plain rest = go (is_flag name) refl kind plain
  where
    shown : (b : Bool) → is_flag name ≡ b → (value : List ℕ) → StandsAmong (if b then name ∷ written options else name ∷ value ∷ written options) [] ((name, value) ∷ options)
        → StandsAmong (written ((name, value) ∷ options)) [] ((name, value) ∷ options)
    shown b e value stand = subst (λ x. StandsAmong (if x then name ∷ written options else name ∷ value ∷ written options) [] ((name, value) ∷ options)) (sym e) stand

    flagged : (b : Bool) → is_flag name ≡ true → kind_of name ≡ Flag → StandsAmong (written (with_option name (if b then Some [] else None) options)) [] (with_option name (if b then Some [] else None) options)
    flagged true e k = shown true e [] (by_itself k rest)
    flagged false e k = rest

    valued : (o : Option (List ℕ)) → is_flag name ≡ false → kind_of name ≡ Valued → is_plain o ≡ true → StandsAmong (written (with_option name o options)) [] (with_option name o options)
    valued None e k p = rest
    valued (Some value) e k p = shown false e value (with_value k (is_false _ p) rest)

    go : (b : Bool) → is_flag name ≡ b → kind_of name ≡ (if b then Flag else Valued) → (b || is_plain given) ≡ true
        → StandsAmong (written (with_option name (if b then flag_value given else given) options)) [] (with_option name (if b then flag_value given else given) options)
    go true e k p = flagged (Rattle.std.specs.Option.option_map_or (λ text. bytes_eq text (codes "true")) given false) e k
    go false e k p = valued given e k p

covered_plain : (given : List ℕ → Option (List ℕ)) (valued : List (List ℕ)) (name : List ℕ) → are_plain given valued ≡ true → (is_flag name || is_among valued (drop 2 name)) ≡ true
    → (is_flag name || is_plain (given (drop 2 name))) ≡ true
covered_plain given valued name plain covered = go (is_flag name) covered
  where
    go : (b : Bool) → (b || is_among valued (drop 2 name)) ≡ true → (b || is_plain (given (drop 2 name))) ≡ true
    go true e = refl
    go false e = among_all (λ id. is_plain (given id)) valued (drop 2 name) plain e

stands_options : (given : List ℕ → Option (List ℕ)) (valued names : List (List ℕ)) → are_plain given valued ≡ true → KindsFit names
    → list_all (λ name. is_flag name || is_among valued (drop 2 name)) names ≡ true → StandsAmong (written (options_in given names)) [] (options_in given names)
stands_options given valued [] plain kinds covered = no_words
stands_options given valued (name ∷ names) plain kinds covered =
    let parts = both _ _ covered in
    stands_option name (given (drop 2 name)) (options_in given names) kinds.0 (covered_plain given valued name plain parts.0)
    (stands_options given valued names plain kinds.1 parts.1)

absent : (given : List ℕ → Option (List ℕ)) (names : List (List ℕ)) (name : List ℕ) → is_apart name names ≡ true → option_named name (options_in given names) ≡ None
absent given [] name apart = refl
absent given (n ∷ names) name apart =
    let parts = both _ _ apart in
    go (value_at given n) (Rattle.command_words.proofs.Walks.other_way name n (is_false _ parts.0)) (absent given names name parts.1)
  where
    go : (o : Option (List ℕ)) → bytes_eq n name ≡ false → option_named name (options_in given names) ≡ None → option_named name (with_option n o (options_in given names)) ≡ None
    go None e later = later
    go (Some value) e later = ap (λ b. cond b (Some value) (option_named name (options_in given names))) e ∙ later

-- each option is found with its value
pub found_named : (given : List ℕ → Option (List ℕ)) (names : List (List ℕ)) → are_apart names ≡ true → (name : List ℕ) → is_among names name ≡ true
    → option_named name (options_in given names) ≡ value_at given name
found_named given [] apart name among = absurd (true≢false (sym among))
found_named given (n ∷ names) apart name among =
    let parts = both _ _ apart in
    go (bytes_eq n name) refl among (absent given names n parts.0) (found_named given names parts.1 name)
  where
    here : (o : Option (List ℕ)) → option_named n (options_in given names) ≡ None → option_named n (with_option n o (options_in given names)) ≡ o
    here None gone = gone
    here (Some value) gone = ap (λ b. cond b (Some value) (option_named n (options_in given names))) (equals_itself n)

    later : (o : Option (List ℕ)) → bytes_eq n name ≡ false → option_named name (with_option n o (options_in given names)) ≡ option_named name (options_in given names)
    later None e = refl
    later (Some value) e = ap (λ b. cond b (Some value) (option_named name (options_in given names))) e

    go : (b : Bool) → bytes_eq n name ≡ b → (b || is_among names name) ≡ true → option_named n (options_in given names) ≡ None
        → (is_among names name ≡ true → option_named name (options_in given names) ≡ value_at given name)
        → option_named name (with_option n (value_at given n) (options_in given names)) ≡ value_at given name
    go true e is gone more = subst (λ x. option_named x (with_option n (value_at given n) (options_in given names)) ≡ value_at given x) (same_text n name e) (here (value_at given n) gone)
    go false e is gone more = later (value_at given n) e ∙ more is

among_first : (names : List (List ℕ)) (name : List ℕ) → is_among (name ∷ names) name ≡ true
among_first names name = ap (λ b. b || is_among names name) (equals_itself name)

among_more : (names : List (List ℕ)) (n name : List ℕ) → is_among names name ≡ true → is_among (n ∷ names) name ≡ true
among_more names n name among = go (bytes_eq n name)
  where
    go : (b : Bool) → (b || is_among names name) ≡ true
    go true = refl
    go false = among

-- and once
found_once : (given : List ℕ → Option (List ℕ)) (all names : List (List ℕ)) → are_apart names ≡ true → ((name : List ℕ) → is_among names name ≡ true → is_among all name ≡ true)
    → stand_once_among all (options_in given names) ≡ true
found_once given all [] apart allowed = refl
found_once given all (name ∷ names) apart allowed =
    let parts = both _ _ apart in
    go (value_at given name) (allowed name (among_first names name)) (absent given names name parts.0)
    (found_once given all names parts.1 (λ n among. allowed n (among_more names name n among)))
  where
    go : (o : Option (List ℕ)) → is_among all name ≡ true → option_named name (options_in given names) ≡ None → stand_once_among all (options_in given names) ≡ true
        → stand_once_among all (with_option name o (options_in given names)) ≡ true
    go None is gone rest = rest
    go (Some value) is gone rest = ap₂ (λ a b. a && b) is (ap₂ (λ a b. a && b) (ap (λ o. not (is_some o)) gone) rest)

-- words that say what was found
pub record AreWritten (given : List ℕ → Option (List ℕ)) (places names : List (List ℕ)) : Type 0 where
  pub words : List (List ℕ)
  pub stand : arranged words ≡ Some (places_in given places, options_in given names)
  pub once : stand_once_among names (options_in given names) ≡ true

pub write_found : (given : List ℕ → Option (List ℕ)) (places names valued : List (List ℕ)) → AreNames names valued → are_plain given (places ++ valued) ≡ true → AreWritten given places names
write_found given places names valued are plain =
    let parts = both _ _ (sym (plain_both given places valued) ∙ plain) in
    record {
      words = places_in given places ++ written (options_in given names);
      stand = complete (stands_places (stands_options given valued names parts.1 are.kinds are.covered) (places_in given places) (plain_places given places parts.0));
      once = found_once given names names are.apart (λ name among. among);
    }
