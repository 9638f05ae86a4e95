-- What clap is told of a command's words, and what it finds in them.
use Rattle.std.specs.Prelude.{◌≡◌, ℕ, List, [], ◌∷◌, ◌++◌, map, drop, Bool, true, false, if◌then◌else◌, Option, Some, None, codes, IfSome, IsNone, not}
use Rattle.std.specs.Option.{option_and_then, option_map_or}
use Rattle.std.specs.List.{list_all, list_any}
use Rattle.std.specs.Str.{bytes_eq}
use Rattle.clap.specs.Walk.{Rule, first_of}
use Rattle.clap.specs.Simple.{App, HasMatchesOf, matches_of, new_rule, new_shape}
use Rattle.clap.specs.Takes.{takes}
use Rattle.clap.specs.Faults.{fault_of, is_simple_and_free}
use Rattle.clap.specs.Matches.{first_value, found_of}
use Rattle.clap.specs.declared.builder.action.ArgAction.TheVariants.{SetTrue}
use Rattle.clap.specs.declared.parser.matches.ArgMatches.{ArgMatches}
use Rattle.command_words.specs.Arguments.{arranged, begins_with_dash, is_flag}
use Rattle.command_words.specs.BitWords.{BitsAsk}
use Rattle.command_words.specs.Rows.{Row, ids_of, row_of}
use Rattle.command_words.specs.Words.{Ask, asked_of, names_of}
use Rattle.command_words.specs.declared.table.Name.{Name}

-- an option that a value follows, and one that stands by itself
abbrev pub valued_rule : List ℕ → Rule
valued_rule id = record (new_rule id) { long = Some id }

abbrev pub flag_rule : List ℕ → Rule
flag_rule id = record (new_rule id) { long = Some id; action = Some SetTrue }

-- a command without clap's own `--help`, and that with these arguments too
abbrev pub bare : App
bare = record { top = record (new_shape (codes "zk")) { disable_help_flag = true }; subs = [] }

abbrev pub with_rules : App → List Rule → App
with_rules app rules = record app { top = record app.top { rules = app.top.rules ++ rules } }

-- what clap is told of a command
abbrev pub told : Row → App
told row =
    with_rules (with_rules (with_rules bare (map new_rule (ids_of row.places))) (map valued_rule (ids_of row.options)))
    (map flag_rule row.flags)

-- the ids of its words
abbrev pub word_ids : Row → List (List ℕ)
word_ids row = ids_of row.places ++ ids_of row.options

-- what was found under an id
abbrev pub given_by : ArgMatches → List ℕ → Option (List ℕ)
given_by matches id = first_value (found_of matches) id

abbrev pub is_plain : Option (List ℕ) → Bool
is_plain given = option_map_or (λ word. not (begins_with_dash word)) given true

-- nothing under these ids begins with a dash
abbrev pub are_plain : (List ℕ → Option (List ℕ)) → List (List ℕ) → Bool
are_plain given ids = list_all (λ id. is_plain (given id)) ids

-- what clap makes of the words, where none of it begins with a dash
pub record IsFound (row : Row) (words : List (List ℕ)) (found : Option ArgMatches) : Type 0 where
  pub matches : IfSome found (HasMatchesOf (told row) words)
  pub plain : IfSome found (λ m. are_plain (given_by m) (word_ids row) ≡ true)
  pub faultless : IfSome found (λ m. is_simple_and_free (told row) ≡ true → fault_of (told row) words ≡ [])
  pub none : IsNone found → takes (told row) words ≡ true
      → are_plain (λ id. first_of id (matches_of (told row) words)) (word_ids row) ≡ true → ⊥

-- the words that were found in places
abbrev pub with_place : Option (List ℕ) → List (List ℕ) → List (List ℕ)
with_place None words = words
with_place (Some word) words = word ∷ words

abbrev pub places_in : (List ℕ → Option (List ℕ)) → List (List ℕ) → List (List ℕ)
places_in given [] = []
places_in given (id ∷ ids) = with_place (given id) (places_in given ids)

-- the value of an option that stands by itself: empty where it was found
abbrev pub flag_value : Option (List ℕ) → Option (List ℕ)
flag_value given = if option_map_or (λ text. bytes_eq text (codes "true")) given false then Some [] else None

-- the value of the option of this name
abbrev pub value_at : (List ℕ → Option (List ℕ)) → List ℕ → Option (List ℕ)
value_at given name = if is_flag name then flag_value (given (drop 2 name)) else given (drop 2 name)

-- what clap's matches of these words have under an id
abbrev pub finds : Row → List (List ℕ) → List ℕ → Option (List ℕ)
finds row words id = first_of id (matches_of (told row) words)

-- clap's matches of the one have the same words in places as those of the other, and the same options
pub record AreAlike (row : Row) (words others : List (List ℕ)) : Type 0 where
  pub places : places_in (finds row words) (ids_of row.places) ≡ places_in (finds row others) (ids_of row.places)
  pub options : (name : List ℕ) → list_any (λ n. bytes_eq n name) (names_of row) ≡ true → value_at (finds row words) name ≡ value_at (finds row others) name

-- clap takes the words, and reads them as words that ask for this of the command
pub record IsTakenFor (name : Name) (words : List (List ℕ)) (ask : Ask BitsAsk) : Type 0 where
  pub faultless : fault_of (told (row_of name)) words ≡ []
  pub others : List (List ℕ)
  pub asks : option_and_then (asked_of name) (arranged others) ≡ Some ask
  pub alike : (first : List ℕ) → AreAlike (row_of name) words (first ∷ others)

-- what may be read of these words, the first of which is a command's name: what they ask for, where they are valid; of others nothing, or
-- what some valid words ask for that clap reads to the same matches
pub record IsReadBy (name : Name) (words : List (List ℕ)) (found : Option (Ask BitsAsk)) : Type 0 where
  pub valid : {ask : Ask BitsAsk} → option_and_then (asked_of name) (arranged (drop 1 words)) ≡ Some ask → found ≡ Some ask
  pub other : {ask : Ask BitsAsk} → found ≡ Some ask → IsTakenFor name words ask
