-- The words after a command's name: those that stand in their places, and the options among them.
use Rattle.std.specs.Prelude.{ℕ, List, [], ◌∷◌, ◌++◌, Bool, true, false, if◌then◌else◌, Option, Some, None, codes, is_some, not, ◌&&◌}
use Rattle.std.specs.Option.{option_map}
use Rattle.std.specs.List.{list_any}
use Rattle.std.specs.Str.{bytes_eq}
use Rattle.command_words.specs.Rows.{row_of}
use Rattle.command_words.specs.declared.table.TheConstants.{NAMES}

-- the first byte is a dash
abbrev pub begins_with_dash : List ℕ → Bool
begins_with_dash [] = false
begins_with_dash (c ∷ word) = bytes_eq (c ∷ []) (codes "-")

-- the options of the table that a value follows, and those that stand by themselves
unfoldable pub is_valued : List ℕ → Bool
is_valued word = list_any (λ name. list_any (λ option. bytes_eq word (45 ∷ 45 ∷ option.0)) (row_of name).options) NAMES.now

unfoldable pub is_flag : List ℕ → Bool
is_flag word = list_any (λ name. list_any (λ flag. bytes_eq word (45 ∷ 45 ∷ flag)) (row_of name).flags) NAMES.now

-- what a word after the name is, by itself: it stands in its place, is an option that a value follows, an option that stands by itself, or
-- any other word that begins with a dash
pub data WordKind : Type 0 where
  Positional : WordKind
  Valued : WordKind
  Flag : WordKind
  Unknown : WordKind

abbrev pub kind_of : List ℕ → WordKind
kind_of word =
    if is_valued word then Valued else if is_flag word then Flag else if begins_with_dash word then Unknown else Positional

-- an option's name and its value, which is empty where none follows it
abbrev pub Word : Type 0
Word = List ℕ × List ℕ

-- the words in their places, and the options, each in order
abbrev pub Parts : Type 0
Parts = List (List ℕ) × List Word

-- these, and then the parts
abbrev pub before : List (List ℕ) → List Word → Parts → Parts
before positional options parts = (positional ++ parts.0, options ++ parts.1)

-- a last word
abbrev pub alone : WordKind → List ℕ → Option Parts
alone Positional word = Some (word ∷ [], [])
alone Valued word = None
alone Flag word = Some ([], (word, []) ∷ [])
alone Unknown word = None

-- a word, the one after it, and what comes from the latter on and after it
abbrev pub step : WordKind → List ℕ → List ℕ → Option Parts → Option Parts → Option Parts
step Positional word value next behind = option_map (before (word ∷ []) []) next
step Valued word value next behind =
    if begins_with_dash value then None else option_map (before [] ((word, value) ∷ [])) behind
step Flag word value next behind = option_map (before [] ((word, []) ∷ [])) next
step Unknown word value next behind = None

-- None where the words are no places and options
abbrev pub arranged : List (List ℕ) → Option Parts
arranged [] = Some ([], [])
arranged (word ∷ []) = alone (kind_of word) word
arranged (word ∷ value ∷ words) = step (kind_of word) word value (arranged (value ∷ words)) (arranged words)

-- the value of the first option of this name
abbrev pub option_named : List ℕ → List Word → Option (List ℕ)
option_named name [] = None
option_named name (option ∷ options) = if bytes_eq option.0 name then Some option.1 else option_named name options

-- each option is one of those allowed, and no two have the same name
abbrev pub stand_once : (List ℕ → Bool) → List Word → Bool
stand_once is_allowed [] = true
stand_once is_allowed (option ∷ options) =
    is_allowed option.0 && (not (is_some (option_named option.0 options)) && stand_once is_allowed options)
