-- What code reads of the words that clap found.
use Rattle.std.specs.Prelude.{◌≡◌, ◌≤◌, ℕ, List, map, Bool, Option, Some, None, Result, Ok, Err, is_some, slice_get}
use Rattle.std.specs.Borrow.{Bor}
use Rattle.command_words.specs.Found.{flag_value, given_by}
use Rattle.command_words.specs.Numbers.{number_within}
use Rattle.command_words.specs.Rows.{Column, Given, column_at, from_options, from_row, row_of, word_or}
use Rattle.command_words.specs.Words.{Ask, ServeOptions, asks_by, serve_options}
use Rattle.command_words.specs.BitWords.{BitsAsk}
use Rattle.command_words.specs.declared.found.Found.{Found}
use Rattle.command_words.specs.declared.found.At.{At}
use Rattle.command_words.specs.declared.found.At.TheVariants.{Place, Behind}
use Rattle.command_words.specs.declared.reading.Unread.{Unread}
use Rattle.command_words.specs.declared.reading.Unread.TheVariants.{Invalid}
use Rattle.command_words.specs.declared.table.Column.{Column as ColumnOf}
use Rattle.command_words.specs.declared.table.Name.{Name}
use Rattle.command_words.specs.declared.table.Name.TheVariants.{ServeMany}
use Rattle.command_words.specs.declared.table.TheConstants.{FOLLOW}
use Rattle.command_words.specs.declared.table.Need.{Need}
use Rattle.command_words.specs.declared.table.Need.TheVariants.{Always, Optional, Default}
use Rattle.command_words.specs.declared.table.WordKind.{WordKind}
use Rattle.command_words.specs.declared.table.WordKind.TheVariants.{Number}

-- the word, or the one that stands for it where it is left out
abbrev pub word_of : Need (List ℕ) → Option (List ℕ) → Option (List ℕ)
word_of Always word = word
word_of Optional word = word
word_of (Default default) word = word_or default word

abbrev pub word_at : Column → Given → Option (List ℕ)
word_at column given = word_of column.2 (given column.0)

-- the words that were found in places, and what was found of options
abbrev pub places_of : Found → List (List ℕ)
places_of found = map (λ p. p.now) found.positional.items

abbrev pub options_of : Found → Given
options_of found = given_by found.options

-- the word that stands there
abbrev pub word_in : At (ColumnOf (Bor (List ℕ))) → Found → Option (List ℕ)
word_in (Place index) found = slice_get (places_of found) index
word_in (Behind column) found = word_at (column_at column) (options_of found)

-- a flag stands
abbrev pub stands : Given → List ℕ → Bool
stands given id = is_some (flag_value (given id))

-- the number that a word of a kind says
abbrev pub number_of : WordKind → List ℕ → Option ℕ
number_of (Number low high) word = number_within low high word
number_of kind word = None

-- what lies within the limits of a kind
abbrev pub IsOfKind : WordKind → ℕ → Type 0
IsOfKind (Number low high) number = (low ≤ number) × (number ≤ high)
IsOfKind kind number = Unit {0}

-- what a command's words ask for, by what was found
unfoldable pub asked_found : Name → List (List ℕ) → Given → Option (Ask BitsAsk)
asked_found name words given = from_row (row_of name) (asks_by name) words given (stands given)

abbrev pub asked_in : Name → Found → Option (Ask BitsAsk)
asked_in name found = asked_found name (places_of found) (options_of found)

-- the options of a service
abbrev pub service_given : Given → Option ServeOptions
service_given given =
    from_options (row_of ServeMany).options
    (λ sessions workers section timeout logs. serve_options sessions workers section timeout logs (stands given FOLLOW.now)) given

-- this is read, or nothing where words are not valid
abbrev pub IsReadTo : {A B : Type 0} → (A → B) → Option B → Result A Unread → Type 0
IsReadTo value valid (Ok found) = valid ≡ Some (value found)
IsReadTo value valid (Err why) = why ≡ Invalid → valid ≡ None
