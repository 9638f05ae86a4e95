-- Words that ask for help, and the text that they ask for.
use Rattle.std.specs.Prelude.{ℕ, List, [], ◌∷◌, Bool, false, Option, Some, None, ◌&&◌, ◌||◌, codes, if◌then◌else◌}
use Rattle.std.specs.Option.{is_some, option_map}
use Rattle.std.specs.Str.{bytes_eq}
use Rattle.command_words.specs.Rows.{named, row_of}
use Rattle.command_words.specs.declared.help.TheConstants.{PROGRAM, VERSION}

-- the text that a lone word asks for
abbrev pub help_of_word : List ℕ → Option (List ℕ)
help_of_word word =
    if bytes_eq word (codes "--help") || bytes_eq word (codes "-h") then Some PROGRAM.now
    else if bytes_eq word (codes "--version") || bytes_eq word (codes "-V") then Some VERSION.now
    else None

-- the text of the command of this name
abbrev pub help_of_command : List ℕ → Option (List ℕ)
help_of_command name = option_map (λ command. (row_of command).help) (named name)

-- the text that these words ask for: each command's is its own
abbrev pub help_of : List (List ℕ) → Option (List ℕ)
help_of (word ∷ []) = help_of_word word
help_of (name ∷ word ∷ []) = if bytes_eq word (codes "--help") then help_of_command name else None
help_of words = None

-- the words that ask for help by themselves
abbrev pub is_help_word : List ℕ → Bool
is_help_word word =
    bytes_eq word (codes "--help") || bytes_eq word (codes "-h") || bytes_eq word (codes "--version") || bytes_eq word (codes "-V")

abbrev pub asks_for_help : List (List ℕ) → Bool
asks_for_help (word ∷ []) = is_help_word word
asks_for_help (name ∷ word ∷ []) = bytes_eq word (codes "--help") && is_some (named name)
asks_for_help words = false
