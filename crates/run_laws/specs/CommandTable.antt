-- The table of commands, in letters and numbers: what `asked` of `run_zk` reads words by.
use Rattle.std.specs.Prelude.{◌≡◌, ℕ, List, [], ◌∷◌, map, codes, Option, Some, None}
use Rattle.std.specs.Option.{option_map}
use Rattle.command_words.specs.Reading.{word_of}
use Rattle.command_words.specs.Rows.{Column, ids_of, named, row_of}

-- an option's name, and the word that it has where it is left out
abbrev pub option_words : Column → List ℕ × Option (List ℕ)
option_words column = (column.0, word_of column.2 None)

-- of the command of this name: its words in places, its options that a word follows, and those that stand by themselves
abbrev pub row_words : List ℕ → Option (List (List ℕ) × List (List ℕ × Option (List ℕ)) × List (List ℕ))
row_words name = option_map (λ command.
    (ids_of (row_of command).places, map option_words (row_of command).options, (row_of command).flags)) (named name)

-- a row with these words
abbrev pub HasWords : List ℕ → List (List ℕ) → List (List ℕ × Option (List ℕ)) → List (List ℕ) → Type 0
HasWords name places options flags = row_words name ≡ Some (places, options, flags)

-- the options of a service
abbrev pub service_words : List (List ℕ × Option (List ℕ))
service_words =
    (codes "sessions", None) ∷ (codes "workers", Some (codes "4")) ∷ (codes "section", Some (codes "1048576"))
    ∷ (codes "timeout", Some (codes "120")) ∷ (codes "logs", None) ∷ []

-- what a verifier is told before its claim, and a prover
abbrev pub end_words : List (List ℕ) → List (List ℕ)
end_words claim = codes "ADDRESS" ∷ codes "FILE" ∷ codes "CIRCUIT" ∷ claim

abbrev pub TableIs : Type 0
TableIs =
    HasWords (codes "deal") (codes "NAME" ∷ [])
    ((codes "units", None) ∷ (codes "trees", None) ∷ (codes "height", None) ∷ (codes "base", None) ∷ []) []
    × HasWords (codes "eval") (codes "CIRCUIT" ∷ codes "BITS" ∷ []) [] []
    × HasWords (codes "rehearse") (codes "CIRCUIT" ∷ codes "BITS" ∷ [])
    ((codes "section", Some (codes "1048576")) ∷ (codes "public", None) ∷ (codes "gates", None) ∷ (codes "number", None) ∷ [])
    (codes "extended" ∷ [])
    × HasWords (codes "rehearse-arith") (codes "CIRCUIT" ∷ codes "VALUES" ∷ []) ((codes "section", Some (codes "1048576")) ∷ [])
    (codes "extended" ∷ [])
    × HasWords (codes "rehearse-poly") (codes "TEXT" ∷ codes "VALUES" ∷ []) ((codes "section", Some (codes "1048576")) ∷ [])
    (codes "extended" ∷ [])
    × HasWords (codes "serve") (end_words (codes "OUTPUTS" ∷ [])) ((codes "public", Some (codes "none")) ∷ service_words)
    (codes "follow" ∷ [])
    × HasWords (codes "serve-many") (codes "ADDRESS" ∷ codes "FILE" ∷ codes "STATEMENTS" ∷ []) service_words (codes "follow" ∷ [])
    × HasWords (codes "serve-arith") (end_words (codes "OUTPUTS" ∷ [])) service_words (codes "follow" ∷ [])
    × HasWords (codes "serve-poly") (codes "ADDRESS" ∷ codes "FILE" ∷ codes "TEXT" ∷ []) service_words (codes "follow" ∷ [])
    × HasWords (codes "prove") (end_words (codes "BITS" ∷ codes "OUTPUTS" ∷ []))
    ((codes "timeout", Some (codes "120")) ∷ (codes "public", Some (codes "none")) ∷ []) []
    × HasWords (codes "prove-arith") (end_words (codes "VALUES" ∷ codes "OUTPUTS" ∷ [])) ((codes "timeout", Some (codes "120")) ∷ []) []
    × HasWords (codes "prove-poly") (codes "ADDRESS" ∷ codes "FILE" ∷ codes "TEXT" ∷ codes "VALUES" ∷ [])
    ((codes "timeout", Some (codes "120")) ∷ []) []
    × HasWords (codes "audit") (codes "CIRCUIT" ∷ codes "OUTPUTS" ∷ codes "PROVERFILE" ∷ codes "VERIFIERFILE" ∷ codes "LOG" ∷ [])
    ((codes "public", Some (codes "none")) ∷ []) []
    × HasWords (codes "audit-arith") (codes "CIRCUIT" ∷ codes "OUTPUTS" ∷ codes "PROVERFILE" ∷ codes "VERIFIERFILE" ∷ codes "LOG" ∷ [])
    [] []
    × HasWords (codes "migrate") (codes "SIDE" ∷ codes "FILE" ∷ []) [] []
    × HasWords (codes "status") (codes "FILE" ∷ codes "CIRCUIT" ∷ []) ((codes "node", None) ∷ []) []
    × HasWords (codes "node") (codes "FILE" ∷ codes "K" ∷ []) [] []
    × HasWords (codes "broker") (codes "ADDRESS" ∷ codes "FILE" ∷ []) ((codes "asks", None) ∷ (codes "timeout", Some (codes "120")) ∷ [])
    (codes "follow" ∷ [])
    × HasWords (codes "serve-node") (codes "ADDRESS" ∷ codes "BROKER" ∷ codes "FILE" ∷ codes "CIRCUIT" ∷ codes "OUTPUTS" ∷ [])
    ((codes "node", None) ∷ (codes "sessions", None) ∷ (codes "timeout", Some (codes "120")) ∷ []) (codes "follow" ∷ [])
