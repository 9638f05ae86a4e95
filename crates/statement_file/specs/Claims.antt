-- The claims that a file of statements names.
use Rattle.std.specs.Prelude.{◌≡◌, ◌⊎◌, ◌<◌, ◌≤◌, ◌==◌, ℕ, List, [], ◌∷◌, map, length, position, Bool, if◌then◌else◌, Option, Some, None, is_none}
use Rattle.std.specs.List.{slice_split}
use Rattle.std.specs.Option.{option_and_then, option_map}
use Rattle.std.specs.Str.{is_utf8}
use Rattle.zk_model.specs.declared.limits.TheConstants.{MAX_STATEMENTS}
use Rattle.command_words.specs.BitWords.{bits_of}
use Rattle.statement_file.specs.declared.fault.StatementError.{StatementError}
use Rattle.statement_file.specs.declared.fault.StatementError.TheVariants.{Fault, NoMemory}
use Rattle.statement_file.specs.declared.fault.StatementFault.{StatementFault}
use Rattle.statement_file.specs.declared.fault.StatementFault.TheVariants.{BadLine, Count}

-- a claim as words name it: the file of its circuit, the public input bits, and the outputs
pub record NamedClaim : Type 0 where
  pub circuit : List ℕ
  pub public : List Bool
  pub outputs : List Bool

abbrev pub named_claim : List ℕ → List Bool → List Bool → NamedClaim
named_claim circuit public outputs = record { circuit = circuit; public = public; outputs = outputs }

-- ---- lines

-- all but a last part that is empty
abbrev pub without_empty_last : List (List ℕ) → List (List ℕ)
without_empty_last [] = []
without_empty_last (part ∷ []) = if length part == 0 then [] else part ∷ []
without_empty_last (part ∷ next ∷ parts) = part ∷ without_empty_last (next ∷ parts)

-- the lines of a text, each with a line feed behind it, which the last may lack: what stands between the line feeds
abbrev pub lines_of : List ℕ → List (List ℕ)
lines_of text = without_empty_last (slice_split (λ c. c == 10) text)

-- ---- what a line names

-- the words of a line: what stands between its spaces
abbrev pub words_of : List ℕ → List (List ℕ)
words_of line = slice_split (λ c. c == 32) line

-- three words: a circuit's name, which is not empty, and two of bits
abbrev pub claim_in : List (List ℕ) → Option NamedClaim
claim_in (circuit ∷ public ∷ outputs ∷ []) =
    if length circuit == 0 then None
    else option_and_then (λ bits. option_map (λ claimed. named_claim circuit bits claimed) (bits_of outputs)) (bits_of public)
claim_in words = None

-- of a line that is UTF-8
abbrev pub claim_of_line : List ℕ → Option NamedClaim
claim_of_line line = if is_utf8 line then claim_in (words_of line) else None

-- ---- what a text says

-- each line names one of these claims, in order; there are 1 to 256
pub record NamesClaims (text : List ℕ) (claims : List NamedClaim) : Type 0 where
  pub named : map claim_of_line (lines_of text) ≡ map Some claims
  pub some : 1 ≤ length claims
  pub few : length claims ≤ MAX_STATEMENTS

-- the first line that names no claim, counted from 0, if there is one
abbrev pub first_bad : List ℕ → Option ℕ
first_bad text = position (λ line. is_none (claim_of_line line)) (lines_of text)

-- the one fault of a text: its first line that names no claim; or, where each names one, how many there are, none or more than 256
abbrev pub HasFault : List ℕ → StatementFault → Type 0
HasFault text (BadLine line) = first_bad text ≡ Some line
HasFault text (Count lines) =
    (first_bad text ≡ None) × (lines ≡ length (lines_of text)) × ((lines ≡ 0) ⊎ (MAX_STATEMENTS < lines))

-- why no claims are read: the text has this fault, or memory was missing
abbrev pub SaysNoClaims : List ℕ → StatementError → Type 0
SaysNoClaims text (Fault fault) = HasFault text fault
SaysNoClaims text NoMemory = Unit {0}
