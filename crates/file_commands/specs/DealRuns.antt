-- `deal NAME --units N [--trees T --height H --base K]`: what it stores and says, and what it promises of its run.
use Rattle.std.specs.Prelude.{◌≡◌, ◌⊎◌, ◌<◌, ℕ, List, [], ◌∷◌, ◌++◌, length, map, take, get_or, codes, Option, Some, None}
use Rattle.std.specs.Option.{option_map}
use Rattle.std.specs.Fmt.{decimal}
use Rattle.hex.specs.Hex.{encode_lower}
use Rattle.dealer_files.specs.Dealing.{dealt_prover, dealt_verifier}
use Rattle.zk_model.specs.FileBytes.{prover_file_bytes, verifier_file_bytes}
use Rattle.zk_model.specs.Files as model
use Rattle.lease_journal.specs.Journals.{claim_slots}
use Rattle.lease_journal.specs.Twins.{blank_twin_bytes, twin_ceiling_slots}
use Rattle.zk_model.specs.declared.JournalKind.TheVariants.{Claims, Ceilings}
use Rattle.zk_model.specs.declared.Kind.{Kind}
use Rattle.zk_model.specs.declared.Kind.TheVariants.{Direct, Extended}
use Rattle.zk_port.specs.Files.{Files, stored, OthersStay}
use Rattle.command_words.specs.Words.{DealAsk}
use Rattle.file_commands.specs.Effects.{ShelfChange, Effects, CountsStay, NameFailed, OnlyStores, HasFailed, IsDone}
use Rattle.file_commands.specs.Stops.{PrintsMade, WritesAll, SaysStop, StatusMeans}
use Rattle.file_commands.specs.declared.deal_command.Stored.{Stored}
use Rattle.file_commands.specs.declared.deal_command.Stored.TheVariants as file
use Rattle.file_commands.specs.declared.refusal.Refusal.{Refusal}
use Rattle.file_commands.specs.declared.refusal.Refusal.TheVariants.{ShelfFailed, NoMemory}

-- how the name of a file ends
abbrev pub ending : Stored → List ℕ
ending file.ProverFile = codes ".prover"
ending file.VerifierFile = codes ".verifier"
ending file.ProverJournal = codes ".prover.journal"
ending file.VerifierJournal = codes ".verifier.journal"

-- one of the four names
abbrev pub IsDealName : List ℕ → List ℕ → Type 0
IsDealName name other = (file : Stored) × (other ≡ name ++ ending file)

-- what is stored there: the dealt files' bytes, and blank journals; the prover's has a slot a unit, at most 4,096
abbrev pub content : Stored → model.ProverFile → model.VerifierFile → List ℕ
content file.ProverFile prover verifier = prover_file_bytes prover
content file.VerifierFile prover verifier = verifier_file_bytes verifier
content file.ProverJournal prover verifier =
    blank_twin_bytes Claims prover.id prover.params.total (claim_slots prover.params.total)
content file.VerifierJournal prover verifier =
    blank_twin_bytes Ceilings prover.id prover.params.total (twin_ceiling_slots prover.params.total)

-- which bytes are stored under which name, in order
abbrev pub file_stores : List ℕ → model.ProverFile → model.VerifierFile → List (List ℕ × List ℕ)
file_stores name prover verifier =
    map (λ file. (name ++ ending file, content file prover verifier))
    (file.ProverFile ∷ file.VerifierFile ∷ file.ProverJournal ∷ file.VerifierJournal ∷ [])

-- of the files that are dealt from the seed
abbrev pub dealt_stores : DealAsk → List ℕ → List (List ℕ × List ℕ)
dealt_stores ask seed = file_stores ask.name (dealt_prover ask.params seed) (dealt_verifier ask.params seed)

-- the files with these bytes under these names, one stored after another
abbrev pub all_stored : List (List ℕ × List ℕ) → Files → Files
all_stored [] files = files
all_stored (one ∷ more) files = all_stored more (stored one.0 one.1 files)

-- all four are stored, and nothing else is changed
pub record StoresDealt (ask : DealAsk) (seed : List ℕ) (shelf : ShelfChange) : Type 0 where
  pub files : shelf.new.told ≡ option_map (all_stored (dealt_stores ask seed)) shelf.old.told
  pub counts : CountsStay shelf

-- the name of the store that comes after so many
abbrev pub next_name : ℕ → List (List ℕ × List ℕ) → List ℕ
next_name done stores = (get_or stores done ([], [])).0

-- Storing stops: the first of the stores, so many, are done; the next is the one that stops, for want of memory or
-- since it failed; and all other names have what they had.
pub record StopsStoring (stores : List (List ℕ × List ℕ)) (shelf : ShelfChange) (stop : Refusal) : Type 0 where
  pub done : ℕ
  pub some : done < length stores
  pub others : OthersStay (next_name done stores)
      (option_map (all_stored (take done stores)) shelf.old.told) shelf.new.told
  pub cause : (stop ≡ NoMemory) ⊎ ((stop ≡ ShelfFailed) × NameFailed (next_name done stores) shelf)

-- Storing these ended so: all are stored; or the first of them are, and the next stopped it.
abbrev pub KeepsStores : List (List ℕ × List ℕ) → ShelfChange → Option Refusal → Type 0
KeepsStores stores shelf None =
    (shelf.new.told ≡ option_map (all_stored stores) shelf.old.told) × CountsStay shelf
KeepsStores stores shelf (Some stop) = StopsStoring stores shelf stop

abbrev pub kind_name : Kind → List ℕ
kind_name Direct = codes "direct"
kind_name Extended = codes "extended"

-- the id, and how many units of which kind, a line each
abbrev pub file_lines : model.ProverFile → List ℕ
file_lines prover =
    codes "id " ++ encode_lower prover.id ++ codes "\nunits " ++ decimal prover.params.total
    ++ codes " " ++ kind_name prover.params.kind ++ codes "\n"

abbrev pub dealt_lines : DealAsk → List ℕ → List ℕ
dealt_lines ask seed = file_lines (dealt_prover ask.params seed)

-- the files are stored, and their lines are written; or that of a stop is, which has its cause and says what was stored
-- until then
abbrev pub DealLines : DealAsk → List ℕ → Effects → Type 0
DealLines ask seed run =
    (StoresDealt ask seed run.shelf × PrintsMade 0 (dealt_lines ask seed) run.status run.sink)
    ⊎ SaysStop (StopsStoring (dealt_stores ask seed) run.shelf) run

-- The files of the seed and their journals are stored under the four names, and their lines are written, or the line of
-- a stop with its cause is, and what was stored until then; nothing but the four names is asked of the shelf or changed
-- there; the status is one of those that mean something; and all is done where nothing fails.
pub record Deals (ask : DealAsk) (seed : List ℕ) (run : Effects) : Type 0 where
  pub lines : DealLines ask seed run
  pub kept : OnlyStores (IsDealName ask.name) run.shelf
  pub statuses : (run.status ≡ 0) ⊎ (run.status ≡ 4) ⊎ (run.status ≡ 7)
  pub means : StatusMeans (StoresDealt ask seed run.shelf × WritesAll (dealt_lines ask seed) run.sink)
      (StopsStoring (dealt_stores ask seed) run.shelf) (IsDealName ask.name) run
  pub done : ¬ HasFailed (IsDealName ask.name) run → IsDone run.status
