-- `node FILE K`: what it stores and says, and what it promises of its run.
use Rattle.std.specs.Prelude.{◌≡◌, ◌≢◌, ◌⊎◌, ℕ, List, ◌++◌, codes, None}
use Rattle.std.specs.Option.{option_map}
use Rattle.std.specs.Fmt.{decimal}
use Rattle.dealer_files.specs.Faults.{IsDealtFile}
use Rattle.zk_model.specs.Files.{VerifierFile}
use Rattle.lease_journal.specs.Twins.{blank_twin_bytes}
use Rattle.zk_model.specs.declared.JournalKind.TheVariants.{Claims}
use Rattle.zk_model.specs.declared.Side.TheVariants.{Verifier}
use Rattle.zk_model.specs.declared.limits.TheConstants.{MAX_CLAIM_SLOTS}
use Rattle.zk_port.specs.Files.{OthersStay, stored}
use Rattle.command_words.specs.Words.{NodeAsk}
use Rattle.file_commands.specs.Effects.{CountsStay, Effects, HasFailed, IsDone, IsName, NameFailed, OnlyAsks, OtherNamesStay, ShelfChange}
use Rattle.file_commands.specs.Journals.{node_journal_name}
use Rattle.file_commands.specs.Stops.{FileStop, HasText, IsVerifierFileAt, PrintsMade, SaysStop, StatusMeans, WritesAll}
use Rattle.file_commands.specs.declared.refusal.Refusal.{Refusal}
use Rattle.file_commands.specs.declared.refusal.Refusal.TheVariants.{ShelfFailed, NoMemory}

-- the name of the node's journal
abbrev pub journal_of : NodeAsk → List ℕ
journal_of ask = node_journal_name ask.file ask.node

-- the verifier's file, or the node's journal
abbrev pub IsNodeName : NodeAsk → List ℕ → Type 0
IsNodeName ask name = (name ≡ ask.file) ⊎ (name ≡ journal_of ask)

-- a blank journal of claims of a file's units, of 4,096 slots
abbrev pub blank_claims : VerifierFile → List ℕ
blank_claims file = blank_twin_bytes Claims file.id file.params.total MAX_CLAIM_SLOTS

-- that of the verifier's file which stands under the name is stored, and nothing else is changed
pub record StoresNode (ask : NodeAsk) (shelf : ShelfChange) : Type 0 where
  pub file : VerifierFile
  pub stands : IsVerifierFileAt shelf.old.told ask.file file
  pub files : shelf.new.told ≡ option_map (stored (journal_of ask) (blank_claims file)) shelf.old.told
  pub counts : CountsStay shelf

-- the store stops: for want of memory, or since it failed
pub record StopsStore (ask : NodeAsk) (shelf : ShelfChange) (stop : Refusal) : Type 0 where
  pub others : OthersStay (journal_of ask) shelf.old.told shelf.new.told
  pub cause : (stop ≡ NoMemory) ⊎ ((stop ≡ ShelfFailed) × NameFailed (journal_of ask) shelf)

-- why there is no node: the verifier's file can't be had, and nothing is stored; or the store stops
abbrev pub NodeStop : NodeAsk → ShelfChange → Refusal → Type 0
NodeStop ask shelf stop =
    (FileStop Verifier ask.file shelf stop × (shelf.new.told ≡ shelf.old.told)) ⊎ StopsStore ask shelf stop

-- no file but the journal is changed
abbrev pub KeepsOthers : NodeAsk → ShelfChange → Type 0
KeepsOthers ask shelf = OtherNamesStay (IsName (journal_of ask)) shelf.old.told shelf.new.told

-- that the node is made
abbrev pub node_line : ℕ → List ℕ
node_line node = codes "node " ++ decimal node ++ codes "\n"

-- the journal is stored, and the line is written; or that of a stop is, which has its cause
abbrev pub NodeLines : NodeAsk → Effects → Type 0
NodeLines ask run =
    (StoresNode ask run.shelf × PrintsMade 0 (node_line ask.node) run.status run.sink)
    ⊎ SaysStop (NodeStop ask run.shelf) run

-- The blank journal of the node is stored, and its line is written, or that of a stop with its cause; nothing but the verifier's file and
-- the journal is asked of the shelf, and of these the journal alone is changed; the status is one of those that mean something; and all is
-- done where the shelf tells a verifier's file, and nothing fails.
pub record MakesNode (ask : NodeAsk) (run : Effects) : Type 0 where
  pub lines : NodeLines ask run
  pub others : KeepsOthers ask run.shelf
  pub asked : OnlyAsks (IsNodeName ask) run.shelf
  pub statuses : (run.status ≡ 0) ⊎ (run.status ≡ 3) ⊎ (run.status ≡ 4) ⊎ (run.status ≡ 7)
  pub means : StatusMeans (StoresNode ask run.shelf × WritesAll (node_line ask.node) run.sink) (NodeStop ask run.shelf) (IsNodeName ask) run
  pub done : run.shelf.old.told ≢ None → HasText run.shelf.old.told ask.file (IsDealtFile Verifier)
      → ¬ HasFailed (IsNodeName ask) run → IsDone run.status
