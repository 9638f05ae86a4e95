-- `serve-many ADDRESS FILE STATEMENTS --sessions N ..`: the service of the claims that a file of statements names.
use Rattle.std.specs.Prelude.{◌≡◌, ◌⊎◌, List, Option, map}
use Rattle.zk_port.specs.Files.{Files}
use Rattle.zk_port.specs.Links.{LinkState}
use Rattle.command_words.specs.Words.{ServeManyAsk}
use Rattle.statement_file.specs.Claims.{NamedClaim, HasFault, NamesClaims}
use Rattle.claim_files.specs.Services.{Service, service_of_many}
use Rattle.claim_files.specs.declared.claim_names.ClaimNames.{ClaimNames}
use Rattle.claim_files.specs.declared.claim_names.ClaimNames.TheVariants as names
use Rattle.statement_file.specs.declared.fault.StatementFault.TheVariants.{BadLine, Count}
use Rattle.file_commands.specs.Effects.{DoorChange, Effects, IsDone, IsName, NameFailed, OnlyLoads, ShelfChange}
use Rattle.file_commands.specs.Journals.{DiskChange, IsUntouched}
use Rattle.file_commands.specs.Stops.{HasText, IsOfStop, LoadStop, SaysStop}
use Rattle.file_commands.specs.declared.refusal.Refusal.{Refusal}
use Rattle.file_commands.specs.declared.refusal.Refusal.TheVariants as stop
use Rattle.zk_cli.specs.Runs.{EachNote}
use Rattle.zk_cli.specs.ServeRuns.{HasServeFailed, IsServable, IsWithHonestProver, Serves}
use Rattle.zk_cli.specs.declared.finish.Part.{Part}
use Rattle.zk_cli.specs.declared.finish.Part.TheVariants.{Plain}

-- the service of claims that, where a shelf tells, the file of statements names
abbrev pub IsServiceOfMany : Option Files → ServeManyAsk → Service → Type 0
IsServiceOfMany told ask service = (claims : List NamedClaim)
    × HasText told ask.statements (λ text. NamesClaims text claims) × (service ≡ service_of_many ask claims)

-- where a shelf tells, the file of statements names claims which are these of either kind
abbrev pub NamesService : Option Files → ServeManyAsk → List ClaimNames → Type 0
NamesService told ask named = (claims : List NamedClaim)
    × HasText told ask.statements (λ text. NamesClaims text claims) × (named ≡ map names.Boolean claims)

-- why no claims can be had: their file has a fault, or can't be loaded
abbrev pub StatementsStop : ServeManyAsk → ShelfChange → Refusal → Type 0
StatementsStop ask shelf (stop.StatementLine line) = HasText shelf.old.told ask.statements (λ text. HasFault text (BadLine line))
StatementsStop ask shelf (stop.StatementCount lines) = HasText shelf.old.told ask.statements (λ text. HasFault text (Count lines))
StatementsStop ask shelf other = LoadStop ask.statements shelf other

-- the line of that is written, and nothing is asked for but the file of statements
pub record LacksClaims {L : Type 0} (ask : ServeManyAsk) (part : Part L) (disk : DiskChange) (door : DoorChange) (run : Effects)
    : Type 0 where
  pub plain : part ≡ Plain
  pub lines : SaysStop (StatementsStop ask run.shelf) run
  pub means : IsOfStop (StatementsStop ask run.shelf) run.status ⊎ (run.status ≡ 7)
  pub kept : OnlyLoads (IsName ask.statements) run.shelf
  pub untouched : IsUntouched disk
  pub unheard : door.new ≡ door.old

-- The service of the claims that the file of statements names; or there are no claims. And that all is done where the file names claims
-- which can be served, nothing is refused, nothing fails, and each peer is an honest prover of one of them.
pub record ServesMany {L : Type 0} (link_tells : L → LinkState) (ask : ServeManyAsk) (part : Part L)
    (disk : DiskChange) (door : DoorChange) (run : Effects) : Type 0 where
  pub runs : ((service : Service) × IsServiceOfMany run.shelf.old.told ask service × Serves link_tells service part disk door run)
      ⊎ LacksClaims ask part disk door run
  pub done : (service : Service) → IsServiceOfMany run.shelf.old.told ask service → IsServable run.shelf.old.told disk.old service
      → ¬ NameFailed ask.statements run.shelf → ¬ HasServeFailed service disk door run
      → EachNote part (IsWithHonestProver link_tells run.shelf.old.told service) → IsDone run.status
