-- What a run leaves of a journal is tidy.
use Rattle.std.proofs.Common.{ℕ, List, ⊎_elim}
use Rattle.zk_model.specs.declared.JournalKind.{JournalKind}
use Rattle.zk_model.specs.declared.JournalKind.TheVariants.{Claims, Ceilings}
use Rattle.zk_model.specs.declared.Span.{Span}
use Rattle.journal_migration.specs.Migrations.{SaysEither, one_area_end}
use Rattle.lease_journal.specs.Twins.{blank_twin_bytes, twin_ceiling_slots}
use Rattle.twin_journal.specs.Starts.{AreTidy}
use Rattle.twin_journal.proofs.NewTwins.{blank_twin_is_new}
use Rattle.twin_journal.proofs.TidyFiles.{one_area_is_tidy, said_is_tidy}
use Rattle.file_commands.specs.ClaimedUnits.{FindsClaims, JournalPlace}
use Rattle.file_commands.specs.Laws.{JournalsStayTidy}

of_claims : (id : List ℕ) (total : ℕ) (place : JournalPlace) (claims : List Span) (bytes : List ℕ) → FindsClaims id total place claims bytes → AreTidy bytes
of_claims id total place claims bytes found =
    said_is_tidy Claims id total place.begin place.slots found.says.generation found.says.bodies bytes found.holds found.says.says

of_moving : (kind : JournalKind) (id : List ℕ) (total old_slots slots : ℕ) (old new : List (ℕ × ℕ)) (bytes : List ℕ)
    → SaysEither kind id total old_slots old slots new bytes → AreTidy bytes
of_moving kind id total old_slots slots old new bytes either = ⊎_elim
    (λ here. one_area_is_tidy kind id total bytes here.header here.here)
    (λ moved. said_is_tidy kind id total (one_area_end old_slots) slots 1 new bytes moved.holds moved.says)
    either.says

pub journals_stay_tidy : JournalsStayTidy
journals_stay_tidy = record {
  ceilings = λ id total ceiling first bytes found.
      said_is_tidy Ceilings id total found.begin (twin_ceiling_slots total) found.generation found.bodies bytes found.says.holds found.says.says;
  claims = λ id total place claims bytes found. of_claims id total place claims bytes found;
  more = λ id total place claims s bytes found. of_claims id total place found.ranges bytes found.finds;
  moving = λ kind id total old_slots slots old new bytes either. of_moving kind id total old_slots slots old new bytes either;
  blank = λ kind id total slots size fits.
      let new = blank_twin_is_new kind id total slots size fits in
      said_is_tidy kind id total 0 slots 1 _ (blank_twin_bytes kind id total slots) new.holds new.says;
}
