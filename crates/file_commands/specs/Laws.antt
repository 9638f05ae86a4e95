-- What holds of every journal that commands leave.
use Rattle.std.specs.Prelude.{◌≡◌, ℕ, List, length, true}
use Rattle.journal_migration.specs.Migrations.{SaysEither}
use Rattle.lease_journal.specs.Twins.{are_twin_slots, blank_twin_bytes}
use Rattle.zk_model.specs.declared.JournalKind.{JournalKind}
use Rattle.zk_model.specs.declared.Span.{Span}
use Rattle.lease_store.specs.Ceilings.{FindsCeiling}
use Rattle.twin_journal.specs.Starts.{AreTidy}
use Rattle.file_commands.specs.ClaimedUnits.{FindsClaims, FindsMore, JournalPlace}

-- Each file of a journal that a run may leave, a crash at any moment too, is one that the next run may open or migrate: in which a ceiling is
-- found, or claims, or these and a span more, or a journal on its way from one area to two; or a new one.
pub record JournalsStayTidy : Type 0 where
  pub ceilings : (id : List ℕ) (total ceiling : ℕ) (first bytes : List ℕ) → FindsCeiling id total ceiling first bytes → AreTidy bytes
  pub claims : (id : List ℕ) (total : ℕ) (place : JournalPlace) (claims : List Span) (bytes : List ℕ) → FindsClaims id total place claims bytes
      → AreTidy bytes
  pub more : (id : List ℕ) (total : ℕ) (place : JournalPlace) (claims : List Span) (s : Span) (bytes : List ℕ) → FindsMore id total place claims s bytes
      → AreTidy bytes
  pub moving : (kind : JournalKind) (id : List ℕ) (total old_slots slots : ℕ) (old new : List (ℕ × ℕ)) (bytes : List ℕ)
      → SaysEither kind id total old_slots old slots new bytes → AreTidy bytes
  pub blank : (kind : JournalKind) (id : List ℕ) (total slots : ℕ) → length id ≡ 32 → are_twin_slots kind total slots ≡ true
      → AreTidy (blank_twin_bytes kind id total slots)
