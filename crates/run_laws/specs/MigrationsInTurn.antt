-- A migration, and the runs before and after it.
use Rattle.std.specs.Prelude.{◌≡◌, ◌⊎◌, ℕ, List, Some}
use Rattle.claim_store.specs.ClaimedRanges.{AreMerged, claims_of}
use Rattle.journal_migration.specs.Migrations.{SaysOneArea}
use Rattle.zk_model.specs.declared.JournalKind.TheVariants as kind
use Rattle.zk_model.specs.declared.Span.{Span}
use Rattle.zk_port.specs.Disks.{Choice, DiskState}
use Rattle.lease_store.specs.Ceilings.{SaysCeiling, last_ceiling}
use Rattle.journal_migration.specs.declared.Moved.{Moved}
use Rattle.file_commands.specs.ClaimedUnits.{FindsClaims, JournalPlace}
use Rattle.file_commands.specs.Journals.{disk_change}
use Rattle.file_commands.specs.MigrateRuns.{MigratesJournal, MovesJournal}
use Rattle.file_commands.specs.declared.migrate_command.DealtUnits.{DealtUnits}
use Rattle.run_laws.specs.RunsInTurn.{MayBeFound, MayBeLeft}

-- a journal of ceilings of one area, which is not migrated, says this ceiling
pub record SaysOldCeiling (id : List ℕ) (total ceiling : ℕ) (bytes : List ℕ) : Type 0 where
  pub slots : ℕ
  pub bodies : List (ℕ × ℕ)
  pub says : SaysOneArea kind.Ceilings id total slots bodies bytes
  pub last : last_ceiling bodies ≡ ceiling

-- a journal of claims of one area, which is not migrated, says these ranges
pub record SaysOldClaims (id : List ℕ) (total : ℕ) (claims : List Span) (bytes : List ℕ) : Type 0 where
  pub slots : ℕ
  pub bodies : List (ℕ × ℕ)
  pub says : SaysOneArea kind.Claims id total slots bodies bytes
  pub merged : AreMerged (claims_of bodies) claims

-- the journal of one area said this ceiling, or these ranges, and one of two areas says the same, with which the next run begins
abbrev pub SaysSameCeiling : List ℕ → ℕ → List ℕ → List ℕ → Type 0
SaysSameCeiling id total first found = (ceiling : ℕ) × SaysOldCeiling id total ceiling first × SaysCeiling id total ceiling found

abbrev pub SaysSameClaims : List ℕ → ℕ → List ℕ → List ℕ → Type 0
SaysSameClaims id total first found = (claims : List Span) × (place : JournalPlace) × SaysOldClaims id total claims first × FindsClaims id total place claims found

-- it said this ceiling, or these ranges, and it says it still, or one of two areas does
abbrev pub MaySayCeiling : List ℕ → ℕ → List ℕ → List ℕ → Type 0
MaySayCeiling id total first left =
    (ceiling : ℕ) × SaysOldCeiling id total ceiling first × (SaysOldCeiling id total ceiling left ⊎ SaysCeiling id total ceiling left)

abbrev pub MaySayClaims : List ℕ → ℕ → List ℕ → List ℕ → Type 0
MaySayClaims id total first left = (claims : List Span) × SaysOldClaims id total claims first
    × (SaysOldClaims id total claims left ⊎ ((place : JournalPlace) × FindsClaims id total place claims left))

-- What follows for the runs before and after a migration. Once a journal is migrated, the next run begins with the very ceiling, or with
-- the very ranges, that the journal of one area said, or with what stood there where it had been migrated before. A migration that is stopped
-- at any moment leaves what might have been left before, or either journal, which says the same.
pub record MigrationsKeep {D : Type 0} (state : D → DiskState) : Type 0 where
  pub ceiling : (choice : Choice) (dealt : DealtUnits) (moved : Moved) (old new : D)
      → MigratesJournal choice kind.Ceilings dealt (disk_change (state old) (state new)) moved
      → (first now found : List ℕ) → (state old).content ≡ Some first → (state new).content ≡ Some now → MayBeFound (state new) found
      → (found ≡ first) ⊎ SaysSameCeiling dealt.id dealt.total first found
  pub claims : (choice : Choice) (dealt : DealtUnits) (moved : Moved) (old new : D)
      → MigratesJournal choice kind.Claims dealt (disk_change (state old) (state new)) moved
      → (first now found : List ℕ) → (state old).content ≡ Some first → (state new).content ≡ Some now → MayBeFound (state new) found
      → (found ≡ first) ⊎ SaysSameClaims dealt.id dealt.total first found
  pub stopped_ceiling : (choice : Choice) (dealt : DealtUnits) (old new : D) → MovesJournal choice kind.Ceilings dealt (disk_change (state old) (state new))
      → (first left : List ℕ) → (state old).content ≡ Some first → MayBeLeft (state old) (state new) left
      → (state old).images left ⊎ MaySayCeiling dealt.id dealt.total first left
  pub stopped_claims : (choice : Choice) (dealt : DealtUnits) (old new : D) → MovesJournal choice kind.Claims dealt (disk_change (state old) (state new))
      → (first left : List ℕ) → (state old).content ≡ Some first → MayBeLeft (state old) (state new) left
      → (state old).images left ⊎ MaySayClaims dealt.id dealt.total first left
