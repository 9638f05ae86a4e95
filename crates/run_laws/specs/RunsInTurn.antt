-- Runs over one file's journals, one after the other.
use Rattle.std.specs.Prelude.{◌≡◌, ◌⊎◌, ℕ, ◌≤◌, List, true, All, Option, Some, Result, Ok}
use Rattle.claim_store.specs.ClaimedRanges.{is_claimed}
use Rattle.zk_model.specs.declared.Span.{Span}
use Rattle.zk_port.specs.Disks.{Choice, DiskState}
use Rattle.zk_port.specs.Files.{Files}
use Rattle.lease_core.specs.Spans.{IsApart}
use Rattle.lease_store.specs.Ceilings.{SaysCeiling}
use Rattle.claim_store.specs.declared.ClaimFault.{ClaimFault}
use Rattle.session_pool.specs.Notes.{AreGrantsApart}
use Rattle.session_verifier.specs.declared.note.SessionNote.{SessionNote}
use Rattle.claim_files.specs.Services.{Service}
use Rattle.file_commands.specs.ClaimedUnits.{FindsClaims, KeepsClaims, JournalPlace}
use Rattle.file_commands.specs.Journals.{DiskChange, disk_change}
use Rattle.zk_cli.specs.ServedNotes.{GrantsOnce}

-- the next run may find these bytes: they are the content, or what a crash leaves
abbrev pub MayBeFound : DiskState → List ℕ → Type 0
MayBeFound disk bytes = (disk.content ≡ Some bytes) ⊎ disk.images bytes

-- a crash at some moment since then may have left these bytes
abbrev pub MayBeLeft : DiskState → DiskState → List ℕ → Type 0
MayBeLeft old new bytes = new.images_since old.moment bytes

-- ---- journals of ceilings

-- what the contract of `run_zk` promises of a run of `serve` that handed these sessions back, from the one disk to the other
abbrev pub Granted : {D L : Type 0} → (D → DiskState) → Option Files → Service → List (SessionNote L) → D → D → Type 0
Granted state told service notes old new = GrantsOnce told service notes (disk_change (state old) (state new))

-- it is over the file of this id and total
abbrev pub IsOver : {L : Type 0} {told : Option Files} {service : Service} {notes : List (SessionNote L)} {disk : DiskChange}
    → List ℕ → ℕ → GrantsOnce told service notes disk → Type 0
IsOver id total run = (run.jobs.first.task.file.id ≡ id) × (run.jobs.first.task.file.params.total ≡ total)

-- a journal's bytes say a ceiling, and later ones the same or a higher one
pub record KeepsUp (id : List ℕ) (total : ℕ) (first later : List ℕ) : Type 0 where
  pub low : ℕ
  pub high : ℕ
  pub says : SaysCeiling id total low first
  pub finds : SaysCeiling id total high later
  pub grows : low ≤ high

-- What follows for runs over one file's journal, one after the other. A run's journal keeps up with what it began with, whatever a crash
-- leaves; so does what many of them leave. And where a run begins with bytes that keep up with what an earlier one left, no unit is granted
-- by both.
pub record RunsGrantOnce (L : Type 0) {D : Type 0} (state : D → DiskState) : Type 0 where
  pub keeps_up : (told : Option Files) (service : Service) (notes : List (SessionNote L)) (old new : D) (id : List ℕ) (total : ℕ)
      → (run : Granted state told service notes old new) → IsOver id total run
      → (first found : List ℕ) → (state old).content ≡ Some first → MayBeFound (state new) found → KeepsUp id total first found
  pub any_moment : (told : Option Files) (service : Service) (notes : List (SessionNote L)) (old new : D) (id : List ℕ) (total : ℕ)
      → (run : Granted state told service notes old new) → IsOver id total run
      → (first left : List ℕ) → (state old).content ≡ Some first → MayBeLeft (state old) (state new) left
      → (state old).images left ⊎ KeepsUp id total first left
  pub in_turn : (id : List ℕ) (total : ℕ) (first middle last : List ℕ) → KeepsUp id total first middle → KeepsUp id total middle last
      → KeepsUp id total first last
  pub apart : (told later_told : Option Files) (service later_service : Service) (notes later_notes : List (SessionNote L))
      (old new later_old later_new : D) (id : List ℕ) (total : ℕ)
      → (run : Granted state told service notes old new) → IsOver id total run
      → (later : Granted state later_told later_service later_notes later_old later_new) → IsOver id total later
      → (first found begun : List ℕ) → (state old).content ≡ Some first → MayBeFound (state new) found
      → KeepsUp id total found begun → (state later_old).content ≡ Some begun
      → All (λ one. All (λ other. AreGrantsApart one.granted other.granted) later_notes) notes

-- ---- journals of claims

-- what the contract of `run_zk` promises of a run of `prove` that opened the journal and asked for units, from the one disk to the other
abbrev pub ProveClaimed : {D : Type 0} → (D → DiskState) → Choice → List ℕ → ℕ → Option (ℕ × ℕ) → Option (Result Span ClaimFault) → D → D → Type 0
ProveClaimed state choice id total asked answer old new = KeepsClaims choice id total asked answer (disk_change (state old) (state new))

-- bytes say ranges of claims, and later ones ranges that have all their units, wherever the journal stands in each
pub record ClaimsUp (id : List ℕ) (total : ℕ) (first later : List ℕ) : Type 0 where
  pub place : JournalPlace
  pub later_place : JournalPlace
  pub claims : List Span
  pub more : List Span
  pub says : FindsClaims id total place claims first
  pub finds : FindsClaims id total later_place more later
  pub grows : (unit : ℕ) → is_claimed claims unit ≡ true → is_claimed more unit ≡ true

-- What follows for runs over one file's journal of claims, one after the other. A run's journal keeps up with what it began with, whatever
-- a crash leaves; so does what many of them leave. And where a run begins with bytes that keep up with what an earlier one left once its
-- units were claimed, no unit is claimed by both.
pub record RunsClaimOnce {D : Type 0} (state : D → DiskState) : Type 0 where
  pub keeps_up : (choice : Choice) (id : List ℕ) (total : ℕ) (asked : Option (ℕ × ℕ)) (answer : Option (Result Span ClaimFault)) (old new : D)
      → ProveClaimed state choice id total asked answer old new
      → (first found : List ℕ) → (state old).content ≡ Some first → MayBeFound (state new) found → ClaimsUp id total first found
  pub any_moment : (choice : Choice) (id : List ℕ) (total : ℕ) (asked : Option (ℕ × ℕ)) (answer : Option (Result Span ClaimFault)) (old new : D)
      → ProveClaimed state choice id total asked answer old new
      → (first left : List ℕ) → (state old).content ≡ Some first → MayBeLeft (state old) (state new) left
      → (state old).images left ⊎ ClaimsUp id total first left
  pub in_turn : (id : List ℕ) (total : ℕ) (first middle last : List ℕ) → ClaimsUp id total first middle → ClaimsUp id total middle last
      → ClaimsUp id total first last
  pub apart : (choice later_choice : Choice) (id : List ℕ) (total : ℕ) (asked later_asked : Option (ℕ × ℕ)) (claimed later_claimed : Span)
      (old new later_old later_new : D)
      → ProveClaimed state choice id total asked (Some (Ok claimed)) old new
      → ProveClaimed state later_choice id total later_asked (Some (Ok later_claimed)) later_old later_new
      → (first found begun : List ℕ) → (state old).content ≡ Some first → MayBeFound (state new) found
      → ClaimsUp id total found begun → (state later_old).content ≡ Some begun
      → IsApart claimed later_claimed
