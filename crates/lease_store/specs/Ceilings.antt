-- What a journal of ceilings says, and kinds of disks.
use Rattle.std.specs.Prelude.{◌≡◌, ℕ, ◌+◌, ◌-◌, ◌^◌, ◌<◌, ◌≤◌, List, length, get_or, Option, Some, IsSomeAnd}
use Rattle.zk_port.specs.Disks.{DiskState}
use Rattle.lease_journal.specs.declared.fault.StartFault.{StartFault}
use Rattle.twin_journal.specs.Starts.{FileCause, IsTidyFile, SaysTwinSlots}
use Rattle.zk_model.specs.declared.JournalKind.TheVariants.{Ceilings}
use Rattle.lease_journal.specs.Journals.{AreSound, body_before}
use Rattle.lease_journal.specs.Twins.{HoldsTwin, MayHaveGeneration, SaysTwin, twin_begin, twin_ceiling_slots, twin_length}

-- the last ceiling, or 0 where there is none
abbrev pub last_ceiling : List (ℕ × ℕ) → ℕ
last_ceiling bodies = (body_before bodies (length bodies)).0

-- a journal of ceilings of this id and total stands in these bytes
pub record HasCeilingHeader (id : List ℕ) (total : ℕ) (bytes : List ℕ) : Type 0 where
  pub begin : ℕ
  pub slots : ℕ
  pub holds : HoldsTwin Ceilings id total begin slots bytes

-- where it does, no slot after one that is not open is open in its active area, as in each journal that stores alone have written
abbrev pub HasTidyCeilings : List ℕ → ℕ → List ℕ → Type 0
HasTidyCeilings id total bytes = IsTidyFile Ceilings id total bytes

-- so many bytes are room for as many slots as its header says, where it begins; or, where the content is not known, as a header may say
abbrev pub HasCeilingRoom : Option (List ℕ) → ℕ → Type 0
HasCeilingRoom content size = (begin slots : ℕ) → SaysTwinSlots Ceilings content begin slots → begin + twin_length slots ≤ size

-- why a journal of ceilings of this id and total is not opened
abbrev pub CeilingStartCause : List ℕ → ℕ → List ℕ → StartFault → Type 0
CeilingStartCause id total bytes fault = FileCause Ceilings id total bytes fault

-- A journal of ceilings of this id and total begins at a place of these bytes and stands there. It says these bodies, in an area of this
-- generation; each of them keeps the rule of ceilings, and the generation is one that there may be for them.
pub record HasCeilings (id : List ℕ) (total begin generation : ℕ) (bodies : List (ℕ × ℕ)) (bytes : List ℕ) : Type 0 where
  pub holds : HoldsTwin Ceilings id total begin (twin_ceiling_slots total) bytes
  pub says : SaysTwin begin (twin_ceiling_slots total) generation bodies bytes
  pub sound : AreSound Ceilings total bodies
  pub may_have : MayHaveGeneration Ceilings bodies generation

-- A journal of ceilings of this id and total stands in these bytes and says this ceiling, its last. The second number of each body is 0.
pub record SaysCeiling (id : List ℕ) (total ceiling : ℕ) (bytes : List ℕ) : Type 0 where
  pub begin : ℕ
  pub generation : ℕ
  pub bodies : List (ℕ × ℕ)
  pub says : HasCeilings id total begin generation bodies bytes
  pub last : last_ceiling bodies ≡ ceiling
  pub seconds : (place : ℕ) → place < length bodies → (get_or bodies place (0, 0)).1 ≡ 0

-- The same with this ceiling or a higher one; and the journal begins where the one in the first bytes begins.
pub record FindsCeiling (id : List ℕ) (total ceiling : ℕ) (first bytes : List ℕ) : Type 0 where
  pub begin : ℕ
  pub generation : ℕ
  pub bodies : List (ℕ × ℕ)
  pub says : HasCeilings id total begin generation bodies bytes
  pub reaches : ceiling ≤ last_ceiling bodies
  pub began : twin_begin Ceilings first ≡ begin

-- A disk that says its content said it at the start too; and where it did, the content and each image say this ceiling or a higher
-- one.
pub record AreFound (start disk : DiskState) (id : List ℕ) (total ceiling : ℕ) : Type 0 where
  pub told : (bytes : List ℕ) → disk.content ≡ Some bytes → (first : List ℕ) × (start.content ≡ Some first)
  pub read : (first : List ℕ) → start.content ≡ Some first → IsSomeAnd disk.content (FindsCeiling id total ceiling first)
  pub durable : (first : List ℕ) → start.content ≡ Some first → (image : List ℕ) → disk.images image → FindsCeiling id total ceiling first image

-- disks of this kind never fail: their count of faults is constant, and not at the end of its type, where it would stand still
abbrev pub NeverFails : {D : Type 0} → (D → DiskState) → Type 0
NeverFails {D} disk_state = (count : ℕ) × (count < 2 ^ 64 - 1) × ((disk : D) → (disk_state disk).faults ≡ count)
