-- What holds of every journal of ceilings.
use Rattle.std.specs.Prelude.{◌≡◌, ◌≤◌, ℕ, List, length}
use Rattle.zk_model.specs.declared.JournalKind.TheVariants.{Ceilings}
use Rattle.lease_journal.specs.Twins.{blank_twin_bytes, twin_ceiling_slots}
use Rattle.lease_journal.specs.declared.fault.StartFault.{StartFault}
use Rattle.lease_journal.specs.declared.fault.StartFault.TheVariants.{Device}
use Rattle.lease_store.specs.Ceilings.{CeilingStartCause, FindsCeiling, SaysCeiling}
use Rattle.twin_journal.specs.Starts.{AreTidy}

-- A store may start on these bytes: each journal that stands in them is tidy, and no fault but one of the disk refuses them.
pub record MayStart (id : List ℕ) (total : ℕ) (bytes : List ℕ) : Type 0 where
  pub tidy : AreTidy bytes
  pub refused : (fault : StartFault) → CeilingStartCause id total bytes fault → fault ≡ Device

-- So it is of all bytes in which a ceiling is said or found; and bytes say one ceiling.
pub record CeilingsStartAgain : Type 0 where
  pub said : (id : List ℕ) (total ceiling : ℕ) (bytes : List ℕ) → SaysCeiling id total ceiling bytes → MayStart id total bytes
  pub found : (id : List ℕ) (total ceiling : ℕ) (first bytes : List ℕ) → FindsCeiling id total ceiling first bytes → MayStart id total bytes
  pub one : (id : List ℕ) (total some other : ℕ) (bytes : List ℕ) → SaysCeiling id total some bytes → SaysCeiling id total other bytes
      → some ≡ other

-- A new journal for some units says ceiling 0.
abbrev pub BlankSaysZero : Type 0
BlankSaysZero =
    (id : List ℕ) (total : ℕ) → length id ≡ 32 → 1 ≤ total
    → SaysCeiling id total 0 (blank_twin_bytes Ceilings id total (twin_ceiling_slots total))
