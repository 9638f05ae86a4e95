-- What holds of every journal of one area.
use Rattle.std.specs.Prelude.{◌≡◌, ℕ, List}
use Rattle.zk_model.specs.declared.JournalKind.{JournalKind}
use Rattle.lease_journal.specs.Causes.{OneAreaCause}
use Rattle.lease_journal.specs.OneAreas.{IsOneArea}
use Rattle.lease_journal.specs.declared.fault.StartFault.{StartFault}
use Rattle.lease_journal.specs.declared.fault.StartFault.TheVariants.{Device}

-- one that says something is read but where the disk fails
abbrev pub OneAreaReadsAgain : Type 0
OneAreaReadsAgain =
    (kind : JournalKind) (id : List ℕ) (total slots used : ℕ) (last : ℕ × ℕ) (bytes : List ℕ) (fault : StartFault)
    → IsOneArea kind id total slots used last bytes → OneAreaCause kind id total bytes fault → fault ≡ Device
