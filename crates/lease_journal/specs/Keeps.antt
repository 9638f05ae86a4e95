-- What calls keep of a journal.
use Rattle.std.specs.Prelude.{◌≡◌, ℕ, ◌+◌, ◌<◌, List, length, IfSome}
use Rattle.zk_port.specs.Disks.{DiskState, LeavesOnly}
use Rattle.zk_port.specs.Images.{ImagesFollow, IsOutside, IsTorn, StepsBy}
use Rattle.lease_journal.specs.Steps.{TornFrom}

-- no byte before the end changes but n from a place on, nor would a crash at any moment change another
pub record ChangesAt (at n : ℕ) (old new : DiskState) : Type 0 where
  pub chosen : new.chosen ≡ old.chosen
  pub room : new.room ≡ old.room
  pub content : StepsBy (IsTorn at n) old.content new.content
  pub crash : ImagesFollow (IsTorn at n) old.images new.images
  pub any_moment : LeavesOnly old new (TornFrom at n old.images)

-- what the content has, and what each image has, stays so: of the content, and of each image at any moment
pub record Keeps (P : List ℕ → Type 0) (old new : DiskState) : Type 0 where
  pub content : IfSome old.content P → IfSome new.content P
  pub any_moment : ((c : List ℕ) → old.images c → P c) → LeavesOnly old new P

-- a place before the end of these bytes, outside the body and the gate of the slot that begins at another
abbrev pub IsSpared : List ℕ → ℕ → ℕ → Type 0
IsSpared first at place = (place < length first) × IsOutside at 16 place × IsOutside (at + 31) 1 place
