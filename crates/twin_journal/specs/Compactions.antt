-- What the steps of a compaction do.
use Rattle.std.specs.Prelude.{◌≡◌, ℕ, ◌+◌, ◌<◌, ◌≤◌, List, length, get_or, Some, Bool, true, false, not}
use Rattle.zk_port.specs.Disks.{DiskState}
use Rattle.zk_port.specs.Images.{IsTorn}
use Rattle.lease_journal.specs.Journals.{number_at}
use Rattle.lease_journal.specs.Twins.{IsAreaOf, IsHeadOpen, area_at, head_at, twin_length}
use Rattle.twin_journal.specs.Filling.{AreBodySlots, IsFilled}

-- a gate is written, which is open now only where it was
pub record Closes (gate : ℕ) (old new : List ℕ) : Type 0 where
  pub torn : IsTorn gate 1 old new
  pub was_open : get_or new gate 0 ≡ 90 → get_or old gate 0 ≡ 90

-- a byte that is this one
pub record HasByte (place byte : ℕ) (bytes : List ℕ) : Type 0 where
  pub inside : place + 1 ≤ length bytes
  pub is : get_or bytes place 0 ≡ byte

-- the area whose head stands at a place has this generation and these bodies
pub record IsAreaWritten (head slots generation : ℕ) (bodies : List (ℕ × ℕ)) (bytes : List ℕ) : Type 0 where
  pub generation_is : number_at bytes head ≡ generation
  pub filled : IsFilled (head + 32) slots bodies bytes

-- What holds before bodies go into the area whose head stands at a place: the other area is the active one, with these bodies and of a
-- lesser generation, and it is known whether this head is open. All of it is synced.
pub record MayTurn (disk : DiskState) (begin slots : ℕ) (second : Bool) (head active generation : ℕ) (is_open : Bool) (bodies : List (ℕ × ℕ)) (bytes : List ℕ) : Type 0 where
  pub content : disk.content ≡ Some bytes
  pub only : (image : List ℕ) → disk.images image → image ≡ bytes
  pub full : begin + twin_length slots ≤ length bytes
  pub area : IsAreaOf begin slots second active bodies bytes
  pub head_is : head ≡ head_at begin slots (not second)
  pub ahead : active < generation
  pub opened : is_open ≡ true → IsHeadOpen begin slots bytes (not second)
  pub closed : is_open ≡ false → ¬ (IsHeadOpen begin slots bytes (not second))

-- and after it: the areas have changed places, and in the one that counts now each byte of the slots is written
pub record IsTurned (begin slots : ℕ) (second : Bool) (generation : ℕ) (bodies : List (ℕ × ℕ)) (bytes : List ℕ) : Type 0 where
  pub area : IsAreaOf begin slots (not second) generation bodies bytes
  pub other : IsHeadOpen begin slots bytes second
  pub exact : AreBodySlots (area_at begin slots (not second)) slots bodies bytes
