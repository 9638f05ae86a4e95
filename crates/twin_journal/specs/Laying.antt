-- A new journal, as it is written into a file.
use Rattle.std.specs.Prelude.{◌≡◌, ℕ, ◌+◌, ◌<◌, ◌≤◌, List, [], length, get_or, false, true}
use Rattle.zk_model.specs.declared.JournalKind.{JournalKind}
use Rattle.lease_journal.specs.Twins.{IsAreaOf, IsHeadOpen, TwinStands, area_at, first_head, head_at, twin_header}
use Rattle.twin_journal.specs.Filling.{AreBodySlots}

-- the header and the open head of the first area stand from a place on
pub record HasFirstBytes (kind : JournalKind) (id : List ℕ) (total begin slots : ℕ) (bytes : List ℕ) : Type 0 where
  pub inside : begin + 96 ≤ length bytes
  pub header : (i : ℕ) → i < 64 → get_or bytes (begin + i) 0 ≡ get_or (twin_header kind id total slots) i 0
  pub head : (i : ℕ) → i < 32 → get_or bytes (begin + 64 + i) 0 ≡ get_or first_head i 0

-- Each byte of a journal that was written from a place on: the header, the head of the first area, in generation 1, and its slots, which
-- have these bodies; and zeros from there to the end.
pub record HasAllBytes (kind : JournalKind) (id : List ℕ) (total begin slots : ℕ) (bodies : List (ℕ × ℕ)) (bytes : List ℕ) : Type 0 where
  pub first : HasFirstBytes kind id total begin slots bytes
  pub slots_are : AreBodySlots (area_at begin slots false) slots bodies bytes
  pub zeros : AreBodySlots (head_at begin slots true) (slots + 1) [] bytes

-- a journal stands from a place on, and says these bodies in generation 1; the head of its second area is not open
pub record IsLaid (kind : JournalKind) (id : List ℕ) (total begin slots : ℕ) (bodies : List (ℕ × ℕ)) (bytes : List ℕ) : Type 0 where
  pub stands : TwinStands kind id total begin slots bytes
  pub area : IsAreaOf begin slots false 1 bodies bytes
  pub shut : ¬ (IsHeadOpen begin slots bytes true)
