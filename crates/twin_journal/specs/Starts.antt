-- What is found at a start, and why a journal is not opened.
use Rattle.std.specs.Prelude.{◌≡◌, ◌⊎◌, ℕ, ◌+◌, ◌-◌, ◌^◌, ◌<◌, ◌≤◌, List, length, get_or, Option, Some, None, Bool, true, false, not, nat_lt}
use Rattle.zk_model.specs.declared.JournalKind.{JournalKind}
use Rattle.zk_model.specs.declared.limits.TheConstants.{MAX_SLOTS}
use Rattle.lease_journal.specs.Journals.{AreUsed, IsFirstBad, first_bodies, last_body, number_at}
use Rattle.lease_journal.specs.Twins.{HasMovedHeader, HasTwinHeader, HoldsTwin, IsActive, IsFirstMovedWrong, IsFirstTwinWrong, IsHeadOpen, IsTwinTidy, MayHaveGeneration, TwinStands, area_at, generation_at, head_at, is_migrated, twin_begin, twin_length, twin_slots_at}
use Rattle.lease_journal.specs.declared.fault.StartFault.{StartFault}
use Rattle.lease_journal.specs.declared.fault.StartFault.TheVariants as start

-- what was read of a head
pub record HeadSays (at : ℕ) (bytes : List ℕ) (is_open : Bool) (generation : ℕ) : Type 0 where
  pub opened : is_open ≡ true → get_or bytes (at + 31) 0 ≡ 90
  pub closed : is_open ≡ false → ¬ (get_or bytes (at + 31) 0 ≡ 90)
  pub generation_is : generation ≡ number_at bytes at

-- the area that goes before the other, of two heads of which is known whether they are open, and their generations
abbrev pub active_of : Bool → ℕ → Bool → ℕ → Option Bool
active_of false first false second = None
active_of false first true second = Some true
active_of true first false second = Some false
active_of true first true second = Some (nat_lt first second)

-- the active area, its generation, and whether the other head is open
pub record IsActiveFound (begin slots : ℕ) (bytes : List ℕ) (second : Bool) (generation : ℕ) (other_open : Bool) : Type 0 where
  pub active : IsActive begin slots bytes second
  pub generation_is : generation_at begin slots bytes second ≡ generation
  pub opened : other_open ≡ true → IsHeadOpen begin slots bytes (not second)
  pub closed : other_open ≡ false → ¬ (IsHeadOpen begin slots bytes (not second))

-- no head is open: the byte that is named is the first head's gate
pub record HasNoArea (begin slots : ℕ) (bytes : List ℕ) (place : ℕ) : Type 0 where
  pub place_is : place ≡ 95
  pub first : ¬ (IsHeadOpen begin slots bytes false)
  pub second : ¬ (IsHeadOpen begin slots bytes true)

-- The active area has a generation that it may not have for the bodies in use, which all keep their rule: the byte that is named is the
-- first of the generation.
pub record HasBadGeneration (kind : JournalKind) (total begin slots : ℕ) (bytes : List ℕ) (place : ℕ) : Type 0 where
  pub second : Bool
  pub used : ℕ
  pub active : IsActive begin slots bytes second
  pub are : AreUsed (area_at begin slots second) slots used bytes
  pub sound : IsFirstBad kind total (area_at begin slots second) bytes used None
  pub bad : ¬ (MayHaveGeneration kind (first_bodies (area_at begin slots second) used bytes) (generation_at begin slots bytes second))
  pub place_is : place ≡ head_at 0 slots second

-- the first body in use of the active area that breaks its rule
pub record HasBadBody (kind : JournalKind) (total begin slots : ℕ) (bytes : List ℕ) (bad : ℕ) : Type 0 where
  pub second : Bool
  pub used : ℕ
  pub active : IsActive begin slots bytes second
  pub are : AreUsed (area_at begin slots second) slots used bytes
  pub first : IsFirstBad kind total (area_at begin slots second) bytes used (Some bad)

-- why no area is found
abbrev pub AreaCause : ℕ → ℕ → List ℕ → StartFault → Type 0
AreaCause begin slots bytes start.Device = Unit {0}
AreaCause begin slots bytes (start.Short need got) = ⊥
AreaCause begin slots bytes (start.BadHeader place) = HasNoArea begin slots bytes place
AreaCause begin slots bytes (start.BadBody bad) = ⊥

-- why the file is not long enough
abbrev pub LengthCause : ℕ → ℕ → List ℕ → StartFault → Type 0
LengthCause begin slots bytes start.Device = Unit {0}
LengthCause begin slots bytes (start.Short need got) =
    (need ≡ twin_length slots) × (got ≡ length bytes - begin) × (length bytes < begin + twin_length slots)
LengthCause begin slots bytes (start.BadHeader place) = ⊥
LengthCause begin slots bytes (start.BadBody bad) = ⊥

-- Why a journal that begins at a place of these bytes is not opened: the first of these that holds. Places, lengths too, count from where
-- it begins.
abbrev pub TwinStartCause : JournalKind → List ℕ → ℕ → ℕ → List ℕ → StartFault → Type 0
TwinStartCause kind id total begin bytes start.Device = Unit {0}
TwinStartCause kind id total begin bytes (start.Short need got) =
    (got ≡ length bytes - begin) × (((need ≡ 64) × (length bytes < begin + 64))
    ⊎ ((need ≡ twin_length (twin_slots_at begin bytes)) × HasTwinHeader kind id total begin bytes
    × (length bytes < begin + twin_length (twin_slots_at begin bytes))))
TwinStartCause kind id total begin bytes (start.BadHeader place) =
    IsFirstTwinWrong kind id total begin bytes place
    ⊎ (TwinStands kind id total begin (twin_slots_at begin bytes) bytes
    × (HasNoArea begin (twin_slots_at begin bytes) bytes place ⊎ HasBadGeneration kind total begin (twin_slots_at begin bytes) bytes place))
TwinStartCause kind id total begin bytes (start.BadBody bad) =
    TwinStands kind id total begin (twin_slots_at begin bytes) bytes × HasBadBody kind total begin (twin_slots_at begin bytes) bytes bad

-- What an open journal says of the bytes: it stands there, the active area and its generation, the slots in use, bodies that all keep
-- their rule, and a generation that there may be for them.
pub record IsTwinOpened (kind : JournalKind) (id : List ℕ) (total begin slots used : ℕ) (last : ℕ × ℕ) (second : Bool) (generation : ℕ) (other_open : Bool) (bytes : List ℕ) : Type 0 where
  pub stands : TwinStands kind id total begin slots bytes
  pub found : IsActiveFound begin slots bytes second generation other_open
  pub slots_used : AreUsed (area_at begin slots second) slots used bytes
  pub last_is : last ≡ last_body (area_at begin slots second) bytes used
  pub sound : IsFirstBad kind total (area_at begin slots second) bytes used None
  pub may_have : MayHaveGeneration kind (first_bodies (area_at begin slots second) used bytes) generation

-- a place where a journal may begin in a file of this side, and a number of slots that its header may say, where the content is known
abbrev pub SaysTwinSlots : JournalKind → Option (List ℕ) → ℕ → ℕ → Type 0
SaysTwinSlots kind None begin slots = (begin ≤ 2 ^ 36) × (slots ≤ MAX_SLOTS)
SaysTwinSlots kind (Some bytes) begin slots =
    (begin ≡ twin_begin kind bytes) × (slots ≡ twin_slots_at begin bytes) × (begin ≤ 2 ^ 36) × (slots ≤ MAX_SLOTS)

-- why it is not found where the journal begins in a file: it was migrated, and this byte of the first header is wrong
abbrev pub PlaceCause : JournalKind → List ℕ → ℕ → List ℕ → StartFault → Type 0
PlaceCause kind id total bytes start.Device = Unit {0}
PlaceCause kind id total bytes (start.Short need got) = ⊥
PlaceCause kind id total bytes (start.BadHeader place) = (is_migrated kind bytes ≡ true) × IsFirstMovedWrong kind id total bytes place
PlaceCause kind id total bytes (start.BadBody bad) = ⊥

-- Why a file of this side is not opened: of one that was migrated its first header is judged first, and then the journal where it begins
abbrev pub FileCause : JournalKind → List ℕ → ℕ → List ℕ → StartFault → Type 0
FileCause kind id total bytes fault =
    PlaceCause kind id total bytes fault
    ⊎ ((is_migrated kind bytes ≡ true → HasMovedHeader kind id total bytes) × TwinStartCause kind id total (twin_begin kind bytes) bytes fault)

-- why no active area is found
abbrev pub LocateCause : JournalKind → List ℕ → ℕ → ℕ → List ℕ → StartFault → Type 0
LocateCause kind id total begin bytes start.Device = Unit {0}
LocateCause kind id total begin bytes (start.Short need got) = TwinStartCause kind id total begin bytes (start.Short need got)
LocateCause kind id total begin bytes (start.BadHeader place) =
    IsFirstTwinWrong kind id total begin bytes place
    ⊎ (TwinStands kind id total begin (twin_slots_at begin bytes) bytes × HasNoArea begin (twin_slots_at begin bytes) bytes place)
LocateCause kind id total begin bytes (start.BadBody bad) = ⊥

-- where a journal of this kind, id and total stands in a file, it is tidy
abbrev pub IsTidyFile : JournalKind → List ℕ → ℕ → List ℕ → Type 0
IsTidyFile kind id total bytes = (begin slots : ℕ) → HoldsTwin kind id total begin slots bytes → IsTwinTidy begin slots bytes

-- each journal of two areas that stands in a file is
abbrev pub AreTidy : List ℕ → Type 0
AreTidy bytes = (kind : JournalKind) (id : List ℕ) (total : ℕ) → IsTidyFile kind id total bytes
