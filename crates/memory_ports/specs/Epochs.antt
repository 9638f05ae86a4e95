-- What a crash may leave of a disk in memory, then and since a moment.
use Rattle.std.specs.Prelude.{◌≡◌, ◌⊎◌, ℕ, ◌<◌, ◌≤◌, ◌+◌, ◌-◌, ◌/◌, List, [], ◌∷◌, ◌++◌, length, take, drop, get_or, max, replicate, Bool, true, false, not, ◌&&◌, ◌||◌, ◌==◌, nat_le, vec_len, if◌then◌else◌, Some, None}
use Rattle.std.specs.Vec.{vec_capacity}
use mathlib.Core.Logic.{inl, inr}
use Rattle.zk_port.specs.Images.{IsOutside, written_at}
use Rattle.zk_port.specs.declared.access.Access.{Access}
use Rattle.zk_port.specs.Disks.{Choice, DiskState}
use Rattle.memory_ports.specs.declared.epoch.Epoch.{Epoch}
use Rattle.memory_ports.specs.declared.epoch.Pending.{Pending}
use Rattle.memory_ports.specs.declared.epoch.Turn.{Turn}
use Rattle.memory_ports.specs.declared.epoch.Turn.TheVariants.{Goes, Fails, Lost}
use Rattle.memory_ports.specs.declared.epoch.Leftover.{Leftover}
use Rattle.memory_ports.specs.declared.epoch.Leftover.TheVariants.{Old, New, Filled}

-- a place in none of these ranges
abbrev pub AreOutside : List Pending → ℕ → Type 0
AreOutside [] place = Unit {0}
AreOutside (range ∷ ranges) place = IsOutside range.at range.count place × AreOutside ranges place

-- how far a file of this size goes once these ranges are written
abbrev pub reach : List Pending → ℕ → ℕ
reach [] size = size
reach (range ∷ ranges) size = max (range.at + range.count) (reach ranges size)

-- any bytes in these ranges and past the old end, which moves no further than they do; all other bytes as they were
pub record IsImage (ranges : List Pending) (base image : List ℕ) : Type 0 where
  pub least : length base ≤ length image
  pub most : length image ≤ reach ranges (length base)
  pub kept : (place : ℕ) → place < length base → AreOutside ranges place → get_or image place 0 ≡ get_or base place 0

-- what a crash may leave in an epoch
abbrev pub Leaves : Epoch → List ℕ → Type 0
Leaves epoch image = IsImage epoch.ranges.items epoch.base.items image

-- a crash in one of these epochs might have left this
abbrev pub HadLeft : List Epoch → List ℕ → Type 0
HadLeft [] image = ⊥
HadLeft (epoch ∷ epochs) image = Leaves epoch image ⊎ HadLeft epochs image

-- A crash in the epoch of this number, from 0, or after it might have left this. Within an epoch what a crash may leave only
-- grows.
abbrev pub LeavesSince : List Epoch → Epoch → ℕ → List ℕ → Type 0
LeavesSince past epoch t image = Leaves epoch image ⊎ HadLeft (drop t past) image

-- the files that were chosen of a disk on which one may be
abbrev pub chosen_files : Bool → List ℕ → Access → List Choice
chosen_files false name access = []
chosen_files true name access = (name, access) ∷ []

-- whether a name of so many bytes may be chosen: none was before, and there is room to note it
abbrev pub may_choose : Bool → ℕ → Bool
may_choose is_chosen size = not is_chosen && nat_le size 4096

-- what a disk in memory tells of itself
abbrev pub epoch_state : List Choice → List ℕ → List Epoch → Epoch → ℕ → DiskState
epoch_state chosen bytes past epoch faults = record {
  chosen = Some chosen;
  content = Some bytes;
  room = None;
  images = Leaves epoch;
  moment = length past;
  images_since = LeavesSince past epoch;
  faults = faults;
}

none_had : (past : List Epoch) (image : List ℕ) → HadLeft (drop (length past) past) image → ⊥
none_had [] image had = had
none_had (epoch ∷ past) image had = none_had past image had

-- in the last epoch there is no other
pub leaves_only_now : (past : List Epoch) (epoch : Epoch) (image : List ℕ) → LeavesSince past epoch (length past) image → Leaves epoch image
leaves_only_now past epoch image (inl now) = now
leaves_only_now past epoch image (inr had) = absurd (none_had past image had)

-- an epoch that is empty and has room for so many bytes and so many ranges
abbrev pub is_prepared : ℕ → ℕ → Epoch → Bool
is_prepared room calls epoch =
    (vec_len epoch.base == 0) && (vec_len epoch.ranges == 0) && nat_le room (vec_capacity epoch.base) && nat_le calls (vec_capacity epoch.ranges)

-- what a choice makes of the range of one write
abbrev pub left_by : Leftover → Pending → List ℕ → List ℕ → List ℕ
left_by Old range content image = image
left_by New range content image = written_at range.at (take range.count (drop range.at content)) image
left_by (Filled byte) range content image = written_at range.at (replicate range.count byte) image

-- what choices make of the ranges of writes, one after another; where choices are missing all stays
abbrev pub left_by_all : List Leftover → List Pending → List ℕ → List ℕ → List ℕ
left_by_all [] ranges content image = image
left_by_all (leftover ∷ leftovers) [] content image = image
left_by_all (leftover ∷ leftovers) (range ∷ ranges) content image =
    left_by_all leftovers ranges content (left_by leftover range content image)

-- what becomes of a call: whether it fits, how many calls there is room for, whether it is to fail
abbrev pub turn_of : Bool → ℕ → Bool → Turn
turn_of fits calls fails = if not fits || calls == 0 then Lost else (if fails then Fails else Goes)

-- the first half
abbrev pub half_of : List ℕ → List ℕ
half_of bytes = take (length bytes / 2) bytes

-- the content after a write of these bytes
abbrev pub content_after : Turn → ℕ → List ℕ → List ℕ → List ℕ
content_after Goes at bytes old = written_at at bytes old
content_after Fails at bytes old = written_at at (half_of bytes) old
content_after turn at bytes old = old

-- the ranges of writes after a write of so many bytes
abbrev pub ranges_after : Turn → ℕ → ℕ → List Pending → List Pending
ranges_after Lost at count old = old
ranges_after turn at count old = old ++ record { at = at; count = count } ∷ []

-- whether a call is refused
abbrev pub is_refused : Turn → Bool
is_refused Goes = false
is_refused turn = true

-- how many further calls there is room for
abbrev pub left_after : Turn → ℕ → ℕ
left_after Lost calls = calls
left_after turn calls = calls - 1
