-- What stands behind the lock.
use Rattle.std.specs.Prelude.{◌≡◌, ℕ, ◌+◌, ◌<◌, ◌≤◌, Bool, true, false, ◌||◌, cond, nat_eq}
use Rattle.zk_port.specs.Counts.{Rose}
use Rattle.zk_port.specs.Doors.{DoorState}
use Rattle.session_pool.specs.Doors.{called}

-- how many links are still wanted, whether the door is not asked again, and whether a worker found no room for a note
pub record DoorwayState : Type 0 where
  pub wanted : ℕ
  pub is_done : Bool
  pub starved : Bool

abbrev pub is_done : ℕ → ℕ → Bool → Bool → Bool → Bool
is_done taken sessions emptied door_failed memory_failed =
    nat_eq taken sessions || emptied || door_failed || memory_failed

-- how often the door was asked: once for each link, and once more where it gave none
abbrev pub times_asked : ℕ → Bool → Bool → Bool → ℕ
times_asked taken emptied door_failed memory_failed =
    cond (emptied || door_failed || memory_failed) (taken + 1) taken

-- What left the door is what the book counts, sessions at most. Nothing but the next link was asked of it.
pub record IsDoorway (first : DoorState) (wanted : ℕ) (now : DoorState) (total taken sessions : ℕ)
    (emptied door_failed memory_failed : Bool) : Type 0 where
  pub counted : taken ≡ total
  pub sessions_are : sessions ≡ wanted
  pub most : taken ≤ sessions
  pub left_is : now.left + taken ≡ first.left
  pub none : emptied ≡ true → now.left ≡ 0
  pub rest : now ≡ record first { left = now.left; offers = now.offers; nexts = now.nexts; next_faults = now.next_faults }
  pub asked : now.nexts ≡ called (times_asked taken emptied door_failed memory_failed) first.nexts
  pub short : (emptied || door_failed || memory_failed) ≡ true → taken < sessions
  pub failed : door_failed ≡ true → Rose first.next_faults now.next_faults
  pub calm : door_failed ≡ false → now.next_faults ≡ first.next_faults
  pub later : first.next_faults ≤ now.next_faults
