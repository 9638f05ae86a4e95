-- What an open journal is, and what it keeps.
use Rattle.std.specs.Prelude.{◌≡◌, ℕ, ◌+◌, ◌^◌, ◌≤◌, List, length, Some, Bool, true, false, not, refl}
use Rattle.std.specs.Coded.{Coded, code_by, coded×, coded_bool, coded_ℕ}
use Rattle.zk_port.specs.Disks.{DiskState}
use Rattle.lease_journal.specs.Twins.{IsAreaOf, IsHeadOpen, twin_length}
use Rattle.zk_model.specs.declared.limits.TheConstants.{MAX_SLOTS}

-- An open journal: its disk, where it begins, how many slots an area has and are in use, the body in the last of these, or zeros,
-- whether the second area is the active one, its generation, whether the head of the other area is open, and the disk's count of faults
-- at the first call of it that failed, or 0
pub record TwinState (D : Type 0) : Type 0 where
  pub disk : D
  pub begin : ℕ
  pub slots : ℕ
  pub used : ℕ
  pub last : ℕ × ℕ
  pub second : Bool
  pub generation : ℕ
  pub other_open : Bool
  pub fault : ℕ

abbrev pub state_code : {D : Type 0} → Coded D → Coded (TwinState D)
state_code {D} disk =
    code_by (D × (ℕ × (ℕ × (ℕ × ((ℕ × ℕ) × (Bool × (ℕ × (Bool × ℕ))))))))
    (coded× disk (coded× coded_ℕ (coded× coded_ℕ (coded× coded_ℕ (coded× (coded× coded_ℕ coded_ℕ) (coded× coded_bool (coded× coded_ℕ (coded× coded_bool coded_ℕ))))))))
    (λ s. (s.disk, (s.begin, (s.slots, (s.used, (s.last, (s.second, (s.generation, (s.other_open, s.fault)))))))))
    (λ p. record {
      disk = p.0;
      begin = p.1.0;
      slots = p.1.1.0;
      used = p.1.1.1.0;
      last = p.1.1.1.1.0;
      second = p.1.1.1.1.1.0;
      generation = p.1.1.1.1.1.1.0;
      other_open = p.1.1.1.1.1.1.1.0;
      fault = p.1.1.1.1.1.1.1.1;
    })
    (λ _. refl)

-- what an open journal keeps; that no other image is left, while no call of the disk has failed
pub record IsTwin (disk : DiskState) (begin slots used fault : ℕ) : Type 0 where
  pub low : begin ≤ 2 ^ 36
  pub few : slots ≤ MAX_SLOTS
  pub within : used ≤ slots
  pub has_room : (size : ℕ) → disk.room ≡ Some size → begin + twin_length slots ≤ size
  pub full : (bytes : List ℕ) → disk.content ≡ Some bytes → begin + twin_length slots ≤ length bytes
  pub only : (bytes : List ℕ) → fault ≡ 0 → disk.content ≡ Some bytes → (image : List ℕ) → disk.images image → image ≡ bytes

-- An open journal whose disk has not failed says these bodies, and its file has these bytes: they are recovered from its active area,
-- which is tidy, and the journal knows whether the other head is open.
pub record IsKept {D : Type 0} (state : D → DiskState) (twin : TwinState D) (bodies : List (ℕ × ℕ)) (bytes : List ℕ) : Type 0 where
  pub sound : twin.fault ≡ 0
  pub content : (state twin.disk).content ≡ Some bytes
  pub count : length bodies ≡ twin.used
  pub area : IsAreaOf twin.begin twin.slots twin.second twin.generation bodies bytes
  pub other_opened : twin.other_open ≡ true → IsHeadOpen twin.begin twin.slots bytes (not twin.second)
  pub other_closed : twin.other_open ≡ false → ¬ (IsHeadOpen twin.begin twin.slots bytes (not twin.second))
