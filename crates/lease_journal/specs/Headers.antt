-- How the 64 bytes of a header are read and judged, in both forms of journals.
use Rattle.std.specs.Prelude.{◌≡◌, ℕ, ◌+◌, ◌-◌, ◌<◌, ◌≤◌, List, ◌∷◌, ◌++◌, length, get_or, take, drop, replicate, codes, Option, Some, None, Bool, true, false, not, ◌&&◌, ◌||◌, ◌==◌, nat_le, nat_lt, if◌then◌else◌}
use Rattle.std.specs.Int.{w64, to_le_bytes}
use Rattle.zk_model.specs.declared.JournalKind.{JournalKind}
use Rattle.zk_model.specs.declared.JournalKind.TheVariants.{Claims, Ceilings}
use Rattle.zk_model.specs.declared.limits.TheConstants.{MAX_SLOTS}
use Rattle.lease_journal.specs.declared.fault.StartFault.{StartFault}
use Rattle.lease_journal.specs.declared.fault.StartFault.TheVariants as start

-- a full buffer has the bytes from this place on
pub record IsRead (buffer bytes : List ℕ) (at size : ℕ) : Type 0 where
  pub whole : length buffer ≡ size
  pub inside : at + size ≤ length bytes
  pub same : take size buffer ≡ take size (drop at bytes)

-- a header with this byte of its kind
abbrev pub header_with : ℕ → List ℕ → ℕ → ℕ → List ℕ
header_with code id total slots = codes "WQSJRNL1" ++ (code ∷ replicate 7 0) ++ to_le_bytes w64 total ++ to_le_bytes w64 slots ++ id

-- whether there may be so many slots: 1 to 2^28, and in the verifier's journal as many as there are to be of ceilings
abbrev pub may_be_slots : JournalKind → ℕ → ℕ → Bool
may_be_slots Claims ceilings slots = nat_le 1 slots && nat_le slots MAX_SLOTS
may_be_slots Ceilings ceilings slots = nat_le 1 slots && nat_le slots MAX_SLOTS && slots == ceilings

-- whether the byte at a place is wrong beside a header that is wanted; at 24 it is where the number of slots does not fit
abbrev pub is_wrong_beside : List ℕ → Bool → List ℕ → ℕ → Bool
is_wrong_beside wanted fits header place =
    if place == 24 then not fits else ((nat_lt place 24 || nat_le 32 place) && not (get_or header place 0 == get_or wanted place 0))

-- the first wrong place of 64, if there is one
abbrev pub IsFirstOf : (ℕ → Bool) → Option ℕ → Type 0
IsFirstOf wrong None = (place : ℕ) → place < 64 → wrong place ≡ false
IsFirstOf wrong (Some bad) = (bad < 64) × (wrong bad ≡ true) × ((place : ℕ) → place < bad → wrong place ≡ false)

-- why there is no header at a place, where this says which is the first byte of it that is wrong
abbrev pub NoHeaderCause : (ℕ → Type 0) → ℕ → List ℕ → StartFault → Type 0
NoHeaderCause IsWrong begin bytes start.Device = Unit {0}
NoHeaderCause IsWrong begin bytes (start.Short need got) = (need ≡ 64) × (got ≡ length bytes - begin) × (length bytes < begin + 64)
NoHeaderCause IsWrong begin bytes (start.BadHeader place) = IsWrong place
NoHeaderCause IsWrong begin bytes (start.BadBody bad) = ⊥
