-- What a put writes.
use Rattle.std.specs.Prelude.{◌≡◌, ℕ, ◌<◌, ◌+◌, ◌*◌, List, [], ◌∷◌, ◌++◌}
use Rattle.std.specs.Int.{w64, to_le_bytes}
use Rattle.zk_port.specs.Images.{IsTorn, written_at}
use Rattle.lease_journal.specs.Journals.{IsOpen, IsTidy}

-- what a torn write of n bytes makes of one of these
abbrev pub TornFrom : ℕ → ℕ → (List ℕ → Type 0) → List ℕ → Type 0
TornFrom at n images image = (old : List ℕ) × images old × IsTorn at n old image

-- the bytes of a body
abbrev pub body_bytes : ℕ × ℕ → List ℕ
body_bytes body = to_le_bytes w64 body.0 ++ to_le_bytes w64 body.1

-- the bytes with this body in a slot
abbrev pub body_written : ℕ → ℕ → ℕ × ℕ → List ℕ → List ℕ
body_written at slot body bytes = written_at (at + 32 * slot) (body_bytes body) bytes

-- and then with the slot open
abbrev pub slot_written : ℕ → ℕ → ℕ × ℕ → List ℕ → List ℕ
slot_written at slot body bytes = written_at (at + 32 * slot + 31) (90 ∷ []) (body_written at slot body bytes)

-- a tidy journal whose first slots are open and the next one not, all of it synced
pub record IsReady (at slots used : ℕ) (bytes : List ℕ) (images : List ℕ → Type 0) : Type 0 where
  pub within : used < slots
  pub opened : (slot : ℕ) → slot < used → IsOpen at bytes slot
  pub closed : ¬ (IsOpen at bytes used)
  pub tidy : IsTidy at slots bytes
  pub only : (image : List ℕ) → images image → image ≡ bytes
