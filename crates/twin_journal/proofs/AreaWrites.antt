-- An area is written: its generation, and then its slots.
use Rattle.std.proofs.Common.{◌≡◌, ◌<◌, ◌≤◌, ◌+◌, ◌*◌, ◌^◌, ℕ, List, length, Option, Some, None, IfSome, inl, inr, ap, ◌∙◌, subst, arith}
use Rattle.std.specs.Option.{option_map}
use Rattle.std.specs.Int.{w64, to_le_bytes, from_le_bytes}
use Rattle.std.proofs.lemmas.Nat.{from_le_bytes-to_le_bytes_8}
use Rattle.zk_port.specs.Disks.{DiskState}
use Rattle.zk_port.specs.Images.{IsTorn, StepsBy, written_at}
use Rattle.lease_journal.specs.Journals.{number_at}
use Rattle.lease_journal.specs.Keeps.{ChangesAt, Keeps}
use Rattle.lease_journal.proofs.Keeping.{changes_then, changes_wider, keeps}
use Rattle.lease_journal.proofs.Moments.{then_leaves}
use Rattle.lease_journal.proofs.Torn.{same_part, written_size}
use Rattle.twin_journal.specs.Compactions.{HasByte, IsAreaWritten}
use Rattle.twin_journal.specs.Filling.{IsFilled}
use Rattle.twin_journal.proofs.AreaFills.{number_written}

byte_step : (place byte at n : ℕ) → (place < at) → (a b : List ℕ) → HasByte place byte a → IsTorn at n a b → HasByte place byte b
byte_step place byte at n ahead a b had torn = record {
  inside = omega (arith, had.inside, torn.least);
  is = torn.kept place (omega (arith, had.inside)) (inl ahead) ∙ had.is;
}

byte_behind : (place byte at n : ℕ) → (at + n ≤ place) → (a b : List ℕ) → HasByte place byte a → IsTorn at n a b → HasByte place byte b
byte_behind place byte at n behind a b had torn = record {
  inside = omega (arith, had.inside, torn.least);
  is = torn.kept place (omega (arith, had.inside)) (inr behind) ∙ had.is;
}

-- the gate stays while the generation and the slots are written
pub gate_keeps : (head eight n byte : ℕ) → eight ≡ 8 → {old middle new : DiskState} → ChangesAt head eight old middle → ChangesAt (head + 32) n middle new
    → Keeps (HasByte (head + 31) byte) old new
gate_keeps head eight n byte is {old} {middle} {new} first second = record {
  content = λ had. later.content (sooner.content had);
  any_moment = λ had. then_leaves (sooner.any_moment had) (later.any_moment (λ c left.
      let was = first.crash c left in
      byte_behind (head + 31) byte head eight (omega (arith, is)) was.0 c (had was.0 was.1) was.2));
}
  where
    sooner : Keeps (HasByte (head + 31) byte) old middle
    sooner = keeps head eight (HasByte (head + 31) byte) first (byte_behind (head + 31) byte head eight (omega (arith, is)))

    later : Keeps (HasByte (head + 31) byte) middle new
    later = keeps (head + 32) n (HasByte (head + 31) byte) second (byte_step (head + 31) byte (head + 32) n (omega arith))

-- what is written is the area but for its gate
pub record IsWriting (head slots : ℕ) (old new : DiskState) : Type 0 where
  pub gate : (byte : ℕ) → Keeps (HasByte (head + 31) byte) old new
  pub changes : ChangesAt head (32 * (slots + 1)) old new

pub area_writing : (head slots eight : ℕ) → eight ≡ 8 → {old middle new : DiskState} → ChangesAt head eight old middle → ChangesAt (head + 32) (32 * slots) middle new
    → IsWriting head slots old new
area_writing head slots eight is first later = record {
  gate = λ byte. gate_keeps head eight (32 * slots) byte is first later;
  changes = changes_then head (32 * (slots + 1)) (changes_wider head eight head (32 * (slots + 1)) (omega arith) (omega (arith, is)) first)
      (changes_wider (head + 32) (32 * slots) head (32 * (slots + 1)) (omega arith) (omega arith) later);
}

-- what stands there then
module _ (head slots generation : ℕ) (small : generation < 2 ^ 64) (eight : List ℕ) (is : eight ≡ to_le_bytes w64 generation) (bodies : List (ℕ × ℕ)) (bytes : List ℕ)
    (fits : head + 32 ≤ length bytes) where
  abbrev begun : List ℕ
  begun = written_at head eight bytes

  eight_long : length eight ≡ 8
  eight_long = ap length is

  generation_first : number_at begun head ≡ generation
  generation_first =
      let here : head ≡ head + 0 = omega arith in
      ap (number_at begun) here ∙ number_written head 0 eight bytes (omega (arith, eight_long))
      ∙ ap (λ (l : List ℕ). number_at l 0) is ∙ from_le_bytes-to_le_bytes_8 generation small

  begun_long : length bytes ≤ length begun
  begun_long = omega (arith, written_size head eight bytes (omega (arith, eight_long)))

  generation_later : (image : List ℕ) → IsTorn (head + 32) (32 * slots) begun image → number_at image head ≡ generation
  generation_later image torn =
      ap (from_le_bytes w64) (same_part begun image head 8 (omega (arith, fits, begun_long)) (omega (arith, fits, begun_long, torn.least)) (λ i below.
      torn.kept (head + i) (omega (arith, below, fits, begun_long)) (inl (omega (arith, below)))))
      ∙ generation_first

  pub area_written : (old middle new : Option (List ℕ)) → old ≡ Some bytes → middle ≡ option_map (written_at head eight) old
      → ((b : List ℕ) → middle ≡ Some b → head + 32 ≤ length b → IfSome new (IsFilled (head + 32) slots bodies))
      → StepsBy (IsTorn (head + 32) (32 * slots)) middle new → IfSome new (IsAreaWritten head slots generation bodies)
  area_written old middle new was first filled steps = each new (filled begun there (omega (arith, fits, begun_long))) (subst (λ o. StepsBy (IsTorn (head + 32) (32 * slots)) o new) there steps)
    where
      there : middle ≡ Some begun
      there = first ∙ ap (option_map (written_at head eight)) was

      each : (new : Option (List ℕ)) → IfSome new (IsFilled (head + 32) slots bodies) → StepsBy (IsTorn (head + 32) (32 * slots)) (Some begun) new
          → IfSome new (IsAreaWritten head slots generation bodies)
      each None filled steps = tt
      each (Some image) filled torn = record { generation_is = generation_later image torn; filled = filled }
