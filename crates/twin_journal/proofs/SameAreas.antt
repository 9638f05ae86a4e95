-- An area whose bytes stay.
use Rattle.std.proofs.Common.{◌≡◌, ◌<◌, ◌≤◌, ◌+◌, ◌*◌, ◌^◌, ℕ, List, Bool, true, false, not, length, get_or, Option, Some, None, inl, inr, ⊎_elim, refl, ap, sym, ◌∙◌, subst, arith}
use Rattle.std.specs.Int.{w64, from_le_bytes}
use Rattle.std.proofs.lemmas.Bool.{cases_lt}
use Rattle.std.proofs.lemmas.List.{ext_get_or}
use Rattle.zk_port.specs.Images.{HasDiskRoom, IsOutside, IsTorn}
use Rattle.lease_journal.specs.Journals.{IsTidy, Recovers, body_at, first_bodies}
use Rattle.lease_journal.specs.Twins.{GoesBefore, IsAreaOf, IsHeadOpen, area_at, generation_at, head_at, twin_length}
use Rattle.lease_journal.proofs.Putting.{body_kept, first-at, first_same, length-first, no_body}
use Rattle.lease_journal.proofs.Torn.{same_part}
use Rattle.twin_journal.specs.Filling.{IsFilled}

-- slots whose bytes stay say the same
module _ (at slots : ℕ) (old new : List ℕ) (inside : at + 32 * slots ≤ length old) (longer : length old ≤ length new)
    (same : (i : ℕ) → i < 32 * slots → get_or new (at + i) 0 ≡ get_or old (at + i) 0) where
  gate_same : (slot : ℕ) → slot < slots → get_or new (at + 32 * slot + 31) 0 ≡ get_or old (at + 32 * slot + 31) 0
  gate_same slot below =
      let there : at + 32 * slot + 31 ≡ at + (32 * slot + 31) = omega arith in
      subst (λ p. get_or new p 0 ≡ get_or old p 0) (sym there) (same (32 * slot + 31) (omega (arith, below)))

  body_same : (slot : ℕ) → slot < slots → body_at at new slot ≡ body_at at old slot
  body_same slot below = body_kept at slot old new (omega (arith, below, inside)) longer (λ i within.
      let there : at + 32 * slot + i ≡ at + (32 * slot + i) = omega arith in
      subst (λ p. get_or new p 0 ≡ get_or old p 0) (sym there) (same (32 * slot + i) (omega (arith, below, within))))

  pub tidy_same : IsTidy at slots old → IsTidy at slots new
  tidy_same tidy earlier later before within is_open =
      gate_same earlier (omega (arith, before, within)) ∙ tidy earlier later before within (sym (gate_same later within) ∙ is_open)

  pub recovers_still : (bodies : List (ℕ × ℕ)) → Recovers at slots old bodies → Recovers at slots new bodies
  recovers_still bodies was = record {
    within = was.within;
    opened = λ slot below. gate_same slot (omega (arith, below, was.within)) ∙ was.opened slot below;
    closed = λ free is_open. was.closed free (sym (gate_same (length bodies) free) ∙ is_open);
    read = was.read ∙ sym (first_same at (length bodies) old new (λ slot below. body_same slot (omega (arith, below, was.within))));
  }

-- a filled area recovers its bodies
pub filled_recovers : (at slots : ℕ) (bodies : List (ℕ × ℕ)) (bytes : List ℕ) → length bodies ≤ slots → IsFilled at slots bodies bytes → Recovers at slots bytes bodies
filled_recovers at slots bodies bytes few filled = record {
  within = few;
  opened = λ slot below. filled.opened slot (omega (arith, below, few)) below;
  closed = λ free. filled.closed (length bodies) free (omega arith);
  read = ext_get_or no_body bodies (first_bodies at (length bodies) bytes) (sym (length-first at (length bodies) bytes))
      (λ slot below. sym (filled.bodies_are slot (omega (arith, below, few)) below) ∙ sym (first-at at (length bodies) bytes slot below));
}

pub filled_tidy : (at slots : ℕ) (bodies : List (ℕ × ℕ)) (bytes : List ℕ) → IsFilled at slots bodies bytes → IsTidy at slots bytes
filled_tidy at slots bodies bytes filled earlier later before within is_open = ⊎_elim
    (λ has. filled.opened earlier (omega (arith, before, within)) (omega (arith, before, has)))
    (λ past. absurd (filled.closed later within past is_open))
    (cases_lt later (length bodies))

-- each area stands beside the other
pub area_beside : (begin slots : ℕ) (second : Bool) (i : ℕ) → i < 32 * (slots + 1) → IsOutside (head_at begin slots (not second)) (32 * (slots + 1)) (head_at begin slots second + i)
area_beside begin slots false i inside = inl (omega (arith, inside))
area_beside begin slots true i inside = inr (omega arith)

pub area_ends : (begin slots : ℕ) (second : Bool) (n : ℕ) → begin + twin_length slots ≤ n → head_at begin slots second + 32 * (slots + 1) ≤ n
area_ends begin slots false n full = omega (arith, full)
area_ends begin slots true n full = omega (arith, full)

-- a byte of an area stays while the other area is written
pub beside_same : (begin slots at n : ℕ) (second : Bool) (old new : List ℕ) → begin + twin_length slots ≤ length old → IsTorn at n old new
    → head_at begin slots (not second) ≤ at → at + n ≤ head_at begin slots (not second) + 32 * (slots + 1)
    → (i : ℕ) → i < 32 * (slots + 1) → get_or new (head_at begin slots second + i) 0 ≡ get_or old (head_at begin slots second + i) 0
beside_same begin slots at n second old new full torn low high i inside =
    torn.kept (head_at begin slots second + i) (omega (arith, inside, area_ends begin slots second (length old) full))
    (⊎_elim (λ ahead. inl (omega (arith, ahead, low))) (λ behind. inr (omega (arith, behind, high))) (area_beside begin slots second i inside))

-- ---- an area whose bytes all stay, and the other head
module _ (begin slots generation : ℕ) (second : Bool) (bodies : List (ℕ × ℕ)) (c image : List ℕ) (area : IsAreaOf begin slots second generation bodies c)
    (full : begin + twin_length slots ≤ length c) (longer : length c ≤ length image)
    (same : (i : ℕ) → i < 32 * (slots + 1) → get_or image (head_at begin slots second + i) 0 ≡ get_or c (head_at begin slots second + i) 0) where
  pub own_gate : get_or image (head_at begin slots second + 31) 0 ≡ get_or c (head_at begin slots second + 31) 0
  own_gate = same 31 (omega arith)

  pub own_generation : generation_at begin slots image second ≡ generation
  own_generation =
      ap (from_le_bytes w64) (same_part c image (head_at begin slots second) 8 (omega (arith, area_ends begin slots second (length c) full))
      (omega (arith, area_ends begin slots second (length c) full, longer)) (λ i below. same i (omega (arith, below))))
      ∙ area.generation_is

  slot_byte : (i : ℕ) → i < 32 * slots → get_or image (area_at begin slots second + i) 0 ≡ get_or c (area_at begin slots second + i) 0
  slot_byte i inside =
      let there : area_at begin slots second + i ≡ head_at begin slots second + (32 + i) = omega arith in
      subst (λ p. get_or image p 0 ≡ get_or c p 0) (sym there) (same (32 + i) (omega (arith, inside)))

  pub area_stays : (IsHeadOpen begin slots image (not second) → GoesBefore second (generation_at begin slots image second) (generation_at begin slots image (not second)))
      → IsAreaOf begin slots second generation bodies image
  area_stays before = record {
    active = record { opened = own_gate ∙ area.active.opened; before = before };
    generation_is = own_generation;
    tidy = tidy_same (area_at begin slots second) slots c image (omega (arith, area_ends begin slots second (length c) full)) longer slot_byte area.tidy;
    recovered = recovers_still (area_at begin slots second) slots c image (omega (arith, area_ends begin slots second (length c) full)) longer slot_byte bodies area.recovered;
  }

-- a disk with room for the journal has room for an area
pub area_room : (begin slots : ℕ) (second : Bool) (room : Option ℕ) → ((size : ℕ) → room ≡ Some size → begin + twin_length slots ≤ size)
    → HasDiskRoom (head_at begin slots second + 32 * (slots + 1)) room
area_room begin slots second None fits = tt
area_room begin slots second (Some size) fits = area_ends begin slots second size (fits size refl)

pub head_low : (begin slots : ℕ) (second : Bool) → begin ≤ 2 ^ 36 → slots ≤ 2 ^ 28 → head_at begin slots second ≤ 2 ^ 37
head_low begin slots false low few = omega (arith, low, few)
head_low begin slots true low few = omega (arith, low, few)
