-- A journal that stands goes on to stand while what follows its header is written, and so does a file of it.
use Rattle.std.proofs.Common.{◌≡◌, ◌<◌, ◌≤◌, ◌+◌, ◌*◌, ◌==◌, ◌&&◌, ◌||◌, not, nat_lt, nat_le, if◌then◌else◌, ℕ, List, Bool, true, false, length, get_or, inl, refl, sym, ap, ◌∙◌, subst, arith}
use Rattle.std.specs.Int.{w64, from_le_bytes}
use Rattle.std.proofs.lemmas.Bool.Decides.{nat_tests}
use Rattle.zk_port.specs.Disks.{DiskState}
use Rattle.zk_port.specs.Images.{IsTorn}
use Rattle.zk_model.specs.declared.JournalKind.{JournalKind}
use Rattle.zk_model.specs.declared.JournalKind.TheVariants.{Claims, Ceilings}
use Rattle.lease_journal.specs.Journals.{journal_code, slots_at}
use Rattle.lease_journal.specs.Twins.{HoldsTwin, TwinStands, are_twin_slots, area_at, is_migrated, is_twin_wrong_at, twin_begin, twin_code, twin_header, twin_slots_at}
use Rattle.lease_journal.specs.Keeps.{ChangesAt, Keeps}
use Rattle.lease_journal.proofs.Keeping.{SameBeside, keeps, moved_kept, moved_slots, torn_beside}
use Rattle.lease_journal.proofs.Torn.{same_part}

-- a header whose bytes stay
module _ (kind : JournalKind) (id : List ℕ) (total begin slots : ℕ) (old new : List ℕ) (longer : length old ≤ length new)
    (same : (place : ℕ) → place < 64 → get_or new (begin + place) 0 ≡ get_or old (begin + place) 0) (stands : TwinStands kind id total begin slots old) where
  slots_same : twin_slots_at begin new ≡ twin_slots_at begin old
  slots_same = ap (from_le_bytes w64)
      (same_part old new (begin + 24) 8 (omega (arith, stands.header.whole)) (omega (arith, stands.header.whole, longer)) (λ i below.
      let there : begin + 24 + i ≡ begin + (24 + i) = omega arith in
      subst (λ p. get_or new p 0 ≡ get_or old p 0) (sym there) (same (24 + i) (omega (arith, below)))))

  wrong_same : (place : ℕ) → place < 64 → is_twin_wrong_at kind id total begin new place ≡ is_twin_wrong_at kind id total begin old place
  wrong_same place inside =
      let here : get_or new (begin + place) 0 ≡ get_or old (begin + place) 0 = same place inside in
      λ i. if place == 24 then not (are_twin_slots kind total (slots_same i))
      else ((nat_lt place 24 || nat_le 32 place) && not (here i == get_or (twin_header kind id total 0) place 0))

  pub stands_same : TwinStands kind id total begin slots new
  stands_same = record {
    header = record {
      whole = omega (arith, stands.header.whole, longer);
      right = λ place inside. wrong_same place inside ∙ stands.header.right place inside;
    };
    says = slots_same ∙ stands.says;
    full = omega (arith, stands.full, longer);
  }

pub stands_torn : (kind : JournalKind) (id : List ℕ) (total begin slots at n : ℕ) → begin + 64 ≤ at → (old new : List ℕ) → IsTorn at n old new
    → TwinStands kind id total begin slots old → TwinStands kind id total begin slots new
stands_torn kind id total begin slots at n behind old new torn stands =
    stands_same kind id total begin slots old new torn.least
    (λ place inside. torn.kept (begin + place) (omega (arith, inside, stands.header.whole)) (inl (omega (arith, inside, behind)))) stands

-- a journal that stands at the first byte of its file was not migrated
pub stands_first : (kind : JournalKind) (id : List ℕ) (total slots : ℕ) (bytes : List ℕ) → TwinStands kind id total 0 slots bytes → is_migrated kind bytes ≡ false
stands_first kind id total slots bytes stands = (λ i. nat_le 64 (length bytes) && (other i) && (get_or bytes 15 0 == 90)) ∙ no_middle (nat_le 64 (length bytes)) (get_or bytes 15 0 == 90)
  where
    no_middle : (a b : Bool) → (a && false && b) ≡ false
    no_middle true b = refl
    no_middle false b = refl

    code : (kind : JournalKind) (b : ℕ) → not (b == twin_code kind) ≡ false → (b == journal_code kind) ≡ false
    code Claims b is = grind (arith, nat_tests, is)
    code Ceilings b is = grind (arith, nat_tests, is)

    other : (get_or bytes 8 0 == journal_code kind) ≡ false
    other = code kind (get_or bytes 8 0) (stands.header.right 8 (omega arith))

pub holds_first : (kind : JournalKind) (id : List ℕ) (total slots : ℕ) (bytes : List ℕ) → TwinStands kind id total 0 slots bytes → HoldsTwin kind id total 0 slots bytes
holds_first kind id total slots bytes stands = record {
  begins = ap (λ b. if b then 64 + 32 * slots_at bytes else 0) (stands_first kind id total slots bytes stands);
  moved = λ moved. absurd (not_both (sym (stands_first kind id total slots bytes stands) ∙ moved));
  stands = stands;
}
  where
    not_both : false ≡ true → ⊥
    not_both e = cc e

-- and so does a file of it
pub holds_torn : (kind : JournalKind) (id : List ℕ) (total begin slots at n : ℕ) → begin + 64 ≤ at → (old new : List ℕ) → IsTorn at n old new
    → HoldsTwin kind id total begin slots old → HoldsTwin kind id total begin slots new
holds_torn kind id total begin slots at n behind old new torn holds = record {
  begins = same_begin ∙ holds.begins;
  moved = λ now. moved_kept kind id total old new beside (holds.moved (sym same_gate ∙ now));
  stands = stands_torn kind id total begin slots at n behind old new torn holds.stands;
}
  where
    whole : 64 ≤ length old
    whole = omega (arith, holds.stands.header.whole)

    beside : SameBeside old new
    beside = torn_beside at n old new (λ place inside apart. inl (omega (arith, inside, behind))) whole torn

    byte : (place : ℕ) → place < 64 → get_or new place 0 ≡ get_or old place 0
    byte place inside = torn.kept place (omega (arith, inside, whole)) (inl (omega (arith, inside, behind)))

    long : (m : ℕ) → 64 ≤ m → nat_le 64 m ≡ true
    long m enough = grind (arith, nat_tests, enough)

    same_gate : is_migrated kind new ≡ is_migrated kind old
    same_gate =
        let here : nat_le 64 (length new) ≡ nat_le 64 (length old) = long (length new) (omega (arith, whole, torn.least)) ∙ sym (long (length old) whole) in
        let eight : get_or new 8 0 ≡ get_or old 8 0 = byte 8 (omega arith) in
        let fifteen : get_or new 15 0 ≡ get_or old 15 0 = byte 15 (omega arith) in
        λ i. here i && (eight i == journal_code kind) && (fifteen i == 90)

    same_begin : twin_begin kind new ≡ twin_begin kind old
    same_begin = λ i. if same_gate i then 64 + 32 * moved_slots old new beside i else 0

pub keeps_holds : (begin slots at n : ℕ) → begin + 64 ≤ at → {old new : DiskState} → ChangesAt at n old new → (kind : JournalKind) (id : List ℕ) (total : ℕ)
    → Keeps (HoldsTwin kind id total begin slots) old new
keeps_holds begin slots at n behind changes kind id total = keeps at n (HoldsTwin kind id total begin slots) changes
    (λ a b had torn. holds_torn kind id total begin slots at n behind a b torn had)

pub keeps_stands : (begin slots at n : ℕ) → begin + 64 ≤ at → {old new : DiskState} → ChangesAt at n old new → (kind : JournalKind) (id : List ℕ) (total : ℕ)
    → Keeps (TwinStands kind id total begin slots) old new
keeps_stands begin slots at n behind changes kind id total = keeps at n (TwinStands kind id total begin slots) changes
    (λ a b had torn. stands_torn kind id total begin slots at n behind a b torn had)

-- an area stands behind the header
pub area_behind : (begin slots : ℕ) (second : Bool) → begin + 96 ≤ area_at begin slots second
area_behind begin slots false = omega arith
area_behind begin slots true = omega arith
