-- A file in which a journal of two areas stands from its first byte on was migrated from neither side's journal of one area.
use Rattle.std.proofs.Common.{◌≡◌, ◌+◌, ◌*◌, ◌≤◌, ◌==◌, ◌&&◌, not, nat_le, if◌then◌else◌, ℕ, List, Bool, true, false, length, get_or, refl, ap, ◌∙◌, arith}
use Rattle.std.proofs.lemmas.Bool.Decides.{nat_tests}
use Rattle.zk_model.specs.declared.JournalKind.{JournalKind}
use Rattle.zk_model.specs.declared.JournalKind.TheVariants.{Claims, Ceilings}
use Rattle.lease_journal.specs.Journals.{journal_code, slots_at}
use Rattle.lease_journal.specs.Twins.{TwinStands, are_twin_slots, is_migrated, twin_begin, twin_ceiling_slots, twin_code}
use Rattle.lease_store.proofs.Finding.{few_slots}
use Rattle.zk_model.specs.declared.limits.TheConstants.{MAX_SLOTS}

pub begins_first : (kind either : JournalKind) (id : List ℕ) (total slots : ℕ) (bytes : List ℕ) → TwinStands kind id total 0 slots bytes
    → twin_begin either bytes ≡ 0
begins_first kind either id total slots bytes stands = ap (λ b. if b then 64 + 32 * slots_at bytes else 0) plain
  where
    no_middle : (a b : Bool) → (a && false && b) ≡ false
    no_middle true b = refl
    no_middle false b = refl

    code : (kind either : JournalKind) (b : ℕ) → not (b == twin_code kind) ≡ false → (b == journal_code either) ≡ false
    code Claims Claims b is = grind (arith, nat_tests, is)
    code Claims Ceilings b is = grind (arith, nat_tests, is)
    code Ceilings Claims b is = grind (arith, nat_tests, is)
    code Ceilings Ceilings b is = grind (arith, nat_tests, is)

    other : (get_or bytes 8 0 == journal_code either) ≡ false
    other = code kind either (get_or bytes 8 0) (stands.header.right 8 (omega arith))

    plain : is_migrated either bytes ≡ false
    plain = (λ i. nat_le 64 (length bytes) && (other i) && (get_or bytes 15 0 == 90)) ∙ no_middle (nat_le 64 (length bytes)) (get_or bytes 15 0 == 90)

-- areas of as many slots as the verifier's journal has may be those of either side's
pub some_fit : (kind : JournalKind) (total slots : ℕ) → slots ≡ twin_ceiling_slots total → 1 ≤ total → are_twin_slots kind total slots ≡ true
some_fit Ceilings total slots is some = few_slots total slots is some
some_fit Claims total slots is some = front (nat_le 1 slots) (nat_le slots MAX_SLOTS) (slots == twin_ceiling_slots total) (few_slots total slots is some)
  where
    front : (a b c : Bool) → (a && b && c) ≡ true → (a && b) ≡ true
    front true true c both = refl
    front true false c both = both
    front false b c both = both
