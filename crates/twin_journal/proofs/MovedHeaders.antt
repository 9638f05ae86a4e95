-- Where in its file a journal begins.
use Rattle.std.proofs.Common.{◌≡◌, ◌<◌, ◌+◌, ◌*◌, ◌&&◌, ◌==◌, nat_le, if◌then◌else◌, ℕ, List, true, false, length, get_or, ap, arith}
use Rattle.std.proofs.lemmas.Bool.Decides.{nat_tests}
use Rattle.zk_model.specs.declared.JournalKind.{JournalKind}
use Rattle.lease_journal.specs.Journals.{journal_code, slots_at}
use Rattle.lease_journal.specs.Twins.{is_migrated, twin_begin}

pub begins_behind : (kind : JournalKind) (bytes : List ℕ) → is_migrated kind bytes ≡ true → twin_begin kind bytes ≡ 64 + 32 * slots_at bytes
begins_behind kind bytes moved = ap (λ b. if b then 64 + 32 * slots_at bytes else 0) moved

pub begins_first : (kind : JournalKind) (bytes : List ℕ) → is_migrated kind bytes ≡ false → twin_begin kind bytes ≡ 0
begins_first kind bytes plain = ap (λ b. if b then 64 + 32 * slots_at bytes else 0) plain

-- a short file was not migrated
pub short_plain : (kind : JournalKind) (bytes : List ℕ) → length bytes < 64 → is_migrated kind bytes ≡ false
short_plain kind bytes short = ap (λ b. b && (get_or bytes 8 0 == journal_code kind) && (get_or bytes 15 0 == 90)) (below (length bytes) short)
  where
    below : (n : ℕ) → n < 64 → nat_le 64 n ≡ false
    below n short = grind (arith, nat_tests, short)
