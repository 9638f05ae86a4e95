-- How the slots are gone through.
use Rattle.std.specs.Prelude.{◌≡◌, ℕ, List, length, Option, Some, None, Bool, true, false}
use Rattle.zk_model.specs.declared.JournalKind.{JournalKind}
use Rattle.lease_journal.specs.Journals.{AreSound, body_before}

-- the first bad slot, with one slot more
abbrev pub next_bad : Option ℕ → Bool → ℕ → Option ℕ
next_bad (Some bad) keeps slot = Some bad
next_bad None true slot = None
next_bad None false slot = Some slot

-- so many bodies were read, each of which keeps the rule, and this is the last, or zeros; also of a disk that tells no content
pub record HasRead (kind : JournalKind) (total used : ℕ) (last : ℕ × ℕ) : Type 0 where
  pub bodies : List (ℕ × ℕ)
  pub count : length bodies ≡ used
  pub sound : AreSound kind total bodies
  pub last_is : last ≡ body_before bodies used
