-- Headers that were read, in both forms of journals.
use Rattle.std.proofs.Common.{◌≡◌, ◌<◌, ◌≤◌, ◌+◌, ◌&&◌, ◌||◌, ◌==◌, ◌^◌, not, nat_lt, nat_le, if◌then◌else◌, ℕ, List, Bool, true, false, refl, get_or, Option, Some, None, sym, ◌∙◌, arith}
use Rattle.std.proofs.lemmas.Bool.Decides.{nat_tests}
use Rattle.zk_model.specs.declared.JournalKind.{JournalKind}
use Rattle.zk_model.specs.declared.JournalKind.TheVariants.{Claims, Ceilings}
use Rattle.lease_journal.specs.Journals.{number_at, slots_at}
use Rattle.lease_journal.specs.Headers.{IsFirstOf, IsRead, NoHeaderCause, is_wrong_beside, may_be_slots}
use Rattle.lease_journal.specs.declared.fault.StartFault.{StartFault}
use Rattle.lease_journal.specs.declared.fault.StartFault.TheVariants.{Device, Short, BadHeader, BadBody}
use Rattle.lease_journal.proofs.Reading.{read_word}

-- the first wrong place is the same by two tests that agree
pub first_same : (p q : ℕ → Bool) → ((place : ℕ) → place < 64 → p place ≡ q place) → (found : Option ℕ) → IsFirstOf p found → IsFirstOf q found
first_same p q same None none = λ place inside. sym (same place inside) ∙ none place inside
first_same p q same (Some bad) first =
    (first.0, sym (same bad first.0) ∙ first.1, λ place before. sym (same place (omega (arith, before, first.0))) ∙ first.2 place before)

-- a byte is judged alike beside one header where it is the same byte, and the number of slots fits alike
pub wrong_alike : (wanted header : List ℕ) (fits fits_there : Bool) (place byte : ℕ) → fits ≡ fits_there → get_or header place 0 ≡ byte
    → is_wrong_beside wanted fits header place
    ≡ (if place == 24 then not fits_there else ((nat_lt place 24 || nat_le 32 place) && not (byte == get_or wanted place 0)))
wrong_alike wanted header fits fits_there place byte fit same =
    λ i. if place == 24 then not (fit i) else ((nat_lt place 24 || nat_le 32 place) && not (same i == get_or wanted place 0))

pub slots_read : (begin : ℕ) (buffer bytes : List ℕ) → IsRead buffer bytes begin 64 → slots_at buffer ≡ number_at bytes (begin + 24)
slots_read begin buffer bytes read = read_word buffer bytes begin 64 24 (begin + 24) read (omega arith) refl

-- a file that is too short for a header has none of any kind
pub cut_header : (IsWrong : ℕ → Type 0) (begin : ℕ) (bytes : List ℕ) (fault : StartFault) → NoHeaderCause (λ _. ⊥) begin bytes fault
    → NoHeaderCause IsWrong begin bytes fault
cut_header IsWrong begin bytes Device cause = cause
cut_header IsWrong begin bytes (Short need got) cause = cause
cut_header IsWrong begin bytes (BadHeader place) cause = absurd cause
cut_header IsWrong begin bytes (BadBody bad) cause = cause

-- a number of slots that is not wrong is one that there may be, and small
pub not_false : (b : Bool) → not b ≡ false → b ≡ true
not_false true e = refl
not_false false e = absurd (cc)

pub fits_few : (kind : JournalKind) (ceilings slots : ℕ) → may_be_slots kind ceilings slots ≡ true → slots ≤ 2 ^ 28
fits_few Claims ceilings slots fits = grind (arith, nat_tests)
fits_few Ceilings ceilings slots fits = grind (arith, nat_tests)
