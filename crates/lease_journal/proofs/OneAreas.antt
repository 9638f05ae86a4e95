-- Journals of one area that stand are read.
use Rattle.std.proofs.Common.{◌≡◌, ℕ, true, false, ⊎_elim, refl, sym, ◌∙◌, subst, arith}
use Rattle.lease_journal.specs.Journals.{AreSound, AreUsed, IsCut, first_bodies}
use Rattle.lease_journal.specs.Laws.{OneAreaReadsAgain}
use Rattle.lease_journal.specs.declared.fault.StartFault.TheVariants.{Device, Short, BadHeader, BadBody}
use Rattle.lease_journal.proofs.Scanning.{not_cut, used_recovers}
use Rattle.lease_journal.proofs.Sound.{recovers_same, slots_sound, sound_slots}

not_both : false ≡ true → ⊥
not_both e = cc e

pub reads_again : OneAreaReadsAgain
reads_again kind id total slots used last bytes Device is cause = refl
reads_again kind id total slots used last bytes (Short need got) is cause = absurd (⊎_elim
    (λ short. omega (arith, short.1, is.header.whole))
    (λ cut. not_cut 64 slots used bytes is.slots_used (subst (λ n. IsCut 64 n bytes) (sym is.slots_are) cut.3))
    cause.1)
reads_again kind id total slots used last bytes (BadHeader place) is cause = absurd (not_both (sym (is.header.right place cause.inside) ∙ cause.wrong))
reads_again kind id total slots used last bytes (BadBody bad) is cause =
    let other : ℕ = cause.3 in
    let are : AreUsed 64 slots other bytes = subst (λ n. AreUsed 64 n other bytes) (sym is.slots_are) cause.4 in
    let same : first_bodies 64 used bytes ≡ first_bodies 64 other bytes =
    recovers_same 64 slots bytes (first_bodies 64 used bytes) (first_bodies 64 other bytes) (used_recovers 64 slots used bytes is.slots_used) (used_recovers 64 slots other bytes are) in
    let sound = sound_slots kind total 64 other bytes (subst (λ bs. AreSound kind total bs) same (slots_sound kind total 64 used bytes is.sound)) in
    absurd (not_both (sym cause.5.1 ∙ sound bad cause.5.0))
