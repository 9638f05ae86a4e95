use Rattle.std.proofs.Common.{◌∙◌, ◌≡◌, ◌≤◌, ℕ, List, true, ap, sym, subst, refl}
use Rattle.std.proofs.Math.Nat.{min-le_left}
use Rattle.lease_journal.specs.Journals.{ceiling_slots}
use Rattle.lease_journal.specs.Twins.{are_twin_slots, blank_twin_bytes, twin_begin, twin_slots_at}
use Rattle.twin_journal.specs.Starts.{AreTidy}
use Rattle.zk_model.specs.declared.limits.TheConstants.{MAX_CEILING_SLOTS}
use Rattle.program_tests.specs.declared.vectors.TheConstants.{FILE_ID}
use Rattle.program_tests.proofs.PlainFiles.{begins_first, some_fit}
use Rattle.program_tests.proofs.given.new_bytes.Goals as goal

fits : (c : goal.In_ok-bytes) → are_twin_slots c.args.kind c.args.total c.twin_ceiling_slots-slots.result ≡ true
fits c = some_fit c.args.kind c.args.total c.twin_ceiling_slots-slots.result c.twin_ceiling_slots-slots.ensures c.requires

pub returns-clause-tidy : goal.returns-clause-tidy
returns-clause-tidy c =
    let slots = c.twin_ceiling_slots-slots.result in
    let new = c.blank_twin_is_new.ensures c.args.kind FILE_ID c.args.total slots refl (fits c) in
    let blank : List ℕ = blank_twin_bytes c.args.kind FILE_ID c.args.total slots in
    subst AreTidy (sym c.in_ok-bytes.ensures) (c.said_is_tidy.ensures c.args.kind FILE_ID c.args.total 0 slots 1 _ blank new.holds new.says)

pub returns-clause-begins : goal.returns-clause-begins
returns-clause-begins c = λ either.
    let slots = c.twin_ceiling_slots-slots.result in
    let new = c.blank_twin_is_new.ensures c.args.kind FILE_ID c.args.total slots refl (fits c) in
    ap (twin_begin either) c.in_ok-bytes.ensures ∙ begins_first c.args.kind either FILE_ID c.args.total slots _ new.holds.stands

pub returns-clause-says : goal.returns-clause-says
returns-clause-says c =
    let slots = c.twin_ceiling_slots-slots.result in
    let new = c.blank_twin_is_new.ensures c.args.kind FILE_ID c.args.total slots refl (fits c) in
    let is = ap (twin_slots_at 0) c.in_ok-bytes.ensures ∙ new.holds.stands.says ∙ c.twin_ceiling_slots-slots.ensures in
    subst (λ (n : ℕ). n ≤ 4096) (sym is) (min-le_left MAX_CEILING_SLOTS (ceiling_slots c.args.total))
