use Rattle.std.proofs.Common.{◌≡◌, ◌≤◌, ◌∙◌, ℕ, List, true, ap, sym, subst, refl, arith}
use Rattle.std.proofs.lemmas.Bool.{and_from, le-leb}
use Rattle.zk_model.specs.declared.JournalKind.TheVariants.{Claims}
use Rattle.zk_model.specs.declared.limits.TheConstants.{MAX_SLOTS}
use Rattle.lease_journal.specs.Twins.{are_twin_slots, blank_twin_bytes, twin_begin, twin_slots_at}
use Rattle.twin_journal.specs.Starts.{AreTidy}
use Rattle.store_tests.specs.declared.tests.disks.TheConstants.{ID}
use Rattle.store_tests.proofs.tests.twin_disks.new_twin.Goals as goal

fit : (total slots : ℕ) → 1 ≤ slots → slots ≤ 4096 → are_twin_slots Claims total slots ≡ true
fit total slots some few = and_from _ _ (le-leb 1 slots some) (le-leb slots MAX_SLOTS (omega (arith, few)))

pub returns-clause-tidy : goal.returns-clause-tidy
returns-clause-tidy c =
    let new = c.blank_twin_is_new.ensures Claims ID c.args.total c.args.slots refl (fit c.args.total c.args.slots c.requires.0 c.requires.1) in
    let blank : List ℕ = blank_twin_bytes Claims ID c.args.total c.args.slots in
    subst AreTidy (sym c.in_ok-bytes.ensures)
    (c.said_is_tidy.ensures Claims ID c.args.total 0 c.args.slots 1 _ blank new.holds new.says)

pub returns-clause-begins : goal.returns-clause-begins
returns-clause-begins c =
    let new = c.blank_twin_is_new.ensures Claims ID c.args.total c.args.slots refl (fit c.args.total c.args.slots c.requires.0 c.requires.1) in
    ap (twin_begin Claims) c.in_ok-bytes.ensures ∙ new.holds.begins

pub returns-clause-says : goal.returns-clause-says
returns-clause-says c =
    let new = c.blank_twin_is_new.ensures Claims ID c.args.total c.args.slots refl (fit c.args.total c.args.slots c.requires.0 c.requires.1) in
    ap (twin_slots_at 0) c.in_ok-bytes.ensures ∙ new.holds.stands.says
