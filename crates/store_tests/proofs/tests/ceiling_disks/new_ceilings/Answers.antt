use Rattle.std.proofs.Common.{◌∙◌, ap, sym, subst, refl}
use Rattle.zk_model.specs.declared.JournalKind.TheVariants.{Ceilings}
use Rattle.lease_journal.specs.Twins.{blank_twin_bytes, twin_begin, twin_slots_at}
use Rattle.twin_journal.specs.Starts.{AreTidy}
use Rattle.lease_store.proofs.Finding.{few_slots}
use Rattle.store_tests.specs.declared.tests.disks.TheConstants.{ID}
use Rattle.store_tests.proofs.tests.ceiling_disks.new_ceilings.Goals as goal

pub returns-clause-tidy : goal.returns-clause-tidy
returns-clause-tidy c =
    subst AreTidy (sym (c.in_ok-bytes.ensures ∙ ap (blank_twin_bytes Ceilings ID c.args.total) c.twin_ceiling_slots-slots.ensures))
    (c.ceilings_start_again.ensures.said ID c.args.total 0 _ (c.blank_says_zero.ensures ID c.args.total refl c.requires)).tidy

pub returns-clause-begins : goal.returns-clause-begins
returns-clause-begins c =
    let new = c.blank_twin_is_new.ensures Ceilings ID c.args.total c.twin_ceiling_slots-slots.result refl (few_slots c.args.total c.twin_ceiling_slots-slots.result c.twin_ceiling_slots-slots.ensures c.requires) in
    ap (twin_begin Ceilings) c.in_ok-bytes.ensures ∙ new.holds.begins

pub returns-clause-says : goal.returns-clause-says
returns-clause-says c =
    let new = c.blank_twin_is_new.ensures Ceilings ID c.args.total c.twin_ceiling_slots-slots.result refl (few_slots c.args.total c.twin_ceiling_slots-slots.result c.twin_ceiling_slots-slots.ensures c.requires) in
    ap (twin_slots_at 0) c.in_ok-bytes.ensures ∙ new.holds.stands.says ∙ c.twin_ceiling_slots-slots.ensures
