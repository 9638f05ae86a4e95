use Rattle.std.proofs.Common.{◌≡◌, ℕ, List, ap, sym, ◌∙◌, subst, option_to_list}
use Rattle.lease_journal.specs.Journals.{first_bodies}
use Rattle.journal_migration.specs.Migrations.{SaysTheSame}
use Rattle.zk_model.specs.declared.JournalKind.TheVariants.{Ceilings}
use Rattle.journal_migration.specs.Migrating.{next_ceiling}
use Rattle.journal_migration.proofs.BehindIt.{same_ceiling}
use Rattle.journal_migration.proofs.migrating.move_on.Goals as goal

pub move_bodies-requires-clause-same : goal.move_bodies-requires-clause-same
move_bodies-requires-clause-same g c = λ bytes is.
    let found = c.args.found in
    let next : option_to_list (next_ceiling c.args.found.last.0) ≡ option_to_list c.new-next.result.body = ap option_to_list (sym c.next_ceiling.ensures) ∙ sym c.new-next.ensures in
    subst (λ k. SaysTheSame k (first_bodies 64 c.args.found.used bytes) (option_to_list c.new-next.result.body)) (sym c.in-Ceilings.is)
    (subst (λ (l : List (ℕ × ℕ)). SaysTheSame Ceilings (first_bodies 64 c.args.found.used bytes) l) next
    (same_ceiling c.args.name.total found.used found.last bytes (c.requires.stands bytes is).last_is))
