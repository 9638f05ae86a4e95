use Rattle.zk_model.specs.declared.JournalKind.TheVariants.{Ceilings}
use Rattle.store_tests.specs.declared.tests.disks.TheConstants.{ID}
use Rattle.store_tests.proofs.tests.ceiling_disks.started.Goals as goal

pub start-requires-clause-tidy : goal.start-requires-clause-tidy
start-requires-clause-tidy g c = λ bytes is. c.requires.tidy bytes is Ceilings ID c.args.total
