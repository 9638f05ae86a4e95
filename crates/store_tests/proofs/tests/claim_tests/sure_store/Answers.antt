use Rattle.zk_model.specs.declared.JournalKind.TheVariants.{Claims}
use Rattle.store_tests.specs.declared.tests.disks.TheConstants.{ID}
use Rattle.store_tests.proofs.tests.claim_tests.sure_store.Goals as goal

pub start-requires-clause-tidy : goal.start-requires-clause-tidy
start-requires-clause-tidy c = λ bytes is. c.in_ok-disk.ensures.tidy bytes is Claims ID 10000
