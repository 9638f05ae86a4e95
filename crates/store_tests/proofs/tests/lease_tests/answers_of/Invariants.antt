use Rattle.lease_store.specs.Leases.{IsPassAt}
use Rattle.store_tests.proofs.tests.lease_tests.answers_of.Given as goal

abbrev pub invariant-loop-call : goal.invariant-loop-call
invariant-loop-call g l = IsPassAt g.N.LeaseName.table g.N.LeaseName.total l.pass
