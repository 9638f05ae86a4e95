use Rattle.lease_store.specs.Leases.{IsPassAt}
use Rattle.store_tests.proofs.tests.lease_tests.lease_often.Given as goal

abbrev pub invariant-loop : goal.invariant-loop
invariant-loop g l = IsPassAt g.N.LeaseName.table g.N.LeaseName.total l.pass
