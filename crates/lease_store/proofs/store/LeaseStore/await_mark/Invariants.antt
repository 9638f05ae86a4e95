use Rattle.std.proofs.Common.{◌≡◌}
use Rattle.lease_words.specs.Calls.{known_of}
use Rattle.lease_store.specs.Leases.{IsPassAt, Watched}
use Rattle.lease_store.proofs.store.LeaseStore.await_mark.Given as goal

abbrev pub invariant-loop : goal.invariant-loop
invariant-loop g l = record {
  goes_on : (goal.iterator-loop g).can_next l.iterator' × (goal.iterator-loop g).is_finite l.iterator';
  own : IsPassAt g.N.LeaseName.table g.N.LeaseName.total l.pass;
  watched : Watched l.fn.pass l.pass;
  known : known_of l.pass ≡ known_of l.fn.pass;
}
