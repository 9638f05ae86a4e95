use Rattle.std.proofs.Common.{◌≡◌, length}
use Rattle.zk_model.specs.declared.limits.TheConstants.{MAX_NODES}
use Rattle.lease_store.specs.Leases.{IsPassAt}
use Rattle.broker_service.specs.Turns.{AreSomeExchanges, keeping}
use Rattle.broker_service.proofs.Links.{IsTaking}
use Rattle.broker_service.proofs.service.answer_links.Given as goal

abbrev pub invariant-links : goal.invariant-links
invariant-links g l = record {
  nodes : length l.core ≡ MAX_NODES;
  own : IsPassAt g.N.LeaseName.table g.N.LeaseName.total l.pass;
  count : length l.notes.items ≡ l.counter;
  taken : IsTaking l.counter (g.D.Door.state l.fn.door) (g.D.Door.state l.door);
  exchanges : AreSomeExchanges g.D.Link.Link.state g.B.Disk.state l.notes.items (keeping l.fn.core l.fn.pass) (keeping l.core l.pass);
}
