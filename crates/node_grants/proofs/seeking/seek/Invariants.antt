use Rattle.node_grants.specs.Desks.{desk}
use Rattle.node_grants.specs.Grants.{ports_of}
use Rattle.node_grants.proofs.Grants.{TriedTo}
use Rattle.node_grants.proofs.seeking.seek.Given as goal

abbrev pub invariant-tries : goal.invariant-tries
invariant-tries g l = TriedTo (ports_of g.D.Link.Link.state g.B.Disk.state l.broker l.patience) l.count l.counter
    (desk l.fn.node l.fn.claims (g.D.Door.state l.fn.door) l.fn.tries.items)
    (desk l.node l.claims (g.D.Door.state l.door) l.tries.items)
