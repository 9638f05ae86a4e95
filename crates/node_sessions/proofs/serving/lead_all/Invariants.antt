use Rattle.std.proofs.Common.{◌≡◌, ◌≤◌, [], false, vec_capacity}
use Rattle.broker_node.specs.NodeStates.{starting}
use Rattle.node_grants.specs.Desks.{desk}
use Rattle.node_grants.specs.Grants.{ports_of}
use Rattle.node_sessions.proofs.Led.{IsLedSoFar}
use Rattle.node_sessions.proofs.serving.lead_all.Given as goal

abbrev pub invariant-sessions : goal.invariant-sessions
invariant-sessions g l = record {
  far : IsLedSoFar (ports_of g.D.Link.Link.state g.B.Disk.state l.broker l.patience) l.jobs
      (desk (starting l.number) l.fn.claims (g.D.Door.state l.fn.door) []) l.node l.served.claims (g.D.Door.state l.served.door) l.served.notes.items l.counter;
  room : l.sessions ≤ vec_capacity l.served.notes;
  door_calm : l.served.door_failed ≡ false;
  memory_calm : l.served.memory_failed ≡ false;
}
