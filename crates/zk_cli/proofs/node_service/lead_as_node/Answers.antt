use Rattle.std.proofs.Common.{ℕ, List, [], subst}
use Rattle.node_grants.specs.Desks.{Desk, desk}
use Rattle.node_grants.specs.Grants.{ports_of}
use Rattle.broker_node.specs.NodeStates.{starting}
use Rattle.node_sessions.specs.Journals.{JournalSaysGrants}
use Rattle.node_sessions.specs.Sessions.{ServesAsNode}
use Rattle.zk_cli.proofs.node_service.lead_as_node.Goals as goal

pub returns : goal.returns
returns g c =
    let served = c.serve_node-served in
    let options = c.args.options.now in
    let jobs = c.args.jobs.now in
    let first : Desk g.row.B.Denot g.row.D-Link.Denot = desk (starting c.args.place.now.node) c.args.claims (g.D.Door.state c.args.door) [] in
    record {
      last = served.result.claims;
      serves = subst (λ (broker : List ℕ). ServesAsNode (ports_of g.D.Link.Link.state g.B.Disk.state broker options.timeout) jobs options.sessions first
          (g.D.Door.state served.result.door) served.result.claims served.result.door_failed served.result.memory_failed served.result.notes.items)
          c.deref.ensures served.ensures.serves;
      once = served.ensures.once;
      claimed = served.ensures.claimed;
      kept = served.ensures.kept;
      journal = subst (λ (broker : List ℕ). JournalSaysGrants (ports_of g.D.Link.Link.state g.B.Disk.state broker options.timeout) jobs first
          served.result.claims served.result.notes.items) c.deref.ensures served.ensures.journal;
      causes = served.ensures.causes;
      closed = c.close-disk.ensures.disk;
      durable = c.close-disk.ensures.durable;
    }
