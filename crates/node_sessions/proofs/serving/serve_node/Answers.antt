use Rattle.std.proofs.Common.{[], refl}
use Rattle.broker_node.specs.NodeStates.{starting}
use Rattle.node_grants.specs.Desks.{desk}
use Rattle.node_sessions.proofs.Causes.{sessions_have_causes}
use Rattle.node_sessions.proofs.Journals.{journals_say_grants}
use Rattle.node_sessions.proofs.Kept.{claims_are_kept}
use Rattle.node_sessions.proofs.Once.{granted_units_are_claimed, sessions_grant_once}
use Rattle.node_sessions.proofs.serving.serve_node.Goals as goal

pub returns-clause-once : goal.returns-clause-once
returns-clause-once g c =
    sessions_grant_once g.D.Link.Link.state g.B.Disk.state c.args.broker.now c.args.patience c.args.jobs.now c.args.sessions
    (desk (starting c.args.number) c.args.claims (g.D.Door.state c.args.door) []) (g.D.Door.state c.lead_all.result.door) c.lead_all.result.claims
    c.lead_all.result.door_failed c.lead_all.result.memory_failed c.lead_all.result.notes.items refl c.lead_all.ensures

pub returns-clause-claimed : goal.returns-clause-claimed
returns-clause-claimed g c =
    granted_units_are_claimed g.D.Link.Link.state g.B.Disk.state c.args.broker.now c.args.patience c.args.jobs.now c.args.sessions
    (desk (starting c.args.number) c.args.claims (g.D.Door.state c.args.door) []) (g.D.Door.state c.lead_all.result.door) c.lead_all.result.claims
    c.lead_all.result.door_failed c.lead_all.result.memory_failed c.lead_all.result.notes.items refl c.lead_all.ensures

pub returns-clause-kept : goal.returns-clause-kept
returns-clause-kept g c =
    claims_are_kept g.D.Link.Link.state g.B.Disk.state c.args.broker.now c.args.patience c.args.jobs.now c.args.sessions
    (desk (starting c.args.number) c.args.claims (g.D.Door.state c.args.door) []) (g.D.Door.state c.lead_all.result.door) c.lead_all.result.claims
    c.lead_all.result.door_failed c.lead_all.result.memory_failed c.lead_all.result.notes.items refl c.lead_all.ensures

pub returns-clause-journal : goal.returns-clause-journal
returns-clause-journal g c =
    journals_say_grants g.D.Link.Link.state g.B.Disk.state
    (record { counts = g.met.B.Disk.counts_now; only = g.met.B.Disk.only_now }) c.args.broker.now c.args.patience c.args.jobs.now c.args.sessions
    (desk (starting c.args.number) c.args.claims (g.D.Door.state c.args.door) []) (g.D.Door.state c.lead_all.result.door) c.lead_all.result.claims
    c.lead_all.result.door_failed c.lead_all.result.memory_failed c.lead_all.result.notes.items refl c.lead_all.ensures

pub returns-clause-causes : goal.returns-clause-causes
returns-clause-causes g c =
    sessions_have_causes g.D.Link.Link.state g.B.Disk.state c.args.broker.now c.args.patience c.args.jobs.now c.args.sessions
    (desk (starting c.args.number) c.args.claims (g.D.Door.state c.args.door) []) (g.D.Door.state c.lead_all.result.door) c.lead_all.result.claims
    c.lead_all.result.door_failed c.lead_all.result.memory_failed c.lead_all.result.notes.items refl c.lead_all.ensures
