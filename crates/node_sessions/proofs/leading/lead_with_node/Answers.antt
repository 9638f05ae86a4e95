use Rattle.std.proofs.Common.{◌≡◌, rules, []}
use Rattle.std.specs.Prelude.{MatchOption}
use Rattle.node_grants.specs.Desks.{Desk, desk}
use Rattle.node_grants.specs.Grants.{IsGrantOf, ports_of}
use Rattle.node_grants.proofs.Within.{StaysWithin}
use Rattle.node_sessions.specs.Sessions.{size_of}
use Rattle.node_sessions.proofs.Led.{holds_to, led_stays, led_to, moved_by, untried}
use Rattle.node_sessions.proofs.leading.lead_with_node.Given.{Over}
use Rattle.node_sessions.proofs.leading.lead_with_node.Goals as goal

-- what became of what the node grants with
moved : (g : Over) (c : goal.After-keep g) → MatchOption c.lead_session-note.new.grantor.answer
    (desk c.lead_session-note.new.grantor.node.now c.lead_session-note.new.grantor.claims.now (g.D.Door.state c.lead_session-note.new.grantor.door.now)
    c.lead_session-note.new.grantor.tries.now.items ≡ desk c.args.node.now c.args.claims.now (g.D.Door.state c.args.door.now) [])
    (λ a. IsGrantOf (ports_of g.D.Link.Link.state g.B.Disk.state c.args.broker.now c.args.patience) (size_of c.args.jobs.now c.lead_session-note.result) a
    (desk c.args.node.now c.args.claims.now (g.D.Door.state c.args.door.now) [])
    (desk c.lead_session-note.new.grantor.node.now c.lead_session-note.new.grantor.claims.now (g.D.Door.state c.lead_session-note.new.grantor.door.now)
    c.lead_session-note.new.grantor.tries.now.items))
moved g c =
    let ports = ports_of g.D.Link.Link.state g.B.Disk.state c.args.broker.now c.args.patience in
    let count = size_of c.args.jobs.now c.lead_session-note.result in
    let grantor = c.lead_session-note.new.grantor in
    let new = desk grantor.node.now grantor.claims.now (g.D.Door.state grantor.door.now) grantor.tries.now.items in
    untried (λ (d : Desk g.row.B.Denot g.row.D-Link.Denot). MatchOption grantor.answer (new ≡ d) (λ a. IsGrantOf ports count a d new))
    c.args.node.now c.args.claims.now (g.D.Door.state c.args.door.now) c.new-tries.result.items c.new-tries.ensures.items
    (moved_by ports count (λ l. desk l.node.now l.claims.now (g.D.Door.state l.door.now) l.tries.now.items) _ grantor.answer _ grantor
    c.lead_session-note.ensures.moved (λ a moves. moves.4))

-- what is left, by what the session did
stays : (g : Over) (c : goal.After-keep g) → StaysWithin c.args.claims.now c.lead_session-note.new.grantor.node.now c.lead_session-note.new.grantor.claims.now
stays g c =
    let ports = ports_of g.D.Link.Link.state g.B.Disk.state c.args.broker.now c.args.patience in
    let grantor = c.lead_session-note.new.grantor in
    led_stays ports (size_of c.args.jobs.now c.lead_session-note.result) grantor.answer
    (desk c.args.node.now c.args.claims.now (g.D.Door.state c.args.door.now) [])
    (desk grantor.node.now grantor.claims.now (g.D.Door.state grantor.door.now) grantor.tries.now.items) c.requires.within
    (moved g c)

pub returns-clause-led : goal.returns-clause-led
returns-clause-led g c =
    let ports = ports_of g.D.Link.Link.state g.B.Disk.state c.args.broker.now c.args.patience in
    let grantor = c.lead_session-note.new.grantor in
    let noted = c.lead_session-note.ensures.note in
    led_to ports c.args.jobs.now (desk c.args.node.now c.args.claims.now (g.D.Door.state c.args.door.now) [])
    _ grantor.node.now _ grantor.claims.now _ (g.D.Door.state grantor.door.now) _ grantor.tries.now.items _ (search rules) (search rules) (search rules) (search rules)
    (record {
      answer = grantor.answer;
      is_note = record { statement = noted.statement; session = noted.session; complete = noted.complete };
      granted = c.lead_session-note.ensures.granted;
      refused = c.lead_session-note.ensures.refused;
      moved = moved g c;
      tries = search rules;
      least = c.lead_session-note.ensures.sized.0;
      most = c.lead_session-note.ensures.sized.1;
    })

pub returns-clause-holds : goal.returns-clause-holds
returns-clause-holds g c =
    holds_to c.args.claims.now _ c.lead_session-note.new.grantor.node.now _ c.lead_session-note.new.grantor.claims.now (search rules) (search rules)
    (stays g c)
