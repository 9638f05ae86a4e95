use Rattle.std.proofs.Common.{rules, [], Option, true, false, refl, ap, subst, inl, inr, arith}
use Rattle.std.specs.Prelude.{Err}
use Rattle.zk_port.specs.declared.fault.PortFault.{PortFault}
use Rattle.zk_port.specs.Doors.{TakesOne}
use Rattle.broker_node.specs.NodeStates.{starting}
use Rattle.node_grants.specs.Desks.{desk}
use Rattle.node_grants.specs.Grants.{ports_of}
use Rattle.node_sessions.proofs.Led.{ends_calm, ends_failed, ends_lacking, led_next, led_none, serves_by}
use Rattle.node_sessions.proofs.serving.lead_all.Goals as goal

pub returns-then-is_err : goal.returns-then-is_err
returns-then-is_err g c =
    let ports = ports_of g.D.Link.Link.state g.B.Disk.state c.args.broker.now c.args.patience in
    let door = g.D.Door.state c.args.door in
    serves_by ports c.args.jobs.now c.args.sessions (desk (starting c.args.number) c.args.claims door []) (starting c.args.number) c.args.claims
    door door false true c.reserve.new.self.items 0
    (led_none ports c.args.jobs.now (starting c.args.number) c.args.claims door c.reserve.new.self.items (search rules) c.requires.total tt)
    (omega arith) (inl (refl, refl))

pub returns-in-Ok-None : goal.returns-in-Ok-None
returns-in-Ok-None g c =
    let ports = ports_of g.D.Link.Link.state g.B.Disk.state c.args.broker.now c.args.patience in
    let first = desk (starting c.args.number) c.args.claims (g.D.Door.state c.args.door) [] in
    let last = g.D.Door.state c.sessions.served.door in
    let now = g.D.Door.state c.next.new.self in
    let none = subst (λ (o : Option g.row.D-Link.Denot). TakesOne o last.left now.left) c.in-Ok-None.field-0-is c.in-Ok-None.ensures.given in
    serves_by ports c.args.jobs.now c.args.sessions first c.sessions.node c.sessions.served.claims last now c.sessions.served.door_failed
    c.sessions.served.memory_failed c.sessions.served.notes.items c.sessions.counter c.sessions.invariant.far (omega (arith, c.sessions-test.true))
    (ends_calm c.args.sessions c.sessions.counter last now c.sessions.served.door_failed c.sessions.served.memory_failed c.sessions.invariant.door_calm
    c.sessions.invariant.memory_calm (inr (none.0, none.1, c.in-Ok-None.ensures.rest)))

pub returns-in-Err-Failed : goal.returns-in-Err-Failed
returns-in-Err-Failed g c =
    let ports = ports_of g.D.Link.Link.state g.B.Disk.state c.args.broker.now c.args.patience in
    let first = desk (starting c.args.number) c.args.claims (g.D.Door.state c.args.door) [] in
    let last = g.D.Door.state c.sessions.served.door in
    let now = g.D.Door.state c.next.new.self in
    serves_by ports c.args.jobs.now c.args.sessions first c.sessions.node c.sessions.served.claims last now true
    c.sessions.served.memory_failed c.sessions.served.notes.items c.sessions.counter c.sessions.invariant.far (omega (arith, c.sessions-test.true))
    (ends_failed c.args.sessions c.sessions.counter last now c.in-Err-Failed.ensures.refused
    (c.in-Err-Failed.ensures.cause.failed (ap (λ (e : PortFault). Err e) c.in-Err-Failed.field-0-is)) c.sessions.served.memory_failed c.sessions.invariant.memory_calm)

pub returns-in-Err-NoMemory : goal.returns-in-Err-NoMemory
returns-in-Err-NoMemory g c =
    let ports = ports_of g.D.Link.Link.state g.B.Disk.state c.args.broker.now c.args.patience in
    let first = desk (starting c.args.number) c.args.claims (g.D.Door.state c.args.door) [] in
    let last = g.D.Door.state c.sessions.served.door in
    let now = g.D.Door.state c.next.new.self in
    serves_by ports c.args.jobs.now c.args.sessions first c.sessions.node c.sessions.served.claims last now c.sessions.served.door_failed
    true c.sessions.served.notes.items c.sessions.counter c.sessions.invariant.far (omega (arith, c.sessions-test.true))
    (ends_lacking c.args.sessions c.sessions.counter last now c.in-Err-NoMemory.ensures.refused
    (c.in-Err-NoMemory.ensures.cause.unserved (ap (λ (e : PortFault). Err e) c.in-Err-NoMemory.field-0-is)) c.sessions.served.door_failed c.sessions.invariant.door_calm)

pub sessions-preserved : goal.sessions-preserved
sessions-preserved g c =
    let ports = ports_of g.D.Link.Link.state g.B.Disk.state c.args.broker.now c.args.patience in
    let first = desk (starting c.args.number) c.args.claims (g.D.Door.state c.args.door) [] in
    let door = g.D.Door.state c.sessions.served.door in
    let taken = g.D.Door.state c.next.new.self in
    let one = subst (λ (o : Option g.row.D-Link.Denot). TakesOne o door.left taken.left) c.in-Ok-Some.field-0-is c.in-Ok-Some.ensures.given in
    record {
      far = led_next ports c.args.jobs.now first c.sessions.node c.lead_with_node-note.new.node c.sessions.served.claims c.lead_with_node-note.new.claims
          door taken (g.D.Door.state c.lead_with_node-note.new.door) c.sessions.served.notes.items c.push_reserved.new.self.items
          c.lead_with_node-note.result c.lead_with_node-note.result.tries.items c.sessions.counter c.sessions.invariant.far one
          c.in-Ok-Some.ensures.rest c.lead_with_node-note.ensures.led c.lead_with_node-note.ensures.holds c.push_reserved.ensures.items;
      room = search rules;
      door_calm = c.sessions.invariant.door_calm;
      memory_calm = c.sessions.invariant.memory_calm;
    }

pub returns : goal.returns
returns g c =
    let ports = ports_of g.D.Link.Link.state g.B.Disk.state c.args.broker.now c.args.patience in
    let first = desk (starting c.args.number) c.args.claims (g.D.Door.state c.args.door) [] in
    let last = g.D.Door.state c.sessions.served.door in
    let far = c.sessions-test.false in
    let counted = c.sessions.auto.counter-end in
    serves_by ports c.args.jobs.now c.args.sessions first c.sessions.node c.sessions.served.claims last last c.sessions.served.door_failed
    c.sessions.served.memory_failed c.sessions.served.notes.items c.sessions.counter c.sessions.invariant.far (search rules)
    (ends_calm c.args.sessions c.sessions.counter last last c.sessions.served.door_failed c.sessions.served.memory_failed c.sessions.invariant.door_calm
    c.sessions.invariant.memory_calm (inl (search rules, refl)))
