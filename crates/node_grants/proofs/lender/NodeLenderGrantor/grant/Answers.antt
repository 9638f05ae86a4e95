use Rattle.std.specs.Prelude.{IfOk}
use Rattle.node_grants.specs.Desks.{desk}
use Rattle.node_grants.specs.Grants.{ports_of}
use Rattle.node_grants.proofs.Within.{granted_stays, granted_within}
use Rattle.node_grants.proofs.lender.NodeLenderGrantor.grant.Goals as goal

pub seek-answer-requires-sync-R : goal.seek-answer-requires-sync-R
seek-answer-requires-sync-R g c κs within = c.requires.may.0

pub returns-clause-within : goal.returns-clause-within
returns-clause-within g c =
    let l = c.args.self.now in
    granted_within (ports_of g.D.Link.Link.state g.B.Disk.state l.broker.now l.patience) c.args.count c.seek-answer.result
    (desk l.node.now l.claims.now (g.D.Door.state l.door.now) l.tries.now.items)
    (desk c.seek-answer.new.node c.seek-answer.new.claims (g.D.Door.state c.seek-answer.new.door) c.seek-answer.new.tries.items)
    c.requires.may.1 c.seek-answer.ensures

pub returns-clause-total : goal.returns-clause-total
returns-clause-total g c =
    let l = c.args.self.now in
    (granted_stays (ports_of g.D.Link.Link.state g.B.Disk.state l.broker.now l.patience) c.args.count c.seek-answer.result
    (desk l.node.now l.claims.now (g.D.Door.state l.door.now) l.tries.now.items)
    (desk c.seek-answer.new.node c.seek-answer.new.claims (g.D.Door.state c.seek-answer.new.door) c.seek-answer.new.tries.items)
    c.requires.may.1 c.seek-answer.ensures).total
