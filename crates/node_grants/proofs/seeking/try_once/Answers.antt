use Rattle.std.proofs.Common.{rules, sym, subst, ◌∙◌, ◌++◌, ◌∷◌, []}
use Rattle.zk_model.specs.declared.messages.Want.{Want}
use Rattle.broker_links.specs.Tries.{IsTry}
use Rattle.broker_node.specs.NodeStates.{NodeState}
use Rattle.node_grants.specs.Desks.{desk}
use Rattle.node_grants.specs.Grants.{ComesTo, MakesTry, ports_of}
use Rattle.node_grants.proofs.Grants.{made_to}
use Rattle.node_grants.proofs.seeking.try_once.Goals as goal

pub returns : goal.returns
returns g c =
    let ports = ports_of g.D.Link.Link.state g.B.Disk.state c.args.broker.now c.args.patience in
    let first = g.D.Link.Link.state c.in-Ok.link in
    let tried = c.ask_broker-tried.result in
    made_to ports c.args.count c.meet.result
    (desk c.args.node.now c.args.claims.now (g.D.Door.state c.args.door.now) c.args.tries.now.items)
    (desk c.meet.new.node c.meet.new.claims (g.D.Door.state c.connect.new.self) c.push_reserved.new.self.items)
    (record {
      called = c.in-Ok.ensures.connects;
      first = first;
      fresh = c.in-Ok.ensures.fresh;
      made = tried;
      is_try = subst (λ (w : Want). IsTry w first tried.outcome tried.log (g.D.Link.Link.state tried.link)) c.ask.ensures.want c.ask_broker-tried.ensures;
      kept = search rules;
      comes = subst (λ (n : NodeState). ComesTo g.B.Disk.state tried.outcome n c.args.claims.now c.meet.result c.meet.new.node c.meet.new.claims)
          c.ask.ensures.kept c.meet.ensures;
    })
