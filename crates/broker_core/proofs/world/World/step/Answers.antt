use Rattle.broker_core.proofs.Stops.{unchanged_result}
use Rattle.broker_core.proofs.world.World.step.Goals as goal

pub returns-in-Ask-clause-refused : goal.returns-in-Ask-clause-refused
returns-in-Ask-clause-refused c = unchanged_result c.args.self.now c.ask.new.self c.args.event c.ask.result c.ask.ensures.refused

pub returns-in-ToNode-clause-refused : goal.returns-in-ToNode-clause-refused
returns-in-ToNode-clause-refused c = unchanged_result c.args.self.now c.to_node.new.self c.args.event c.to_node.result c.to_node.ensures.refused

pub returns-in-Spend-clause-refused : goal.returns-in-Spend-clause-refused
returns-in-Spend-clause-refused c = unchanged_result c.args.self.now c.spend.new.self c.args.event c.spend.result c.spend.ensures.refused

pub returns-in-NodeCut-clause-refused : goal.returns-in-NodeCut-clause-refused
returns-in-NodeCut-clause-refused c = unchanged_result c.args.self.now c.cut_node.new.self c.args.event c.cut_node.result c.cut_node.ensures.refused

pub returns-in-NodeFail-clause-refused : goal.returns-in-NodeFail-clause-refused
returns-in-NodeFail-clause-refused c = unchanged_result c.args.self.now c.fail_node.new.self c.args.event c.fail_node.result c.fail_node.ensures.refused

pub returns-in-BrokerCrash-clause-refused : goal.returns-in-BrokerCrash-clause-refused
returns-in-BrokerCrash-clause-refused c = unchanged_result c.args.self.now c.crash_broker.new.self c.args.event c.crash_broker.result c.crash_broker.ensures.refused
