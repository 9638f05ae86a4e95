use Rattle.wire_auth.proofs.walking.StepWalk.new.Goals as goal

pub returns-clause-follows : goal.returns-clause-follows
returns-clause-follows g c which wires given meets first = record {
  equations = meets;
  plan = c.requires.plan;
  held = c.pass_first-steps.ensures.held which c.requires.plan wires given meets (c.in_ok-slots.ensures.held which c.requires.plan wires first);
}
