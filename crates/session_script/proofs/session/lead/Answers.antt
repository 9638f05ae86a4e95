use Rattle.std.proofs.Common.{subst}
use Rattle.zk_model.specs.declared.Side.{Side}
use Rattle.frame_link.specs.Lines.{snapshot_of}
use Rattle.session_driver.specs.Leaving.{PartyLeaves}
use Rattle.session_script.specs.declared.scripted.Scripted.{Scripted}
use Rattle.session_script.specs.Scripts.{Stage, stage_of, scripted}
use Rattle.session_script.proofs.Led.{leaves_so, task_stays}
use Rattle.session_script.proofs.Accepting.{accepts}
use Rattle.session_script.proofs.session.lead.Given.{Over}
use Rattle.session_script.proofs.session.lead.Goals.{After-run}
use Rattle.session_script.proofs.session.lead.Goals as goal

-- an end and the one whom it asks
abbrev State : Over → Type 0
State g = Scripted g.row.V.Denot × g.row.O.Denot

abbrev task : (g : Over) → State g → g.V.Voice.Task
task g s = g.V.Voice.task s.0.voice

abbrev stage : (g : Over) → State g → Stage g.V.Voice.Known
stage g s = stage_of (g.V.Voice.known s.0.voice s.1) s.0.left.items

party : (g : Over) (c : After-run g) → PartyLeaves (scripted g.V.Voice.side g.V.Voice.rules (task g) (stage g)) (g.V.Voice.greeting (g.V.Voice.task c.args.end.now.voice))
    g.V.Voice.side (c.args.end.now, c.args.asked.now) (c.run.new.party, c.run.new.asked) c.run.result (snapshot_of c.args.line.now) (snapshot_of c.run.new.line)
party g c = subst (λ (s : Side). PartyLeaves (scripted g.V.Voice.side g.V.Voice.rules (task g) (stage g)) (g.V.Voice.greeting (g.V.Voice.task c.args.end.now.voice))
    s (c.args.end.now, c.args.asked.now) (c.run.new.party, c.run.new.asked) c.run.result (snapshot_of c.args.line.now) (snapshot_of c.run.new.line))
    c.requires.side c.run.ensures.run.leaves

pub returns-clause-leaves : goal.returns-clause-leaves
returns-clause-leaves g c = leaves_so g.V.Voice.side g.V.Voice.rules (task g) (stage g) (g.V.Voice.greeting (g.V.Voice.task c.args.end.now.voice))
    (c.args.end.now, c.args.asked.now) (c.run.new.party, c.run.new.asked) c.run.result (snapshot_of c.args.line.now) (snapshot_of c.run.new.line)
    c.requires.own c.requires.waits (party g c)

pub returns-clause-task : goal.returns-clause-task
returns-clause-task g c = task_stays g.V.Voice.side g.V.Voice.rules (task g) (stage g) (g.V.Voice.greeting (g.V.Voice.task c.args.end.now.voice))
    (c.args.end.now, c.args.asked.now) (c.run.new.party, c.run.new.asked) c.run.result (snapshot_of c.args.line.now) (snapshot_of c.run.new.line)
    c.requires.own c.requires.waits (party g c)

pub returns-clause-exact : goal.returns-clause-exact
returns-clause-exact g c verifier silent begins ends = accepts (g.V.Voice.rules (g.V.Voice.task c.args.end.now.voice)) g.V.Voice.side
    (g.V.Voice.greeting (g.V.Voice.task c.args.end.now.voice)) (stage g (c.args.end.now, c.args.asked.now)) (g.V.Voice.known c.run.new.party.voice c.run.new.asked)
    c.run.result (snapshot_of c.args.line.now) (snapshot_of c.run.new.line) verifier silent begins (returns-clause-leaves g c) ends
