use Rattle.std.proofs.Common.{[], sym, subst}
use Rattle.std.specs.Prelude.{None}
use Rattle.zk_model.specs.declared.Side.TheVariants.{Verifier}
use Rattle.frame_link.specs.Lines.{snapshot_of}
use Rattle.session_driver.specs.Leaving.{PartyLeaves}
use Rattle.session_driver.proofs.Left.{run_leaves}
use Rattle.broker_links.specs.Answers.{AnswererTells, BrokerLeaves, Brokering, answerer_tells, answers_wants, brokering, told_asked}
use Rattle.broker_links.specs.declared.answering.Answering.{Answering}
use Rattle.broker_links.proofs.Brokered as brokered
use Rattle.broker_links.proofs.answering.answer.Given.{Over}
use Rattle.broker_links.proofs.answering.answer.Goals as goal

-- the answerer, and a broker's end, as definitions see them
abbrev tells : (g : Over) → AnswererTells g.row.O.Denot g.row.O-Fault.Denot
tells g = answerer_tells g.O.Answerer.asked g.O.Answerer.answer g.O.Answerer.may g.O.Answerer.moves

abbrev view : (g : Over) → Answering × g.row.O.Denot → Brokering g.row.O.Denot
view g s = brokering s.0.answered s.1

-- what the run left
leaves : (g : Over) (c : goal.After-outcome_of g) → PartyLeaves (answers_wants (tells g)) [] Verifier (brokering None c.args.answerer.now)
    (brokering c.run-outcome.new.party.answered c.run-outcome.new.asked) c.run-outcome.result (snapshot_of c.args.line.now) (snapshot_of c.run-outcome.new.line)
leaves g c =
    run_leaves (view g) (answers_wants (tells g)) [] Verifier _ _ c.run-outcome.result c.args.line.now c.run-outcome.new.line c.requires.side c.run-outcome.ensures.run

pub returns-clause-moved : goal.returns-clause-moved
returns-clause-moved g c =
    brokered.moved (tells g) c.args.answerer.now c.requires.ready (snapshot_of c.args.line.now) (snapshot_of c.run-outcome.new.line) _ c.run-outcome.result (leaves g c)

pub returns-clause-left : goal.returns-clause-left
returns-clause-left g c =
    let first = snapshot_of c.args.line.now in
    let now = snapshot_of c.run-outcome.new.line in
    subst (λ o. BrokerLeaves (told_asked (tells g) c.run-outcome.new.asked) first o now) (sym c.outcome_of.ensures)
    (brokered.left (tells g) c.args.answerer.now c.requires.ready first now _ c.run-outcome.result (leaves g c))
