use Rattle.std.proofs.Common.{rules, [], ap, sym, subst, ◌∙◌}
use Rattle.zk_model.specs.declared.Side.TheVariants.{Verifier}
use Rattle.frame_link.specs.Lines.{LinkSnapshot, snapshot, snapshot_of}
use Rattle.broker_links.specs.Answers.{Asked, BrokerLeaves}
use Rattle.broker_links.proofs.answering.answer_want.Goals as goal

pub returns-clause-note : goal.returns-clause-note
returns-clause-note g c =
    let asked : Asked g.row.O-Fault.Denot = record { want = g.O.Answerer.asked c.answer-outcome.new.answerer; answer = g.O.Answerer.answer c.answer-outcome.new.answerer } in
    let first = snapshot Verifier [] (g.L.Link.state c.args.link) in
    let now = snapshot Verifier c.end-link.result.1 (g.L.Link.state c.end-link.result.0) in
    let ended = ap (λ side. snapshot side c.end-link.result.1 (g.L.Link.state c.end-link.result.0)) (sym c.answer-outcome.ensures.side) ∙ c.end-link.ensures.passed in
    let left : BrokerLeaves asked first c.answer-outcome.result now =
    subst (λ (q : LinkSnapshot × LinkSnapshot). BrokerLeaves asked q.0 c.answer-outcome.result q.1) (λ i. (ap snapshot_of c.new-line.ensures i, sym ended i)) c.answer-outcome.ensures.left in
    record {
      cause = left.cause;
      told = left.told;
      came = left.come.came;
      receives = left.come.receives;
      faults = left.faults;
      ended = search rules;
      complete = left.complete;
    }
