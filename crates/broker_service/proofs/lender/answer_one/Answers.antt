use Rattle.std.proofs.Common.{rules}
use Rattle.broker_service.proofs.lender.answer_one.Goals as goal

pub returns-clause-step : goal.returns-clause-step
returns-clause-step g c = (
  record { want = c.answer_want-note.new.answerer.asked; answer = c.answer_want-note.new.answerer.answer },
  record {
    first = g.L.Link.state c.args.link;
    fresh = c.requires.fresh;
    is_note = c.answer_want-note.ensures.note;
    turn = search rules;
  },
)
