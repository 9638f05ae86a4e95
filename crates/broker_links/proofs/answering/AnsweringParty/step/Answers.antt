use Rattle.std.proofs.Common.{inl, refl, ap, ◌∙◌, [], ◌∷◌, ◌++◌, map}
use Rattle.proof_frames.specs.Frames.{frame_value}
use Rattle.broker_links.proofs.Brokered.{is_waiting}
use Rattle.broker_links.proofs.answering.AnsweringParty.step.Goals as goal

pub returns-in-Ok-reply-clause-answered : goal.returns-in-Ok-reply-clause-answered
returns-in-Ok-reply-clause-answered g c = record {
  takes = record { waits = is_waiting c.args.self.now.answered _ c.requires.expected; said = c.want_in-want.result; is = c.want_in-want.ensures.frame; fits = c.want_in-want.ensures.fits };
  given = c.in-Ok-reply.reply;
  fits = c.frame.ensures.fits;
  answers = record { asked = c.in-Ok-reply.ensures.asked; answered = c.in-Ok-reply.ensures.told; moved = c.in-Ok-reply.ensures.moves };
  sent = ap (map frame_value) (c.push_reserved.ensures.items ∙ ap (λ l. l ++ c.frame.result ∷ []) c.in-Ok.ensures.items) ∙ ap (λ f. f ∷ []) c.frame.ensures.frame;
  becomes = refl;
}

pub returns-in-Err-clause-refused : goal.returns-in-Err-clause-refused
returns-in-Err-clause-refused g c = (
  refl,
  inl (record {
    takes = record { waits = is_waiting c.args.self.now.answered _ c.requires.expected; said = c.want_in-want.result; is = c.want_in-want.ensures.frame; fits = c.want_in-want.ensures.fits };
    fault = c.in-Err.fault;
    answers = record { asked = c.in-Err.ensures.asked; answered = c.in-Err.ensures.told; moved = c.in-Err.ensures.moves };
    outcome_is = refl;
  }),
)
