use Rattle.std.proofs.Common.{◌++◌, ap, ◌∙◌}
use Rattle.zk_model.specs.Transcript.{bytes_from, verdict_frame}
use Rattle.zk_model.specs.declared.Side.TheVariants.{Verifier}
use Rattle.session_rehearsal.proofs.noting.note_verdict.Goals as goal

pub returns-clause-logged : goal.returns-clause-logged
returns-clause-logged c =
    c.in_ok-push.ensures.noted
    ∙ ap (λ l. c.args.log.now ++ bytes_from Verifier l) (c.deref.ensures.value ∙ c.in_ok-bytes.ensures ∙ (λ i. verdict_frame (c.said_by-code.ensures.code i) (c.said_by-code.ensures.number i)))
