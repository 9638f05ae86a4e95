use Rattle.std.proofs.Common.{◌++◌, ap, ◌∙◌}
use Rattle.zk_model.specs.Transcript.{bytes_from}
use Rattle.zk_model.specs.declared.Side.TheVariants.{Verifier}
use Rattle.session_rehearsal.proofs.noting.note_grant.Goals as goal

pub returns : goal.returns
returns c =
    c.in_ok-push.ensures.noted ∙ ap (λ l. c.args.log.now ++ bytes_from Verifier l) (c.deref.ensures.value ∙ c.in_ok-bytes.ensures)
