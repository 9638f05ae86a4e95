use Rattle.std.proofs.Common.{◌<◌, ◌∙◌, subst}
use Rattle.zk_model.specs.declared.Params.{Params}
use Rattle.vole_extend.proofs.Fits.{replies_fit}
use Rattle.vole_extend.proofs.Replied.{replies_are}
use Rattle.vole_extend.proofs.verifier.VerifierRound.reply.Goals as goal

pub returns-clause-replies : goal.returns-clause-replies
returns-clause-replies c =
    c.in_ok-replies.ensures.replies
    ∙ replies_are c.args.self.now c.args.asks.now c.args.self.now.file.params.trees c.requires.count

pub returns-clause-fits : goal.returns-clause-fits
returns-clause-fits c =
    replies_fit c.args.self.now c.args.asks.now _ c.params-base.ensures.file
    (subst (λ (params : Params). c.args.self.now.unit < params.total) c.params-base.ensures.params c.params-base.ensures.within)
    c.in_ok-replies.ensures.replies
