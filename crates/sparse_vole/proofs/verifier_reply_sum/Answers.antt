use Rattle.std.proofs.Common.{sum, ◌∙◌, ap}
use Rattle.zk_model.specs.Field.{◌+ₚ◌, ◌-ₚ◌}
use Rattle.zk_model.specs.Mac.{corrected_key}
use Rattle.sparse_vole.proofs.Vectors.{minus_sum}
use Rattle.sparse_vole.proofs.verifier_reply_sum.Goals as goal

pub returns-clause-reply : goal.returns-clause-reply
returns-clause-reply c = λ leaves is.
    c.sub.ensures ∙ (λ i. (c.add.ensures ∙ ap (λ n. c.args.base_key +ₚ n) c.mul.ensures) i -ₚ is i)
    ∙ minus_sum (corrected_key c.args.key c.args.base_key c.args.correction) (sum leaves)
