use Rattle.std.proofs.Common.{◌∙◌}
use Rattle.zk_model.specs.Field.{◌-ₚ◌}
use Rattle.sparse_vole.proofs.Vectors.{noise_is}
use Rattle.sparse_vole.proofs.prover_finish.Goals as goal

pub returns-clause-noise : goal.returns-clause-noise
returns-clause-noise c =
    noise_is c.args.alpha c.args.noise c.args.base_mac c.args.leaf_offset c.sub-2.result c.args.leaves.now c.in_ok-vector.vector.items
    (c.sub-2.ensures ∙ (λ i. c.sub.ensures i -ₚ c.sum_of_leaves.ensures i)) c.in_ok-vector.ensures.entries
