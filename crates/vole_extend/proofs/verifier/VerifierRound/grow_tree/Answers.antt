use Rattle.std.proofs.Common.{◌∙◌, ap}
use Rattle.zk_model.specs.Tree.{tree_leaves}
use Rattle.zk_model.specs.declared.Params.{Params}
use Rattle.ggm_tree.specs.Sums.{tree_sums}
use Rattle.vole_extend.proofs.verifier.VerifierRound.grow_tree.Goals as goal

pub returns-clause-leaves : goal.returns-clause-leaves
returns-clause-leaves c =
    let height = c.from-height.ensures ∙ ap (λ (params : Params). params.height) c.params.ensures.params in
    c.in_ok-grown.ensures.leaves ∙ (λ i. tree_leaves (c.root-root.ensures i) (height i))

pub returns-clause-sums : goal.returns-clause-sums
returns-clause-sums c =
    let height = c.from-height.ensures ∙ ap (λ (params : Params). params.height) c.params.ensures.params in
    c.in_ok-grown.ensures.sums ∙ (λ i. tree_sums (c.root-root.ensures i) (height i))
