use Rattle.std.proofs.Common.{◌≡◌, ℕ, Bool, true, false, List, [], ◌∷◌, take, drop, get_or, ◌∙◌, ap}
use Rattle.sha2.specs.Sha256.{sha256}
use Rattle.zk_model.specs.Tree.{child_of}
use Rattle.ggm_tree.proofs.Below.{eight_children}
use Rattle.ggm_tree.proofs.doubling.double_eight.Goals as goal

-- the halves of a digest
abbrev half : Bool → List ℕ → List ℕ
half false digest = take 16 digest
half true digest = drop 16 digest

half_is : (digest node : List ℕ) (side : Bool) → digest ≡ sha256 node → half side digest ≡ child_of side node
unfolding child_of
half_is digest node false is = ap (take 16) is
half_is digest node true is = ap (drop 16) is

pub returns-clause-children : goal.returns-clause-children
returns-clause-children g c =
    let digests = c.digest_eight-digests.result in
    (λ i. c.halves.ensures.front i ∷ c.halves.ensures.back i ∷ c.halves-2.ensures.front i ∷ c.halves-2.ensures.back i
    ∷ c.halves-3.ensures.front i ∷ c.halves-3.ensures.back i ∷ c.halves-4.ensures.front i ∷ c.halves-4.ensures.back i
    ∷ c.halves-5.ensures.front i ∷ c.halves-5.ensures.back i ∷ c.halves-6.ensures.front i ∷ c.halves-6.ensures.back i
    ∷ c.halves-7.ensures.front i ∷ c.halves-7.ensures.back i ∷ c.halves-8.ensures.front i ∷ c.halves-8.ensures.back i ∷ [])
    ∙ eight_children c.args.nodes.now (λ j side. half side (get_or digests j [])) c.told-nodes
    (λ j side below. half_is (get_or digests j []) (get_or c.args.nodes.now j []) side (c.digest_eight-digests.ensures j below))
