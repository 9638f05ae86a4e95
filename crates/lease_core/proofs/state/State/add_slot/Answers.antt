use Rattle.std.proofs.Common.{◌∙◌, ap, ◌++◌, ◌∷◌, []}
use Rattle.lease_core.proofs.Codes.{limited_push}
use Rattle.lease_core.proofs.state.State.add_slot.Goals as goal

pub invariant_of-self-2 : goal.invariant_of-self-2
invariant_of-self-2 c =
    let s = c.self.inside in
    let reserved = c.in_ok-reserve.ensures.items in
    let items = c.push_reserved.ensures.items in
    let limited = c.self.invariant.1 in
    (c.self.invariant.0, rw (items ∙ ap (λ xs. xs ++ s.ceiling ∷ []) reserved) (limited_push _ _ _ _ _ _ limited))
