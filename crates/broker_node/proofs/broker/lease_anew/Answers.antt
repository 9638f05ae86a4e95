use Rattle.std.proofs.Common.{◌≡◌, ◌+◌, ℕ, ap, subst, arith}
use Rattle.zk_model.specs.declared.messages.Block.{Block}
use Rattle.lease_store.specs.Stops.{WasStored}
use Rattle.broker_node.proofs.broker.lease_anew.Goals as goal

-- the Block has the units of the span, which are few
pub returns-in-Ok-clause-stored : goal.returns-in-Ok-clause-stored
returns-in-Ok-clause-stored g c =
    let starts = ap (λ (b : Block). b.start) c.block_of.ensures in
    let counts = ap (λ (b : Block). b.count) c.block_of.ensures in
    let ends = c.in-Ok.ensures.leased.1 in
    let few = c.rounded.ensures.few in
    let same : c.in-Ok.span.end ≡ c.block_of.result.start + c.block_of.result.count = omega (arith, starts, counts, ends, few) in
    subst (λ (n : ℕ). WasStored g.B.Disk.state n) same c.in-Ok.ensures.stored
