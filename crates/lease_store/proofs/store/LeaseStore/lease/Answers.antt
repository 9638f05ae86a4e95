use Rattle.std.proofs.Common.{ap, arith}
use Rattle.lease_words.specs.Views.{own}
use Rattle.lease_words.specs.declared.view.View.{View}
use Rattle.lease_store.proofs.Keeping.{stored_below}
use Rattle.lease_store.proofs.store.LeaseStore.lease.Goals as goal

pub returns-then-look-span-clause-stored : goal.returns-then-look-span-clause-stored
returns-then-look-span-clause-stored g c =
    let seen = c.look.ensures.stored in
    stored_below g.B.Disk.state seen.0.total seen.0.journal c.in-Ok.span.end c.look.result (omega (arith, c.if-look-span.true)) seen.1

-- the ceiling that the pass knew is stored
pub returns-then-known-span-clause-stored : goal.returns-then-known-span-clause-stored
returns-then-known-span-clause-stored g c =
    let drew = c.in-Ok.ensures.drew in
    let same = ap (λ (v : View). (own v).known) drew.2 in
    let shown = c.in-Ok.ensures.stored in
    stored_below g.B.Disk.state shown.2.0.total shown.2.0.journal c.in-Ok.span.end shown.0 (omega (arith, c.known.ensures, same, shown.1, c.if-known-span.true)) shown.2.1
