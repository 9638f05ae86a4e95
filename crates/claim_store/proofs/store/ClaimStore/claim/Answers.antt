use Rattle.std.proofs.Common.{◌≡◌, ◌<◌, ◌-◌, ◌^◌, ℕ, List, Some, IfSome, sym, ◌∙◌, subst, ap}
use Rattle.zk_port.specs.Disks.{LeavesOnly}
use Rattle.zk_model.specs.declared.Span.{Span}
use Rattle.claim_store.specs.Claims.{ClaimState, IsStoreKept, SaysOldOrNewClaims, state_of}
use Rattle.claim_store.specs.Causes.{IsFree}
use Rattle.claim_store.specs.Ranges.{with_span}
use Rattle.claim_store.proofs.Claiming.{MayStand, claimed, durable_of, leaves, may_stand, reads, reads_still, refused, still, with_merged}
use Rattle.claim_store.proofs.store.ClaimStore.claim.Given.{Over}
use Rattle.claim_store.proofs.store.ClaimStore.claim.Goals.{After-write_span, In-Ok}
use Rattle.claim_store.proofs.store.ClaimStore.claim.Goals as goal

-- where nothing speaks against the claim, in the state that the store had
free_of : (g : Over) (c : In-Ok g) → IsFree (state_of c.self.inside.journal c.self.inside.total c.self.inside.claims.items) c.args.start c.args.count
free_of g c = subst (λ (state : ClaimState g.row.B.Denot). IsFree state c.args.start c.args.count) (sym c.self.view_is) c.in-Ok.ensures.free.1

may_of : (g : Over) (c : In-Ok g) → MayStand c.self.inside.total c.self.inside.claims.items c.in-Ok.span
may_of g c = may_stand (state_of c.self.inside.journal c.self.inside.total c.self.inside.claims.items) c.args.start c.args.count c.in-Ok.span c.in-Ok.ensures.free.0 c.requires (free_of g c)

pub returns-in-Err-clause-read : goal.returns-in-Err-clause-read
returns-in-Err-clause-read g c = rw (← c.self.view_is) (reads_still g.B.Disk.state c.self.inside.journal _ _ c.self.invariant _)

pub returns-in_default-clause-read : goal.returns-in_default-clause-read
returns-in_default-clause-read g c = rw (← c.self.view_is) (reads_still g.B.Disk.state c.self.inside.journal _ _ c.self.invariant _)

pub returns-in-Err-clause-any_moment : goal.returns-in-Err-clause-any_moment
returns-in-Err-clause-any_moment g c = rw (← c.self.view_is)
    (still g.B.Disk.state c.self.inside.journal _ _ c.self.invariant _ (g.met.B.Disk.only_now c.self.inside.journal.disk))

pub returns-in_default-clause-any_moment : goal.returns-in_default-clause-any_moment
returns-in_default-clause-any_moment g c = rw (← c.self.view_is)
    (still g.B.Disk.state c.self.inside.journal _ _ c.self.invariant _ (g.met.B.Disk.only_now c.self.inside.journal.disk))

-- a span was written among the ranges
module _ (g : Over) (c : After-write_span g) (may : MayStand c.self.inside.total c.self.inside.claims.items c.in-Ok.span) where
  ranges : c.deref-2.result.now ≡ with_span c.in-Ok.span c.self.inside.claims.items
  ranges = c.deref-2.ensures.value ∙ c.in-Ok-ranges_with.ensures ∙ ap (with_span c.in-Ok.span) c.deref.ensures.value

  told : c.self.inside.journal.fault ≡ 0 → c.self.inside.total < 2 ^ 64 - 1 → (bytes : List ℕ) → (g.B.Disk.state c.self.inside.journal.disk).content ≡ Some bytes
      → IfSome (g.B.Disk.state c.write_span.new.journal.disk).content
      (SaysOldOrNewClaims c.self.inside.total c.self.inside.journal.begin c.self.inside.journal.slots c.self.inside.claims.items c.in-Ok.span)
  told whole =
      reads g.B.Disk.state c.self.inside.journal c.self.inside.total c.self.inside.claims.items c.self.invariant c.in-Ok.span may whole
      c.write_span.new.journal c.write_span.ensures.begin c.write_span.ensures.slots c.deref-2.result.now ranges c.write_span.ensures.read

  left : c.self.inside.journal.fault ≡ 0 → c.self.inside.total < 2 ^ 64 - 1 → (bytes : List ℕ) → (g.B.Disk.state c.self.inside.journal.disk).content ≡ Some bytes
      → LeavesOnly (g.B.Disk.state c.self.inside.journal.disk) (g.B.Disk.state c.write_span.new.journal.disk)
      (SaysOldOrNewClaims c.self.inside.total c.self.inside.journal.begin c.self.inside.journal.slots c.self.inside.claims.items c.in-Ok.span)
  left whole =
      leaves g.B.Disk.state c.self.inside.journal c.self.inside.total c.self.inside.claims.items c.self.invariant c.in-Ok.span may whole
      c.write_span.new.journal c.write_span.ensures.begin c.write_span.ensures.slots c.deref-2.result.now ranges c.write_span.ensures.any_moment

pub invariant_of-self : goal.invariant_of-self
invariant_of-self g c =
    let was = c.self.inside in
    let e = c.in-Ok-write_span.ensures in
    let at = goal.at.invariant_of-self g c in
    subst (λ (l : List Span). IsStoreKept g.B.Disk.state c.write_span.new.journal was.total l) c.deref-2.ensures.value
    (claimed g.B.Disk.state was.journal was.total was.claims.items c.self.invariant c.in-Ok.span (may_of g at.In-Ok) (free_of g at.In-Ok).whole
    c.write_span.new.journal e.begin e.slots _ e.changes.content c.deref-2.result.now (ranges g at.After-write_span (may_of g at.In-Ok))
    e.recovered e.generation e.used e.fault e.durable)

pub invariant_of-self-in-Err-write_span : goal.invariant_of-self-in-Err-write_span
invariant_of-self-in-Err-write_span g c =
    let was = c.self.inside in
    let e = c.in-Err-write_span.ensures in
    let at = goal.at.invariant_of-self-in-Err-write_span g c in
    refused g.B.Disk.state was.journal was.total was.claims.items c.self.invariant c.in-Ok.span (may_of g at.In-Ok) (free_of g at.In-Ok).whole
    c.write_span.new.journal e.begin e.slots _ e.changes.content c.deref-2.result.now (ranges g at.After-write_span (may_of g at.In-Ok))
    e.cause.2 e.used_kept e.any_moment e.read (g.met.B.Disk.counts_now c.write_span.new.journal.disk)

pub returns-in-Ok-write_span-clause-read : goal.returns-in-Ok-write_span-clause-read
returns-in-Ok-write_span-clause-read g c = rw (← c.self.view_is, ← c.in-Ok.ensures.free.0) (told g (goal.at.returns-in-Ok-write_span-clause-read g c).After-write_span (may_of g (goal.at.returns-in-Ok-write_span-clause-read g c).In-Ok))

pub returns-in-Err-write_span-clause-read : goal.returns-in-Err-write_span-clause-read
returns-in-Err-write_span-clause-read g c = rw (← c.self.view_is, ← c.in-Ok.ensures.free.0) (told g (goal.at.returns-in-Err-write_span-clause-read g c).After-write_span (may_of g (goal.at.returns-in-Err-write_span-clause-read g c).In-Ok))

pub returns-in-Ok-write_span-clause-claimed : goal.returns-in-Ok-write_span-clause-claimed
returns-in-Ok-write_span-clause-claimed g c =
    let was = c.self.inside in
    let i = c.self.invariant in
    let before = (goal.at.returns-in-Ok-write_span-clause-claimed g c).In-Ok in
    let ranges : c.in-Ok-ranges_with.claims.items ≡ with_span c.in-Ok.span was.claims.items =
    c.in-Ok-ranges_with.ensures ∙ ap (with_span c.in-Ok.span) c.deref.ensures.value in
    rw (← c.self.view_is, ranges) (with_merged was.total was.claims.items c.in-Ok.span i.sound i.rising (may_of g before))

pub returns-in-Ok-write_span-clause-durable : goal.returns-in-Ok-write_span-clause-durable
returns-in-Ok-write_span-clause-durable g c = rw (← c.self.view_is)
    (λ small. durable_of g.B.Disk.state c.write_span.new.journal c.self.inside.total c.in-Ok-ranges_with.claims.items (invariant_of-self g c) c.in-Ok-write_span.ensures.fault small)

pub returns-in-Ok-write_span-clause-any_moment : goal.returns-in-Ok-write_span-clause-any_moment
returns-in-Ok-write_span-clause-any_moment g c = rw (← c.self.view_is, ← c.in-Ok.ensures.free.0) (left g (goal.at.returns-in-Ok-write_span-clause-any_moment g c).After-write_span (may_of g (goal.at.returns-in-Ok-write_span-clause-any_moment g c).In-Ok))

pub returns-in-Err-write_span-clause-any_moment : goal.returns-in-Err-write_span-clause-any_moment
returns-in-Err-write_span-clause-any_moment g c = rw (← c.self.view_is, ← c.in-Ok.ensures.free.0) (left g (goal.at.returns-in-Err-write_span-clause-any_moment g c).After-write_span (may_of g (goal.at.returns-in-Err-write_span-clause-any_moment g c).In-Ok))
