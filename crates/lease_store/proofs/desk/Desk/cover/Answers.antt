use Rattle.std.proofs.Common.{◌≡◌, ◌<◌, ap, sym, ◌∙◌, subst, arith, rules}
use Rattle.zk_port.specs.Counts.{Rose}
use Rattle.zk_port.specs.Disks.{LeavesOnly}
use Rattle.lease_journal.specs.declared.fault.JournalFault.TheVariants.{Device}
use Rattle.lease_journal.proofs.Moments.{started}
use Rattle.lease_store.specs.Ceilings.{FindsCeiling}
use Rattle.lease_store.specs.Raising.{are_all_used}
use Rattle.lease_store.specs.States.{IsDeskOf}
use Rattle.lease_store.proofs.Closing.{found_of}
use Rattle.lease_store.proofs.Covering.{few_named, not_device, raise_leaves, raised, refused, unchanged}
use Rattle.lease_store.proofs.Keeping.{desk_stores}
use Rattle.lease_store.proofs.Rounding.{rounded_to}
use Rattle.lease_store.proofs.desk.Desk.cover.Goals as goal

pub invariant_of-self : goal.invariant_of-self
invariant_of-self g c =
    let old = c.self.inside.seat.keeper.journal in
    let e = c.in-Ok.ensures.moves.0 in
    let under : c.self.inside.seat.keeper.journal.last.0 < c.args.end = search rules in
    let same = c.in-Ok.ensures.moves.1 in
    rw c.raise.ensures.keeper (record {
      few = omega (arith, same, c.self.invariant.few);
      total_is = same ∙ c.self.invariant.total_is;
      own = c.raise.ensures.own ∙ c.requires.own;
      named = rw (c.raise.ensures.raised, c.in-Ok.ensures.seat) (c.in-Ok.ensures.named ∙ c.self.invariant.named);
      made = rw (c.raise.ensures.raised, c.in-Ok.ensures.seat) c.self.invariant.made;
      kept = rw (c.raise.ensures.raised, c.in-Ok.ensures.seat)
          (raised g.B.Disk.state g.N.LeaseName.start g.N.LeaseName.id g.N.LeaseName.total g.N.LeaseName.base old c.self.inside.seat.seat.me.0
          c.self.invariant.kept (few_named _ _ c.self.invariant.total_is c.self.invariant.few) c.args.end c.ceiling_for-ceiling.result
          (rounded_to g.N.LeaseName.total c.args.end old.last.0 _ _ c.ceiling_for-ceiling.ensures (ap (λ k. k.total) c.keeper-2.ensures ∙ c.self.invariant.total_is) c.requires.within under)
          e.served (are_all_used old) c.store.new.self.keeper.journal e.changes e.any_moment e.state_is e.recovered e.durable e.faults);
      never = λ sure. search rules;
    })

pub invariant_of-self-then-eq : goal.invariant_of-self-then-eq
invariant_of-self-then-eq g c =
    let old = c.self.inside.seat.keeper.journal in
    let e = c.in-Err.ensures.moves.0 in
    let under : c.self.inside.seat.keeper.journal.last.0 < c.args.end = search rules in
    let free : c.self.inside.seat.keeper.journal.fault ≡ 0 = search rules in
    let rose : Rose (g.B.Disk.state c.self.inside.seat.keeper.journal.disk).faults (g.B.Disk.state c.store.new.self.keeper.journal.disk).faults = search rules in
    let is : c.store.new.self.keeper.journal.fault ≡ (g.B.Disk.state c.store.new.self.keeper.journal.disk).faults = search rules in
    let some : 0 < c.store.new.self.keeper.journal.fault = search rules in
    let same = c.in-Err.ensures.moves.1 in
    rw c.mark.ensures.keeper (record {
      few = omega (arith, same, c.self.invariant.few);
      total_is = same ∙ c.self.invariant.total_is;
      own = c.mark.ensures.own ∙ c.requires.own;
      named = rw (c.mark.ensures.marked, c.in-Err.ensures.seat) (c.in-Err.ensures.named ∙ c.self.invariant.named);
      made = rw (c.mark.ensures.marked, c.in-Err.ensures.seat) c.self.invariant.made;
      kept = rw (c.mark.ensures.marked, c.fault-first.ensures, c.keeper-then-eq.ensures, c.in-Err.ensures.seat)
          (refused g.B.Disk.state g.N.LeaseName.start g.N.LeaseName.id g.N.LeaseName.total g.N.LeaseName.base old c.self.inside.seat.seat.me.0
          c.self.invariant.kept (few_named _ _ c.self.invariant.total_is c.self.invariant.few) c.args.end c.ceiling_for-ceiling.result
          (rounded_to g.N.LeaseName.total c.args.end old.last.0 _ _ c.ceiling_for-ceiling.ensures (ap (λ k. k.total) c.keeper-2.ensures ∙ c.self.invariant.total_is) c.requires.within under)
          free (are_all_used old) c.store.new.self.keeper.journal e.changes e.any_moment e.state_kept e.read
          (g.met.B.Disk.counts_now c.store.new.self.keeper.journal.disk) e.faults_grow rose is some);
      never = λ sure. absurd (omega (arith, sure.1, sure.2 c.self.inside.seat.keeper.journal.disk, sure.2 c.store.new.self.keeper.journal.disk, rose));
    })

pub invariant_of-self-else-eq : goal.invariant_of-self-else-eq
invariant_of-self-else-eq g c =
    let e = c.in-Err.ensures.moves.0 in
    let other : c.in-Err.fault ≡ Device → ⊥ = search rules in
    let kept = not_device _ _ _ _ c.in-Err.fault e.cause other in
    rw (c.in-Err.ensures.seat, c.in-Err.ensures.moves.1, c.in-Err.ensures.named)
    (subst (λ t. IsDeskOf {D = g.row.B.Denot} g.B.Disk.state g.N.LeaseName.table g.N.LeaseName.total g.N.LeaseName.passes g.N.LeaseName.base g.N.LeaseName.id
    g.N.LeaseName.start c.self.inside.seat.seat.table_id t c.self.inside.seat.keeper.id c.self.inside.seat.keeper.total c.self.inside.seat.seat.me.0)
    (sym (unchanged c.self.inside.seat.keeper.journal c.store.new.self.keeper.journal e.state_kept (e.unserved kept) kept)) c.self.invariant)

pub returns-in-Ok-clause-any_moment : goal.returns-in-Ok-clause-any_moment
returns-in-Ok-clause-any_moment g c =
    let old = c.self.inside.seat.keeper.journal in
    let e = c.in-Ok.ensures.moves.0 in
    let under : c.self.inside.seat.keeper.journal.last.0 < c.args.end = search rules in
    rw (c.raise.ensures.keeper, ← c.self.view_is, c.self.invariant.kept.ceiling)
    (raise_leaves g.B.Disk.state g.N.LeaseName.start g.N.LeaseName.id g.N.LeaseName.total g.N.LeaseName.base old c.self.inside.seat.seat.me.0
    c.self.invariant.kept (few_named _ _ c.self.invariant.total_is c.self.invariant.few) c.args.end c.ceiling_for-ceiling.result
    (rounded_to g.N.LeaseName.total c.args.end old.last.0 _ _ c.ceiling_for-ceiling.ensures (ap (λ k. k.total) c.keeper-2.ensures ∙ c.self.invariant.total_is) c.requires.within under)
    e.served (are_all_used old) c.store.new.self.keeper.journal e.changes e.any_moment)

pub returns-then-eq-clause-any_moment : goal.returns-then-eq-clause-any_moment
returns-then-eq-clause-any_moment g c =
    let old = c.self.inside.seat.keeper.journal in
    let e = c.in-Err.ensures.moves.0 in
    let under : c.self.inside.seat.keeper.journal.last.0 < c.args.end = search rules in
    let free : c.self.inside.seat.keeper.journal.fault ≡ 0 = search rules in
    rw (c.mark.ensures.keeper, ← c.self.view_is, c.self.invariant.kept.ceiling)
    (raise_leaves g.B.Disk.state g.N.LeaseName.start g.N.LeaseName.id g.N.LeaseName.total g.N.LeaseName.base old c.self.inside.seat.seat.me.0
    c.self.invariant.kept (few_named _ _ c.self.invariant.total_is c.self.invariant.few) c.args.end c.ceiling_for-ceiling.result
    (rounded_to g.N.LeaseName.total c.args.end old.last.0 _ _ c.ceiling_for-ceiling.ensures (ap (λ k. k.total) c.keeper-2.ensures ∙ c.self.invariant.total_is) c.requires.within under)
    free (are_all_used old) c.store.new.self.keeper.journal e.changes e.any_moment)

pub returns-else-eq-clause-any_moment : goal.returns-else-eq-clause-any_moment
returns-else-eq-clause-any_moment g c =
    let old = c.self.inside.seat.keeper.journal in
    let desk = c.self.invariant.kept in
    let e = c.in-Err.ensures.moves.0 in
    let other : c.in-Err.fault ≡ Device → ⊥ = search rules in
    let same = e.unserved (not_device _ _ _ _ c.in-Err.fault e.cause other) in
    rw (← c.self.view_is, desk.ceiling) (λ first begun.
    subst (λ d. LeavesOnly (g.B.Disk.state old.disk) (g.B.Disk.state d) (FindsCeiling g.N.LeaseName.id g.N.LeaseName.total old.last.0 first)) (sym same)
    (started (g.B.Disk.state old.disk) (λ image left. desk.durable first begun image (g.met.B.Disk.only_now old.disk image left))))

pub returns-in-Ok-clause-found : goal.returns-in-Ok-clause-found
returns-in-Ok-clause-found g c = found_of _ _ _ _ _ _ _ (invariant_of-self g c).kept

pub returns-then-eq-clause-found : goal.returns-then-eq-clause-found
returns-then-eq-clause-found g c = found_of _ _ _ _ _ _ _ (invariant_of-self-then-eq g c).kept

pub returns-else-eq-clause-found : goal.returns-else-eq-clause-found
returns-else-eq-clause-found g c = found_of _ _ _ _ _ _ _ (invariant_of-self-else-eq g c).kept

-- the ceiling is stored before it is shown
pub raise-requires-clause-stored : goal.raise-requires-clause-stored
raise-requires-clause-stored g c =
    let k = c.self.inside.seat.keeper in
    c.in-Ok.ensures.stored k.journal.last.0
    (desk_stores g.B.Disk.state g.N.LeaseName.start g.N.LeaseName.id k.total g.N.LeaseName.total g.N.LeaseName.base k.journal c.self.inside.seat.seat.me.0
    c.self.invariant.total_is c.self.invariant.kept c.self.invariant.few)

-- by the journal whose id the words know
pub raise-requires-clause-named : goal.raise-requires-clause-named
raise-requires-clause-named g c = rw c.in-Ok.ensures.seat (c.in-Ok.ensures.named ∙ c.self.invariant.named)
