use Rattle.std.proofs.Common.{◌≡◌, ◌+◌, ◌*◌, ◌≤◌, ℕ, true, false, length, ap, sym, ◌∙◌, arith, rules}
use Rattle.lease_core.specs.Spans.{span}
use Rattle.lease_journal.proofs.Moments.{stays_then}
use Rattle.claim_store.specs.Claims.{claim_at, first_claims, may_follow}
use Rattle.claim_store.specs.Ranges.{with_span}
use Rattle.claim_store.proofs.Claiming.{with_merged, with_sound}
use Rattle.claim_store.proofs.Joining.{with_length}
use Rattle.claim_store.proofs.SlotBySlot.{follows_same, one_read, stands_after}
use Rattle.journal_migration.proofs.reading.read_claims.Goals as goal

pub loop-slot-preserved : goal.loop-slot-preserved
loop-slot-preserved g c =
    let i = c.loop-slot.invariant in
    let claim = span c.in-Ok.start c.in-Ok.end in
    let ranges = c.loop-slot.ranges.items in
    let added : c.add_span.new.ranges.items ≡ with_span claim ranges = search rules in
    let may : may_follow c.args.total ranges claim ≡ true = search rules in
    let stands = stands_after c.args.total ranges claim may in
    record {
      stays = stays_then (g.met.B.Disk.counts_now c.args.disk.now) i.stays c.read_body.ensures.stays;
      faults = c.in-Ok.ensures.cause.done ∙ i.faults;
      few = rw added (omega (arith, with_length claim ranges, i.few));
      rising = rw added (with_merged c.args.total ranges claim i.sound i.rising stands).rising;
      sound = rw added (with_sound c.args.total ranges claim i.sound i.rising stands);
      read = λ bytes is.
          let inside : 64 + 32 * c.loop-slot.slot + 16 ≤ length bytes = omega (arith, c.requires.inside bytes is, c.loop-slot-test.true) in
          let body = c.in-Ok.ensures.body bytes (i.stays.content ∙ is) inside in
          let here : claim ≡ claim_at 64 bytes c.loop-slot.slot = ap (λ (b : ℕ × ℕ). span b.0 b.1) body in
          rw added (one_read c.args.total 64 c.loop-slot.slot ranges bytes claim (i.read bytes is) i.rising may here);
    }

pub returns-then-not-may_follow-clause-cause : goal.returns-then-not-may_follow-clause-cause
returns-then-not-may_follow-clause-cause g c = λ bytes is.
    let i = c.loop-slot.invariant in
    let claim = span c.in-Ok.start c.in-Ok.end in
    let ranges = c.loop-slot.ranges.items in
    let not_may : may_follow c.args.total ranges claim ≡ false = search rules in
    let inside : 64 + 32 * c.loop-slot.slot + 16 ≤ length bytes = omega (arith, c.requires.inside bytes is, c.loop-slot-test.true) in
    let body = c.in-Ok.ensures.body bytes (i.stays.content ∙ is) inside in
    let here : claim ≡ claim_at 64 bytes c.loop-slot.slot = ap (λ (b : ℕ × ℕ). span b.0 b.1) body in
    let read = i.read bytes is in (
      search rules,
      read.sound,
      ap (may_follow c.args.total (first_claims 64 c.loop-slot.slot bytes)) (sym here)
          ∙ follows_same c.args.total (first_claims 64 c.loop-slot.slot bytes) ranges claim read.sound read.merged
          ∙ not_may,
    )
