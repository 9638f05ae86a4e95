use Rattle.std.proofs.Common.{◌≡◌, ℕ, true, false, ap, sym, ◌∙◌, arith, rules}
use Rattle.lease_journal.specs.Twins.{area_at}
use Rattle.twin_journal.specs.States.{TwinState}
use Rattle.lease_journal.proofs.Moments.{stays_then}
use Rattle.claim_store.specs.Claims.{claim_at, first_claims, may_follow}
use Rattle.claim_store.specs.Ranges.{with_span}
use Rattle.claim_store.proofs.Claiming.{with_merged, with_sound}
use Rattle.claim_store.proofs.Joining.{with_length}
use Rattle.claim_store.proofs.SlotBySlot.{follows_same, one_read, stands_after}
use Rattle.claim_store.proofs.reading.read_claims.Goals as goal

pub loop-slot-preserved : goal.loop-slot-preserved
loop-slot-preserved g c =
    let i = c.loop-slot.invariant in
    let e = c.in-Ok.ensures in
    let claim = c.in-Ok.claim in
    let ranges = c.loop-slot.ranges.items in
    let old = c.args.journal.now in
    let new = c.read_claim.new.journal in
    let added : c.add_span.new.ranges.items ≡ with_span claim ranges = search rules in
    let may : may_follow c.args.total ranges claim ≡ true = search rules in
    let stands = stands_after c.args.total ranges claim may in
    let area : area_at c.loop-slot.journal.begin c.loop-slot.journal.slots c.loop-slot.journal.second ≡ area_at old.begin old.slots old.second =
    ap (λ (j : TwinState g.row.B.Denot). area_at j.begin j.slots j.second) i.state in
    record {
      whole = c.in-Ok.ensures.fault;
      state = c.read_claim.ensures.state ∙ ap (λ (j : TwinState g.row.B.Denot). record j { disk = new.disk; fault = new.fault }) i.state;
      stays = stays_then (g.met.B.Disk.counts_now old.disk) i.stays c.read_claim.ensures.stays;
      faults = e.count.done ∙ i.faults;
      few = rw added (omega (arith, with_length claim ranges, i.few));
      rising = rw added (with_merged c.args.total ranges claim i.sound i.rising stands).rising;
      sound = rw added (with_sound c.args.total ranges claim i.sound i.rising stands);
      read = λ bytes is.
          let here : claim ≡ claim_at (area_at old.begin old.slots old.second) bytes c.loop-slot.slot =
          e.claim bytes (i.stays.content ∙ is) ∙ ap (λ n. claim_at n bytes c.loop-slot.slot) area in
          rw added (one_read c.args.total (area_at old.begin old.slots old.second) c.loop-slot.slot ranges bytes claim (i.read bytes is) i.rising may here);
    }

pub returns-then-not-may_follow-clause-cause : goal.returns-then-not-may_follow-clause-cause
returns-then-not-may_follow-clause-cause g c = λ bytes is.
    let i = c.loop-slot.invariant in
    let claim = c.in-Ok.claim in
    let ranges = c.loop-slot.ranges.items in
    let old = c.args.journal.now in
    let at : ℕ = area_at old.begin old.slots old.second in
    let not_may : may_follow c.args.total ranges claim ≡ false = search rules in
    let area : area_at c.loop-slot.journal.begin c.loop-slot.journal.slots c.loop-slot.journal.second ≡ at =
    ap (λ (j : TwinState g.row.B.Denot). area_at j.begin j.slots j.second) i.state in
    let here : claim ≡ claim_at at bytes c.loop-slot.slot =
    c.in-Ok.ensures.claim bytes (i.stays.content ∙ is) ∙ ap (λ n. claim_at n bytes c.loop-slot.slot) area in
    let read = i.read bytes is in (
      search rules,
      read.sound,
      ap (may_follow c.args.total (first_claims at c.loop-slot.slot bytes)) (sym here)
          ∙ follows_same c.args.total (first_claims at c.loop-slot.slot bytes) ranges claim read.sound read.merged
          ∙ not_may,
    )
