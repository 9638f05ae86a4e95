use Rattle.std.proofs.Common.{◌≡◌, ◌<◌, IfSome, ◌+◌, ap, sym, ◌∙◌, subst, arith}
use Rattle.lease_journal.specs.Journals.{keeps_rule}
use Rattle.lease_journal.specs.Scans.{next_bad}
use Rattle.lease_journal.specs.Causes.{IsScanned, SlotSays}
use Rattle.lease_journal.proofs.Scanning.{next_starts, scan_more, scan_cause, used_to_closed, used_to_end, bad_before, none_bad, read_more}
use Rattle.lease_journal.proofs.Moments.{stays_then}
use Rattle.lease_journal.proofs.area.read_slots.Goals as goal

pub read_slot-requires-clause-starts : goal.read_slot-requires-clause-starts
read_slot-requires-clause-starts g c = λ bytes is.
    let was = sym c.loop-used.invariant.stays.content ∙ is in
    next_starts c.args.at c.loop-used.used bytes (c.requires.starts bytes was) (c.loop-used.invariant.scanned bytes was).opened

pub returns-in-Err-clause-cause : goal.returns-in-Err-clause-cause
returns-in-Err-clause-cause g c = λ bytes is.
    scan_cause c.args.at c.args.slots c.loop-used.used bytes c.in-Err.fault c.loop-used-test.true (c.loop-used.invariant.scanned bytes is).opened
    (c.in-Err.ensures.cause bytes (c.loop-used.invariant.stays.content ∙ is))

pub returns-in-Ok-None-clause-used : goal.returns-in-Ok-None-clause-used
returns-in-Ok-None-clause-used g c = λ bytes is.
    used_to_closed c.args.at c.args.slots c.loop-used.used bytes c.loop-used-test.true (c.loop-used.invariant.scanned bytes is).opened
    (subst (λ o. SlotSays c.args.at bytes c.loop-used.used o) c.in-Ok-None.field-0-is (c.in-Ok-None.ensures.says bytes (c.loop-used.invariant.stays.content ∙ is)))

pub returns-clause-used : goal.returns-clause-used
returns-clause-used g c = λ bytes is.
    used_to_end c.args.at c.args.slots c.loop-used.used bytes c.loop-used.invariant.used c.loop-used-test.false (c.loop-used.invariant.scanned bytes is).opened

pub loop-used-preserved : goal.loop-used-preserved
loop-used-preserved g c = record {
  used = omega (arith, c.loop-used-test.true);
  stays =
      stays_then (g.met.B.Disk.counts_now c.args.disk.now) c.loop-used.invariant.stays c.read_slot.ensures.stays;
  count = c.in-Ok-Some.ensures.count.done ∙ c.loop-used.invariant.count;
  scanned = λ bytes is.
      let says = subst (λ o. SlotSays c.args.at bytes c.loop-used.used o) c.in-Ok-Some.field-0-is (c.in-Ok-Some.ensures.says bytes (c.loop-used.invariant.stays.content ∙ is)) in
      let same : next_bad c.loop-used.bad (keeps_rule c.args.kind c.args.total c.loop-used.last.0 c.in-Ok-Some.body) c.loop-used.used ≡ c.next_bad-bad.result =
      sym (c.next_bad-bad.ensures ∙ ap (λ k. next_bad c.loop-used.bad k c.loop-used.used) c.keeps_rule.ensures) in
      subst (λ bad. IsScanned c.args.kind c.args.total c.args.at (c.loop-used.used + 1) c.in-Ok-Some.body bad bytes) same
      (scan_more c.args.at c.args.kind c.args.total c.loop-used.used c.loop-used.last c.in-Ok-Some.body c.loop-used.bad bytes (c.loop-used.invariant.scanned bytes is) says.0 says.1);
  bad = subst (λ o. IfSome o (λ slot. slot < c.loop-used.used + 1)) (sym c.next_bad-bad.ensures)
      (bad_before c.loop-used.bad c.keeps_rule.result c.loop-used.used c.loop-used.invariant.bad);
  read = λ none.
      let both = none_bad c.loop-used.bad c.keeps_rule.result c.loop-used.used (sym c.next_bad-bad.ensures ∙ none) in
      read_more c.args.kind c.args.total c.loop-used.used c.loop-used.last c.in-Ok-Some.body (c.loop-used.invariant.read both.0) (sym c.keeps_rule.ensures ∙ both.1);
}
