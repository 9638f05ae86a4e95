use Rattle.std.proofs.Common.{sym, ◌∙◌, subst}
use Rattle.lease_journal.specs.Journals.{IsFirstBad, AreUsed}
use Rattle.lease_journal.proofs.Scanning.{not_cut}
use Rattle.lease_journal.proofs.Moments.{stays_then}
use Rattle.lease_journal.proofs.one_area.read_one_area.Goals as goal

pub returns-in-Some-clause-cause : goal.returns-in-Some-clause-cause
returns-in-Some-clause-cause g c = λ bytes is.
    let header = c.in-Ok.ensures.header bytes (c.sync.ensures.stays.content ∙ is) in
    let there = c.read_header.ensures.stays.content ∙ c.sync.ensures.stays.content ∙ is in
    let used = c.in-Ok-read_slots.scan.used in
    let are = subst (λ n. AreUsed 64 n used bytes) header.0 (c.in-Ok-read_slots.ensures.used bytes there) in
    let bad = subst (λ o. IsFirstBad c.args.kind c.args.total 64 bytes used o) c.in-Some.is (c.in-Ok-read_slots.ensures.scanned bytes there).first_bad in
    (header.2, sym header.1 ∙ c.if-is_moved.false, not_cut 64 _ used bytes are, used, are, bad)

pub returns-clause-found : goal.returns-clause-found
returns-clause-found g c = λ bytes is.
    let header = c.in-Ok.ensures.header bytes (c.sync.ensures.stays.content ∙ is) in
    let there = c.read_header.ensures.stays.content ∙ c.sync.ensures.stays.content ∙ is in
    let scanned = c.in-Ok-read_slots.ensures.scanned bytes there in
    record {
      header = header.2;
      here = sym header.1 ∙ c.if-is_moved.false;
      slots_are = header.0;
      slots_used = c.in-Ok-read_slots.ensures.used bytes there;
      last_is = scanned.last_is;
      sound = subst (λ o. IsFirstBad c.args.kind c.args.total 64 bytes c.in-Ok-read_slots.scan.used o) c.in_default-bad.is scanned.first_bad;
    }

pub returns-then-is_moved-clause-stays : goal.returns-then-is_moved-clause-stays
returns-then-is_moved-clause-stays g c = stays_then (g.met.B.Disk.counts_now c.args.disk.now) c.sync.ensures.stays c.read_header.ensures.stays

pub returns-in-Err-read_slots-clause-stays : goal.returns-in-Err-read_slots-clause-stays
returns-in-Err-read_slots-clause-stays g c = stays_then (g.met.B.Disk.counts_now c.args.disk.now) c.sync.ensures.stays (stays_then (g.met.B.Disk.counts_now c.sync.new.self) c.read_header.ensures.stays c.read_slots.ensures.stays)

pub returns-in-Some-clause-stays : goal.returns-in-Some-clause-stays
returns-in-Some-clause-stays g c = stays_then (g.met.B.Disk.counts_now c.args.disk.now) c.sync.ensures.stays (stays_then (g.met.B.Disk.counts_now c.sync.new.self) c.read_header.ensures.stays c.read_slots.ensures.stays)

pub returns-clause-stays : goal.returns-clause-stays
returns-clause-stays g c = stays_then (g.met.B.Disk.counts_now c.args.disk.now) c.sync.ensures.stays (stays_then (g.met.B.Disk.counts_now c.sync.new.self) c.read_header.ensures.stays c.read_slots.ensures.stays)
