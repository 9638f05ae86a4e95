use Rattle.std.proofs.Common.{◌∙◌, arith}
use Rattle.lease_journal.proofs.Moments.{stays_then}
use Rattle.twin_journal.proofs.Opening.{units_more}
use Rattle.twin_journal.proofs.starting.claimed_in.Goals as goal

pub loop-slot-preserved : goal.loop-slot-preserved
loop-slot-preserved g c = record {
  stays = stays_then (g.met.B.Disk.counts_now c.args.disk.now) c.loop-slot.invariant.stays c.read_body.ensures.stays;
  count = c.in-Ok.ensures.cause.done ∙ c.loop-slot.invariant.count;
  units = λ bytes is inside.
      let body_is = c.in-Ok.ensures.body bytes (c.loop-slot.invariant.stays.content ∙ is) (omega (arith, inside, c.loop-slot-test.true)) in
      units_more c.args.at c.loop-slot.slot bytes c.in-Ok.body c.loop-slot.units _ body_is (c.loop-slot.invariant.units bytes is inside)
      (omega (arith, c.saturating_add-units.ensures, c.saturating_sub.ensures));
}
