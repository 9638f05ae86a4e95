use Rattle.std.proofs.Common.{refl, sym, ◌∙◌, subst}
use Rattle.zk_port.specs.Images.{Only}
use Rattle.lease_journal.specs.Twins.{area_at}
use Rattle.lease_journal.proofs.Putting.{length-first}
use Rattle.twin_journal.proofs.Opening.{area_found, says_twin_slots, twin_recovered}
use Rattle.twin_journal.proofs.twin.Twin.start.Goals as goal

pub invariant_of-result : goal.invariant_of-result
invariant_of-result g c =
    let found = c.in-Ok.field-0 in
    record {
      low = c.in-Ok.ensures.low;
      few = c.in-Ok.ensures.bounded;
      within = c.in-Ok.ensures.within;
      has_room = λ size is.
          c.requires.room size (sym c.open.ensures.stays.room ∙ is) found.begin found.slots
          (says_twin_slots c.args.kind (g.B.Disk.state c.args.disk).content found.begin found.slots c.in-Ok.ensures.low c.in-Ok.ensures.bounded (λ bytes there.
          (sym (c.in-Ok.ensures.holds bytes there).begins, sym (c.in-Ok.ensures.opened bytes there).stands.says)));
      full = λ bytes is. (c.in-Ok.ensures.opened bytes (sym c.open.ensures.stays.content ∙ is)).stands.full;
      only = λ bytes sound is. subst (λ o. Only o (g.B.Disk.state c.open.new.disk).images) is c.in-Ok.ensures.durable;
    }

pub returns-in-Ok-clause-recovers : goal.returns-in-Ok-clause-recovers
returns-in-Ok-clause-recovers g c = λ bytes is.
    twin_recovered _ _ _ _ _ _ _ _ _ _ bytes (c.in-Ok.ensures.opened bytes is)

pub returns-in-Ok-clause-kept : goal.returns-in-Ok-clause-kept
returns-in-Ok-clause-kept g c = λ bytes is tidy.
    let found = c.in-Ok.field-0 in
    let opened = c.in-Ok.ensures.opened bytes is in
    record {
      sound = refl;
      content = c.open.ensures.stays.content ∙ is;
      count = length-first (area_at found.begin found.slots found.active.second) found.used bytes;
      area = area_found _ _ _ _ _ _ _ _ _ _ bytes opened tidy;
      other_opened = opened.found.opened;
      other_closed = opened.found.closed;
    }
