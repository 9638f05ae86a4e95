use Rattle.std.proofs.Common.{sym, ◌∙◌, subst}
use Rattle.lease_journal.specs.OneAreas.{FindsOneArea, IsBounded}
use Rattle.lease_journal.proofs.Moments.{stays_then}
use Rattle.lease_journal.proofs.Scanning.{says_slots}
use Rattle.journal_migration.proofs.BehindIt.{moves_after, room_of}
use Rattle.journal_migration.proofs.migrate.Goals as goal

pub move_on-requires : goal.move_on-requires
move_on-requires g c =
    let bounded = subst (IsBounded c.args.kind c.args.total) c.in-Ok-Here.field-0-is c.in-Ok-Here.ensures.bounded in
    record {
      bounded = bounded.0;
      within = bounded.1;
      may_be = bounded.2;
      read = bounded.3;
      stands = λ bytes is.
          subst (FindsOneArea c.args.kind c.args.id.now c.args.total bytes) c.in-Ok-Here.field-0-is
          (c.in-Ok-Here.ensures.found bytes (sym c.read_one_area.ensures.stays.content ∙ is));
      synced = c.in-Ok-Here.ensures.durable;
      room = room_of (g.B.Disk.state c.read_one_area.new.disk).room _ (λ size is.
          c.requires.room size (sym c.read_one_area.ensures.stays.room ∙ is) c.in-Ok-Here.slots
          (says_slots (g.B.Disk.state c.args.disk.now).content c.in-Ok-Here.slots bounded.0
          (λ bytes there. (subst (FindsOneArea c.args.kind c.args.id.now c.args.total bytes) c.in-Ok-Here.field-0-is (c.in-Ok-Here.ensures.found bytes there)).slots_are)));
    }

pub returns-in-Ok-clause-moves : goal.returns-in-Ok-clause-moves
returns-in-Ok-clause-moves g c = λ bytes is.
    moves_after c.args.kind c.args.id.now c.args.total bytes (g.met.B.Disk.counts_now c.args.disk.now) (g.met.B.Disk.only_now c.args.disk.now)
    c.read_one_area.ensures.stays (c.move_on.ensures.moves bytes (c.read_one_area.ensures.stays.content ∙ is))

pub returns-in-Err-move_on-clause-moves : goal.returns-in-Err-move_on-clause-moves
returns-in-Err-move_on-clause-moves g c = λ bytes is.
    moves_after c.args.kind c.args.id.now c.args.total bytes (g.met.B.Disk.counts_now c.args.disk.now) (g.met.B.Disk.only_now c.args.disk.now)
    c.read_one_area.ensures.stays (c.move_on.ensures.moves bytes (c.read_one_area.ensures.stays.content ∙ is))

pub returns-in-Err-move_on-clause-refused : goal.returns-in-Err-move_on-clause-refused
returns-in-Err-move_on-clause-refused g c = λ other.
    stays_then (g.met.B.Disk.counts_now c.args.disk.now) c.read_one_area.ensures.stays (c.in-Err-move_on.ensures.refused other)
