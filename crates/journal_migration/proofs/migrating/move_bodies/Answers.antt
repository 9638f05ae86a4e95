use Rattle.std.proofs.Common.{◌≡◌, ◌+◌, ℕ, List, Some, true, inr, refl, sym, subst, rules}
use Rattle.zk_port.specs.Images.{HasDiskRoom}
use Rattle.lease_journal.specs.Journals.{first_bodies}
use Rattle.journal_migration.specs.Migrations.{SaysOneArea, one_area_end}
use Rattle.lease_journal.specs.Twins.{are_twin_slots, twin_length}
use Rattle.journal_migration.specs.Migrating.{EndsAt, MovesSafely}
use Rattle.journal_migration.proofs.BehindIt.{is_done, moves_on, only_of, says_one_area}
use Rattle.journal_migration.proofs.Onward.{slots_fit}
use Rattle.journal_migration.proofs.migrating.move_bodies.Given.{Over}
use Rattle.journal_migration.proofs.migrating.move_bodies.Goals.{After-move_behind}
use Rattle.journal_migration.proofs.migrating.move_bodies.Goals as goal

pub move_behind-requires-clause-slots : goal.move_behind-requires-clause-slots
move_behind-requires-clause-slots g c =
    let name = c.args.name in
    subst (λ n. are_twin_slots name.kind name.total n ≡ true) (sym c.moved_slots.ensures) (slots_fit name.kind name.total c.args.found.slots c.requires.there.may_be)

pub move_behind-requires-clause-fits : goal.move_behind-requires-clause-fits
move_behind-requires-clause-fits g c =
    subst (λ n. HasDiskRoom (one_area_end c.args.found.slots + twin_length n) (g.B.Disk.state c.args.disk.now).room) (sym c.moved_slots.ensures) c.requires.there.room

module _ (g : Over) (c : After-move_behind g) (bytes : List ℕ) (is : (g.B.Disk.state c.args.disk.now).content ≡ Some bytes) where
  was : SaysOneArea c.args.name.kind c.args.name.id c.args.name.total c.args.found.slots (first_bodies 64 c.args.found.used bytes) bytes
  was = says_one_area c.args.name.kind c.args.name.id c.args.name.total c.args.found.slots c.args.found.used c.args.found.last bytes (c.requires.there.stands bytes is)

  before : EndsAt c.args.name.kind c.args.name.id c.args.name.total (one_area_end c.args.found.slots) c.args.found.slots (first_bodies 64 c.args.found.used bytes) bytes
      (g.B.Disk.state c.args.disk.now)
  before = record { content = is; place = refl; says = was }

  moves : MovesSafely c.args.name.kind c.args.name.id c.args.name.total bytes (g.B.Disk.state c.args.disk.now) (g.B.Disk.state c.move_behind.new.disk)
  moves =
      let name = c.args.name in
      let old = g.B.Disk.state c.args.disk.now in
      let bodies = first_bodies 64 c.args.found.used bytes in
      inr (moves_on name.kind name.id name.total c.args.found.slots c.moved_slots.result bodies (g.F.Bodies.rest c.args.next.now) bytes was (c.requires.same bytes is)
      c.moved_slots.ensures old (g.B.Disk.state c.move_behind.new.disk)
      (c.move_behind.ensures.any_moment c.args.found.slots bodies bytes before (only_of old.content old.images bytes is c.requires.there.synced))
      (λ image later left. g.met.B.Disk.counts_now c.move_behind.new.disk old.moment image later left)
      (c.move_behind.ensures.read c.args.found.slots bodies bytes before))

pub returns-in-Ok : goal.returns-in-Ok
returns-in-Ok g c =
    let at = (goal.at.returns-in-Ok g c).After-move_behind in
    let name = c.args.name in
    record {
      done = λ bytes is.
          is_done name.kind name.id name.total c.args.found.slots c.moved_slots.result (first_bodies 64 c.args.found.used bytes) (g.F.Bodies.rest c.args.next.now) bytes
          (was g at bytes is) (c.requires.same bytes is) c.moved_slots.ensures (g.B.Disk.state c.move_behind.new.disk) c.in-Ok.count c.in-Ok.ensures.used
          (c.in-Ok.ensures.moved c.args.found.slots (first_bodies 64 c.args.found.used bytes) bytes (before g at bytes is)) c.in-Ok.ensures.bytes;
      moves = moves g at;
      refused = tt;
      durable = c.in-Ok.ensures.durable;
      chosen = c.move_behind.ensures.chosen;
      cause = tt;
      faults = search rules;
    }

pub returns-in-Err : goal.returns-in-Err
returns-in-Err g c = record {
  done = tt;
  moves = moves g (goal.at.returns-in-Err g c).After-move_behind;
  refused = λ other. absurd (other refl);
  durable = tt;
  chosen = c.move_behind.ensures.chosen;
  cause = λ bytes is. tt;
  faults = search rules;
}
