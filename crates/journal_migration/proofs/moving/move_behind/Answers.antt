use Rattle.std.proofs.Common.{◌≡◌, ℕ, List, [], ◌∷◌, IfSome, subst, arith}
use Rattle.zk_port.specs.Disks.{LeavesOnly}
use Rattle.journal_migration.specs.Migrations.{SaysEither, one_area_end}
use Rattle.lease_journal.specs.Twins.{twin_length}
use Rattle.lease_journal.specs.Keeps.{ChangesAt}
use Rattle.lease_journal.proofs.Moments.{then_leaves}
use Rattle.twin_journal.specs.Laying.{IsLaid}
use Rattle.twin_journal.proofs.Laid.{all_told}
use Rattle.journal_migration.specs.Migrating.{EndsAt}
use Rattle.journal_migration.proofs.BehindIt.{Standing, gate_done, gate_moments, gate_read, laid_moments, laid_read, standing}
use Rattle.journal_migration.proofs.moving.move_behind.Given.{Over}
use Rattle.journal_migration.proofs.moving.move_behind.Goals.{After-lay, After-store_at}
use Rattle.journal_migration.proofs.moving.move_behind.Goals as goal

-- what the journal behind it changes
changes : (g : Over) (c : After-lay g) (place : ℕ) → c.args.twin.begin ≡ place
    → ChangesAt place (twin_length c.args.twin.slots) (g.B.Disk.state c.args.disk.now) (g.B.Disk.state c.lay.new.disk)
changes g c place is = subst (λ n. ChangesAt n (twin_length c.args.twin.slots) (g.B.Disk.state c.args.disk.now) (g.B.Disk.state c.lay.new.disk)) is c.lay.ensures.changes

-- once it was laid, and whatever became of the gate
module _ (g : Over) (c : After-store_at g) (old_slots : ℕ) (bodies : List (ℕ × ℕ)) (bytes : List ℕ)
    (before : EndsAt c.args.twin.name.kind c.args.twin.name.id c.args.twin.name.total c.args.twin.begin old_slots bodies bytes (g.B.Disk.state c.args.disk.now))
    (laid : ChangesAt (one_area_end old_slots) (twin_length c.args.twin.slots) (g.B.Disk.state c.args.disk.now) (g.B.Disk.state c.lay.new.disk)) where
  stands : Standing c.args.twin.name.kind c.args.twin.name.id c.args.twin.name.total old_slots c.args.twin.slots bodies (g.F.Bodies.rest c.args.next.now) bytes before.says
      (g.B.Disk.state c.lay.new.disk)
  stands = standing c.args.twin.name.kind c.args.twin.name.id c.args.twin.name.total old_slots c.args.twin.slots bodies (g.F.Bodies.rest c.args.next.now) bytes before.says
      (twin_length c.args.twin.slots) (g.B.Disk.state c.args.disk.now) (g.B.Disk.state c.lay.new.disk) before.content laid
      (subst (λ n. IfSome (g.B.Disk.state c.lay.new.disk).content
      (IsLaid c.args.twin.name.kind c.args.twin.name.id c.args.twin.name.total n c.args.twin.slots (g.F.Bodies.rest c.args.next.now))) before.place c.in_ok-used.ensures.laid)
      c.in_ok-used.ensures.durable

  moments : ((image : List ℕ) → (g.B.Disk.state c.args.disk.now).images image → image ≡ bytes)
      → LeavesOnly (g.B.Disk.state c.args.disk.now) (g.B.Disk.state c.store_at.new.disk)
      (SaysEither c.args.twin.name.kind c.args.twin.name.id c.args.twin.name.total old_slots bodies c.args.twin.slots (g.F.Bodies.rest c.args.next.now))
  moments only = then_leaves
      (laid_moments c.args.twin.name.kind c.args.twin.name.id c.args.twin.name.total old_slots c.args.twin.slots bodies (g.F.Bodies.rest c.args.next.now) bytes before.says
      (twin_length c.args.twin.slots) only laid)
      (gate_moments c.args.twin.name.kind c.args.twin.name.id c.args.twin.name.total old_slots c.args.twin.slots bodies (g.F.Bodies.rest c.args.next.now) bytes before.says
      c.requires.sound stands c.store_at.ensures.changes)

  told : IfSome (g.B.Disk.state c.store_at.new.disk).content
      (SaysEither c.args.twin.name.kind c.args.twin.name.id c.args.twin.name.total old_slots bodies c.args.twin.slots (g.F.Bodies.rest c.args.next.now))
  told = gate_read c.args.twin.name.kind c.args.twin.name.id c.args.twin.name.total old_slots c.args.twin.slots bodies (g.F.Bodies.rest c.args.next.now) bytes before.says
      c.requires.sound stands _ c.store_at.ensures.changes.content

pub returns-in_err-used-clause-any_moment : goal.returns-in_err-used-clause-any_moment
returns-in_err-used-clause-any_moment g c = λ old_slots bodies bytes before only.
    laid_moments c.args.twin.name.kind c.args.twin.name.id c.args.twin.name.total old_slots c.args.twin.slots bodies (g.F.Bodies.rest c.args.next.now) bytes before.says
    (twin_length c.args.twin.slots) only (changes g (goal.at.returns-in_err-used-clause-any_moment g c).After-lay _ before.place)

pub returns-in_err-used-clause-read : goal.returns-in_err-used-clause-read
returns-in_err-used-clause-read g c = λ old_slots bodies bytes before.
    laid_read c.args.twin.name.kind c.args.twin.name.id c.args.twin.name.total old_slots c.args.twin.slots bodies (g.F.Bodies.rest c.args.next.now) bytes before.says
    (twin_length c.args.twin.slots) _ _ before.content (changes g (goal.at.returns-in_err-used-clause-read g c).After-lay _ before.place).content

pub returns-in_err-store_at-clause-any_moment : goal.returns-in_err-store_at-clause-any_moment
returns-in_err-store_at-clause-any_moment g c = λ old_slots bodies bytes before.
    let at = goal.at.returns-in_err-store_at-clause-any_moment g c in
    moments g at.After-store_at old_slots bodies bytes before (changes g at.After-lay _ before.place)

pub returns-in_err-store_at-clause-read : goal.returns-in_err-store_at-clause-read
returns-in_err-store_at-clause-read g c = λ old_slots bodies bytes before.
    let at = goal.at.returns-in_err-store_at-clause-read g c in
    told g at.After-store_at old_slots bodies bytes before (changes g at.After-lay _ before.place)

pub returns-clause-moved : goal.returns-clause-moved
returns-clause-moved g c = λ old_slots bodies bytes before.
    let at = goal.at.returns-clause-moved g c in
    gate_done c.args.twin.name.kind c.args.twin.name.id c.args.twin.name.total old_slots c.args.twin.slots bodies (g.F.Bodies.rest c.args.next.now) bytes before.says
    c.requires.sound (stands g at.After-store_at old_slots bodies bytes before (changes g at.After-lay _ before.place)) _ c.in_ok-store_at.ensures.written

pub returns-clause-bytes : goal.returns-clause-bytes
returns-clause-bytes g c =
    let twin = c.args.twin in
    all_told twin.name.kind twin.name.id twin.name.total twin.begin twin.slots (g.F.Bodies.rest c.args.next.now) 15 (90 ∷ []) (omega (arith, c.requires.behind))
    _ _ c.in_ok-store_at.ensures.written c.in_ok-used.ensures.bytes

pub returns-clause-any_moment : goal.returns-clause-any_moment
returns-clause-any_moment g c = λ old_slots bodies bytes before.
    let at = goal.at.returns-clause-any_moment g c in
    moments g at.After-store_at old_slots bodies bytes before (changes g at.After-lay _ before.place)

pub returns-clause-read : goal.returns-clause-read
returns-clause-read g c = λ old_slots bodies bytes before.
    (told g (goal.at.returns-clause-read g c).After-store_at old_slots bodies bytes before (changes g (goal.at.returns-clause-read g c).After-lay _ before.place))
