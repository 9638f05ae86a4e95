use Rattle.std.proofs.Common.{◌≡◌, ◌<◌, ◌≤◌, ◌+◌, ◌*◌, ◌^◌, ℕ, List, not, true, refl, subst, arith}
use Rattle.zk_port.specs.Disks.{LeavesOnly}
use Rattle.lease_journal.specs.Twins.{SaysOldOrNew, area_at}
use Rattle.twin_journal.specs.Compactions.{IsTurned}
use Rattle.twin_journal.specs.Filling.{AreBodySlots}
use Rattle.twin_journal.specs.States.{IsKept}
use Rattle.twin_journal.proofs.SameAreas.{area_room}
use Rattle.twin_journal.proofs.Turning.{goes_on_telling, kept_may, kept_turned, told_also}
use Rattle.twin_journal.proofs.TwinHeaders.{area_behind, keeps_holds, keeps_stands}
use Rattle.twin_journal.proofs.twin.Twin.compact.Given.{Over}
use Rattle.twin_journal.proofs.twin.Twin.compact.Goals.{After-turn}
use Rattle.twin_journal.proofs.twin.Twin.compact.Goals as goal

pub turn-requires-clause-fits : goal.turn-requires-clause-fits
turn-requires-clause-fits g c =
    rw c.head_at.ensures (area_room c.self.inside.begin c.self.inside.slots (not c.self.inside.second) (g.B.Disk.state c.self.inside.disk).room c.self.invariant.has_room)

-- where a generation is left, it is the next one
next : (g : Over) (c : After-turn g) → c.self.inside.generation + 1 < 2 ^ 64 → c.saturating_add.result ≡ c.self.inside.generation + 1
next g c small = omega (arith, c.saturating_add.ensures, small)

moments : (g : Over) (c : After-turn g) (bytes : List ℕ) (bodies : List (ℕ × ℕ)) → IsKept {D = g.row.B.Denot} g.B.Disk.state c.args.self.now bodies bytes
    → c.args.self.now.generation + 1 < 2 ^ 64 → LeavesOnly (g.B.Disk.state c.args.self.now.disk) (g.B.Disk.state c.turn.new.disk)
    (SaysOldOrNew c.args.self.now.begin c.args.self.now.slots c.args.self.now.generation bodies (c.args.self.now.generation + 1) (g.F.Bodies.rest c.args.next.now))
moments g c = rw (← c.self.view_is) (λ bytes bodies kept small.
    subst (λ n. LeavesOnly (g.B.Disk.state c.self.inside.disk) (g.B.Disk.state c.turn.new.disk)
    (SaysOldOrNew c.self.inside.begin c.self.inside.slots c.self.inside.generation bodies n (g.F.Bodies.rest c.args.next.now))) (next g c small)
    (c.turn.ensures.any_moment c.self.inside.begin c.self.inside.second c.self.inside.generation bodies bytes
    (kept_may g.B.Disk.state _ bodies bytes c.head_at.result c.saturating_add.result kept
    (c.self.invariant.only bytes kept.sound kept.content) (c.self.invariant.full bytes kept.content) c.head_at.ensures (omega (arith, next g c small)))))

-- the area lies behind the header
behind : (g : Over) (c : After-turn g) → c.self.inside.begin + 64 ≤ c.head_at.result
behind g c = omega (arith, c.head_at.ensures, area_behind c.self.inside.begin c.self.inside.slots (not c.self.inside.second))

pub returns-in-Err-clause-any_moment : goal.returns-in-Err-clause-any_moment
returns-in-Err-clause-any_moment g c = moments g (goal.at.returns-in-Err-clause-any_moment g c).After-turn

pub returns-in-Err-clause-stands : goal.returns-in-Err-clause-stands
returns-in-Err-clause-stands g c = rw (← c.self.view_is)
    (keeps_stands c.self.inside.begin c.self.inside.slots _ _ (behind g (goal.at.returns-in-Err-clause-stands g c).After-turn) c.turn.ensures.changes)

pub returns-in-Err-clause-holds : goal.returns-in-Err-clause-holds
returns-in-Err-clause-holds g c = rw (← c.self.view_is)
    (keeps_holds c.self.inside.begin c.self.inside.slots _ _ (behind g (goal.at.returns-in-Err-clause-holds g c).After-turn) c.turn.ensures.changes)

pub returns-in-Ok-clause-recovered : goal.returns-in-Ok-clause-recovered
returns-in-Ok-clause-recovered g c =
    let at = (goal.at.returns-in-Ok-clause-recovered g c).After-turn in
    rw (← c.self.view_is) (λ bytes bodies kept small.
    let was = c.self.inside in
    kept_turned {D = g.row.B.Denot} g.B.Disk.state (record {
      disk = c.turn.new.disk;
      begin = was.begin;
      slots = was.slots;
      used = c.in-Ok.field-0.used;
      last = c.in-Ok.field-0.last;
      second = not was.second;
      generation = c.saturating_add.result;
      other_open = true;
      fault = was.fault;
    }) was.second (g.F.Bodies.rest c.args.next.now) kept.sound c.in-Ok.ensures.used refl refl
    (goes_on_telling c.head_at.result (32 * (was.slots + 1)) bytes (g.B.Disk.state was.disk).content (g.B.Disk.state c.turn.new.disk).content kept.content c.turn.ensures.changes.content)
    (c.in-Ok.ensures.turned was.begin was.second was.generation bodies bytes
    (kept_may g.B.Disk.state _ bodies bytes c.head_at.result c.saturating_add.result kept
    (c.self.invariant.only bytes kept.sound kept.content) (c.self.invariant.full bytes kept.content) c.head_at.ensures (omega (arith, next g at small)))))

pub returns-in-Ok-clause-exact : goal.returns-in-Ok-clause-exact
returns-in-Ok-clause-exact g c =
    let at = (goal.at.returns-in-Ok-clause-exact g c).After-turn in
    rw (← c.self.view_is) (λ bytes bodies kept small.
    let was = c.self.inside in
    told_also (IsTurned was.begin was.slots was.second c.saturating_add.result (g.F.Bodies.rest c.args.next.now))
    (AreBodySlots (area_at was.begin was.slots (not was.second)) was.slots (g.F.Bodies.rest c.args.next.now)) (g.B.Disk.state c.turn.new.disk).content
    (λ image turned. turned.exact)
    (c.in-Ok.ensures.turned was.begin was.second was.generation bodies bytes
    (kept_may g.B.Disk.state _ bodies bytes c.head_at.result c.saturating_add.result kept
    (c.self.invariant.only bytes kept.sound kept.content) (c.self.invariant.full bytes kept.content) c.head_at.ensures (omega (arith, next g at small)))))

pub returns-in-Ok-clause-stands : goal.returns-in-Ok-clause-stands
returns-in-Ok-clause-stands g c = rw (← c.self.view_is)
    (keeps_stands c.self.inside.begin c.self.inside.slots _ _ (behind g (goal.at.returns-in-Ok-clause-stands g c).After-turn) c.turn.ensures.changes)

pub returns-in-Ok-clause-any_moment : goal.returns-in-Ok-clause-any_moment
returns-in-Ok-clause-any_moment g c = moments g (goal.at.returns-in-Ok-clause-any_moment g c).After-turn

pub returns-in-Ok-clause-holds : goal.returns-in-Ok-clause-holds
returns-in-Ok-clause-holds g c = rw (← c.self.view_is)
    (keeps_holds c.self.inside.begin c.self.inside.slots _ _ (behind g (goal.at.returns-in-Ok-clause-holds g c).After-turn) c.turn.ensures.changes)
