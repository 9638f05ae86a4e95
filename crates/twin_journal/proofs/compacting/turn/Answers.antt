use Rattle.std.proofs.Common.{ℕ, ◌+◌, ◌*◌, List, Bool, arith}
use Rattle.zk_port.specs.Disks.{LeavesOnly}
use Rattle.lease_journal.specs.Twins.{SaysOldOrNew}
use Rattle.lease_journal.specs.Keeps.{ChangesAt}
use Rattle.lease_journal.proofs.Keeping.{changes_then, changes_wider}
use Rattle.lease_journal.proofs.Moments.{then_leaves}
use Rattle.twin_journal.specs.Compactions.{MayTurn}
use Rattle.twin_journal.proofs.Turning.{Closed, Written, closed_then, first_moments, first_read, second_moments, second_read, third_moments, third_read, third_turned, written_then}
use Rattle.twin_journal.proofs.compacting.turn.Given.{Over}
use Rattle.twin_journal.proofs.compacting.turn.Goals.{After-store_at, After-write_area}
use Rattle.twin_journal.proofs.compacting.turn.Goals as goal

-- once the gate of the other area was closed
module _ (g : Over) (c : After-write_area g) (begin : ℕ) (second : Bool) (active : ℕ) (bodies : List (ℕ × ℕ)) (bytes : List ℕ)
    (may : MayTurn (g.B.Disk.state c.args.disk.now) begin c.args.to.slots second c.args.to.head active c.args.to.generation c.args.is_open bodies bytes) where
  closed : Closed (g.B.Disk.state c.close.new.disk) begin c.args.to.slots active c.args.to.head second bodies
  closed = closed_then begin c.args.to.slots active c.args.to.generation second bodies (g.F.Bodies.rest c.args.next.now) c.args.to.head c.args.is_open bytes may
      c.close.ensures.read c.close.ensures.changes c.in_ok-close.ensures.durable c.in_ok-close.ensures.closed

  moments : LeavesOnly (g.B.Disk.state c.args.disk.now) (g.B.Disk.state c.write_area.new.disk)
      (SaysOldOrNew begin c.args.to.slots active bodies c.args.to.generation (g.F.Bodies.rest c.args.next.now))
  moments = then_leaves
      (first_moments begin c.args.to.slots active c.args.to.generation second bodies (g.F.Bodies.rest c.args.next.now) c.args.to.head c.args.is_open bytes may
      c.close.ensures.any_moment)
      (second_moments begin c.args.to.slots active c.args.to.generation second bodies (g.F.Bodies.rest c.args.next.now) c.args.to.head c.args.is_open bytes may
      closed c.write_area.ensures.changes c.write_area.ensures.gate)

-- once it was written too
module _ (g : Over) (c : After-store_at g) (begin : ℕ) (second : Bool) (active : ℕ) (bodies : List (ℕ × ℕ)) (bytes : List ℕ)
    (may : MayTurn (g.B.Disk.state c.args.disk.now) begin c.args.to.slots second c.args.to.head active c.args.to.generation c.args.is_open bodies bytes)
    (before : Closed (g.B.Disk.state c.close.new.disk) begin c.args.to.slots active c.args.to.head second bodies) where
  written : Written (g.B.Disk.state c.write_area.new.disk) begin c.args.to.slots active c.args.to.head c.args.to.generation second bodies (g.F.Bodies.rest c.args.next.now)
  written = written_then begin c.args.to.slots active c.args.to.generation second bodies (g.F.Bodies.rest c.args.next.now) c.args.to.head c.args.is_open bytes may
      before c.write_area.ensures.changes c.write_area.ensures.gate c.in_ok-filled.ensures.durable c.in_ok-filled.ensures.written

  opens : LeavesOnly (g.B.Disk.state c.write_area.new.disk) (g.B.Disk.state c.store_at.new.disk)
      (SaysOldOrNew begin c.args.to.slots active bodies c.args.to.generation (g.F.Bodies.rest c.args.next.now))
  opens = third_moments begin c.args.to.slots active c.args.to.generation second bodies (g.F.Bodies.rest c.args.next.now) c.args.to.head c.args.is_open bytes may
      written c.requires.few c.store_at.ensures.changes

changed : (g : Over) (c : After-store_at g) → ChangesAt c.args.to.head (32 * (c.args.to.slots + 1)) (g.B.Disk.state c.args.disk.now) (g.B.Disk.state c.store_at.new.disk)
changed g c =
    let all = 32 * (c.args.to.slots + 1) in
    let gate = c.args.to.head + 31 in
    changes_then c.args.to.head all
    (changes_then c.args.to.head all (changes_wider gate 1 c.args.to.head all (omega arith) (omega arith) c.close.ensures.changes) c.write_area.ensures.changes)
    (changes_wider gate 1 c.args.to.head all (omega arith) (omega arith) c.store_at.ensures.changes)

pub returns-in_err-close-clause-any_moment : goal.returns-in_err-close-clause-any_moment
returns-in_err-close-clause-any_moment g c = λ begin second active bodies bytes may.
    first_moments begin c.args.to.slots active c.args.to.generation second bodies (g.F.Bodies.rest c.args.next.now) c.args.to.head c.args.is_open bytes may c.close.ensures.any_moment

pub returns-in_err-close-clause-read : goal.returns-in_err-close-clause-read
returns-in_err-close-clause-read g c = λ begin second active bodies bytes may.
    first_read begin c.args.to.slots active c.args.to.generation second bodies (g.F.Bodies.rest c.args.next.now) c.args.to.head c.args.is_open bytes may c.close.ensures.read c.close.ensures.changes

pub returns-in_err-filled-clause-any_moment : goal.returns-in_err-filled-clause-any_moment
returns-in_err-filled-clause-any_moment g c = moments g (goal.at.returns-in_err-filled-clause-any_moment g c).After-write_area

pub returns-in_err-filled-clause-read : goal.returns-in_err-filled-clause-read
returns-in_err-filled-clause-read g c = λ begin second active bodies bytes may.
    second_read begin c.args.to.slots active c.args.to.generation second bodies (g.F.Bodies.rest c.args.next.now) c.args.to.head c.args.is_open bytes may
    (closed g (goal.at.returns-in_err-filled-clause-read g c).After-write_area begin second active bodies bytes may) c.write_area.ensures.changes c.write_area.ensures.gate

pub returns-in_err-store_at-clause-any_moment : goal.returns-in_err-store_at-clause-any_moment
returns-in_err-store_at-clause-any_moment g c = λ begin second active bodies bytes may.
    let at = goal.at.returns-in_err-store_at-clause-any_moment g c in
    then_leaves (moments g at.After-write_area begin second active bodies bytes may)
    (opens g at.After-store_at begin second active bodies bytes may (closed g at.After-write_area begin second active bodies bytes may))

pub returns-in_err-store_at-clause-changes : goal.returns-in_err-store_at-clause-changes
returns-in_err-store_at-clause-changes g c = changed g (goal.at.returns-in_err-store_at-clause-changes g c).After-store_at

pub returns-in_err-store_at-clause-read : goal.returns-in_err-store_at-clause-read
returns-in_err-store_at-clause-read g c = λ begin second active bodies bytes may.
    let at = goal.at.returns-in_err-store_at-clause-read g c in
    third_read begin c.args.to.slots active c.args.to.generation second bodies (g.F.Bodies.rest c.args.next.now) c.args.to.head c.args.is_open bytes may
    (written g at.After-store_at begin second active bodies bytes may (closed g at.After-write_area begin second active bodies bytes may))
    c.requires.few c.store_at.ensures.changes

pub returns-clause-turned : goal.returns-clause-turned
returns-clause-turned g c = λ begin second active bodies bytes may.
    let at = goal.at.returns-clause-turned g c in
    third_turned begin c.args.to.slots active c.args.to.generation second bodies (g.F.Bodies.rest c.args.next.now) c.args.to.head c.args.is_open bytes may
    (written g at.After-store_at begin second active bodies bytes may (closed g at.After-write_area begin second active bodies bytes may))
    c.requires.few c.store_at.ensures.changes c.in_ok-store_at.ensures.written

pub returns-clause-any_moment : goal.returns-clause-any_moment
returns-clause-any_moment g c = λ begin second active bodies bytes may.
    let at = goal.at.returns-clause-any_moment g c in
    then_leaves (moments g at.After-write_area begin second active bodies bytes may)
    (opens g at.After-store_at begin second active bodies bytes may (closed g at.After-write_area begin second active bodies bytes may))

pub returns-clause-read : goal.returns-clause-read
returns-clause-read g c = λ begin second active bodies bytes may.
    let at = goal.at.returns-clause-read g c in
    third_read begin c.args.to.slots active c.args.to.generation second bodies (g.F.Bodies.rest c.args.next.now) c.args.to.head c.args.is_open bytes may
    (written g at.After-store_at begin second active bodies bytes may (closed g at.After-write_area begin second active bodies bytes may))
    c.requires.few c.store_at.ensures.changes

pub returns-clause-changes : goal.returns-clause-changes
returns-clause-changes g c = changed g (goal.at.returns-clause-changes g c).After-store_at
