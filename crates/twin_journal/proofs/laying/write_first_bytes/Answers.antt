use Rattle.std.proofs.Common.{◌≡◌, ◌+◌, length, ap, ◌∙◌, arith, rules}
use Rattle.zk_port.specs.Disks.{DiskState}
use Rattle.lease_journal.specs.Keeps.{ChangesAt}
use Rattle.lease_journal.proofs.Keeping.{changes_then, changes_wider, changes_write, steps_written}
use Rattle.twin_journal.proofs.Laid.{first_told, header_size}
use Rattle.twin_journal.proofs.laying.write_first_bytes.Given.{Over}
use Rattle.twin_journal.proofs.laying.write_first_bytes.Goals.{After-header_of, After-write_at-2}
use Rattle.twin_journal.proofs.laying.write_first_bytes.Goals as goal

id_size : (g : Over) (c : After-header_of g) → length c.args.twin.name.id ≡ 32
id_size g c = search rules

-- a change of the header is one of the first bytes
in_header : (g : Over) (c : After-header_of g) (new : DiskState) → ChangesAt c.args.twin.begin (length c.header_of.result) (g.B.Disk.state c.args.disk.now) new
    → ChangesAt c.args.twin.begin 96 (g.B.Disk.state c.args.disk.now) new
in_header g c new changes =
    let size : length c.header_of.result ≡ 64 =
    ap length c.header_of.ensures ∙ header_size c.args.twin.name.kind c.args.twin.name.id c.args.twin.name.total c.args.twin.slots (id_size g c) in
    changes_wider c.args.twin.begin (length c.header_of.result) c.args.twin.begin 96 (omega arith) (omega (arith, size)) changes

-- and so is one of the head behind it
in_both : (g : Over) (c : After-write_at-2 g) (new : DiskState) → ChangesAt c.args.twin.begin 96 (g.B.Disk.state c.args.disk.now) (g.B.Disk.state c.write_at.new.self)
    → ChangesAt (c.args.twin.begin + 64) (length c.first_head.result) (g.B.Disk.state c.write_at.new.self) new
    → ChangesAt c.args.twin.begin 96 (g.B.Disk.state c.args.disk.now) new
in_both g c new header changes =
    let size : length c.first_head.result ≡ 32 = ap length c.first_head.ensures in
    changes_then c.args.twin.begin 96 header
    (changes_wider (c.args.twin.begin + 64) (length c.first_head.result) c.args.twin.begin 96 (omega arith) (omega (arith, size)) changes)

written : (g : Over) (c : After-write_at-2 g) → ChangesAt c.args.twin.begin (length c.header_of.result) (g.B.Disk.state c.args.disk.now) (g.B.Disk.state c.write_at.new.self)
written g c = changes_write c.args.twin.begin (length c.header_of.result) (g.met.B.Disk.only_now c.args.disk.now) c.write_at.ensures.steps
    (steps_written c.args.twin.begin c.header_of.result _ _ c.in_ok-write_at.ensures.written)

pub returns-in_err-write_at-clause-changes : goal.returns-in_err-write_at-clause-changes
returns-in_err-write_at-clause-changes g c = in_header g (goal.at.returns-in_err-write_at-clause-changes g c).After-header_of _
    (changes_write c.args.twin.begin (length c.header_of.result) (g.met.B.Disk.only_now c.args.disk.now) c.write_at.ensures.steps c.in_err-write_at.ensures.torn)

pub returns-in_err-write_at-2-clause-changes : goal.returns-in_err-write_at-2-clause-changes
returns-in_err-write_at-2-clause-changes g c =
    let at = goal.at.returns-in_err-write_at-2-clause-changes g c in
    in_both g at.After-write_at-2 _ (in_header g at.After-header_of _ (written g at.After-write_at-2))
    (changes_write (c.args.twin.begin + 64) (length c.first_head.result) (g.met.B.Disk.only_now c.write_at.new.self) c.write_at-2.ensures.steps c.in_err-write_at-2.ensures.torn)

pub returns-clause-changes : goal.returns-clause-changes
returns-clause-changes g c =
    let at = goal.at.returns-clause-changes g c in
    in_both g at.After-write_at-2 _ (in_header g at.After-header_of _ (written g at.After-write_at-2))
    (changes_write (c.args.twin.begin + 64) (length c.first_head.result) (g.met.B.Disk.only_now c.write_at.new.self) c.write_at-2.ensures.steps
    (steps_written (c.args.twin.begin + 64) c.first_head.result _ _ c.in_ok-write_at-2.ensures.written))

pub returns-clause-written : goal.returns-clause-written
returns-clause-written g c =
    first_told c.args.twin.name.kind c.args.twin.name.id c.args.twin.name.total c.args.twin.begin c.args.twin.slots c.header_of.result c.first_head.result
    (id_size g (goal.at.returns-clause-written g c).After-header_of) c.header_of.ensures c.first_head.ensures
    _ _ _ c.in_ok-write_at.ensures.written c.in_ok-write_at-2.ensures.written
