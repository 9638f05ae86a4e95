use Rattle.std.proofs.Common.{◌≡◌, ◌<◌, ◌+◌, ◌*◌, ◌^◌, ◌∷◌, [], length, Some, ap, ◌∙◌, subst, arith}
use Rattle.std.specs.Option.{option_map}
use Rattle.zk_port.specs.Images.{IsTorn, StepsBy, written_at}
use Rattle.zk_port.specs.Disks.{LeavesOnly}
use Rattle.lease_journal.specs.Keeps.{ChangesAt}
use Rattle.lease_journal.specs.Steps.{TornFrom, body_written}
use Rattle.lease_journal.proofs.Keeping.{changes_then, changes_wider, spares_body, spares_both}
use Rattle.lease_journal.proofs.Moments.{leaves_also}
use Rattle.lease_journal.proofs.SlotSteps.{torn_first, stored_moments, read_first, read_second, read_done}
use Rattle.lease_journal.proofs.area.store_slot.Goals as goal

pub returns-in_err-store_at-clause-any_moment : goal.returns-in_err-store_at-clause-any_moment
returns-in_err-store_at-clause-any_moment g c = λ slots bytes is ready.
    let low : c.args.a < 2 ^ 64 = omega (arith, c.ranges.a.fits) in
    let high : c.args.b < 2 ^ 64 = omega (arith, c.ranges.b.fits) in
    let size : length c.body_bytes.result ≡ 16 = ap length c.body_bytes.ensures in
    let first = subst (λ n. LeavesOnly (g.B.Disk.state c.args.disk.now) (g.B.Disk.state c.store_at.new.disk) (TornFrom (c.args.at + 32 * c.args.slot) n (g.B.Disk.state c.args.disk.now).images)) size c.store_at.ensures.changes.any_moment in
    leaves_also first
    (torn_first c.args.at slots c.args.slot (c.args.a, c.args.b) low high bytes (g.B.Disk.state c.args.disk.now).images ready)

pub returns-in_err-store_at-clause-read : goal.returns-in_err-store_at-clause-read
returns-in_err-store_at-clause-read g c = λ slots bytes is ready.
    let low : c.args.a < 2 ^ 64 = omega (arith, c.ranges.a.fits) in
    let high : c.args.b < 2 ^ 64 = omega (arith, c.ranges.b.fits) in
    let size : length c.body_bytes.result ≡ 16 = ap length c.body_bytes.ensures in
    let torn : StepsBy (IsTorn (c.args.at + 32 * c.args.slot) (length c.body_bytes.result)) (g.B.Disk.state c.args.disk.now).content (g.B.Disk.state c.store_at.new.disk).content = c.store_at.ensures.changes.content in
    read_first c.args.at slots c.args.slot (c.args.a, c.args.b) low high bytes (g.B.Disk.state c.args.disk.now).images ready _ _ is
    (subst (λ n. StepsBy (IsTorn (c.args.at + 32 * c.args.slot) n) (g.B.Disk.state c.args.disk.now).content (g.B.Disk.state c.store_at.new.disk).content) size torn)

pub returns-in_err-store_at-2-clause-any_moment : goal.returns-in_err-store_at-2-clause-any_moment
returns-in_err-store_at-2-clause-any_moment g c = λ slots bytes is ready.
    stored_moments c.args.at slots c.args.slot (c.args.a, c.args.b) (omega (arith, c.ranges.a.fits)) (omega (arith, c.ranges.b.fits)) bytes (g.B.Disk.state c.args.disk.now).images ready
    c.body_bytes.result (g.B.Disk.state c.args.disk.now) (g.B.Disk.state c.store_at.new.disk) (g.B.Disk.state c.store_at-2.new.disk) is c.body_bytes.ensures
    c.store_at.ensures.changes.any_moment c.in_ok-store_at.ensures.written c.in_ok-store_at.ensures.durable c.store_at-2.ensures.changes.any_moment

pub returns-in_err-store_at-2-clause-read : goal.returns-in_err-store_at-2-clause-read
returns-in_err-store_at-2-clause-read g c = λ slots bytes is ready.
    let low : c.args.a < 2 ^ 64 = omega (arith, c.ranges.a.fits) in
    let high : c.args.b < 2 ^ 64 = omega (arith, c.ranges.b.fits) in
    let middle : (g.B.Disk.state c.store_at.new.disk).content ≡ Some (body_written c.args.at c.args.slot (c.args.a, c.args.b) bytes) =
    c.in_ok-store_at.ensures.written ∙ ap (option_map (written_at (c.args.at + 32 * c.args.slot) c.body_bytes.result)) is ∙ ap (λ b. Some (written_at (c.args.at + 32 * c.args.slot) b bytes)) c.body_bytes.ensures in
    let torn : StepsBy (IsTorn (c.args.at + 32 * c.args.slot + 31) 1) (g.B.Disk.state c.store_at.new.disk).content (g.B.Disk.state c.store_at-2.new.disk).content = c.store_at-2.ensures.changes.content in
    read_second c.args.at slots c.args.slot (c.args.a, c.args.b) low high bytes (g.B.Disk.state c.args.disk.now).images ready _ _ middle torn

pub returns-clause-any_moment : goal.returns-clause-any_moment
returns-clause-any_moment g c = λ slots bytes is ready.
    stored_moments c.args.at slots c.args.slot (c.args.a, c.args.b) (omega (arith, c.ranges.a.fits)) (omega (arith, c.ranges.b.fits)) bytes (g.B.Disk.state c.args.disk.now).images ready
    c.body_bytes.result (g.B.Disk.state c.args.disk.now) (g.B.Disk.state c.store_at.new.disk) (g.B.Disk.state c.store_at-2.new.disk) is c.body_bytes.ensures
    c.store_at.ensures.changes.any_moment c.in_ok-store_at.ensures.written c.in_ok-store_at.ensures.durable c.store_at-2.ensures.changes.any_moment

pub returns-clause-read : goal.returns-clause-read
returns-clause-read g c = λ slots bytes is ready.
    let low : c.args.a < 2 ^ 64 = omega (arith, c.ranges.a.fits) in
    let high : c.args.b < 2 ^ 64 = omega (arith, c.ranges.b.fits) in
    let middle : (g.B.Disk.state c.store_at.new.disk).content ≡ Some (body_written c.args.at c.args.slot (c.args.a, c.args.b) bytes) =
    c.in_ok-store_at.ensures.written ∙ ap (option_map (written_at (c.args.at + 32 * c.args.slot) c.body_bytes.result)) is ∙ ap (λ b. Some (written_at (c.args.at + 32 * c.args.slot) b bytes)) c.body_bytes.ensures in
    read_done c.args.at slots c.args.slot (c.args.a, c.args.b) low high bytes (g.B.Disk.state c.args.disk.now).images ready _
    (c.in_ok-store_at-2.ensures.written ∙ ap (option_map (written_at (c.args.at + 32 * c.args.slot + 31) (90 ∷ []))) middle)

pub returns-in_err-store_at-clause-changes : goal.returns-in_err-store_at-clause-changes
returns-in_err-store_at-clause-changes g c =
    let size : length c.body_bytes.result ≡ 16 = ap length c.body_bytes.ensures in
    let first = changes_wider (c.args.at + 32 * c.args.slot) (length c.body_bytes.result) (c.args.at + 32 * c.args.slot) 32 (omega arith) (omega (arith, size)) c.store_at.ensures.changes in
    first

pub returns-in_err-store_at-2-clause-changes : goal.returns-in_err-store_at-2-clause-changes
returns-in_err-store_at-2-clause-changes g c =
    let size : length c.body_bytes.result ≡ 16 = ap length c.body_bytes.ensures in
    let first = changes_wider (c.args.at + 32 * c.args.slot) (length c.body_bytes.result) (c.args.at + 32 * c.args.slot) 32 (omega arith) (omega (arith, size)) c.store_at.ensures.changes in
    changes_then (c.args.at + 32 * c.args.slot) 32 first
    (changes_wider (c.args.at + 32 * c.args.slot + 31) 1 (c.args.at + 32 * c.args.slot) 32 (omega arith) (omega arith) c.store_at-2.ensures.changes)

pub returns-clause-changes : goal.returns-clause-changes
returns-clause-changes g c =
    let size : length c.body_bytes.result ≡ 16 = ap length c.body_bytes.ensures in
    let first = changes_wider (c.args.at + 32 * c.args.slot) (length c.body_bytes.result) (c.args.at + 32 * c.args.slot) 32 (omega arith) (omega (arith, size)) c.store_at.ensures.changes in
    changes_then (c.args.at + 32 * c.args.slot) 32 first
    (changes_wider (c.args.at + 32 * c.args.slot + 31) 1 (c.args.at + 32 * c.args.slot) 32 (omega arith) (omega arith) c.store_at-2.ensures.changes)

pub returns-in_err-store_at-clause-spared : goal.returns-in_err-store_at-clause-spared
returns-in_err-store_at-clause-spared g c =
    let size : length c.body_bytes.result ≡ 16 = ap length c.body_bytes.ensures in
    spares_body (c.args.at + 32 * c.args.slot)
    (subst (λ n. ChangesAt (c.args.at + 32 * c.args.slot) n (g.B.Disk.state c.args.disk.now) (g.B.Disk.state c.store_at.new.disk)) size c.store_at.ensures.changes)

pub returns-in_err-store_at-2-clause-spared : goal.returns-in_err-store_at-2-clause-spared
returns-in_err-store_at-2-clause-spared g c =
    let size : length c.body_bytes.result ≡ 16 = ap length c.body_bytes.ensures in
    spares_both (c.args.at + 32 * c.args.slot)
    (subst (λ n. ChangesAt (c.args.at + 32 * c.args.slot) n (g.B.Disk.state c.args.disk.now) (g.B.Disk.state c.store_at.new.disk)) size c.store_at.ensures.changes)
    c.store_at-2.ensures.changes

pub returns-clause-spared : goal.returns-clause-spared
returns-clause-spared g c =
    let size : length c.body_bytes.result ≡ 16 = ap length c.body_bytes.ensures in
    spares_both (c.args.at + 32 * c.args.slot)
    (subst (λ n. ChangesAt (c.args.at + 32 * c.args.slot) n (g.B.Disk.state c.args.disk.now) (g.B.Disk.state c.store_at.new.disk)) size c.store_at.ensures.changes)
    c.store_at-2.ensures.changes
