use Rattle.std.proofs.Common.{◌≡◌, ◌<◌, ◌≤◌, ◌+◌, ◌*◌, ◌^◌, ◌++◌, ◌∷◌, [], ℕ, List, Some, IfSome, not, ap, sym, ◌∙◌, arith}
use Rattle.std.proofs.lemmas.List.{length-append}
use Rattle.std.specs.Option.{option_map}
use Rattle.zk_port.specs.Disks.{LeavesOnly}
use Rattle.lease_journal.specs.Twins.{SaysOldOrNew}
use Rattle.lease_journal.specs.Steps.{slot_written}
use Rattle.twin_journal.specs.States.{IsKept}
use Rattle.twin_journal.proofs.Opening.{kept_told}
use Rattle.twin_journal.proofs.ActiveAreas.{area_done, heads_done, put_any_moment, put_any_read}
use Rattle.twin_journal.proofs.TwinHeaders.{area_behind, keeps_holds, keeps_stands}
use Rattle.twin_journal.proofs.twin.Twin.put.Given.{Over}
use Rattle.twin_journal.proofs.twin.Twin.put.Goals.{After-store_slot}
use Rattle.twin_journal.proofs.twin.Twin.put.Goals as goal

-- what the put leaves and the disk tells then, however it ended
left : (g : Over) (c : After-store_slot g) (bytes : List ℕ) (bodies : List (ℕ × ℕ)) → IsKept {D = g.row.B.Denot} g.B.Disk.state c.args.self.now bodies bytes
    → c.args.self.now.used < c.args.self.now.slots
    → LeavesOnly (g.B.Disk.state c.args.self.now.disk) (g.B.Disk.state c.store_slot.new.disk)
    (SaysOldOrNew c.args.self.now.begin c.args.self.now.slots c.args.self.now.generation bodies c.args.self.now.generation (bodies ++ (c.args.a, c.args.b) ∷ []))
    × IfSome (g.B.Disk.state c.store_slot.new.disk).content
    (SaysOldOrNew c.args.self.now.begin c.args.self.now.slots c.args.self.now.generation bodies c.args.self.now.generation (bodies ++ (c.args.a, c.args.b) ∷ []))
left g c = rw (← c.self.view_is) (λ bytes bodies kept free.
    let was = c.self.inside in
    let place = ap (λ n. n + 32) c.head_at-at.ensures in
    let only = c.self.invariant.only bytes kept.sound kept.content in
    let full = c.self.invariant.full bytes kept.content in (
      put_any_moment was.begin was.slots was.generation was.second bodies bytes kept.area was.used kept.count (c.head_at-at.result + 32) place (c.args.a, c.args.b)
          kept.content only free full c.store_slot.ensures.changes c.store_slot.ensures.any_moment,
      put_any_read was.begin was.slots was.generation was.second bodies bytes kept.area was.used kept.count (c.head_at-at.result + 32) place (c.args.a, c.args.b)
          kept.content only free full c.store_slot.ensures.changes c.store_slot.ensures.read,
    ))

-- the slot lies behind the header
behind : (g : Over) (c : After-store_slot g) → c.self.inside.begin + 64 ≤ c.head_at-at.result + 32 + 32 * c.self.inside.used
behind g c = omega (arith, c.head_at-at.ensures, area_behind c.self.inside.begin c.self.inside.slots c.self.inside.second)

pub returns-in-Err-clause-any_moment : goal.returns-in-Err-clause-any_moment
returns-in-Err-clause-any_moment g c = λ bytes bodies kept free. (left g (goal.at.returns-in-Err-clause-any_moment g c).After-store_slot bytes bodies kept free).0

pub returns-in-Err-clause-read : goal.returns-in-Err-clause-read
returns-in-Err-clause-read g c = λ bytes bodies kept free. (left g (goal.at.returns-in-Err-clause-read g c).After-store_slot bytes bodies kept free).1

pub returns-in-Err-clause-stands : goal.returns-in-Err-clause-stands
returns-in-Err-clause-stands g c = rw (← c.self.view_is)
    (keeps_stands c.self.inside.begin c.self.inside.slots _ 32 (behind g (goal.at.returns-in-Err-clause-stands g c).After-store_slot) c.store_slot.ensures.changes)

pub returns-in-Err-clause-holds : goal.returns-in-Err-clause-holds
returns-in-Err-clause-holds g c = rw (← c.self.view_is)
    (keeps_holds c.self.inside.begin c.self.inside.slots _ 32 (behind g (goal.at.returns-in-Err-clause-holds g c).After-store_slot) c.store_slot.ensures.changes)

pub returns-clause-recovered : goal.returns-clause-recovered
returns-clause-recovered g c = rw (← c.self.view_is) (λ bytes bodies kept.
    let was = c.self.inside in
    let low : c.args.a < 2 ^ 64 = omega (arith, c.ranges.a.fits) in
    let high : c.args.b < 2 ^ 64 = omega (arith, c.ranges.b.fits) in
    let free : c.self.inside.used < c.self.inside.slots = omega (arith, c.if-self.false, c.self.invariant.within) in
    let at = c.head_at-at.result + 32 in
    let place = ap (λ n. n + 32) c.head_at-at.ensures in
    let image = slot_written (c.head_at-at.result + 32) c.self.inside.used (c.args.a, c.args.b) bytes in
    let written : (g.B.Disk.state c.store_slot.new.disk).content ≡ Some (slot_written (c.head_at-at.result + 32) c.self.inside.used (c.args.a, c.args.b) bytes) =
    c.in_default.ensures.written ∙ ap (option_map (slot_written (c.head_at-at.result + 32) c.self.inside.used (c.args.a, c.args.b))) kept.content in
    let only = c.self.invariant.only bytes kept.sound kept.content in
    let full = c.self.invariant.full bytes kept.content in
    let changes = c.store_slot.ensures.changes in
    let heads = heads_done was.begin was.slots was.generation was.second bodies bytes kept.area was.used kept.count at place (c.args.a, c.args.b)
    kept.content only free full changes low high written in
    kept_told {D = g.row.B.Denot} g.B.Disk.state (record {
      disk = c.store_slot.new.disk;
      begin = was.begin;
      slots = was.slots;
      used = was.used + 1;
      last = (c.args.a, c.args.b);
      second = was.second;
      generation = was.generation;
      other_open = was.other_open;
      fault = was.fault;
    }) (bodies ++ (c.args.a, c.args.b) ∷ []) image (record {
      sound = kept.sound;
      content = written;
      count = length-append bodies ((c.args.a, c.args.b) ∷ []) ∙ ap (λ n. n + 1) kept.count;
      area = area_done was.begin was.slots was.generation was.second bodies bytes kept.area was.used kept.count at place (c.args.a, c.args.b)
          kept.content only free full changes low high written;
      other_opened = λ opened. heads.gates (not was.second) ∙ kept.other_opened opened;
      other_closed = λ shut is_open. kept.other_closed shut (sym (heads.gates (not was.second)) ∙ is_open);
    }))

pub returns-clause-any_moment : goal.returns-clause-any_moment
returns-clause-any_moment g c = λ bytes bodies kept free. (left g (goal.at.returns-clause-any_moment g c).After-store_slot bytes bodies kept free).0

pub returns-clause-stands : goal.returns-clause-stands
returns-clause-stands g c = rw (← c.self.view_is)
    (keeps_stands c.self.inside.begin c.self.inside.slots _ 32 (behind g (goal.at.returns-clause-stands g c).After-store_slot) c.store_slot.ensures.changes)

pub returns-clause-read : goal.returns-clause-read
returns-clause-read g c = λ bytes bodies kept free. (left g (goal.at.returns-clause-read g c).After-store_slot bytes bodies kept free).1

pub returns-clause-holds : goal.returns-clause-holds
returns-clause-holds g c = rw (← c.self.view_is)
    (keeps_holds c.self.inside.begin c.self.inside.slots _ 32 (behind g (goal.at.returns-clause-holds g c).After-store_slot) c.store_slot.ensures.changes)
