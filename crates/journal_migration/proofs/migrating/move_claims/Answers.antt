use Rattle.std.proofs.Common.{◌≡◌, ℕ, List, drop, length, ap, sym, ◌∙◌, subst, arith, rules}
use Rattle.std.proofs.lemmas.List.{length-map}
use Rattle.claim_store.specs.ClaimedRanges.{AreMerged, claims_of}
use Rattle.lease_journal.specs.Journals.{AreSound, first_bodies}
use Rattle.journal_migration.specs.Migrations.{SaysTheSame, moved_slots}
use Rattle.zk_model.specs.declared.JournalKind.TheVariants.{Claims}
use Rattle.zk_model.specs.declared.Span.{Span}
use Rattle.claim_store.specs.Claims.{bodies_of}
use Rattle.claim_store.proofs.Slots.{claims_back}
use Rattle.claim_store.proofs.Starting.{bodies_sound}
use Rattle.journal_migration.proofs.BehindIt.{stays_safe, used_inside}
use Rattle.journal_migration.proofs.Onward.{moved_after, read_moves, there_after}
use Rattle.journal_migration.proofs.migrating.move_claims.Given.{Over}
use Rattle.journal_migration.proofs.migrating.move_claims.Goals.{After-new-next}
use Rattle.journal_migration.proofs.migrating.move_claims.Goals as goal

pub read_claims-requires-clause-inside : goal.read_claims-requires-clause-inside
read_claims-requires-clause-inside g c = λ bytes is.
    let stands = c.requires.there.stands bytes is in
    used_inside c.args.found.slots c.args.found.used bytes stands.header.whole stands.slots_used

pub returns-in-Err : goal.returns-in-Err
returns-in-Err g c =
    let name = c.args.name in
    let found = c.args.found in
    record {
      done = tt;
      moves = λ bytes is. stays_safe name.kind name.id name.total bytes (g.met.B.Disk.only_now c.args.disk.now) c.read_claims.ensures.stays;
      refused = λ other. c.read_claims.ensures.stays;
      durable = tt;
      chosen = c.read_claims.ensures.stays.chosen;
      cause = λ bytes is.
          read_moves name.kind c.requires.kind name.id name.total found.slots found.used found.last bytes (c.requires.there.stands bytes is) c.in-Err.fault
          (c.in-Err.ensures.cause bytes is);
      faults = search rules;
    }

-- the bodies of the new journal are those of the ranges
ranges : (g : Over) (c : After-new-next g) → bodies_of (drop c.new-next.result.next c.new-next.result.ranges.now) ≡ bodies_of c.in-Ok.ranges.items
ranges g c = c.new-next.ensures ∙ ap bodies_of c.deref.ensures.value

pub move_bodies-requires-clause-there : goal.move_bodies-requires-clause-there
move_bodies-requires-clause-there g c =
    let name = c.args.name in
    there_after name.kind name.id name.total c.args.found.slots c.args.found.used c.args.found.last c.read_claims.ensures.stays c.requires.there

pub move_bodies-requires-clause-few : goal.move_bodies-requires-clause-few
move_bodies-requires-clause-few g c =
    let all = ranges g (goal.at.move_bodies-requires-clause-few g c).After-new-next in
    let slots : moved_slots c.args.name.kind c.args.name.total c.args.found.slots ≡ c.args.found.slots = ap (λ k. moved_slots k c.args.name.total c.args.found.slots) c.requires.kind in
    omega (arith, slots, ap length all, length-map {B = ℕ × ℕ} c.in-Ok.ranges.items (λ (s : Span). (s.start, s.end)), c.in-Ok.ensures.few, c.requires.there.within)

pub move_bodies-requires-clause-sound : goal.move_bodies-requires-clause-sound
move_bodies-requires-clause-sound g c =
    let all = ranges g (goal.at.move_bodies-requires-clause-sound g c).After-new-next in
    subst (λ k. AreSound k c.args.name.total (bodies_of (drop c.new-next.result.next c.new-next.result.ranges.now))) (sym c.requires.kind)
    (subst (λ (l : List (ℕ × ℕ)). AreSound Claims c.args.name.total l) (sym all)
    (bodies_sound c.args.name.total (bodies_of c.in-Ok.ranges.items) (rw (claims_back c.in-Ok.ranges.items) c.in-Ok.ensures.sound.within)))

pub move_bodies-requires-clause-same : goal.move_bodies-requires-clause-same
move_bodies-requires-clause-same g c = λ bytes is.
    let all = ranges g (goal.at.move_bodies-requires-clause-same g c).After-new-next in
    let merged = c.in-Ok.ensures.merged bytes (sym c.read_claims.ensures.stays.content ∙ is) in
    subst (λ k. SaysTheSame k (first_bodies 64 c.args.found.used bytes) (bodies_of (drop c.new-next.result.next c.new-next.result.ranges.now))) (sym c.requires.kind)
    (subst (λ (l : List Span). AreMerged (claims_of (first_bodies 64 c.args.found.used bytes)) l) (sym (ap claims_of all ∙ claims_back c.in-Ok.ranges.items)) merged)

pub returns : goal.returns
returns g c =
    let name = c.args.name in
    moved_after name.kind name.id name.total c.move_bodies.result (g.met.B.Disk.counts_now c.args.disk.now) (g.met.B.Disk.only_now c.args.disk.now)
    c.read_claims.ensures.stays c.in-Ok.ensures.faults.done c.move_bodies.ensures
