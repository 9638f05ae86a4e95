use Rattle.std.proofs.Common.{◌≡◌, ◌+◌, ◌-◌, ◌^◌, ℕ, List, length, min, Some, None, refl, ap, ◌∙◌, subst, arith}
use Rattle.lease_journal.specs.Journals.{IsFirstBad, first_bodies}
use Rattle.lease_journal.specs.Twins.{area_at, claimed_units}
use Rattle.lease_journal.specs.Causes.{IsScanned}
use Rattle.twin_journal.proofs.Opening.{area_inside, bad_body, bad_generation, opened_from}
use Rattle.twin_journal.proofs.starting.open_at.Given.{Over}
use Rattle.twin_journal.proofs.starting.open_at.Goals.{After-may_have}
use Rattle.twin_journal.proofs.starting.open_at.Goals as goal

pub returns-in-Some-clause-cause : goal.returns-in-Some-clause-cause
returns-in-Some-clause-cause g c = λ bytes is.
    let there = c.locate.ensures.stays.content ∙ is in
    let found = c.in-Ok.located in
    let scan = c.in-Ok-read_slots.scan in
    let bad = subst (λ o. IsFirstBad c.args.name.kind c.args.name.total (c.head_at-at.result + 32) bytes scan.used o) c.in-Some.is (c.in-Ok-read_slots.ensures.scanned bytes there).first_bad in
    bad_body c.args.name.kind c.args.name.id c.args.name.total c.args.begin found.slots bytes found.active.second found.active.generation found.active.other_open
    (c.in-Ok.ensures.stands bytes is) (c.in-Ok.ensures.found bytes is) (c.head_at-at.result + 32) (ap (λ n. n + 32) c.head_at-at.ensures)
    scan.used (c.in-Ok-read_slots.ensures.used bytes there) c.in-Some.slot bad

-- no body that was gone through is bad, and the units are theirs
module _ (g : Over) (c : After-may_have g) (bytes : List ℕ) (is : (g.B.Disk.state c.args.disk.now).content ≡ Some bytes) where
  place : c.head_at-at.result + 32 ≡ area_at c.args.begin c.in-Ok.located.slots c.in-Ok.located.active.second
  place = ap (λ n. n + 32) c.head_at-at.ensures

  scanned : IsScanned c.args.name.kind c.args.name.total (c.head_at-at.result + 32) c.in-Ok-read_slots.scan.used c.in-Ok-read_slots.scan.last None bytes
  scanned = subst (λ o. IsScanned c.args.name.kind c.args.name.total (c.head_at-at.result + 32) c.in-Ok-read_slots.scan.used c.in-Ok-read_slots.scan.last o bytes) c.in_default.is
      (c.in-Ok-read_slots.ensures.scanned bytes (c.locate.ensures.stays.content ∙ is))

  units : c.in-Ok-units_in.units ≡ min (2 ^ 64 - 1) (claimed_units c.args.name.kind (first_bodies (c.head_at-at.result + 32) c.in-Ok-read_slots.scan.used bytes))
  units =
      let stands = c.in-Ok.ensures.stands bytes is in
      c.in-Ok-units_in.ensures.units bytes (c.read_slots.ensures.stays.content ∙ c.locate.ensures.stays.content ∙ is)
      (omega (arith, place, area_inside c.args.begin c.in-Ok.located.slots c.in-Ok.located.active.second (length bytes) stands.full, c.in-Ok-read_slots.ensures.within))
      scanned.last_is

pub returns-then-not-may_have-clause-cause : goal.returns-then-not-may_have-clause-cause
returns-then-not-may_have-clause-cause g c = λ bytes is.
    let found = c.in-Ok.located in
    let scan = c.in-Ok-read_slots.scan in
    let before = (goal.at.returns-then-not-may_have-clause-cause g c).After-may_have in
    bad_generation c.args.name.kind c.args.name.id c.args.name.total c.args.begin found.slots bytes found.active.second found.active.generation found.active.other_open
    (c.in-Ok.ensures.stands bytes is) (c.in-Ok.ensures.found bytes is) (c.head_at-at.result + 32) (place g before bytes is)
    scan.used (c.in-Ok-read_slots.ensures.used bytes (c.locate.ensures.stays.content ∙ is)) c.head_at-place.result c.head_at-place.ensures
    (scanned g before bytes is).first_bad (c.if-not-may_have.ensures.wrong _ (units g before bytes is) refl)

pub returns-clause-opened : goal.returns-clause-opened
returns-clause-opened g c = λ bytes is.
    let found = c.in-Ok.located in
    let before = (goal.at.returns-clause-opened g c).After-may_have in
    opened_from c.args.name.kind c.args.name.id c.args.name.total c.args.begin found.slots bytes found.active.second found.active.generation found.active.other_open
    (c.in-Ok.ensures.stands bytes is) (c.in-Ok.ensures.found bytes is) (c.head_at-at.result + 32) (place g before bytes is)
    c.in-Ok-read_slots.scan.used (c.in-Ok-read_slots.ensures.used bytes (c.locate.ensures.stays.content ∙ is)) c.in-Ok-read_slots.scan.last
    (scanned g before bytes is) (c.if-not-may_have.ensures.right _ (units g before bytes is) refl)
