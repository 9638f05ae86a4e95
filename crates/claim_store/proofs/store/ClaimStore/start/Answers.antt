use Rattle.std.proofs.Common.{◌≡◌, ℕ, List, Some, sym, ◌∙◌, subst}
use Rattle.lease_journal.specs.Journals.{first_bodies}
use Rattle.lease_journal.specs.Twins.{area_at}
use Rattle.twin_journal.specs.States.{TwinState}
use Rattle.twin_journal.specs.States as twin
use Rattle.claim_store.specs.Claims.{AreInUse, SaysClaims}
use Rattle.claim_store.proofs.Starting.{AreRead, begins, durable_at, only_on, own_cause, read_cause, says_read}
use Rattle.claim_store.proofs.store.ClaimStore.start.Given.{Over}
use Rattle.claim_store.proofs.store.ClaimStore.start.Goals.{In-Ok-read_claims}
use Rattle.claim_store.proofs.store.ClaimStore.start.Goals as goal

-- what the journal keeps of the bytes, and what was read of them
kept_at : (g : Over) (c : In-Ok-read_claims g) (bytes : List ℕ) → (g.B.Disk.state c.args.disk).content ≡ Some bytes
    → twin.IsKept g.B.Disk.state c.in-Ok.journal (first_bodies (area_at c.in-Ok.journal.begin c.in-Ok.journal.slots c.in-Ok.journal.second) c.in-Ok.journal.used bytes) bytes
kept_at g c bytes is =
    let e = c.in-Ok.ensures in
    e.kept bytes is (c.requires.tidy bytes is c.in-Ok.journal.begin c.in-Ok.journal.slots (e.holds bytes is))

read_at : (g : Over) (c : In-Ok-read_claims g) (bytes : List ℕ) → (g.B.Disk.state c.args.disk).content ≡ Some bytes
    → AreRead c.args.total (area_at c.in-Ok.journal.begin c.in-Ok.journal.slots c.in-Ok.journal.second) c.in-Ok.journal.used c.in-Ok.journal.generation c.in-Ok-read_claims.claims.items bytes
read_at g c bytes is =
    let e = c.in-Ok.ensures in
    let r = c.in-Ok-read_claims.ensures in
    let here = e.stays.content ∙ is in
    record {
      may_have = (e.opened bytes is).may_have;
      sound = r.apart bytes here;
      merged = r.merged bytes here;
      units = r.units bytes here;
    }

pub returns-in-Ok-read_claims-clause-only : goal.returns-in-Ok-read_claims-clause-only
returns-in-Ok-read_claims-clause-only g c =
    let r = c.in-Ok-read_claims.ensures in
    only_on (g.B.Disk.state c.in-Ok.journal.disk).content (g.B.Disk.state c.read_claims.new.journal.disk).content
    (g.B.Disk.state c.in-Ok.journal.disk).images (g.B.Disk.state c.read_claims.new.journal.disk).images r.stays.content r.stays.crash c.in-Ok.ensures.durable

pub invariant_of-result : goal.invariant_of-result
invariant_of-result g c =
    let e = c.in-Ok.ensures in
    let r = c.in-Ok-read_claims.ensures in
    begins g.B.Disk.state c.in-Ok.journal c.read_claims.new.journal c.args.total c.in-Ok-read_claims.claims.items r.state r.fault r.few r.sound r.rising
    (λ bytes is. kept_at g c bytes (sym e.stays.content ∙ sym r.stays.content ∙ is))
    (λ bytes is. read_at g c bytes (sym e.stays.content ∙ sym r.stays.content ∙ is))
    (returns-in-Ok-read_claims-clause-only g c)

pub returns-in-Ok-read_claims-clause-recovered : goal.returns-in-Ok-read_claims-clause-recovered
returns-in-Ok-read_claims-clause-recovered g c = λ bytes is.
    let j = c.in-Ok.journal in
    let says = says_read g.B.Disk.state j c.args.total j.used c.in-Ok-read_claims.claims.items bytes (kept_at g c bytes is) (read_at g c bytes is) in
    subst (λ (k : TwinState g.row.B.Denot). SaysClaims c.args.total k.begin k.slots c.in-Ok-read_claims.claims.items bytes) (sym c.in-Ok-read_claims.ensures.state) says

pub returns-in-Ok-read_claims-clause-durable : goal.returns-in-Ok-read_claims-clause-durable
returns-in-Ok-read_claims-clause-durable g c =
    let j = c.read_claims.new.journal in
    durable_at c.args.total j.begin j.slots c.in-Ok-read_claims.claims.items (g.B.Disk.state j.disk).content (g.B.Disk.state j.disk).images
    (λ bytes is. returns-in-Ok-read_claims-clause-recovered g c bytes (sym c.in-Ok.ensures.stays.content ∙ sym c.in-Ok-read_claims.ensures.stays.content ∙ is))
    (returns-in-Ok-read_claims-clause-only g c)

pub returns-in-Err-read_claims-clause-cause : goal.returns-in-Err-read_claims-clause-cause
returns-in-Err-read_claims-clause-cause g c = λ bytes is.
    let j = c.in-Ok.journal in
    let e = c.in-Ok.ensures in
    read_cause c.args.id.now c.args.total j.begin j.slots j.used j.last j.second j.generation j.other_open bytes (e.holds bytes is) (e.opened bytes is) c.in-Err-read_claims.fault
    (c.in-Err-read_claims.ensures.cause bytes (e.stays.content ∙ is))

pub returns-in-Err-clause-cause : goal.returns-in-Err-clause-cause
returns-in-Err-clause-cause g c = λ bytes is. own_cause c.args.id.now c.args.total bytes c.in-Err.fault (c.in-Err.ensures.cause bytes is)

pub returns-in-Ok-read_claims-clause-in_use : goal.returns-in-Ok-read_claims-clause-in_use
returns-in-Ok-read_claims-clause-in_use g c = λ bytes is.
    let j = c.in-Ok.journal in
    let opened = c.in-Ok.ensures.opened bytes is in
    subst (λ (k : TwinState g.row.B.Denot). AreInUse k.begin k.slots k.used bytes) (sym c.in-Ok-read_claims.ensures.state)
    (record { second = j.second; active = opened.found.active; are = opened.slots_used })
