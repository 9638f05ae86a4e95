use Rattle.std.proofs.Common.{◌≡◌, Some, refl, ap, arith, sym, ◌∙◌, subst}
use Rattle.lease_store.proofs.Keeping.{stores_of}
use Rattle.lease_store.proofs.Starting.{begins_here, kept_at, kept_says, opens, opens_right}
use Rattle.lease_store.proofs.parts.LeaseParts.start.Goals as goal

pub invariant_of-parts : goal.invariant_of-parts
invariant_of-parts g c =
    let j = c.in-Ok.journal in
    let e = c.in-Ok.ensures in
    let right = opens_right c.args.total j.slots j.used j.last e.fits e.read in
    rw c.in-Ok-start.ensures.keeper (record {
      few = c.requires.total;
      own = c.in-Ok-start.ensures.own;
      named = rw c.in-Ok-start.ensures.journal refl;
      base_is = c.in-Ok-start.ensures.words.0 ∙ ap (λ b. b.0) c.last-base.ensures;
      kept = rw (c.in-Ok-start.ensures.journal, c.in-Ok-start.ensures.words.0, ap (λ b. b.0) c.last-base.ensures) (λ id header.
          opens g.B.Disk.state id c.args.id.now c.args.total c.args.passes j right e.fault
          (λ bytes is.
          let first = sym e.stays.content ∙ is in
          let opened = e.opened bytes first in
          let holds = e.holds bytes first in
          kept_at g.B.Disk.state id c.args.id.now c.args.total j bytes right.slots_are holds.begins opened (header bytes is)
          (e.kept bytes first (c.requires.tidy bytes first j.begin j.slots holds)))
          e.durable (g.met.B.Disk.only_now j.disk));
      whole = e.fault;
    })

pub returns-in-Ok-start-clause-base : goal.returns-in-Ok-start-clause-base
returns-in-Ok-start-clause-base g c = λ bytes is.
    let j = c.in-Ok.journal in
    let e = c.in-Ok.ensures in
    let opened = e.opened bytes is in
    let right = opens_right c.args.total j.slots j.used j.last e.fits e.read in
    rw (c.in-Ok-start.ensures.words.0, ap (λ b. b.0) c.last-base.ensures)
    (kept_says g.B.Disk.state c.args.id.now c.args.total j bytes
    (kept_at g.B.Disk.state c.args.id.now c.args.id.now c.args.total j bytes right.slots_are (e.holds bytes is).begins opened
    (record { begin = j.begin; slots = j.slots; holds = e.holds bytes is })
    (e.kept bytes is (c.requires.tidy bytes is j.begin j.slots (e.holds bytes is)))))

pub returns-in-Ok-start-clause-header : goal.returns-in-Ok-start-clause-header
returns-in-Ok-start-clause-header g c = λ bytes is.
    let e = c.in-Ok.ensures in
    let here : (g.B.Disk.state c.in-Ok.journal.disk).content ≡ Some bytes = subst (λ k. (g.B.Disk.state k.journal.disk).content ≡ Some bytes) c.in-Ok-start.ensures.keeper is in
    rw c.in-Ok-start.ensures.keeper (record { begin = c.in-Ok.journal.begin; slots = c.in-Ok.journal.slots; holds = e.holds bytes (sym e.stays.content ∙ here) })

pub returns-in-Ok-start-clause-begins : goal.returns-in-Ok-start-clause-begins
returns-in-Ok-start-clause-begins g c =
    let j = c.in-Ok.journal in
    rw c.in-Ok-start.ensures.keeper (begins_here (g.B.Disk.state j.disk) (g.met.B.Disk.only_now j.disk))

-- the words begin at a ceiling that is stored
pub start-requires-2-clause-stored : goal.start-requires-2-clause-stored
start-requires-2-clause-stored g c =
    let j = c.in-Ok.journal in
    let e = c.in-Ok.ensures in
    let right = opens_right c.args.total j.slots j.used j.last e.fits e.read in
    let desk = opens g.B.Disk.state c.args.id.now c.args.id.now c.args.total c.args.passes j right e.fault
    (λ bytes is.
    let first = sym e.stays.content ∙ is in
    let opened = e.opened bytes first in
    let holds = e.holds bytes first in
    kept_at g.B.Disk.state c.args.id.now c.args.id.now c.args.total j bytes right.slots_are holds.begins opened (record { begin = j.begin; slots = j.slots; holds = holds })
    (e.kept bytes first (c.requires.tidy bytes first j.begin j.slots holds)))
    e.durable (g.met.B.Disk.only_now j.disk) in
    let base = ap (λ b. b.0) c.last-base.ensures in
    stores_of g.B.Disk.state (g.B.Disk.state j.disk) c.args.id.now c.args.total j.last.0 j _ desk c.requires.total _ (omega (arith, base))
