use Rattle.std.proofs.Common.{◌≡◌, ℕ, List, Some, IfSome, All, length, sym, ap, ◌∙◌, subst}
use Rattle.zk_port.specs.Changes.{change}
use Rattle.zk_port.specs.Doors.{DoorState}
use Rattle.lease_store.specs.Ceilings.{HasCeilingHeader, SaysCeiling}
use Rattle.session_pool.specs.Doors.{TakesLinks}
use Rattle.session_pool.specs.Notes.{IsLeft, IsRefusedAmong, IsUnused}
use Rattle.session_verifier.specs.Outcomes.{grant_fault}
use Rattle.session_service.specs.ServiceRuns.{place_of, sessions_by}
use Rattle.session_service.proofs.Opening.{leads_sessions}
use Rattle.session_service.proofs.service.serve_sessions.Goals as goal

pub lead_sessions-led-requires-clause-header : goal.lead_sessions-led-requires-clause-header
lead_sessions-led-requires-clause-header g c = λ _ _ bytes known. subst (λ (id : List ℕ). HasCeilingHeader id c.in-Ok.opened.0.total bytes)
    (sym c.requires.id) (c.in-Ok.ensures.header bytes known)

pub returns-in-Ok-listen-clause-leads : goal.returns-in-Ok-listen-clause-leads
returns-in-Ok-listen-clause-leads g c =
    let at = place_of c.args.place.now in
    let sessions = c.args.sessions.now in
    let size = g.S.Sessions.size sessions in
    let led = c.lead_sessions-led in
    let served = led.result.served in
    let notes = served.notes.items in
    let old = g.B.Disk.state c.args.journal in
    let mid = g.B.Disk.state c.in-Ok.opened.0.disk in
    let new = g.B.Disk.state served.disk in
    let base : ℕ = c.in-Ok.opened.0.base in
    let total : c.in-Ok.opened.0.total ≡ g.S.Sessions.total sessions = c.in-Ok.ensures.total ∙ sym c.requires.total in
    let workers : c.in-Ok.opened.0.passes ≡ at.options.workers = c.in-Ok.ensures.count in
    leads_sessions at (sessions_by (g.S.Sessions.id sessions) (g.S.Sessions.total sessions) size (g.S.Sessions.is_note sessions)) notes
    served.door_failed served.memory_failed old mid new (change (g.D.Door.state c.args.door) (g.D.Door.state served.door)) base c.in-Ok.ensures.since
    c.in-Ok.ensures.opens
    (subst (λ (p : List ℕ × ℕ). (bytes : List ℕ) → old.content ≡ Some bytes → SaysCeiling p.0 p.1 base bytes)
    (λ i. (sym c.requires.id i, sym c.requires.total i)) c.in-Ok.ensures.base)
    led.ensures.notes
    (subst (λ (d : DoorState). TakesLinks at.options.sessions (length notes) served.door_failed served.memory_failed d (g.D.Door.state served.door))
    c.in-Ok-listen.ensures.listens led.ensures.taken)
    led.ensures.apart (All IsUnused c.in-Ok.opened.1.items) c.in-Ok.ensures.unused
    (subst (λ (p : ℕ × ℕ). IsLeft (All IsUnused c.in-Ok.opened.1.items) mid new (g.S.Sessions.id sessions) base p.0 p.1
    size (λ n. n.granted) (λ n. grant_fault n.outcome) notes) (λ i. (total i, workers i)) led.ensures.left)
    (subst (λ (n : ℕ). All (λ note. IfSome (grant_fault note.outcome) (IsRefusedAmong size base n notes note)) notes)
    total (led.ensures.refused c.in-Ok.ensures.unused))
