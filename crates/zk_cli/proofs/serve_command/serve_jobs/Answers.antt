use Rattle.std.proofs.Common.{◌≡◌, ℕ, List, Some, IfSome, All, length, ap, ◌∙◌, subst, refl}
use Rattle.zk_model.specs.Files.{VerifierFile}
use Rattle.zk_port.specs.Changes.{change}
use Rattle.zk_port.specs.Doors.{DoorState, after_listen}
use Rattle.lease_store.specs.Ceilings.{HasCeilingHeader, SaysCeiling}
use Rattle.session_pool.specs.Doors.{TakesLinks}
use Rattle.session_pool.specs.Notes.{IsLeft, IsRefusedAmong, IsUnused}
use Rattle.session_verifier.specs.Outcomes.{grant_fault}
use Rattle.file_commands.specs.Journals.{JournalStop, OnlyReads, OpensJournal, disk_change, IsCeilingsFault, own_journal}
use Rattle.zk_cli.specs.ServeRuns.{ceilings_journal, service_of, units_of_note}
use Rattle.zk_cli.proofs.Opening.{first_file, lacks_journal, leads_jobs}
use Rattle.zk_cli.proofs.serve_command.serve_jobs.Goals as goal

pub returns-in-Err-clause-stop : goal.returns-in-Err-clause-stop
returns-in-Err-clause-stop g c =
    let disk = disk_change (g.B.Disk.state c.args.ports.journal) (g.B.Disk.state c.in-Err.journal) in
    let file : c.file-file.result.now ≡ c.args.jobs.now.first.task.file =
    first_file c.args.jobs.now c.job.result.now c.file-file.result.now c.file-file.ensures.file c.job.ensures in
    lacks_journal (ceilings_journal (service_of c.args.service.now)) (service_of c.args.service.now) c.args.jobs.now disk
    (change (g.D.Door.state c.args.ports.door) (g.D.Door.state c.args.ports.door)) c.in-Err.refusal c.requires.few
    (subst (λ (name : List ℕ). OnlyReads (own_journal name) disk) c.deref.ensures c.in-Err.ensures.reads)
    (subst (λ (f : VerifierFile). JournalStop (IsCeilingsFault f.id f.params.total disk.old) disk c.in-Err.refusal) file c.in-Err.ensures.stop)
    refl

pub lead_sessions-led-requires-clause-header : goal.lead_sessions-led-requires-clause-header
lead_sessions-led-requires-clause-header g c =
    let file : c.file-file.result.now ≡ c.args.jobs.now.first.task.file =
    first_file c.args.jobs.now c.job.result.now c.file-file.result.now c.file-file.ensures.file c.job.ensures in
    λ _ _ bytes known. subst (λ (id : List ℕ). HasCeilingHeader id c.in-Ok.opened.0.total bytes)
    (ap (λ (f : VerifierFile). f.id) file) (c.in-Ok.ensures.header bytes known)

pub returns-in-Ok-listen-clause-leads : goal.returns-in-Ok-listen-clause-leads
returns-in-Ok-listen-clause-leads g c =
    let service = service_of c.args.service.now in
    let led = c.lead_sessions-led in
    let served = led.result.served in
    let notes = served.notes.items in
    let old = g.B.Disk.state c.args.ports.journal in
    let mid = g.B.Disk.state c.in-Ok.opened.0.disk in
    let new = g.B.Disk.state served.disk in
    let base : ℕ = c.in-Ok.opened.0.base in
    let file : c.file-file.result.now ≡ c.args.jobs.now.first.task.file =
    first_file c.args.jobs.now c.job.result.now c.file-file.result.now c.file-file.ensures.file c.job.ensures in
    let total : c.in-Ok.opened.0.total ≡ c.args.jobs.now.first.task.file.params.total =
    c.in-Ok.ensures.total ∙ ap (λ (f : VerifierFile). f.params.total) file in
    let workers : c.in-Ok.opened.0.passes ≡ service.options.workers = c.in-Ok.ensures.count in
    leads_jobs g.D.Link.Link.state service c.args.jobs.now notes served.door_failed served.memory_failed old mid new
    (change (g.D.Door.state c.args.ports.door) (g.D.Door.state served.door)) base c.in-Ok.ensures.since c.requires.few
    (subst (λ (name : List ℕ). OpensJournal (own_journal name) (disk_change old mid)) c.deref.ensures c.in-Ok.ensures.opens)
    (subst (λ (f : VerifierFile). (bytes : List ℕ) → old.content ≡ Some bytes → SaysCeiling f.id f.params.total base bytes) file c.in-Ok.ensures.base)
    led.ensures.notes
    (subst (λ (d : DoorState). TakesLinks service.options.sessions (length notes) served.door_failed served.memory_failed d (g.D.Door.state served.door))
    (c.in-Ok-listen.ensures.listens
    ∙ ap (λ (address : List ℕ). after_listen address service.options.timeout service.options.sessions (g.D.Door.state c.args.ports.door)) c.deref-2.ensures)
    led.ensures.taken)
    led.ensures.apart (All IsUnused c.in-Ok.opened.1.items) c.in-Ok.ensures.unused
    (subst (λ (p : ℕ × ℕ). IsLeft (All IsUnused c.in-Ok.opened.1.items) mid new c.args.jobs.now.first.task.file.id base p.0 p.1
    (units_of_note c.args.jobs.now) (λ n. n.granted) (λ n. grant_fault n.outcome) notes) (λ i. (total i, workers i)) led.ensures.left)
    (subst (λ (n : ℕ). All (λ note. IfSome (grant_fault note.outcome) (IsRefusedAmong (units_of_note c.args.jobs.now) base n notes note)) notes)
    total (led.ensures.refused c.in-Ok.ensures.unused))
