use Rattle.std.proofs.Common.{◌≡◌, ℕ, List, Some, ap, ◌∙◌, subst, sym, refl}
use Rattle.zk_model.specs.Files.{VerifierFile}
use Rattle.zk_port.specs.Changes.{change}
use Rattle.zk_port.specs.Doors.{DoorState, after_listen}
use Rattle.zk_port.specs.declared.access.Access.TheVariants.{Own}
use Rattle.claim_store.specs.Claims.{SaysClaims}
use Rattle.file_commands.specs.Journals.{IsClaimsFault, JournalStop, OnlyReads, OpensJournal, disk_change, node_journal_name}
use Rattle.zk_cli.specs.NodeServiceRuns.{LedByNode, claims_journal, place_of}
use Rattle.zk_cli.specs.ServeRuns.{service_of}
use Rattle.zk_cli.proofs.Opening.{first_file, lacks_journal}
use Rattle.zk_cli.proofs.node_service.serve_as_node.Goals as goal

pub returns-in-Err-clause-stop : goal.returns-in-Err-clause-stop
returns-in-Err-clause-stop g c =
    let service = service_of c.args.service.now in
    let place = place_of c.args.place.now in
    let disk = disk_change (g.B.Disk.state c.args.ports.journal) (g.B.Disk.state c.in-Err.journal) in
    let file : c.file-file.result.now ≡ c.args.jobs.now.first.task.file =
    first_file c.args.jobs.now c.job.result.now c.file-file.result.now c.file-file.ensures.file c.job.ensures in
    lacks_journal (claims_journal service place) service c.args.jobs.now disk
    (change (g.D.Door.state c.args.ports.door) (g.D.Door.state c.args.ports.door)) c.in-Err.refusal c.requires.few
    (subst (λ (name : List ℕ). OnlyReads (node_journal_name name place.node, Own) disk) c.deref.ensures c.in-Err.ensures.reads)
    (subst (λ (f : VerifierFile). JournalStop (IsClaimsFault f.id f.params.total disk.old) disk c.in-Err.refusal) file c.in-Err.ensures.stop)
    refl

pub returns-in-Ok-listen-clause-leads : goal.returns-in-Ok-listen-clause-leads
returns-in-Ok-listen-clause-leads g c =
    let service = service_of c.args.service.now in
    let place = place_of c.args.place.now in
    let first = c.in-Ok.claims in
    let led = c.lead_as_node-served in
    let served = led.result in
    let old = g.B.Disk.state c.args.ports.journal in
    let file : c.file-file.result.now ≡ c.args.jobs.now.first.task.file =
    first_file c.args.jobs.now c.job.result.now c.file-file.result.now c.file-file.ensures.file c.job.ensures in
    record {
      few = c.requires.few;
      first = first;
      opens = subst (λ (name : List ℕ). OpensJournal (node_journal_name name place.node, Own) (disk_change old (g.B.Disk.state first.disk)))
          c.deref.ensures c.in-Ok.ensures.opens;
      since = c.in-Ok.ensures.since;
      recovered = subst (λ (total : ℕ). (bytes : List ℕ) → old.content ≡ Some bytes → SaysClaims total first.begin first.slots first.claims bytes)
          (sym c.in-Ok.ensures.total) c.in-Ok.ensures.says;
      begins = c.in-Ok.ensures.durable;
      whole = c.in-Ok.ensures.whole;
      total = c.in-Ok.ensures.total ∙ ap (λ (f : VerifierFile). f.params.total) file;
      small = c.in-Ok.ensures.small;
      sessions = subst (λ (d : DoorState). LedByNode g.D.Link.Link.state g.B.Disk.state service.options.sessions service.options.timeout place
          c.args.jobs.now first d served.notes.items served.door_failed served.memory_failed served.disk (g.D.Door.state served.door))
          (c.in-Ok-listen.ensures.listens
          ∙ ap (λ (address : List ℕ). after_listen address service.options.timeout service.options.sessions (g.D.Door.state c.args.ports.door))
          c.deref-2.ensures) led.ensures;
    }
