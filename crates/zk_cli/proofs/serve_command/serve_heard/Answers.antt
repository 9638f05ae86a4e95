use Rattle.std.proofs.Common.{ℕ, List, Option, inl, inr, sym, subst}
use Rattle.std.specs.Option.{option_map}
use Rattle.zk_port.specs.Changes.{change}
use Rattle.session_verifier.specs.declared.note.SessionNote.{SessionNote}
use Rattle.file_commands.specs.Journals.{disk_change}
use Rattle.file_commands.specs.Effects.{effects}
use Rattle.zk_cli.specs.ServeRuns.{IsLoadedName, IsServeName, LeadsFiles, service_of}
use Rattle.session_verifier.specs.ServiceLogs.{HaveApartNames, IsLogName, SaysService, TriesLogs}
use Rattle.file_commands.proofs.Asking.{asks_among}
use Rattle.zk_cli.proofs.LogNames.{apart_names}
use Rattle.zk_cli.proofs.Ordering.{files_permuted}
use Rattle.zk_cli.proofs.ServeDone.{serves}
use Rattle.zk_cli.proofs.Serving.{grants_once, headlines, others_same}
use Rattle.zk_cli.proofs.serve_command.serve_heard.Given.{Over}
use Rattle.zk_cli.proofs.serve_command.serve_heard.Goals as goal

-- the sessions in their order
leads : (g : Over) (c : goal.After-deref g) → LeadsFiles {L = g.row.D-Link.Denot} g.D.Link.Link.state (service_of c.args.service.now)
    c.order_notes.new.notes.items c.in-Ok.led.served.door_failed c.in-Ok.led.served.memory_failed (g.F.Shelf.state c.args.shelf.now).told
    (disk_change (g.B.Disk.state c.args.ports.journal) (g.B.Disk.state c.in-Ok.led.served.disk))
    (change (g.D.Door.state c.args.ports.door) (g.D.Door.state c.in-Ok.led.served.door))
leads g c =
    let service = service_of c.args.service.now in
    let told = (g.F.Shelf.state c.args.shelf.now).told in
    let disk = disk_change (g.B.Disk.state c.args.ports.journal) (g.B.Disk.state c.in-Ok.led.served.disk) in
    let door = change (g.D.Door.state c.args.ports.door) (g.D.Door.state c.in-Ok.led.served.door) in
    files_permuted g.D.Link.Link.state service c.in-Ok.led.served.notes.items c.order_notes.new.notes.items c.in-Ok.led.served.door_failed c.in-Ok.led.served.memory_failed told disk door
    c.order_notes.ensures.permutation c.in-Ok.ensures.leads

pub say_service-status-requires : goal.say_service-status-requires
say_service-status-requires g c = record {
  apart = subst (λ (notes : List (SessionNote g.row.D-Link.Denot)). HaveApartNames (option_map (λ p. p.now) c.as_deref-logs.result) notes)
      (sym c.deref.ensures.value) (apart_names _ g.D.Link.Link.state _ _ _ _ _ _ _ (leads g c));
}

pub returns-in-Ok-clause-serves : goal.returns-in-Ok-clause-serves
returns-in-Ok-clause-serves g c =
    let service = service_of c.args.service.now in
    let old = g.F.Shelf.state c.args.shelf.now in
    let mid = g.F.Shelf.state c.serve_files.new.shelf in
    let new = g.F.Shelf.state c.say_service-status.new.shelf in
    let sink = change (g.O.Sink.state c.args.out.now) (g.O.Sink.state c.say_service-status.new.out) in
    let run = effects c.say_service-status.result (change old new) sink in
    let prefix = c.as_deref-logs.ensures.value in
    let tried : TriesLogs (option_map (λ p. p.now) c.as_deref-logs.result) (change old mid) c.in-Ok.led.faults.failed =
    subst (λ (p : Option (List ℕ)). TriesLogs p (change old mid) c.in-Ok.led.faults.failed) (sym prefix)
    c.in-Ok.ensures.tried in
    let said : SaysService {L = g.row.D-Link.Denot} service.options.logs c.order_notes.new.notes.items c.in-Ok.led.served.door_failed c.in-Ok.led.served.memory_failed run =
    subst (λ (p : List (SessionNote g.row.D-Link.Denot) × Option (List ℕ)). SaysService p.1 p.0 c.in-Ok.led.served.door_failed c.in-Ok.led.served.memory_failed run)
    (λ i. (c.deref.ensures.value i, prefix i)) (c.say_service-status.ensures old tried) in
    rw c.end_with.ensures (serves g.D.Link.Link.state c.one_circuit.ensures c.texts_are_exact.ensures c.elements_are_exact.ensures
    c.ceilings_start_again.ensures service _ _ _ run
    (record {
      door_failed = c.in-Ok.led.served.door_failed;
      memory_failed = c.in-Ok.led.served.memory_failed;
      leads = leads g c.before.before;
      ordered = c.order_notes.ensures.ordered;
      says = said;
    })
    said.logs.tried.kept.others
    (asks_among (IsLogName service.options.logs) (IsServeName service) (change old new) (λ name is. inr is) said.logs.tried.kept.asked))

pub returns-in-Ok-clause-headline : goal.returns-in-Ok-clause-headline
returns-in-Ok-clause-headline g c =
    rw c.end_with.ensures
    (headlines g.D.Link.Link.state c.extracted_shows_outputs.ensures c.extracted_shows_elements.ensures c.elements_are_exact.ensures _ _ _ _ _ _ _ (leads g c.before.before))

pub returns-in-Ok-clause-once : goal.returns-in-Ok-clause-once
returns-in-Ok-clause-once g c =
    rw c.end_with.ensures
    (grants_once g.D.Link.Link.state _ _ _ _ _ _ _ (leads g c.before.before) c.order_notes.ensures.ordered)

pub returns-in-Err-clause-serves : goal.returns-in-Err-clause-serves
returns-in-Err-clause-serves g c =
    let service = service_of c.args.service.now in
    let shelf = change (g.F.Shelf.state c.args.shelf.now) (g.F.Shelf.state c.serve_files.new.shelf) in
    rw c.end.ensures (serves g.D.Link.Link.state c.one_circuit.ensures c.texts_are_exact.ensures c.elements_are_exact.ensures
    c.ceilings_start_again.ensures service _ _ _ _ (
      record {
        stop = c.in-Err.field-0.refusal;
        cause = c.in-Err.ensures.stop;
        prints = c.say_stop.ensures;
      },
      c.in-Err.ensures.kept,
    )
    (others_same (IsLogName service.options.logs) shelf.old.told shelf.new.told c.in-Err.ensures.kept.told)
    (asks_among (IsLoadedName service) (IsServeName service) shelf (λ name is. inl is) c.in-Err.ensures.kept.asked))
