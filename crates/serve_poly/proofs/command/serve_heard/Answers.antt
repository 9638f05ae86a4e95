use Rattle.std.proofs.Common.{ℕ, List, Option, inl, inr, sym, subst}
use Rattle.std.specs.Option.{option_map}
use Rattle.zk_port.specs.Changes.{change}
use Rattle.session_verifier.specs.declared.note.SessionNote.{SessionNote}
use Rattle.session_verifier.specs.ServiceLogs.{HaveApartNames, IsLogName, SaysService, TriesLogs}
use Rattle.command_words.specs.Commands.{serve_poly_of}
use Rattle.file_commands.specs.Effects.{effects}
use Rattle.file_commands.specs.Journals.{disk_change}
use Rattle.file_commands.proofs.Asking.{asks_among}
use Rattle.serve_poly.specs.PolyServices.{IsLoadedName, IsServeName, LeadsPoly}
use Rattle.serve_poly.proofs.Led.{grants_once, headlines, names_apart, ordered_so, others_same, serves_so}
use Rattle.serve_poly.proofs.command.serve_heard.Given.{Over}
use Rattle.serve_poly.proofs.command.serve_heard.Goals as goal

-- the sessions in their order
leads : (g : Over) (c : goal.After-deref g) → LeadsPoly {L = g.row.D-Link.Denot} g.D.Link.Link.state (serve_poly_of c.args.ask.now)
    c.order_notes.new.notes.items c.in-Ok.led.served.door_failed c.in-Ok.led.served.memory_failed (g.F.Shelf.state c.args.shelf.now).told
    (disk_change (g.B.Disk.state c.args.journal) (g.B.Disk.state c.in-Ok.led.served.disk))
    (change (g.D.Door.state c.args.door) (g.D.Door.state c.in-Ok.led.served.door))
leads g c = ordered_so g.D.Link.Link.state (serve_poly_of c.args.ask.now) c.in-Ok.led.served.notes.items c.order_notes.new.notes.items
    c.in-Ok.led.served.door_failed c.in-Ok.led.served.memory_failed (g.F.Shelf.state c.args.shelf.now).told
    (disk_change (g.B.Disk.state c.args.journal) (g.B.Disk.state c.in-Ok.led.served.disk))
    (change (g.D.Door.state c.args.door) (g.D.Door.state c.in-Ok.led.served.door)) c.order_notes.ensures.permutation c.in-Ok.ensures.leads

pub say_service-status-requires : goal.say_service-status-requires
say_service-status-requires g c = record {
  apart = subst (λ (p : List (SessionNote g.row.D-Link.Denot) × Option (List ℕ)). HaveApartNames p.1 p.0)
      (λ i. (sym c.deref.ensures.value i, sym c.as_deref-logs.ensures.value i))
      (names_apart g.D.Link.Link.state (serve_poly_of c.args.ask.now) _ _ _ _ _ _ (leads g c));
}

pub returns-in-Ok-clause-serves : goal.returns-in-Ok-clause-serves
returns-in-Ok-clause-serves g c =
    let ask = serve_poly_of c.args.ask.now in
    let old = g.F.Shelf.state c.args.shelf.now in
    let mid = g.F.Shelf.state c.serve_files.new.shelf in
    let new = g.F.Shelf.state c.say_service-status.new.shelf in
    let sink = change (g.O.Sink.state c.args.out.now) (g.O.Sink.state c.say_service-status.new.out) in
    let run = effects c.say_service-status.result (change old new) sink in
    let prefix = c.as_deref-logs.ensures.value in
    let tried : TriesLogs (option_map (λ p. p.now) c.as_deref-logs.result) (change old mid) c.in-Ok.led.faults.failed =
    subst (λ (p : Option (List ℕ)). TriesLogs p (change old mid) c.in-Ok.led.faults.failed) (sym prefix)
    c.in-Ok.ensures.tried in
    let said : SaysService {L = g.row.D-Link.Denot} ask.options.logs c.order_notes.new.notes.items c.in-Ok.led.served.door_failed c.in-Ok.led.served.memory_failed run =
    subst (λ (p : List (SessionNote g.row.D-Link.Denot) × Option (List ℕ)). SaysService p.1 p.0 c.in-Ok.led.served.door_failed c.in-Ok.led.served.memory_failed run)
    (λ i. (c.deref.ensures.value i, prefix i)) (c.say_service-status.ensures old tried) in
    serves_so g.D.Link.Link.state ask _ _ _ run
    (record {
      door_failed = c.in-Ok.led.served.door_failed;
      memory_failed = c.in-Ok.led.served.memory_failed;
      leads = leads g c.before;
      ordered = c.order_notes.ensures.ordered;
      says = said;
    })
    said.logs.tried.kept.others
    (asks_among (IsLogName ask.options.logs) (IsServeName ask) (change old new) (λ name is. inr is) said.logs.tried.kept.asked)

pub returns-in-Ok-clause-headline : goal.returns-in-Ok-clause-headline
returns-in-Ok-clause-headline g c = headlines g.D.Link.Link.state (serve_poly_of c.args.ask.now) _ _ _ _ _ _ (leads g c.before)

pub returns-in-Ok-clause-once : goal.returns-in-Ok-clause-once
returns-in-Ok-clause-once g c = grants_once g.D.Link.Link.state (serve_poly_of c.args.ask.now) _ _ _ _ _ _ (leads g c.before) c.order_notes.ensures.ordered

pub returns-in-Err-clause-serves : goal.returns-in-Err-clause-serves
returns-in-Err-clause-serves g c =
    let ask = serve_poly_of c.args.ask.now in
    let shelf = change (g.F.Shelf.state c.args.shelf.now) (g.F.Shelf.state c.serve_files.new.shelf) in
    serves_so g.D.Link.Link.state ask _ _ _ _ (
      record {
        stop = c.in-Err.field-0.refusal;
        cause = c.in-Err.ensures.stop;
        prints = c.say_stop-status.ensures;
      },
      c.in-Err.ensures.kept,
    )
    (others_same (IsLogName ask.options.logs) shelf.old.told shelf.new.told c.in-Err.ensures.kept.told)
    (asks_among (IsLoadedName ask) (IsServeName ask) shelf (λ name is. inl is) c.in-Err.ensures.kept.asked)
