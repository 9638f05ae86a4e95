use Rattle.std.proofs.Common.{◌≡◌, ℕ, Bool, false, List, Option, None, string_bytes, refl, ap, inl, inr, sym, subst}
use Rattle.std.specs.Option.{option_map}
use Rattle.zk_port.specs.Changes.{change}
use Rattle.session_verifier.specs.declared.note.SessionNote.{SessionNote}
use Rattle.file_commands.specs.Effects.{effects}
use Rattle.zk_cli.specs.NodeServiceRuns.{place_of}
use Rattle.zk_cli.specs.ServeRuns.{IsLoadedName, IsServeName, service_of}
use Rattle.session_verifier.specs.ServiceLogs.{IsLogName, SaysService, TriesLogs}
use Rattle.zk_port.specs.Shelves.{ShelfState}
use Rattle.file_commands.proofs.Asking.{asks_among}
use Rattle.file_commands.proofs.Storing.{stores_nothing}
use Rattle.zk_cli.proofs.NodeDone.{serves_node}
use Rattle.zk_cli.proofs.NodeServing.{grants_claimed_once, node_headlines}
use Rattle.zk_cli.proofs.Serving.{others_same}
use Rattle.zk_cli.proofs.node_service.node_heard.Goals as goal

-- no log is kept before any call
no_logs : (old mid : ShelfState) (failed : Bool) → mid ≡ old → failed ≡ false → TriesLogs None (change old mid) failed
no_logs old mid failed same none =
    subst (λ (p : Bool × ShelfState). TriesLogs None (change old p.1) p.0) (λ i. (sym none i, sym same i)) (record {
      kept = stores_nothing (IsLogName None) old;
      cause = λ some. cc;
      quiet = λ calm. record { all = refl; each = λ name. refl };
    })

pub returns-in-Ok-clause-serves : goal.returns-in-Ok-clause-serves
returns-in-Ok-clause-serves g c =
    let service = service_of c.args.service.now in
    let served = c.in-Ok.served in
    let old = g.F.Shelf.state c.args.shelf.now in
    let mid = g.F.Shelf.state c.serve_node_files.new.shelf in
    let new = g.F.Shelf.state c.say_service-status.new.shelf in
    let sink = change (g.O.Sink.state c.args.out.now) (g.O.Sink.state c.say_service-status.new.out) in
    let run = effects c.say_service-status.result (change old new) sink in
    let notes = c.order_notes.new.notes.items in
    let unlogged : None ≡ service.options.logs = sym (ap (option_map string_bytes) c.requires.unlogged) in
    let said : SaysService {L = g.row.D-Link.Denot} service.options.logs notes served.door_failed served.memory_failed run =
    subst (λ (p : List (SessionNote g.row.D-Link.Denot) × Option (List ℕ)). SaysService p.1 p.0 served.door_failed served.memory_failed run)
    (λ i. (c.deref.ensures.value i, unlogged i))
    (c.say_service-status.ensures old (no_logs old mid c.none-faults.result.failed c.in-Ok.ensures.quiet c.none-faults.ensures.failed)) in
    rw c.end_with.ensures (serves_node g.D.Link.Link.state g.B.Disk.state c.one_circuit.ensures c.texts_are_exact.ensures c.elements_are_exact.ensures
    c.claims_start_again.ensures service (place_of c.args.place.now) _ _ _ run
    (record {
      door_failed = served.door_failed;
      memory_failed = served.memory_failed;
      led = served.notes.items;
      leads = c.in-Ok.ensures.leads;
      same = c.order_notes.ensures.permutation;
      ordered = c.order_notes.ensures.ordered;
      says = said;
    })
    said.logs.tried.kept.others
    (asks_among (IsLogName service.options.logs) (IsServeName service) (change old new) (λ name is. inr is) said.logs.tried.kept.asked))

pub returns-in-Ok-clause-headline : goal.returns-in-Ok-clause-headline
returns-in-Ok-clause-headline g c =
    rw c.end_with.ensures
    (node_headlines g.D.Link.Link.state g.B.Disk.state c.extracted_shows_outputs.ensures c.extracted_shows_elements.ensures c.elements_are_exact.ensures
    _ _ _ _ _ _ _ _ _ c.in-Ok.ensures.leads c.order_notes.ensures.permutation)

pub returns-in-Ok-clause-once : goal.returns-in-Ok-clause-once
returns-in-Ok-clause-once g c =
    rw c.end_with.ensures
    (grants_claimed_once g.D.Link.Link.state g.B.Disk.state (record { counts = g.met.B.Disk.counts_now; only = g.met.B.Disk.only_now })
    _ _ _ _ _ _ _ _ _ c.in-Ok.ensures.leads c.order_notes.ensures.permutation c.order_notes.ensures.ordered)

pub returns-in-Err-clause-serves : goal.returns-in-Err-clause-serves
returns-in-Err-clause-serves g c =
    let service = service_of c.args.service.now in
    let shelf = change (g.F.Shelf.state c.args.shelf.now) (g.F.Shelf.state c.serve_node_files.new.shelf) in
    rw c.end.ensures (serves_node g.D.Link.Link.state g.B.Disk.state c.one_circuit.ensures c.texts_are_exact.ensures c.elements_are_exact.ensures
    c.claims_start_again.ensures service (place_of c.args.place.now) _ _ _ _ (
      record {
        stop = c.in-Err.field-0.refusal;
        cause = c.in-Err.ensures.stop;
        prints = c.say_stop.ensures;
      },
      c.serve_node_files.ensures.kept,
    )
    (others_same (IsLogName service.options.logs) shelf.old.told shelf.new.told c.serve_node_files.ensures.kept.told)
    (asks_among (IsLoadedName service) (IsServeName service) shelf (λ name is. inl is) c.serve_node_files.ensures.kept.asked))
