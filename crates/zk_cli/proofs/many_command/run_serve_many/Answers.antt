use Rattle.std.proofs.Common.{◌≡◌, ◌≤◌, ◌∙◌, ℕ, List, All, ap, length, refl, sym, subst}
use Rattle.std.proofs.lemmas.List.{length-map}
use Rattle.zk_port.specs.Changes.{change}
use Rattle.zk_port.specs.Shelves.{ShelfState}
use Rattle.session_verifier.specs.declared.note.SessionNote.{SessionNote}
use Rattle.session_verifier.specs.declared.note.VerifierOutcome.TheVariants.{Accepted}
use Rattle.command_words.specs.Commands.{serve_many_of}
use Rattle.claim_files.specs.NamedClaims.{AreOfOneKind}
use Rattle.claim_files.specs.Services.{Service, service, service_of_many}
use Rattle.claim_files.specs.declared.claim_names.ClaimNames.{ClaimNames}
use Rattle.claim_files.specs.declared.claim_names.ClaimNames.TheVariants as names
use Rattle.zk_model.specs.declared.limits.TheConstants.{MAX_STATEMENTS}
use Rattle.command_words.specs.Words.{ServeManyAsk}
use Rattle.file_commands.specs.Journals.{disk_change}
use Rattle.file_commands.specs.Effects.{effects}
use Rattle.zk_cli.specs.ServeRuns.{Serves}
use Rattle.zk_cli.specs.ServedNotes.{GrantsOnce, ShowsClaim}
use Rattle.zk_cli.proofs.Loading.{boolean_kind}
use Rattle.zk_cli.proofs.Many.{of_notes, serves_claims, serves_none}
use Rattle.zk_cli.proofs.many_command.run_serve_many.Goals as goal

-- the service of these claims
abbrev served : ServeManyAsk → List ClaimNames → Service
served ask claims = service ask.address ask.file claims ask.options

pub returns-in-Err-clause-serves : goal.returns-in-Err-clause-serves
returns-in-Err-clause-serves g c =
    rw c.end.ensures
    (serves_none g.D.Link.Link.state (serve_many_of c.args.ask) (g.B.Disk.state c.args.ports.journal) (g.D.Door.state c.args.ports.door) _
    (record { stop = c.in-Err.stop; cause = c.in-Err.ensures.stop; prints = c.say_stop.ensures }) c.in-Err.ensures.kept)

pub returns-clause-serves : goal.returns-clause-serves
returns-clause-serves g c =
    let ask = serve_many_of c.args.ask in
    let new = g.F.Shelf.state c.run_service.new.shelf in
    let sink = change (g.O.Sink.state c.args.out.now) (g.O.Sink.state c.run_service.new.out) in
    let disk = disk_change (g.B.Disk.state c.args.ports.journal) (g.B.Disk.state c.run_service.result.journal) in
    let door = change (g.D.Door.state c.args.ports.door) (g.D.Door.state c.run_service.result.door) in
    let named = c.in-Ok.ensures.claims in
    serves_claims g.D.Link.Link.state ask named.0 c.run_service.result.part disk door
    (effects c.run_service.result.status (change (g.F.Shelf.state c.args.shelf.now) new) sink) named.1
    (subst (λ (p : ShelfState × List ClaimNames). Serves {L = g.row.D-Link.Denot} g.D.Link.Link.state (served ask p.1) c.run_service.result.part disk door
    (effects c.run_service.result.status (change p.0 new) sink)) (λ i. (c.in-Ok.ensures.quiet i, (c.as_slice.ensures.value ∙ named.2) i)) c.run_service.ensures.serves)

pub returns-clause-headline : goal.returns-clause-headline
returns-clause-headline g c =
    let ask = serve_many_of c.args.ask in
    let named = c.in-Ok.ensures.claims in
    of_notes c.run_service.result.part _ _ (λ notes holds. (
      service_of_many ask named.0,
      (named.0, named.1, refl),
      subst (λ (p : ShelfState × List ClaimNames). All (λ (note : SessionNote g.row.D-Link.Denot). note.outcome ≡ Accepted
          → ShowsClaim p.0.told (served ask p.1) note) notes) (λ i. (c.in-Ok.ensures.quiet i, (c.as_slice.ensures.value ∙ named.2) i)) holds,
    )) c.run_service.ensures.headline

pub returns-clause-once : goal.returns-clause-once
returns-clause-once g c =
    let ask = serve_many_of c.args.ask in
    let named = c.in-Ok.ensures.claims in
    let disk = disk_change (g.B.Disk.state c.args.ports.journal) (g.B.Disk.state c.run_service.result.journal) in
    of_notes c.run_service.result.part _ _ (λ notes holds. (
      service_of_many ask named.0,
      (named.0, named.1, refl),
      subst (λ (p : ShelfState × List ClaimNames). GrantsOnce {L = g.row.D-Link.Denot} p.0.told (served ask p.1) notes disk)
          (λ i. (c.in-Ok.ensures.quiet i, (c.as_slice.ensures.value ∙ named.2) i)) holds,
    )) c.run_service.ensures.once

pub run_service-requires-clause-some : goal.run_service-requires-clause-some
run_service-requires-clause-some g c κs within =
    let named = c.in-Ok.ensures.claims in
    subst (λ (n : ℕ). 1 ≤ n) (sym (ap length (c.as_slice.ensures.value ∙ named.2) ∙ length-map named.0 names.Boolean)) named.1.says.some

pub run_service-requires-clause-most : goal.run_service-requires-clause-most
run_service-requires-clause-most g c κs within =
    let named = c.in-Ok.ensures.claims in
    subst (λ (n : ℕ). n ≤ MAX_STATEMENTS) (sym (ap length (c.as_slice.ensures.value ∙ named.2) ∙ length-map named.0 names.Boolean)) named.1.says.few

pub run_service-requires-clause-kind : goal.run_service-requires-clause-kind
run_service-requires-clause-kind g c κs within =
    let named = c.in-Ok.ensures.claims in
    subst AreOfOneKind (sym (c.as_slice.ensures.value ∙ named.2)) (boolean_kind named.0)
