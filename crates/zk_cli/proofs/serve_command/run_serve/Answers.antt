use Rattle.std.proofs.Common.{◌≡◌, ◌∷◌, [], Bool, List, String, Vec, string_bytes, ap, ◌∙◌, sym, subst}
use Rattle.std.specs.declared.alloc.Global.{Global}
use Rattle.zk_port.specs.Changes.{change}
use Rattle.session_verifier.specs.declared.note.SessionNote.{SessionNote}
use Rattle.session_verifier.specs.declared.note.VerifierOutcome.TheVariants.{Accepted}
use Rattle.command_words.specs.Commands.{known_bits, named_options, serve_of}
use Rattle.command_words.specs.declared.asks.ServeAsk.{ServeAsk}
use Rattle.statement_file.specs.Claims.{NamedClaim}
use Rattle.claim_files.specs.NamedClaims.{AreOfOneKind}
use Rattle.claim_files.specs.Services.{Service, claim_asked, service}
use Rattle.claim_files.specs.declared.claim_names.ClaimNames.{ClaimNames}
use Rattle.claim_files.specs.declared.claim_names.ClaimNames.TheVariants as names
use Rattle.file_commands.specs.Effects.{effects}
use Rattle.file_commands.specs.Journals.{disk_change}
use Rattle.zk_cli.specs.Runs.{EachNote, OfNotes}
use Rattle.zk_cli.specs.ServeRuns.{Serves}
use Rattle.zk_cli.specs.ServedNotes.{GrantsOnce, ShowsClaim}
use Rattle.zk_cli.proofs.Loading.{one_kind}
use Rattle.zk_cli.proofs.serve_command.run_serve.Goals as goal

-- the service of these claims
abbrev served : ServeAsk (String Global) (Vec Bool Global) → List ClaimNames → Service
served ask claims = service (string_bytes ask.address) (string_bytes ask.file) claims (named_options ask.options)

-- the one claim that is asked for
one_claim : (ask : ServeAsk (String Global) (Vec Bool Global)) (claims : List ClaimNames) (named : NamedClaim) → claims ≡ names.Boolean named ∷ []
    → names.Boolean named ≡ claim_asked (serve_of known_bits ask) → claims ≡ claim_asked (serve_of known_bits ask) ∷ []
one_claim ask claims named are is = are ∙ ap (λ (c : ClaimNames). c ∷ []) is

pub run_service-requires-clause-kind : goal.run_service-requires-clause-kind
run_service-requires-clause-kind g c κs within = subst AreOfOneKind (sym c.from_ref.ensures.value) (one_kind (names.Boolean c.new-named.result))

pub returns-clause-serves : goal.returns-clause-serves
returns-clause-serves g c =
    let result = c.run_service.result in
    subst (λ (claims : List ClaimNames). Serves {L = g.row.D-Link.Denot} g.D.Link.Link.state (served c.args.ask claims) result.part
    (disk_change (g.B.Disk.state c.args.ports.journal) (g.B.Disk.state result.journal))
    (change (g.D.Door.state c.args.ports.door) (g.D.Door.state result.door))
    (effects result.status (change (g.F.Shelf.state c.args.shelf.now) (g.F.Shelf.state c.run_service.new.shelf))
    (change (g.O.Sink.state c.args.out.now) (g.O.Sink.state c.run_service.new.out))))
    (one_claim c.args.ask _ _ c.from_ref.ensures.value (ap names.Boolean c.new-named.ensures)) c.run_service.ensures.serves

pub returns-clause-headline : goal.returns-clause-headline
returns-clause-headline g c =
    subst (λ (claims : List ClaimNames). EachNote c.run_service.result.part (λ (note : SessionNote g.row.D-Link.Denot). note.outcome ≡ Accepted
    → ShowsClaim (g.F.Shelf.state c.args.shelf.now).told (served c.args.ask claims) note))
    (one_claim c.args.ask _ _ c.from_ref.ensures.value (ap names.Boolean c.new-named.ensures)) c.run_service.ensures.headline

pub returns-clause-once : goal.returns-clause-once
returns-clause-once g c =
    subst (λ (claims : List ClaimNames). OfNotes c.run_service.result.part (λ notes. GrantsOnce {L = g.row.D-Link.Denot} (g.F.Shelf.state c.args.shelf.now).told
    (served c.args.ask claims) notes (disk_change (g.B.Disk.state c.args.ports.journal) (g.B.Disk.state c.run_service.result.journal))))
    (one_claim c.args.ask _ _ c.from_ref.ensures.value (ap names.Boolean c.new-named.ensures)) c.run_service.ensures.once
