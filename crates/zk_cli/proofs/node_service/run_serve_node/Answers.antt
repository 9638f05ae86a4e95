use Rattle.std.proofs.Common.{◌≡◌, ◌∷◌, [], Bool, ℕ, List, None, String, Vec, string_bytes, ap, ◌∙◌, subst}
use Rattle.std.specs.declared.alloc.Global.{Global}
use Rattle.zk_model.specs.declared.limits.TheConstants.{MAX_SECTION_LENGTH}
use Rattle.session_verifier.specs.declared.note.SessionNote.{SessionNote}
use Rattle.session_verifier.specs.declared.note.VerifierOutcome.TheVariants.{Accepted}
use Rattle.command_words.specs.Words.{serve_options}
use Rattle.command_words.specs.declared.asks.ServeNodeAsk.{ServeNodeAsk}
use Rattle.statement_file.specs.Claims.{NamedClaim, named_claim}
use Rattle.claim_files.specs.Services.{Service, service}
use Rattle.claim_files.specs.declared.claim_names.ClaimNames.{ClaimNames}
use Rattle.claim_files.specs.declared.claim_names.ClaimNames.TheVariants as names
use Rattle.zk_cli.specs.Runs.{EachNote}
use Rattle.zk_cli.specs.ServedNotes.{ShowsClaim}
use Rattle.zk_cli.proofs.node_service.run_serve_node.Goals as goal

-- the service of these claims
abbrev served : ServeNodeAsk (String Global) (Vec Bool Global) → List ClaimNames → Service
served ask claims = service (string_bytes ask.address) (string_bytes ask.file) claims
    (serve_options ask.sessions 1 MAX_SECTION_LENGTH ask.timeout None ask.follow)

-- the one claim that is asked for, with no public bit
one_claim : (claims : List ClaimNames) (named : NamedClaim) (circuit : List ℕ) (public outputs : List Bool) → claims ≡ names.Boolean named ∷ []
    → named ≡ named_claim circuit public outputs → public ≡ [] → claims ≡ names.Boolean (named_claim circuit [] outputs) ∷ []
one_claim claims named circuit public outputs are is none =
    are ∙ ap (λ (n : NamedClaim). names.Boolean n ∷ []) (is ∙ ap (λ (p : List Bool). named_claim circuit p outputs) none)

pub returns-then-ask-clause-headline : goal.returns-then-ask-clause-headline
returns-then-ask-clause-headline g c =
    subst (λ (claims : List ClaimNames). EachNote c.node_heard.result.part (λ (note : SessionNote g.row.D-Link.Denot). note.outcome ≡ Accepted
    → ShowsClaim (g.F.Shelf.state c.args.shelf.now).told (served c.args.ask claims) note))
    (one_claim _ _ (string_bytes c.args.ask.circuit) _ c.args.ask.outputs.items c.from_ref.ensures.value c.new-named.ensures c.new.ensures.items)
    c.node_heard.ensures.headline

pub returns-clause-headline : goal.returns-clause-headline
returns-clause-headline g c =
    subst (λ (claims : List ClaimNames). EachNote c.node_heard-else-ask.result.part (λ (note : SessionNote g.row.D-Link.Denot). note.outcome ≡ Accepted
    → ShowsClaim (g.F.Shelf.state c.args.shelf.now).told (served c.args.ask claims) note))
    (one_claim _ _ (string_bytes c.args.ask.circuit) _ c.args.ask.outputs.items c.from_ref.ensures.value c.new-named.ensures c.new.ensures.items)
    c.node_heard-else-ask.ensures.headline
