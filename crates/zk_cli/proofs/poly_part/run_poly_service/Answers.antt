use Rattle.std.proofs.Common.{◌≡◌, ◌∙◌, List, All, Option, None, Some, IfSome, ap, sym, subst}
use Rattle.std.specs.Prelude.{Vec}
use Rattle.std.specs.declared.alloc.Global.{Global}
use Rattle.session_verifier.specs.declared.note.SessionNote.{SessionNote}
use Rattle.session_verifier.specs.declared.note.VerifierOutcome.TheVariants.{Accepted}
use Rattle.command_words.specs.Commands.{serve_poly_of}
use Rattle.serve_poly.specs.PolyServices.{ShowsConstraints}
use Rattle.zk_cli.specs.PolyParts.{served_part}
use Rattle.zk_cli.specs.Runs.{OfNotes}
use Rattle.zk_cli.specs.declared.finish.Part.{Part}
use Rattle.zk_cli.proofs.poly_part.run_poly_service.Goals as goal

-- what holds of the notes that are handed back holds of those of the part
of_served : {L : Type 0} (notes : Option (Vec (SessionNote L) Global)) (Holds : List (SessionNote L) → Type 0) → IfSome notes (λ n. Holds n.items)
    → OfNotes (served_part notes) Holds
of_served None Holds holds = tt
of_served (Some notes) Holds holds = holds

pub returns-clause-headline : goal.returns-clause-headline
returns-clause-headline g c =
    let Shows : List (SessionNote g.row.D-Link.Denot) → Type 0 = λ notes. All (λ (note : SessionNote g.row.D-Link.Denot). note.outcome ≡ Accepted
    → ShowsConstraints (g.F.Shelf.state c.args.shelf.now).told (serve_poly_of c.args.ask.now) note) notes in
    subst (λ (part : Part g.row.D-Link.Denot). OfNotes part Shows) (sym (ap (λ f. f.part) c.end_with.ensures ∙ c.part_of_notes-part.ensures))
    (of_served c.run_serve_poly-end.result.notes Shows c.run_serve_poly-end.ensures.headline)
