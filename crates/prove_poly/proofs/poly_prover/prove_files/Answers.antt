use Rattle.std.proofs.Common.{◌∙◌, List, ℕ, inl, inr, refl, subst}
use Rattle.std.proofs.lemmas.Result.{IfOk-weaker, IfErr-weaker}
use Rattle.zk_port.specs.Changes.{change}
use Rattle.poly_model.specs.Constraints.{Constraints}
use Rattle.command_words.specs.Commands.{prove_poly_of}
use Rattle.file_commands.specs.Journals.{disk_change}
use Rattle.file_commands.proofs.Journals.{untouched}
use Rattle.prove_poly.specs.PolyNotes.{poly_knowledge}
use Rattle.prove_poly.specs.PolyProofs.{HoldsOver, poly_job}
use Rattle.prove_poly.proofs.poly_prover.prove_files.Goals as goal

pub returns-in-Err-clause-stop : goal.returns-in-Err-clause-stop
returns-in-Err-clause-stop g c = inl (c.in-Err.ensures.stop, untouched (g.B.Disk.state c.args.journal), refl)

pub returns-clause-holds : goal.returns-clause-holds
returns-clause-holds g c =
    let found = c.in-Ok.loaded.0 in
    let file = c.in-Ok.loaded.1 in
    IfOk-weaker c.prove_witness.result _ _ (λ r held. record {
      job = poly_job found.constraints.polys found.constraints.digest found.values.items file;
      asked = record { witness = c.in-Ok.ensures.witness; file = c.in-Ok.ensures.file };
      holds = subst (λ (q : Constraints × List ℕ × List ℕ). HoldsOver g.D.Link.Link.state (prove_poly_of c.args.ask.now) (poly_knowledge q.0 q.1 q.2) file r.0
          (disk_change (g.B.Disk.state c.args.journal) (g.B.Disk.state r.1)) (change (g.D.Door.state c.args.door.now) (g.D.Door.state c.prove_witness.new.door)))
          (λ i. (c.new-witness.ensures.constraints i, c.new-witness.ensures.digest i, (c.new-witness.ensures.values ∙ c.deref.ensures.value) i)) held;
    }) c.prove_witness.ensures.holds

pub returns-clause-stop : goal.returns-clause-stop
returns-clause-stop g c =
    let found = c.in-Ok.loaded.0 in
    let file = c.in-Ok.loaded.1 in
    IfErr-weaker c.prove_witness.result _ _ (λ r stopped. inr (
      poly_job found.constraints.polys found.constraints.digest found.values.items file,
      record { witness = c.in-Ok.ensures.witness; file = c.in-Ok.ensures.file },
      stopped,
    )) c.prove_witness.ensures.stop
