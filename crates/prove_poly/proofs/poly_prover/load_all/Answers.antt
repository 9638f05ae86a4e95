use Rattle.std.proofs.Common.{List, ℕ, inl, inr, subst}
use Rattle.std.specs.Prelude.{string_bytes}
use Rattle.zk_model.specs.declared.Side.TheVariants.{Prover}
use Rattle.zk_port.specs.Changes.{change}
use Rattle.zk_port.specs.Shelves.{ShelfState}
use Rattle.frame_link.proofs.LineLemmas.{fails_at}
use Rattle.file_commands.specs.Stops.{FileStop}
use Rattle.poly_files.specs.PolyFiles.{IsPolyWitness, PolyWitnessStop}
use Rattle.prove_poly.proofs.poly_prover.load_all.Goals as goal

pub returns-in_err-witness-clause-stop : goal.returns-in_err-witness-clause-stop
returns-in_err-witness-clause-stop g c =
    let why = c.in_err-witness.field-0.0 in
    let ask = c.args.ask.now in
    fails_at _ c.from_residual.result why c.from_residual.ensures.1 (inl
    (subst (λ (q : List ℕ × List ℕ). PolyWitnessStop q.0 q.1 (change (g.F.Shelf.state c.args.shelf.now) (g.F.Shelf.state c.load_poly_values.new.shelf)) why)
    {y = (string_bytes ask.text, string_bytes ask.values)} (λ i. (c.deref.ensures i, c.deref-2.ensures i)) c.in_err-witness.ensures.stop))

pub returns-in_err-file-clause-stop : goal.returns-in_err-file-clause-stop
returns-in_err-file-clause-stop g c =
    let told = (g.F.Shelf.state c.args.shelf.now).told in
    let found = c.in_ok-witness.witness in
    let why = c.in_err-file.field-0.0 in
    let ask = c.args.ask.now in
    fails_at _ c.from_residual-in_err-file.result why c.from_residual-in_err-file.ensures.1 (inr (
      (
        found.constraints.polys,
        found.constraints.digest,
        found.values.items,
        subst (λ (q : List ℕ × List ℕ). IsPolyWitness told q.0 q.1 found.constraints.polys found.constraints.digest found.values.items)
            {y = (string_bytes ask.text, string_bytes ask.values)} (λ i. (c.deref.ensures i, c.deref-2.ensures i)) c.in_ok-witness.ensures.witness,
      ),
      subst (λ (q : ShelfState × List ℕ). FileStop Prover q.1 (change q.0 (g.F.Shelf.state c.load_prover.new.shelf)) why)
          {y = (g.F.Shelf.state c.args.shelf.now, string_bytes ask.file)} (λ i. (c.in_ok-witness.ensures.quiet i, c.deref-3.ensures i)) c.in_err-file.ensures.stop,
    ))
