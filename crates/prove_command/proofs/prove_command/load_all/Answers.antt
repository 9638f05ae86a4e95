use Rattle.std.proofs.Common.{List, ℕ, inr, subst}
use Rattle.zk_model.specs.declared.Side.TheVariants.{Prover}
use Rattle.zk_port.specs.Changes.{change}
use Rattle.zk_port.specs.Shelves.{ShelfState}
use Rattle.frame_link.proofs.LineLemmas.{fails_at}
use Rattle.file_commands.specs.Stops.{FileStop}
use Rattle.prove_command.specs.ProveRuns.{IsTrueClaim}
use Rattle.prove_command.proofs.Jobs.{true_claim}
use Rattle.prove_command.proofs.prove_command.load_all.Goals as goal

pub returns-in_err-file-clause-stop : goal.returns-in_err-file-clause-stop
returns-in_err-file-clause-stop g c =
    let told = (g.F.Shelf.state c.args.shelf.now).told in
    let witness = c.in_ok-witness.witness in
    let why = c.in_err-file.field-0.0 in
    fails_at _ c.from_residual-in_err-file.result why c.from_residual-in_err-file.ensures.1 (inr (
      subst (IsTrueClaim told) c.names-names.ensures (true_claim told c.names-names.result.now witness.claim witness.inputs.items witness.wires
          c.in_ok-witness.ensures.witness),
      subst (λ (q : ShelfState × List ℕ). FileStop Prover q.1 (change q.0 (g.F.Shelf.state c.load_prover.new.shelf)) why)
          (λ i. (c.in_ok-witness.ensures.quiet i, c.file-name.ensures i)) c.in_err-file.ensures.stop,
    ))
