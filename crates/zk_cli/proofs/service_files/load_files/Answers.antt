use Rattle.std.proofs.Common.{ℕ, List, inr, subst}
use Rattle.frame_link.proofs.LineLemmas.{fails_at}
use Rattle.zk_model.specs.declared.Side.TheVariants.{Verifier}
use Rattle.zk_port.specs.Changes.{change}
use Rattle.zk_port.specs.Shelves.{ShelfState}
use Rattle.file_commands.specs.Stops.{FileStop}
use Rattle.zk_cli.proofs.Loading.{had_each}
use Rattle.zk_cli.proofs.service_files.load_files.Goals as goal

pub returns-in_err-file-clause-stop : goal.returns-in_err-file-clause-stop
returns-in_err-file-clause-stop g c =
    let why = c.in_err-file.field-0.0 in
    let new = g.F.Shelf.state c.load_verifier.new.shelf in
    fails_at _ c.from_residual-in_err-file.result why c.from_residual-in_err-file.ensures.1 (inr (
      had_each (g.F.Shelf.state c.args.shelf.now).told c.args.service.now.statements.now c.in_ok-claims.claims.items c.in_ok-claims.ensures.claims,
      subst (λ (q : ShelfState × List ℕ). FileStop Verifier q.1 (change q.0 new) why)
          (λ i. (c.in_ok-claims.ensures.quiet i, c.deref.ensures i)) c.in_err-file.ensures.stop,
    ))
