use Rattle.std.proofs.Common.{◌∙◌, ℕ, List, ap, sym, subst}
use Rattle.zk_model.specs.Statement.{Statement, arith_statement}
use Rattle.claim_files.specs.ArithFiles.{IsArithClaim}
use Rattle.claim_files.specs.NamedClaims.{OfElements}
use Rattle.claim_files.proofs.claim_file.load_arithmetic.Goals as goal

pub returns-clause-claim : goal.returns-clause-claim
returns-clause-claim g c =
    let claimed = c.in_ok-claimed.claimed in
    let stated = c.in_ok-of_arith.ensures ∙ ap (arith_statement claimed.circuit claimed.digest) c.deref.ensures.value in (
      OfElements claimed.circuit claimed.outputs.items,
      subst (λ (q : List ℕ × List ℕ × Statement).
          IsArithClaim (g.F.Shelf.state c.args.shelf.now).told q.0 q.1 claimed.circuit claimed.outputs.items q.2)
          (λ i. (c.circuit.ensures i, c.outputs.ensures i, sym stated i)) c.in_ok-claimed.ensures.claim,
    )
