use Rattle.std.proofs.Common.{ℕ, Bool, List, refl, sym, subst}
use Rattle.zk_model.specs.Statement.{Statement}
use Rattle.file_commands.specs.Stops.{IsClaim}
use Rattle.claim_files.specs.NamedClaims.{OfBits}
use Rattle.claim_files.proofs.claim_file.load_boolean.Goals as goal

pub returns-clause-claim : goal.returns-clause-claim
returns-clause-claim g c =
    let named = c.args.named.now in
    let is = subst (λ (q : List ℕ × List Bool × List Bool × Statement).
    IsClaim (g.F.Shelf.state c.args.shelf.now).told q.0 q.1 q.2 c.in_ok-claimed.claimed.circuit q.3)
    (λ i. (c.circuit.ensures i, c.public-public.ensures i, c.outputs-outputs.ensures i, sym c.in_ok-new.ensures i)) c.in_ok-claimed.ensures.claim in
    (OfBits c.in_ok-claimed.claimed.circuit named.public named.outputs, (refl, refl, is))
