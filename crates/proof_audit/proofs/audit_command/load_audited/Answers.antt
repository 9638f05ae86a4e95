use Rattle.std.proofs.Common.{◌∙◌, ℕ, List, subst}
use Rattle.frame_link.proofs.LineLemmas.{fails_at}
use Rattle.zk_model.specs.declared.Side.TheVariants.{Prover, Verifier}
use Rattle.zk_port.specs.Changes.{change}
use Rattle.zk_port.specs.Shelves.{ShelfState}
use Rattle.claim_files.specs.NamedClaims.{IsStatementOf, LacksStatement}
use Rattle.claim_files.specs.declared.claim_names.ClaimNames.{ClaimNames}
use Rattle.file_commands.specs.Stops.{FileStop, IsProverFileAt, IsVerifierFileAt}
use Rattle.proof_audit.proofs.AuditOutcomes.{lacks_claim, lacks_prover, lacks_verifier}
use Rattle.proof_audit.proofs.audit_command.load_audited.Goals as goal

pub returns-clause-files : goal.returns-clause-files
returns-clause-files g c =
    let before = g.F.Shelf.state c.args.shelf.now in
    let claim = subst (λ (claim : ClaimNames). IsStatementOf before.told claim c.in_ok-claim.claim) c.claim.ensures c.in_ok-claim.ensures.claim in (
      claim.0,
      record {
        claim = claim.1;
        prover_file = subst (λ (q : ShelfState × List ℕ). IsProverFileAt q.0.told q.1 c.in_ok-prover.prover)
            (λ i. (c.in_ok-claim.ensures.quiet i, c.prover.ensures i)) c.in_ok-prover.ensures.file;
        verifier_file = subst (λ (q : ShelfState × List ℕ). IsVerifierFileAt q.0.told q.1 c.in_ok-verifier.verifier)
            (λ i. ((c.in_ok-prover.ensures.quiet ∙ c.in_ok-claim.ensures.quiet) i, c.verifier.ensures i)) c.in_ok-verifier.ensures.file;
      },
    )

pub returns-in_err-claim-clause-stop : goal.returns-in_err-claim-clause-stop
returns-in_err-claim-clause-stop g c =
    let shelf = change (g.F.Shelf.state c.args.shelf.now) (g.F.Shelf.state c.load_claim.new.shelf) in
    let why = c.in_err-claim.field-0.0 in
    fails_at _ c.from_residual.result why c.from_residual.ensures.1
    (lacks_claim c.args.names.now shelf why
    (subst (λ (claim : ClaimNames). LacksStatement claim shelf why) c.claim.ensures c.in_err-claim.ensures.stop))

pub returns-in_err-prover-clause-stop : goal.returns-in_err-prover-clause-stop
returns-in_err-prover-clause-stop g c =
    let before = g.F.Shelf.state c.args.shelf.now in
    let why = c.in_err-prover.field-0.0 in
    let now = g.F.Shelf.state c.load_prover.new.shelf in
    fails_at _ c.from_residual-in_err-prover.result why c.from_residual-in_err-prover.ensures.1
    (lacks_prover c.args.names.now (change before now) why (
      c.in_ok-claim.claim,
      subst (λ (claim : ClaimNames). IsStatementOf before.told claim c.in_ok-claim.claim) c.claim.ensures c.in_ok-claim.ensures.claim,
      subst (λ (q : ShelfState × List ℕ). FileStop Prover q.1 (change q.0 now) why) (λ i. (c.in_ok-claim.ensures.quiet i, c.prover.ensures i)) c.in_err-prover.ensures.stop,
    ))

pub returns-in_err-verifier-clause-stop : goal.returns-in_err-verifier-clause-stop
returns-in_err-verifier-clause-stop g c =
    let before = g.F.Shelf.state c.args.shelf.now in
    let why = c.in_err-verifier.field-0.0 in
    let now = g.F.Shelf.state c.load_verifier.new.shelf in
    let same = c.in_ok-claim.ensures.quiet in
    fails_at _ c.from_residual-in_err-verifier.result why c.from_residual-in_err-verifier.ensures.1
    (lacks_verifier c.args.names.now (change before now) why (
      c.in_ok-claim.claim,
      c.in_ok-prover.prover,
      subst (λ (claim : ClaimNames). IsStatementOf before.told claim c.in_ok-claim.claim) c.claim.ensures c.in_ok-claim.ensures.claim,
      subst (λ (q : ShelfState × List ℕ). IsProverFileAt q.0.told q.1 c.in_ok-prover.prover) (λ i. (same i, c.prover.ensures i)) c.in_ok-prover.ensures.file,
      subst (λ (q : ShelfState × List ℕ). FileStop Verifier q.1 (change q.0 now) why)
          (λ i. ((c.in_ok-prover.ensures.quiet ∙ same) i, c.verifier.ensures i)) c.in_err-verifier.ensures.stop,
    ))
