use Rattle.std.proofs.Common.{◌∙◌, [], ap, sym, subst}
use Rattle.zk_model.specs.declared.Side.TheVariants.{Prover}
use Rattle.frame_link.specs.Lines.{LineState, LinkSnapshot, snapshot, snapshot_of}
use Rattle.session_prover.specs.Stages.{Claim}
use Rattle.claim_prover.specs.Sessions.{LeavesTold}
use Rattle.claim_prover.specs.Telling.{Knowledge, knowledge_of}
use Rattle.prove_poly.proofs.session.hold_session.Given.{Over}
use Rattle.prove_poly.proofs.session.hold_session.Goals.{After-outcome_of}
use Rattle.prove_poly.proofs.session.hold_session.Goals as goal

abbrev knows : (g : Over) → g.row.W.Denot → Knowledge
knows g w = knowledge_of (g.W.Claim.claim w) (g.W.Witness.said w) (g.W.Witness.given w) (g.W.Witness.replying w)

-- what became of its claim
abbrev claim_of : (g : Over) (c : After-outcome_of g) → Claim
claim_of g c = record { asked = c.prove_claim-end.new.claimant.asked; answer = c.prove_claim-end.new.claimant.answer }

-- the line's moments are those
moments : (g : Over) (c : After-outcome_of g) (P : LinkSnapshot → LinkSnapshot → Type 0) → P (snapshot_of c.new-line.result) (snapshot_of c.prove_claim-end.new.line)
    → P (snapshot Prover [] (g.L.Link.state c.args.link)) (snapshot Prover c.end-link.result.1 (g.L.Link.state c.end-link.result.0))
moments g c P holds =
    let side = c.prove_claim-end.ensures.side ∙ ap (λ (l : LineState). l.side) c.new-line.ensures in
    let ended = ap (λ side. snapshot side c.end-link.result.1 (g.L.Link.state c.end-link.result.0)) (sym side) ∙ c.end-link.ensures.passed in
    subst (λ (q : LinkSnapshot × LinkSnapshot). P q.0 q.1) (λ i. (ap snapshot_of c.new-line.ensures i, sym ended i)) holds

pub returns-clause-notes : goal.returns-clause-notes
returns-clause-notes g c = record {
  first = g.L.Link.state c.args.link;
  fresh = c.requires.fresh;
  stop = c.prove_claim-end.result;
  leaves = moments g c (LeavesTold (knows g c.args.witness.now) c.args.file.now (claim_of g c) c.prove_claim-end.result)
      (c.prove_claim-end.ensures.told c.requires.unasked);
  outcome_is = c.outcome_of.ensures;
  granted_is = c.granted_in-granted.ensures;
  refused = c.prove_claim-end.ensures.refused;
  refusal = c.prove_claim-end.ensures.refusal;
  ended = c.end-link.ensures.ended;
}
