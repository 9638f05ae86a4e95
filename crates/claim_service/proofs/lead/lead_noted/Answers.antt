use Rattle.std.proofs.Common.{◌≡◌, ◌∙◌, [], ap, sym, subst, IfSome, Some, Err}
use Rattle.zk_model.specs.declared.Side.TheVariants.{Verifier}
use Rattle.frame_link.specs.Lines.{LinkSnapshot, snapshot, snapshot_of}
use Rattle.lease_store.specs.declared.grantor.GrantFault.{GrantFault}
use Rattle.session_claim.specs.Claims.{Claim}
use Rattle.session_claim.specs.Script.{claim_behind, first_places}
use Rattle.session_script.specs.Scripts.{EndsAccepted}
use Rattle.session_verifier.specs.Outcomes.{grant_fault}
use Rattle.session_verifier.specs.declared.note.VerifierOutcome.{VerifierOutcome}
use Rattle.session_verifier.specs.declared.note.VerifierOutcome.TheVariants.{Accepted}
use Rattle.claim_verifier.specs.Sessions.{LeavesTold}
use Rattle.claim_service.specs.ClaimNotes.{end_outcome}
use Rattle.claim_service.proofs.Shown.{refused_so, shows_so}
use Rattle.claim_service.proofs.lead.lead_noted.Given.{Over}
use Rattle.claim_service.proofs.lead.lead_noted.Goals as goal

abbrev claim_of : (g : Over) (c : goal.After-new g) → Claim
claim_of g c = g.C.Claim.claim c.args.claim.now

-- the moments before and after it
abbrev first_of : (g : Over) (c : goal.After-new g) → LinkSnapshot
first_of g c = snapshot Verifier [] (g.L.Link.state c.args.link)

abbrev now_of : (g : Over) (c : goal.After-new g) → LinkSnapshot
now_of g c = snapshot Verifier c.end-link.result.1 (g.L.Link.state c.end-link.result.0)

told : (g : Over) (c : goal.After-new g) → LeavesTold (claim_of g c) c.args.file.now c.args.section c.verify_claim-end.new.grantor.answer
    c.verify_claim-end.result (first_of g c) (now_of g c)
told g c =
    let ended = ap (λ s. snapshot s c.end-link.result.1 (g.L.Link.state c.end-link.result.0))
    (sym (c.verify_claim-end.ensures.side ∙ ap (λ l. l.side) c.new-line.ensures)) ∙ c.end-link.ensures.passed in
    subst (λ (q : LinkSnapshot × LinkSnapshot). LeavesTold (claim_of g c) c.args.file.now c.args.section c.verify_claim-end.new.grantor.answer
    c.verify_claim-end.result q.0 q.1) (λ i. (ap snapshot_of c.new-line.ensures i, sym ended i)) c.verify_claim-end.ensures.told

pub returns-clause-note : goal.returns-clause-note
returns-clause-note g c = record {
  statement = c.number_in.ensures;
  granted_is = c.granted_in.ensures;
  first = g.L.Link.state c.args.link;
  fresh = c.requires.fresh;
  ended = c.verify_claim-end.result;
  leaves = told g c;
  outcome = c.outcome_of.ensures;
  exact = λ ends. c.outcome_of.ensures ∙ ap end_outcome (c.verify_claim-end.ensures.exact
      (subst (λ l. EndsAccepted (claim_behind c.args.file.now.params (claim_of g c)) (first_places (claim_of g c)) l)
      (ap (λ (s : LinkSnapshot). s.log) c.end-link.ensures.passed) ends));
  closed = c.end-link.ensures.ended;
  shown = λ accepted. subst (λ granted. Rattle.claim_service.specs.ClaimNotes.IsShownSession (claim_of g c) c.args.file.now c.args.section granted c.end-link.result.1)
      (sym c.granted_in.ensures)
      (shows_so (claim_of g c) c.args.file.now c.args.section c.has_places.ensures c.total-total.ensures.file c.replies_are_in_range.ensures c.requires.few
      c.verify_claim-end.new.grantor.answer c.verify_claim-end.result (first_of g c) (now_of g c) (told g c) (sym c.outcome_of.ensures ∙ accepted));
}

pub returns-clause-refused : goal.returns-clause-refused
returns-clause-refused g c =
    subst (λ (o : VerifierOutcome). IfSome (grant_fault o) (λ (why : GrantFault). c.verify_claim-end.new.grantor.answer ≡ Some (Err why))) (sym c.outcome_of.ensures)
    (refused_so (claim_of g c) c.args.file.now c.args.section c.has_places.ensures c.total-total.ensures.file c.replies_are_in_range.ensures c.requires.few
    c.verify_claim-end.new.grantor.answer c.verify_claim-end.result (first_of g c) (now_of g c) (told g c))
