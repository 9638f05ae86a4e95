use Rattle.std.proofs.Common.{◌≡◌, ◌∙◌, ap, subst}
use Rattle.session_core.specs.Jobs.{verifier_of}
use Rattle.session_core.specs.Judgements.{Finds}
use Rattle.proof_audit.specs.declared.session.Session.{Session}
use Rattle.proof_audit.proofs.judge.Judge.judgement.Goals as goal

pub returns-clause-finds : goal.returns-clause-finds
returns-clause-finds c =
    subst (λ (T : Type 0). T) (λ i. Finds (job i) (c.session.view_is i).grant.start (corrections i) (sums i) (openings i) c.in_ok-judgement.judgement)
    c.in_ok-judgement.ensures
  where
    job : c.new-job.result ≡ verifier_of c.args.self.now.statement c.args.self.now.file c.args.session.now.grant.section_length
    job = c.new-job.ensures ∙ (λ i. verifier_of (c.self.view_is i).statement (c.self.view_is i).file (c.session.view_is i).grant.section_length)

    corrections : c.deref.result.now ≡ c.args.session.now.corrections.items
    corrections = c.deref.ensures.value ∙ ap (λ (s : Session). s.corrections.items) c.session.view_is

    sums : c.deref-2.result.now ≡ c.args.session.now.sums.items
    sums = c.deref-2.ensures.value ∙ ap (λ (s : Session). s.sums.items) c.session.view_is

    openings : c.deref-3.result.now ≡ c.args.session.now.openings.items
    openings = c.deref-3.ensures.value ∙ ap (λ (s : Session). s.openings.items) c.session.view_is
