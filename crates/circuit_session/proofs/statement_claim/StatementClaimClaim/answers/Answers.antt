use Rattle.std.proofs.Common.{◌≡◌, ◌∷◌, ◌++◌, [], ◌∙◌, ap, sym, subst, length}
use Rattle.std.specs.Prelude.{All}
use Rattle.zk_model.specs.Program.{section_count}
use Rattle.zk_model.specs.declared.Expect.TheVariants as expect
use Rattle.proof_frames.specs.Readings.{IsShortPlace}
use Rattle.circuit_session.proofs.Answering.{answers_short}
use Rattle.circuit_session.proofs.statement_claim.StatementClaimClaim.answers.Goals as goal

pub returns-clause-short : goal.returns-clause-short
returns-clause-short c =
    subst (All IsShortPlace) (sym items)
    (answers_short c.program-program.result.now c.args.section c.requires
    c.products-products.ensures.held.products c.products-products.ensures.held.opened)
  where
    sections : c.sections-sections.result ≡ section_count c.program-program.result.now c.args.section
    sections = c.sections-sections.ensures ∙ ap (section_count c.program-program.result.now) c.from.ensures

    items : c.push-2.new.self.items
        ≡ expect.Sums (section_count c.program-program.result.now c.args.section) ∷ expect.Openings (length c.program-program.result.now.opened) ∷ []
    items =
        c.in_ok-push-2.ensures.items
        ∙ (λ i. (c.in_ok-push.ensures.items ∙ ap (λ l. l ++ expect.Sums c.sections-sections.result ∷ []) c.new-places.ensures.items) i
        ++ expect.Openings (length (c.opened-count.ensures.opened i)) ∷ [])
        ∙ (λ i. expect.Sums (sections i) ∷ expect.Openings (length c.program-program.result.now.opened) ∷ [])
