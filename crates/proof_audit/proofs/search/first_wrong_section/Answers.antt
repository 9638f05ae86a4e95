use Rattle.std.proofs.Common.{◌<◌, ap, subst, ◌∙◌}
use Rattle.std.specs.Prelude.{IfNone, IfSome}
use Rattle.zk_model.specs.Polynomial.{IsZero}
use Rattle.zk_model.specs.Program.{section_count}
use Rattle.proof_audit.specs.Searches.{ShowsWrongSection, errors_at}
use Rattle.proof_audit.specs.declared.session.Session.{Session}
use Rattle.proof_audit.proofs.Searched.{before_more, shows_first}
use Rattle.proof_audit.proofs.search.first_wrong_section.Goals as goal

pub loop-s-preserved : goal.loop-s-preserved
loop-s-preserved c =
    before_more c.args.wires.now c.args.session.now c.loop-s.s c.loop-s.invariant
    (subst (λ o. IfNone o (IsZero (errors_at c.args.wires.now c.args.session.now c.loop-s.s))) c.in_default.is c.in_ok-finding.ensures.none)

pub returns-in-Some-clause-some : goal.returns-in-Some-clause-some
returns-in-Some-clause-some c =
    shows_first c.args.wires.now c.args.pairs.now c.args.session.now c.loop-s.s c.in-Some.finding shown.1 c.loop-s.invariant below shown.0
  where
    below : c.loop-s.s < section_count c.args.wires.now.program c.args.session.now.grant.section_length
    below = subst (λ n. c.loop-s.s < n)
        (c.sections-sections.ensures
        ∙ (λ i. section_count (c.program.ensures i) ((c.from.ensures ∙ ap (λ (s : Session). s.grant.section_length) c.session.view_is) i)))
        c.loop-s-test.true

    shown : ShowsWrongSection c.loop-s.s c.args.wires.now c.args.pairs.now c.args.session.now c.in-Some.finding
    shown = subst (λ o. IfSome o (ShowsWrongSection c.loop-s.s c.args.wires.now c.args.pairs.now c.args.session.now)) c.in-Some.is c.in_ok-finding.ensures.some
