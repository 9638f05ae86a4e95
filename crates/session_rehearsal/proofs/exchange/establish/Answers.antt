use Rattle.std.proofs.Common.{◌≡◌, [], ap, sym, subst, rules, ◌∙◌}
use Rattle.zk_model.specs.Files.{VerifierFile}
use Rattle.zk_model.specs.declared.Params.{Params}
use Rattle.session_rehearsal.specs.Exchanges.{round_log}
use Rattle.session_rehearsal.specs.Holding.{HoldsRounds}
use Rattle.session_rehearsal.proofs.DirectRounds.{none_held}
use Rattle.session_rehearsal.proofs.exchange.establish.Goals as goal

pub returns-in-Direct-clause-held : goal.returns-in-Direct-clause-held
returns-in-Direct-clause-held g c =
    let asked : c.new.result.items ≡ [] = search rules in
    let replied : c.new-in-Direct.result.items ≡ [] = search rules in
    subst (HoldsRounds c.args.prover.now.file c.args.verifier.now.task.file c.args.grant c.dealt_pairs.result.now [])
    (sym (λ i. round_log (asked i) (replied i)))
    (none_held c.args.prover.now.file c.args.verifier.now.task.file c.args.grant c.dealt_pairs.result.now []
    (ap (λ (p : Params). p.kind) (sym (c.params.ensures.params ∙ ap (λ (f : VerifierFile). f.params) c.file.ensures.file)) ∙ c.in-Direct.is)
    c.dealt_pairs.ensures.pairs)
