use Rattle.std.proofs.Common.{◌≡◌, ◌∙◌, List, Bool, [], sym, subst}
use Rattle.zk_model.specs.Bristol.{IsText}
use Rattle.zk_model.specs.Circuit.{Circuit}
use Rattle.circuit_gen.specs.Generated.{generated_circuit}
use Rattle.session_rehearsal.specs.Rehearsals.{IsRehearsalOf}
use Rattle.zk_cli.proofs.generate_command.rehearse_generated.Goals as goal

-- the circuit that was read is the one that was drawn
pub returns-in-Ok-rehearse-clause-rehearsed : goal.returns-in-Ok-rehearse-clause-rehearsed
returns-in-Ok-rehearse-clause-rehearsed g c =
    let drawn : Circuit = generated_circuit c.args.ask.now.gates c.args.ask.now.number in
    let same : drawn ≡ c.in-Ok.circuit =
    c.in-Ok.ensures.found.only drawn (subst (IsText drawn) (sym c.deref.ensures.value) c.in_ok-text.ensures.says) in
    subst (λ (q : Circuit × List Bool). IsRehearsalOf q.0 [] q.1 c.args.ask.now.kind c.args.ask.now.section c.args.seed.now c.in-Ok-rehearse.rehearsal)
    (λ i. (sym same i, (c.deref-2.ensures.value ∙ c.in_ok-text.ensures.bits) i)) c.in-Ok-rehearse.ensures.done
