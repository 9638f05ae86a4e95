use Rattle.std.proofs.Common.{[], ◌∷◌, sym, subst}
use Rattle.zk_model.specs.Frames.{want}
use Rattle.zk_model.specs.declared.Side.TheVariants.{Prover}
use Rattle.frame_link.specs.Lines.{snapshot_of}
use Rattle.session_driver.proofs.Left.{run_leaves}
use Rattle.broker_links.specs.Tries.{asks, TryLeaves}
use Rattle.broker_links.proofs.Trying.{left}
use Rattle.broker_links.proofs.asking.ask.Goals as goal

pub returns-clause-left : goal.returns-clause-left
returns-clause-left g c =
    let first = snapshot_of c.args.line.now in
    let now = snapshot_of c.run-outcome.new.line in
    subst (λ o. TryLeaves c.args.want first o now) (sym c.outcome_of.ensures)
    (left c.args.want first now c.run-outcome.new.party.came c.run-outcome.result
    (run_leaves (λ s. s.0.came) asks (want c.args.want ∷ []) Prover _ _ c.run-outcome.result c.args.line.now c.run-outcome.new.line c.requires.side c.run-outcome.ensures.run))
