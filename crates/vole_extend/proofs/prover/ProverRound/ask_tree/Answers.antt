use Rattle.std.proofs.Common.{◌∙◌, ap}
use Rattle.zk_model.specs.Field.{◌-ₚ◌}
use Rattle.zk_model.specs.Mac.{Pair}
use Rattle.vole_extend.proofs.Asked.{of_tree, ask_is}
use Rattle.vole_extend.proofs.prover.ProverRound.ask_tree.Goals as goal

pub returns : goal.returns
returns c = ask_is c.args.self.now c.args.tree c.hidden-hidden.result.place c.hidden-hidden.result.noise c.prover_ask-base_correction.result
    c.transfers.result.now c.base_pair.result c.in_ok-flips.flips.items
    (of_tree c.hidden-hidden.ensures.place c.hidden-hidden.ensures.inside c.hidden-hidden.ensures.noise
    c.transfers.ensures.transfers c.transfers.ensures.count c.base_pair.ensures)
    c.in_ok-flips.ensures.flips
    (c.prover_ask-base_correction.ensures.difference
    ∙ ap (λ (pair : Pair). c.hidden-hidden.result.noise -ₚ pair.x) c.prover_ask.view_is)
