use Rattle.std.proofs.Common.{◌∙◌, ap}
use Rattle.zk_model.specs.Files.{prover_unit, unit_transfers}
use Rattle.vole_extend.specs.Rounds.{ProverTurn}
use Rattle.vole_extend.proofs.Pieces.{tree_transfers_are}
use Rattle.vole_extend.proofs.prover.ProverRound.transfers.Goals as goal

pub returns-clause-transfers : goal.returns-clause-transfers
returns-clause-transfers c = tree_transfers_are c.args.self.now.file c.params.result c.args.self.now.unit c.args.tree c.from-height.result c.transfers.result.now c.params.ensures.file
    c.params.ensures.params c.params.ensures.within c.requires c.from-height.ensures
    (c.transfers.ensures.transfers ∙ ap (λ (turn : ProverTurn). unit_transfers (prover_unit turn.file turn.unit)) c.self.view_is)
