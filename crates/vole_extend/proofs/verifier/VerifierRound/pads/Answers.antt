use Rattle.std.proofs.Common.{◌∙◌, ap}
use Rattle.zk_model.specs.Files.{verifier_unit, unit_pads}
use Rattle.vole_extend.specs.Rounds.{VerifierTurn}
use Rattle.vole_extend.proofs.Pieces.{tree_pads_are}
use Rattle.vole_extend.proofs.verifier.VerifierRound.pads.Goals as goal

pub returns-clause-pads : goal.returns-clause-pads
returns-clause-pads c = tree_pads_are c.args.self.now.file c.params.result c.args.self.now.unit c.args.tree c.from-height.result c.pads.result.now c.params.ensures.file
    c.params.ensures.params c.params.ensures.within c.requires c.from-height.ensures
    (c.pads.ensures.pads ∙ ap (λ (turn : VerifierTurn). unit_pads (verifier_unit turn.file turn.unit)) c.self.view_is)
