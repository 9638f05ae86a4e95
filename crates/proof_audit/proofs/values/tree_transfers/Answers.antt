use Rattle.std.proofs.Common.{◌∙◌, ap}
use Rattle.zk_model.specs.declared.Params.{Params}
use Rattle.proof_audit.proofs.SeenValues.{tree_transfers_are}
use Rattle.proof_audit.proofs.values.tree_transfers.Goals as goal

pub returns-clause-transfers : goal.returns-clause-transfers
returns-clause-transfers c = tree_transfers_are c.args.file.now c.args.unit c.args.tree c.from-height.result c.transfers.result.now c.params.ensures.file
    c.requires.within c.requires.tree (c.from-height.ensures ∙ ap (λ (params : Params). params.height) c.params.ensures.params) c.transfers.ensures.transfers
