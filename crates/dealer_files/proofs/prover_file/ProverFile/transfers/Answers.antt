use Rattle.std.proofs.Common.{◌+◌, ◌∙◌, ap, arith, rules}
use Rattle.zk_model.specs.Files.{prover_unit, unit_transfers}
use Rattle.dealer_files.proofs.FlatFiles.{unit_transfers_are, range_read}
use Rattle.dealer_files.proofs.prover_file.ProverFile.transfers.Goals as goal

pub returns-clause-transfers : goal.returns-clause-transfers
returns-clause-transfers c =
    let f = c.self.inside in
    range_read f.transfers.items _ _ c.args.unit (c.args.unit + 1) _ _ (search rules) c.first_transfer-start.ensures c.first_transfer-end.ensures
    ∙ unit_transfers_are f.head.version f.head.params f.head.id f.head.coin_key f.head.code_seed f.pairs.items f.transfers.items c.args.unit c.self.invariant.1 (omega (arith, ap (λ file. file.params.total) c.self.view_is))
    ∙ ap (λ file. unit_transfers (prover_unit file c.args.unit)) c.self.view_is
