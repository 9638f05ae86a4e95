use Rattle.std.proofs.Common.{◌+◌, ◌∙◌, ap, arith, rules}
use Rattle.zk_model.specs.Files.{verifier_unit, unit_pads}
use Rattle.dealer_files.proofs.FlatFiles.{unit_pads_are, range_read}
use Rattle.dealer_files.proofs.verifier_file.VerifierFile.pads.Goals as goal

pub returns-clause-pads : goal.returns-clause-pads
returns-clause-pads c =
    let f = c.self.inside in
    range_read f.pads.items _ _ c.args.unit (c.args.unit + 1) _ _ (search rules) c.first_transfer-start.ensures c.first_transfer-end.ensures
    ∙ unit_pads_are f.head.version f.head.params f.head.id f.head.coin_key f.head.code_seed f.key f.keys.items f.pads.items c.args.unit c.self.invariant.1 (omega (arith, ap (λ file. file.params.total) c.self.view_is))
    ∙ ap (λ file. unit_pads (verifier_unit file c.args.unit)) c.self.view_is
