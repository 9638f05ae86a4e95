use Rattle.std.proofs.Common.{rules, ap, ◌∙◌}
use Rattle.dealer_files.specs.Dealing.{dealt_pads}
use Rattle.dealer_files.specs.Flat.{unit_by_unit}
use Rattle.dealer_files.proofs.DealtPairs.{are_dealt}
use Rattle.dealer_files.proofs.DealtFiles.{prover_file_is, verifier_file_is}
use Rattle.dealer_files.proofs.FlatFiles.{prover_is, verifier_is, prover_whole, verifier_whole}
use Rattle.dealer_files.proofs.dealing.deal.Goals as goal

pub new-prover-requires-clause-file : goal.new-prover-requires-clause-file
new-prover-requires-clause-file c =
    let prover = prover_is c.version_for-version.result c.args.params.now c.args.seed.now c.bytes-id.result c.bytes.result c.deal_code_seed-code_seed.result c.in_ok-pairs.pairs.items
    c.in_ok-transfers.field-0.transfers.items (search rules) (search rules) (search rules) (search rules) (search rules) (search rules) in
    rw prover (prover_file_is c.args.params.now c.args.seed.now c.requires)

pub new-prover-requires-clause-whole : goal.new-prover-requires-clause-whole
new-prover-requires-clause-whole c =
    prover_whole c.args.params.now c.args.seed.now c.in_ok-pairs.pairs.items c.in_ok-transfers.field-0.transfers.items (search rules) (search rules)

pub new-verifier-requires-clause-file : goal.new-verifier-requires-clause-file
new-verifier-requires-clause-file c =
    let verifier = verifier_is c.version_for-version.result c.args.params.now c.args.seed.now c.bytes-id.result c.bytes-coin_key.result c.deal_code_seed-code_seed.result c.deal_key-key.result c.in_ok-pairs.pairs.items
    c.in_ok-keys.keys.items c.in_ok-transfers.field-0.pads.items (search rules) (search rules) (search rules) (search rules) (search rules) (search rules) (search rules)
    (c.in_ok-transfers.ensures.pads ∙ ap (λ coins. unit_by_unit c.args.params.now (dealt_pads coins)) c.new-coins.ensures) in
    rw verifier (verifier_file_is c.args.params.now c.args.seed.now c.requires)

pub new-verifier-requires-clause-whole : goal.new-verifier-requires-clause-whole
new-verifier-requires-clause-whole c =
    verifier_whole c.args.params.now c.args.seed.now c.deal_key-key.result c.in_ok-pairs.pairs.items c.in_ok-keys.keys.items c.in_ok-transfers.field-0.pads.items
    (search rules) (search rules) (search rules)

pub returns-clause-prover : goal.returns-clause-prover
returns-clause-prover c =
    let prover = prover_is c.version_for-version.result c.args.params.now c.args.seed.now c.bytes-id.result c.bytes.result c.deal_code_seed-code_seed.result c.in_ok-pairs.pairs.items
    c.in_ok-transfers.field-0.transfers.items (search rules) (search rules) (search rules) (search rules) (search rules) (search rules) in
    c.new-prover.ensures ∙ prover

pub returns-clause-verifier : goal.returns-clause-verifier
returns-clause-verifier c =
    let verifier = verifier_is c.version_for-version.result c.args.params.now c.args.seed.now c.bytes-id.result c.bytes-coin_key.result c.deal_code_seed-code_seed.result c.deal_key-key.result c.in_ok-pairs.pairs.items
    c.in_ok-keys.keys.items c.in_ok-transfers.field-0.pads.items (search rules) (search rules) (search rules) (search rules) (search rules) (search rules) (search rules)
    (c.in_ok-transfers.ensures.pads ∙ ap (λ coins. unit_by_unit c.args.params.now (dealt_pads coins)) c.new-coins.ensures) in
    c.new-verifier.ensures ∙ verifier

pub returns-clause-dealt : goal.returns-clause-dealt
returns-clause-dealt c =
    let prover = prover_is c.version_for-version.result c.args.params.now c.args.seed.now c.bytes-id.result c.bytes.result c.deal_code_seed-code_seed.result c.in_ok-pairs.pairs.items
    c.in_ok-transfers.field-0.transfers.items (search rules) (search rules) (search rules) (search rules) (search rules) (search rules) in
    let verifier = verifier_is c.version_for-version.result c.args.params.now c.args.seed.now c.bytes-id.result c.bytes-coin_key.result c.deal_code_seed-code_seed.result c.deal_key-key.result c.in_ok-pairs.pairs.items
    c.in_ok-keys.keys.items c.in_ok-transfers.field-0.pads.items (search rules) (search rules) (search rules) (search rules) (search rules) (search rules) (search rules)
    (c.in_ok-transfers.ensures.pads ∙ ap (λ coins. unit_by_unit c.args.params.now (dealt_pads coins)) c.new-coins.ensures) in
    rw (c.new-prover.ensures, prover, c.new-verifier.ensures, verifier) (are_dealt c.args.params.now c.args.seed.now)
