use Rattle.std.proofs.Common.{◌∙◌, ap, arith, rules}
use Rattle.zk_model.specs.Files.{span_dealt_keys}
use Rattle.dealer_files.proofs.FlatFiles.{span_keys_are, span_read, span_count}
use Rattle.dealer_files.proofs.verifier_file.VerifierFile.keys.Goals as goal

pub returns-clause-keys : goal.returns-clause-keys
returns-clause-keys c =
    let f = c.self.inside in
    span_read f.head.params c.args.span f.keys.items _ _ _ (search rules) c.first_dealt-start.ensures c.first_dealt-end.ensures
    ∙ span_keys_are f.head.version f.head.params f.head.id f.head.coin_key f.head.code_seed f.key f.keys.items f.pads.items c.args.span c.requires.order (omega (arith, ap (λ file. file.params.total) c.self.view_is))
    ∙ ap (λ file. span_dealt_keys file c.args.span) c.self.view_is

pub returns-clause-count : goal.returns-clause-count
returns-clause-count c =
    span_count c.self.inside.head.params c.args.self.now.params c.args.span c.self.inside.keys.items _ _ _ (search rules) c.first_dealt-start.ensures c.first_dealt-end.ensures
    (ap (λ file. file.params) c.self.view_is) c.self.invariant.1.dealt c.requires.order c.requires.within
