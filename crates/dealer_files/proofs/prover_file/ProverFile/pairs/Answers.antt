use Rattle.std.proofs.Common.{◌∙◌, ap, arith, rules}
use Rattle.zk_model.specs.Files.{span_pairs}
use Rattle.dealer_files.proofs.FlatFiles.{span_pairs_are, span_read, span_count}
use Rattle.dealer_files.proofs.prover_file.ProverFile.pairs.Goals as goal

pub returns-clause-pairs : goal.returns-clause-pairs
returns-clause-pairs c =
    let f = c.self.inside in
    span_read f.head.params c.args.span f.pairs.items _ _ _ (search rules) c.first_dealt-start.ensures c.first_dealt-end.ensures
    ∙ span_pairs_are f.head.version f.head.params f.head.id f.head.coin_key f.head.code_seed f.pairs.items f.transfers.items c.args.span c.requires.order (omega (arith, ap (λ file. file.params.total) c.self.view_is))
    ∙ ap (λ file. span_pairs file c.args.span) c.self.view_is

pub returns-clause-count : goal.returns-clause-count
returns-clause-count c =
    span_count c.self.inside.head.params c.args.self.now.params c.args.span c.self.inside.pairs.items _ _ _ (search rules) c.first_dealt-start.ensures c.first_dealt-end.ensures
    (ap (λ file. file.params) c.self.view_is) c.self.invariant.1.dealt c.requires.order c.requires.within
