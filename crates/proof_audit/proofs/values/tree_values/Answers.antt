use Rattle.std.proofs.Common.{◌≡◌, ◌+◌, ◌*◌, ◌%◌, ◌^◌, ◌∙◌, ap, arith, [], slice_index_or}
use Rattle.std.proofs.lemmas.List.{get_or_default}
use Rattle.zk_model.specs.Field.{◌+ₚ◌}
use Rattle.zk_model.specs.Mac.{Pair, pair_at}
use Rattle.zk_model.specs.Files.{prover_unit}
use Rattle.zk_model.specs.Transcript.{TreeAsk}
use Rattle.zk_model.specs.declared.Params.{Params}
use Rattle.vole_extend.specs.Levels.{flip_place}
use Rattle.proof_audit.specs.SeenValues.{only_at}
use Rattle.proof_audit.proofs.SeenValues.{height_fits, leaves_counted}
use Rattle.proof_audit.proofs.values.tree_values.Goals as goal

pub returns-clause-values : goal.returns-clause-values
returns-clause-values c = c.in_ok-values.ensures.values ∙ (λ i. only_at (count i) (place i) (value i))
  where
    count : 1 * 2 ^ c.from.result % 4294967296 ≡ 2 ^ c.args.file.now.params.height
    count = ap (λ h. 1 * 2 ^ h % 4294967296) (c.from.ensures ∙ ap (λ (params : Params). params.height) c.params-height.ensures.params)
        ∙ leaves_counted c.args.file.now.params.height (height_fits c.args.file.now.params c.params-height.ensures.file.params c.requires.extended)

    place : c.flip_place-place.result ≡ flip_place (slice_index_or (prover_unit c.args.file.now c.args.unit).trees c.args.tree []) c.args.ask.now.flips
    place = c.flip_place-place.ensures.place
        ∙ (λ i. flip_place (c.tree_transfers.ensures.transfers i) ((c.deref.ensures.value ∙ ap (λ (ask : TreeAsk). ask.flips) c.ask.view_is) i))

    base : c.params-height.result.base ≡ c.args.file.now.params.base
    base = ap (λ (params : Params). params.base) c.params-height.ensures.params

    pair : c.index-dealt_pairs-base.result ≡ pair_at (prover_unit c.args.file.now c.args.unit).pairs (c.args.file.now.params.base + c.args.tree)
    pair = c.index-dealt_pairs-base.is
        ∙ get_or_default c.dealt_pairs.result.now (c.params-height.result.base + c.args.tree) c.index-dealt_pairs-base.result (record { x = 0; m = 0 })
        (let count = c.dealt_pairs.ensures.count in let below = c.requires.tree in omega (arith, count, below, base))
        ∙ (λ i. pair_at (c.dealt_pairs.ensures.pairs i) (base i + c.args.tree))

    value : c.add-value.result ≡ (pair_at (prover_unit c.args.file.now c.args.unit).pairs (c.args.file.now.params.base + c.args.tree)).x +ₚ c.args.ask.now.base_correction
    value = c.add-value.ensures
        ∙ (λ i. ap (λ (pair : Pair). pair.x) (c.base_pair.view_is ∙ pair) i +ₚ (c.ask.view_is i).base_correction)
