use Rattle.std.proofs.Common.{◌∙◌, ◌≡◌, ◌<◌, ap, refl, length, get_or}
use Rattle.zk_model.specs.Mac.{Pair, values_of, macs_of}
use Rattle.linear_code.proofs.Terms.{sum_more, pair_term}
use Rattle.linear_code.proofs.sums.pair_sums.Goals as goal

pub loop-place-preserved : goal.loop-place-preserved
loop-place-preserved c =
    let place = get_or c.args.places.now c.loop-place.place-index 0 in
    let inside : place < length c.args.base.now = c.requires.inside c.loop-place.place-index 0 c.loop-place-test.true in
    let found : c.index-base-from.result ≡ get_or c.args.base.now place c.index-base-from.result =
    c.index-base-from.is ∙ ap (λ n. get_or c.args.base.now n c.index-base-from.result) c.from.ensures in (
      sum_more (values_of c.args.base.now) c.args.places.now c.loop-place.place-index c.loop-place.sums.x c.value.result _
          c.loop-place-test.true c.value.ensures.below
          (c.value.ensures.value ∙ ap (λ (pair : Pair). pair.x) c.pair.view_is
          ∙ pair_term (λ pair. pair.x) c.args.base.now place c.index-base-from.result inside found) refl c.loop-place.invariant.0,
      sum_more (macs_of c.args.base.now) c.args.places.now c.loop-place.place-index c.loop-place.sums.m c.value-in-loop-place.result _
          c.loop-place-test.true c.value-in-loop-place.ensures.below
          (c.value-in-loop-place.ensures.value ∙ ap (λ (pair : Pair). pair.m) c.pair.view_is
          ∙ pair_term (λ pair. pair.m) c.args.base.now place c.index-base-from.result inside found) refl c.loop-place.invariant.1,
    )
