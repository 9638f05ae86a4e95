use Rattle.std.proofs.Common.{◌∙◌, arith}
use Rattle.zk_model.specs.Mac.{pair_at}
use Rattle.zk_model.specs.Check.{honest_sums, product_triple, section_triples}
use Rattle.wire_auth.specs.Sides.{ProverSide}
use Rattle.mult_check.proofs.Sectioning.{sums_count, sums_walked}
use Rattle.mult_check.proofs.Streaming.{met_next}
use Rattle.mult_check.proofs.streams.sums_along.Goals as goal

pub loop-s-preserved : goal.loop-s-preserved
loop-s-preserved c = (
  c.section_along-part.ensures.kept ∙ c.loop-s.invariant.0,
  met_next (λ (s : ProverSide). product_triple s.pairs) (λ (s : ProverSide). s.program.products) c.loop-s.walk.side c.args.walk.now.side c.loop-s.s c.args.g
      c.section_along-part.new.walk.met c.loop-s.invariant.0 c.section_along-part.ensures.met,
  sums_walked c.loop-s.walk.side c.args.walk.now.side c.loop-s.s c.args.g c.args.challenge c.args.masks.now c.new-none.result c.section_along-part.result
      c.index-masks-s.result c.masked.result c.loop-s.sums.items c.push.new.self.items c.loop-s.invariant.0 c.loop-s-test.true c.index-masks-s.is c.new-none.ensures
      c.section_along-part.ensures.part c.masked.ensures c.in_ok-push.ensures.items c.loop-s.invariant.2,
)

pub returns-clause-one_each : goal.returns-clause-one_each
returns-clause-one_each c =
    let side = c.args.walk.now.side in
    let counted = sums_count (λ s. honest_sums c.args.challenge (section_triples side.program c.args.g side.pairs s) (pair_at c.args.masks.now s))
    c.loop-s.s c.loop-s.sums.items c.loop-s.invariant.2 in
    omega (arith, counted, c.loop-s-test.false, c.loop-s.auto.s-end)
