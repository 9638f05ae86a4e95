use Rattle.std.proofs.Common.{◌∙◌}
use Rattle.zk_model.specs.Check.{key_triple}
use Rattle.wire_auth.specs.Sides.{VerifierSide}
use Rattle.mult_check.proofs.Streaming.{met_next}
use Rattle.mult_check.proofs.Testing.{left_more}
use Rattle.mult_check.proofs.left_sides.left_sides_along.Goals as goal

pub loop-s-preserved : goal.loop-s-preserved
loop-s-preserved c = (
  c.section_along-part.ensures.kept ∙ c.loop-s.invariant.0,
  met_next (λ (s : VerifierSide). key_triple s.keys) (λ (s : VerifierSide). s.program.products) c.loop-s.walk.side c.args.walk.now.side c.loop-s.s c.args.g
      c.section_along-part.new.walk.met c.loop-s.invariant.0 c.section_along-part.ensures.met,
  left_more c.loop-s.walk.side c.args.walk.now.side c.args.g c.loop-s.s c.args.key c.args.challenge c.args.mask_keys.now c.new-none.result c.section_along-part.result
      c.index-mask_keys-s.result c.masked.result c.loop-s.left_sides.items c.push.new.self.items c.loop-s.invariant.0 c.loop-s-test.true c.index-mask_keys-s.is c.new-none.ensures
      c.section_along-part.ensures.part c.masked.ensures c.in_ok-push.ensures.items c.loop-s.invariant.2,
)
