use Rattle.std.proofs.Common.{◌<◌, length, get_or, ap, ◌∙◌, arith}
use Rattle.zk_model.specs.Check.{key_triple, section_right}
use Rattle.wire_auth.specs.Sides.{VerifierSide}
use Rattle.mult_check.specs.Checks.{sent_check, SectionDiffersFirst}
use Rattle.mult_check.proofs.Streaming.{met_next}
use Rattle.mult_check.proofs.Testing.{section_walked, one_holds, differs_first, on_err}
use Rattle.mult_check.proofs.streams.check_along.Goals as goal

pub loop-s-preserved : goal.loop-s-preserved
loop-s-preserved c =
    let check = sent_check c.args.walk.now.side c.args.sent.now in
    let within : c.loop-s.s < length c.args.sent.now.mask_keys.now = c.loop-s-test.true in
    let sum = get_or c.args.sent.now.sums.now c.loop-s.s c.index-sent-s.result in
    let tested = section_walked c.loop-s.walk.side c.args.walk.now.side c.args.sent.now.section_length c.loop-s.s c.args.sent.now.key c.args.sent.now.challenge c.args.sent.now.mask_keys.now c.args.sent.now.sums.now c.new-none.result
    c.section_along-part.result c.mask-item.result c.masked.result sum c.loop-s.invariant.0 c.loop-s-test.true
    (omega (arith, within, c.requires.sums)) c.mask-item.is (ap (get_or c.args.sent.now.sums.now c.loop-s.s) c.index-sent-s.is) c.new-none.ensures c.section_along-part.ensures.part c.masked.ensures in (
      c.section_along-part.ensures.kept ∙ c.loop-s.invariant.0,
      met_next (λ (s : VerifierSide). key_triple s.keys) (λ (s : VerifierSide). s.program.products) c.loop-s.walk.side c.args.walk.now.side c.loop-s.s c.args.sent.now.section_length
          c.section_along-part.new.walk.met c.loop-s.invariant.0 c.section_along-part.ensures.met,
      one_holds check c.loop-s.s c.masked.result (section_right c.args.sent.now.key sum) tested c.in_ok-meets.ensures.holds c.loop-s.invariant.2,
    )

pub returns-in_err-meets-clause-differs : goal.returns-in_err-meets-clause-differs
returns-in_err-meets-clause-differs c =
    let check = sent_check c.args.walk.now.side c.args.sent.now in
    let within : c.loop-s.s < length c.args.sent.now.mask_keys.now = c.loop-s-test.true in
    let sum = get_or c.args.sent.now.sums.now c.loop-s.s c.index-sent-s.result in
    let tested = section_walked c.loop-s.walk.side c.args.walk.now.side c.args.sent.now.section_length c.loop-s.s c.args.sent.now.key c.args.sent.now.challenge c.args.sent.now.mask_keys.now c.args.sent.now.sums.now c.new-none.result
    c.section_along-part.result c.mask-item.result c.masked.result sum c.loop-s.invariant.0 c.loop-s-test.true
    (omega (arith, within, c.requires.sums)) c.mask-item.is (ap (get_or c.args.sent.now.sums.now c.loop-s.s) c.index-sent-s.is) c.new-none.ensures c.section_along-part.ensures.part c.masked.ensures in
    on_err (SectionDiffersFirst check) c.from_residual.result c.in_err-meets.field-0.0 c.from_residual.ensures.1
    (differs_first check c.loop-s.s c.masked.result (section_right c.args.sent.now.key sum) c.in_err-meets.field-0.0 (omega (arith, within, c.requires.masks))
    tested c.in_err-meets.ensures.differs.0 c.in_err-meets.ensures.differs.1 c.loop-s.invariant.2)
