use Rattle.std.proofs.Common.{arith}
use Rattle.zk_model.specs.Check.{section_right}
use Rattle.mult_check.specs.Checks.{product_check, SectionDiffersFirst}
use Rattle.mult_check.proofs.Testing.{section_summed, one_holds, differs_first, on_err}
use Rattle.mult_check.proofs.sections.check.Goals as goal

pub loop-s-preserved : goal.loop-s-preserved
loop-s-preserved c =
    let check = product_check c.args.wires.now c.args.g c.args.challenge c.args.mask_keys.now c.args.key c.args.sums.now in
    one_holds check c.loop-s.s c.masked.result (section_right c.args.key c.index-sums-s.result)
    (section_summed check c.loop-s.s c.new-none.result c.section_part-part.result c.index-mask_keys-s.result c.masked.result c.index-sums-s.result c.loop-s-test.true
    (omega (arith, c.loop-s-test.true, c.requires.sums)) c.index-mask_keys-s.is c.index-sums-s.is c.new-none.ensures c.section_part-part.ensures c.masked.ensures)
    c.in_ok-meets.ensures.holds c.loop-s.invariant

pub returns-in_err-meets-clause-differs : goal.returns-in_err-meets-clause-differs
returns-in_err-meets-clause-differs c =
    let check = product_check c.args.wires.now c.args.g c.args.challenge c.args.mask_keys.now c.args.key c.args.sums.now in
    on_err (SectionDiffersFirst check) c.from_residual.result c.in_err-meets.field-0.0 c.from_residual.ensures.1
    (differs_first check c.loop-s.s c.masked.result (section_right c.args.key c.index-sums-s.result) c.in_err-meets.field-0.0
    (omega (arith, c.loop-s-test.true, c.requires.masks))
    (section_summed check c.loop-s.s c.new-none.result c.section_part-part.result c.index-mask_keys-s.result c.masked.result c.index-sums-s.result c.loop-s-test.true
    (omega (arith, c.loop-s-test.true, c.requires.sums)) c.index-mask_keys-s.is c.index-sums-s.is c.new-none.ensures c.section_part-part.ensures c.masked.ensures)
    c.in_err-meets.ensures.differs.0 c.in_err-meets.ensures.differs.1 c.loop-s.invariant)
