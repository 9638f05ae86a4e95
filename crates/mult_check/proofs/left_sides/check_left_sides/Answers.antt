use Rattle.std.proofs.Common.{◌≡◌, ◌<◌, length, ◌∙◌, arith, subst}
use Rattle.zk_model.specs.Check.{AllBelow, ProductCheck, SectionHolds, section_right}
use Rattle.zk_model.specs.Program.{section_count}
use Rattle.mult_check.specs.Checks.{SectionDiffersFirst, all_left_sides}
use Rattle.mult_check.specs.declared.sections.Differs.{Differs}
use Rattle.mult_check.proofs.Testing.{section_read, left_count, one_holds, differs_first, on_err}
use Rattle.mult_check.proofs.left_sides.check_left_sides.Goals as goal

pub loop-s-preserved : goal.loop-s-preserved
loop-s-preserved c check are one sums =
    let below : c.loop-s.s < length c.args.left_sides.now = c.loop-s-test.true in
    let sum = c.index-sums-s.result in
    one_holds check c.loop-s.s c.index-left_sides-s.result (section_right c.args.key sum)
    (section_read check c.args.left_sides.now c.args.sums.now c.loop-s.s c.args.key c.index-left_sides-s.result sum are one sums below (omega (arith, below, c.requires.sums))
    c.index-left_sides-s.is c.index-sums-s.is)
    c.in_ok-meets.ensures.holds (c.loop-s.invariant check are one sums)

pub returns-in_err-meets-clause-differs : goal.returns-in_err-meets-clause-differs
returns-in_err-meets-clause-differs c =
    on_err (λ (d : Differs). (check : ProductCheck) → c.args.left_sides.now ≡ all_left_sides check → check.key ≡ c.args.key → check.sums ≡ c.args.sums.now → SectionDiffersFirst check d)
    c.from_residual.result c.in_err-meets.field-0.0 c.from_residual.ensures.1
    (λ check are one sums.
    let below : c.loop-s.s < length c.args.left_sides.now = c.loop-s-test.true in
    let sum = c.index-sums-s.result in
    differs_first check c.loop-s.s c.index-left_sides-s.result (section_right c.args.key sum) c.in_err-meets.field-0.0
    (omega (arith, below, left_count check (section_count check.program check.section_length) c.args.left_sides.now are))
    (section_read check c.args.left_sides.now c.args.sums.now c.loop-s.s c.args.key c.index-left_sides-s.result sum are one sums below (omega (arith, below, c.requires.sums))
    c.index-left_sides-s.is c.index-sums-s.is)
    c.in_err-meets.ensures.differs.0 c.in_err-meets.ensures.differs.1 (c.loop-s.invariant check are one sums))

pub returns-clause-holds : goal.returns-clause-holds
returns-clause-holds c check are one sums =
    let end : c.loop-s.s ≡ length c.args.left_sides.now = omega (arith, c.loop-s-test.false, c.loop-s.auto.s-end) in
    subst (λ n. AllBelow n (SectionHolds check)) (end ∙ left_count check (section_count check.program check.section_length) c.args.left_sides.now are)
    (c.loop-s.invariant check are one sums)
