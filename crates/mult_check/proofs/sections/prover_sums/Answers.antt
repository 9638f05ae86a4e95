use Rattle.std.proofs.Common.{arith}
use Rattle.zk_model.specs.Mac.{pair_at}
use Rattle.zk_model.specs.Check.{honest_sums, section_triples}
use Rattle.mult_check.proofs.Sectioning.{sums_count, sums_of_part}
use Rattle.mult_check.proofs.sections.prover_sums.Goals as goal

pub loop-s-preserved : goal.loop-s-preserved
loop-s-preserved c =
    sums_of_part c.args.wires.now.program c.args.wires.now.pairs c.loop-s.s c.args.g c.args.challenge c.args.masks.now c.new-none.result c.section_part-part.result
    c.index-masks-s.result c.masked.result c.loop-s.sums.items c.push.new.self.items c.loop-s-test.true c.index-masks-s.is c.new-none.ensures c.section_part-part.ensures
    c.masked.ensures c.in_ok-push.ensures.items c.loop-s.invariant

pub returns-clause-one_each : goal.returns-clause-one_each
returns-clause-one_each c =
    let counted = sums_count (λ s. honest_sums c.args.challenge (section_triples c.args.wires.now.program c.args.g c.args.wires.now.pairs s) (pair_at c.args.masks.now s))
    c.loop-s.s c.loop-s.sums.items c.loop-s.invariant in
    omega (arith, counted, c.loop-s-test.false, c.loop-s.auto.s-end)
