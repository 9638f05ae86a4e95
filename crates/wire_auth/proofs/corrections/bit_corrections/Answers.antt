use Rattle.std.proofs.Common.{◌∙◌, ◌++◌, [], ◌∷◌, arith, length, take, ap, sym}
use Rattle.zk_model.specs.Boolean.{bits_of_products}
use Rattle.zk_model.specs.Field.{◌-ₚ◌}
use Rattle.zk_model.specs.Mac.{Pair}
use Rattle.zk_model.specs.HonestProver.{honest_corrections}
use Rattle.wire_auth.proofs.Correcting.{length-bits_of_products, all_made}
use Rattle.wire_auth.proofs.Lengths.{next_correction}
use Rattle.wire_auth.proofs.corrections.bit_corrections.Goals as goal

pub loop-i-preserved : goal.loop-i-preserved
loop-i-preserved c =
    let given = bits_of_products c.args.program.now.products c.args.bits.now in
    let sized = length-bits_of_products c.args.program.now.products c.args.bits.now in
    c.in_ok-push.ensures.items
    ∙ (λ j. c.loop-i.invariant j ++ c.sub.ensures j ∷ [])
    ∙ ap (λ (p : Pair). take c.loop-i.i (honest_corrections given c.args.dealt.now) ++ (c.product_bit-value.result -ₚ p.x) ∷ []) c.pair.view_is
    ∙ sym (next_correction given c.args.dealt.now c.loop-i.i c.product_bit-value.result c.index-dealt-i.result
    (omega (arith, sized, c.loop-i-test.true, c.products-i-end.ensures.count))
    (omega (arith, sized, c.products.ensures.held.counted, c.requires.dealt))
    c.product_bit-value.ensures c.index-dealt-i.is)

pub returns-clause-corrections : goal.returns-clause-corrections
returns-clause-corrections c =
    (all_made (bits_of_products c.args.program.now.products c.args.bits.now) _ c.args.dealt.now (length c.args.program.now.products) c.loop-i.i
    (length-bits_of_products c.args.program.now.products c.args.bits.now) (omega (arith, c.products.ensures.held.counted, c.requires.dealt))
    (omega (arith, c.loop-i-test.false, c.products-i-end.ensures.count)) c.loop-i.invariant).0

pub returns-clause-one_each : goal.returns-clause-one_each
returns-clause-one_each c =
    (all_made (bits_of_products c.args.program.now.products c.args.bits.now) _ c.args.dealt.now (length c.args.program.now.products) c.loop-i.i
    (length-bits_of_products c.args.program.now.products c.args.bits.now) (omega (arith, c.products.ensures.held.counted, c.requires.dealt))
    (omega (arith, c.loop-i-test.false, c.products-i-end.ensures.count)) c.loop-i.invariant).1
