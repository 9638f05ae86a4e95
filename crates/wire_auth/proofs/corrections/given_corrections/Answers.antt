use Rattle.std.proofs.Common.{◌∙◌, ◌+◌, sym, subst, set, arith, ℕ}
use Rattle.zk_model.specs.Field.{◌-ₚ◌}
use Rattle.wire_auth.proofs.InPlace.{AreCorrected, all_corrected, all_elements, corrected_next}
use Rattle.wire_auth.proofs.corrections.given_corrections.Goals as goal

pub loop-i-preserved : goal.loop-i-preserved
loop-i-preserved c =
    subst (λ (n : ℕ). AreCorrected c.args.given.items c.args.dealt.now (set c.loop-i.corrections.items c.loop-i.i n) (c.loop-i.i + 1))
    (sym (c.sub.ensures ∙ (λ j. c.known-value.ensures.unchanged j -ₚ (c.pair.view_is j).x)))
    (corrected_next c.args.given.items c.args.dealt.now c.loop-i.corrections.items c.loop-i.i c.index.result.now c.index-dealt-i.result
    (omega arith) c.requires c.index.ensures c.index-dealt-i.is c.known-value.ensures.element c.loop-i.invariant)

pub returns-clause-corrections : goal.returns-clause-corrections
returns-clause-corrections c =
    all_corrected c.args.given.items c.args.dealt.now c.loop-i.corrections.items c.loop-i.i c.requires
    (omega (arith, c.loop-i.invariant.whole, c.loop-i-test.false, c.len-i-end.ensures)) c.loop-i.invariant

pub returns-clause-elements : goal.returns-clause-elements
returns-clause-elements c =
    all_elements c.args.given.items c.args.dealt.now c.loop-i.corrections.items c.loop-i.i
    (omega (arith, c.loop-i.invariant.whole, c.loop-i-test.false, c.len-i-end.ensures)) c.loop-i.invariant
