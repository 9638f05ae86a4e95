use Rattle.std.proofs.Common.{◌≡◌, ◌∙◌, ◌++◌, [], ◌∷◌, arith, take, ap, sym, subst}
use Rattle.std.specs.Prelude.{slice_index}
use Rattle.std.proofs.lemmas.List.{get_or_default}
use Rattle.zk_model.specs.Field.{IsElement, ◌-ₚ◌}
use Rattle.zk_model.specs.Mac.{Pair}
use Rattle.zk_model.specs.HonestProver.{honest_corrections}
use Rattle.wire_auth.proofs.Correcting.{one_more}
use Rattle.wire_auth.proofs.Lengths.{next_correction}
use Rattle.wire_auth.proofs.Making.{can_be_made}
use Rattle.wire_auth.proofs.corrections.input_corrections.Goals as goal

pub loop-i-preserved : goal.loop-i-preserved
loop-i-preserved c =
    let few = (can_be_made c.args.program.now c.unchecked-i-end.ensures.held).inputs in
    let read : c.index-inputs-i.result ≡ slice_index c.args.inputs.now c.loop-i.i =
    c.index-inputs-i.is
    ∙ get_or_default c.args.inputs.now c.loop-i.i c.index-inputs-i.result 0 (omega (arith, c.requires.inputs, few, c.loop-i-test.true, c.unchecked-i-end.ensures.count)) in
    record {
      so_far = c.in_ok-push.ensures.items
          ∙ (λ j. c.loop-i.invariant.so_far j ++ c.sub.ensures j ∷ [])
          ∙ ap (λ (p : Pair). take c.loop-i.i (honest_corrections c.args.inputs.now c.args.dealt.now) ++ (c.known.result -ₚ p.x) ∷ []) c.pair.view_is
          ∙ sym (next_correction c.args.inputs.now c.args.dealt.now c.loop-i.i c.known.result c.index-dealt-i.result
          (omega (arith, c.requires.inputs, few, c.loop-i-test.true, c.unchecked-i-end.ensures.count))
          (omega (arith, c.requires.inputs, c.requires.dealt, c.unchecked-i-end.ensures.held.formed.inputs))
          (c.known.ensures.unchanged ∙ read) c.index-dealt-i.is);
      elements = one_more (λ k. IsElement (slice_index c.args.inputs.now k)) c.loop-i.i c.loop-i.invariant.elements
          (subst IsElement read c.known.ensures.element);
    }
