use Rattle.std.proofs.Common.{◌∙◌, ◌++◌, [], ◌∷◌, arith, take, ap, sym, subst}
use Rattle.std.specs.Prelude.{slice_index}
use Rattle.std.proofs.lemmas.List.Elements.{All-from_get_or}
use Rattle.zk_model.specs.Field.{IsElement, ◌-ₚ◌}
use Rattle.zk_model.specs.Mac.{Pair}
use Rattle.zk_model.specs.HonestProver.{honest_corrections}
use Rattle.wire_auth.specs.Values.{given_from}
use Rattle.wire_auth.proofs.Correcting.{one_more, all_made}
use Rattle.wire_auth.proofs.Lengths.{next_correction}
use Rattle.wire_auth.proofs.Making.{length-given_from}
use Rattle.wire_auth.proofs.corrections.value_corrections.Goals as goal

pub loop-i-preserved : goal.loop-i-preserved
loop-i-preserved c =
    let given = given_from c.args.program.now c.args.values.now in
    let sized = length-given_from c.args.program.now c.args.values.now c.givens-i-end.ensures.held.counted in
    record {
      so_far = c.in_ok-push.ensures.items
          ∙ (λ j. c.loop-i.invariant.so_far j ++ c.sub.ensures j ∷ [])
          ∙ ap (λ (p : Pair). take c.loop-i.i (honest_corrections given c.args.dealt.now) ++ (c.given_at.result -ₚ p.x) ∷ []) c.pair.view_is
          ∙ sym (next_correction given c.args.dealt.now c.loop-i.i c.given_at.result c.index-dealt-i.result
          (omega (arith, sized, c.loop-i-test.true, c.givens-i-end.ensures.count))
          (omega (arith, sized, c.requires.dealt))
          c.given_at.ensures.value c.index-dealt-i.is);
      elements = one_more (λ k. IsElement (slice_index given k)) c.loop-i.i c.loop-i.invariant.elements
          (subst IsElement c.given_at.ensures.value c.given_at.ensures.element);
    }

pub returns-clause-corrections : goal.returns-clause-corrections
returns-clause-corrections c =
    (all_made (given_from c.args.program.now c.args.values.now) _ c.args.dealt.now c.args.program.now.givens c.loop-i.i
    (length-given_from c.args.program.now c.args.values.now c.givens-i-end.ensures.held.counted) c.requires.dealt
    (omega (arith, c.loop-i-test.false, c.givens-i-end.ensures.count)) c.loop-i.invariant.so_far).0

pub returns-clause-one_each : goal.returns-clause-one_each
returns-clause-one_each c =
    (all_made (given_from c.args.program.now c.args.values.now) _ c.args.dealt.now c.args.program.now.givens c.loop-i.i
    (length-given_from c.args.program.now c.args.values.now c.givens-i-end.ensures.held.counted) c.requires.dealt
    (omega (arith, c.loop-i-test.false, c.givens-i-end.ensures.count)) c.loop-i.invariant.so_far).1

pub returns-clause-elements : goal.returns-clause-elements
returns-clause-elements c =
    let given = given_from c.args.program.now c.args.values.now in
    let sized = length-given_from c.args.program.now c.args.values.now c.givens-i-end.ensures.held.counted in
    All-from_get_or IsElement given 0 (λ k below.
    c.loop-i.invariant.elements k (omega (arith, sized, below, c.loop-i-test.false, c.givens-i-end.ensures.count)))
