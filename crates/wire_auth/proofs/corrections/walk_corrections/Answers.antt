use Rattle.std.proofs.Common.{◌≡◌, ◌+◌, ◌<◌, ◌≤◌, ◌∙◌, ◌++◌, ℕ, List, [], ◌∷◌, arith, map, take, length, ap, sym, subst}
use Rattle.std.specs.Prelude.{slice_index}
use Rattle.std.proofs.lemmas.List.{map-id}
use Rattle.std.proofs.lemmas.List.Elements.{All-from_get_or}
use Rattle.zk_model.specs.Field.{IsElement, ◌*ₚ◌, ◌-ₚ◌}
use Rattle.zk_model.specs.Mac.{Pair}
use Rattle.zk_model.specs.HonestProver.{honest_corrections}
use Rattle.zk_model.specs.Program.{Program, AreMade}
use Rattle.field_program.specs.Counts.{unchecked}
use Rattle.wire_auth.specs.Values.{wires_made, given_from, given_made}
use Rattle.wire_auth.specs.Walks.{Value, Follows}
use Rattle.wire_auth.proofs.BothWalks.{first_carried, values_made}
use Rattle.wire_auth.proofs.Correcting.{one_more, first_corrections, first_values, all_made, walked_given, walked_pairs}
use Rattle.wire_auth.proofs.Lengths.{next_correction}
use Rattle.wire_auth.proofs.Making.{can_be_made, length-given_from}
use Rattle.wire_auth.proofs.corrections.walk_corrections.Goals as goal

pub loop-i-init : goal.loop-i-init
loop-i-init c =
    record {
      program = c.in_ok-walk.ensures.program;
      met = ap (λ n. unchecked c.args.program.now + n) c.in_ok-walk.ensures.met ∙ omega (arith, c.unchecked-i.ensures.count);
      follows = c.in_ok-walk.ensures.follows Value values (given_from c.args.program.now values) made.carried.steps
          (first_carried 1 c.args.program.now c.args.public.now (given_from c.args.program.now values) values made.carried
          ∙ ap (λ (l : List ℕ). map (λ value. value *ₚ 1) c.args.public.now ++ l) made.first ∙ sym (map-id c.in_ok-first.first.items ∙ c.in_ok-first.ensures));
      so_far = c.in_ok-corrections.ensures.corrections
          ∙ first_corrections c.args.inputs.now given c.args.dealt.now (unchecked c.args.program.now) c.args.program.now.inputs few made.first
          ∙ ap (λ n. take n (honest_corrections given c.args.dealt.now)) (sym c.unchecked-i.ensures.count);
      elements = λ k below.
          let less : k < unchecked c.args.program.now = omega (arith, below, c.unchecked-i.ensures.count) in
          subst IsElement (first_values c.args.inputs.now given k c.args.program.now.inputs (omega (arith, less, few)) made.first) (c.in_ok-corrections.ensures.elements k less);
    }
  where
    values : List ℕ
    values = wires_made c.args.program.now c.args.public.now c.args.inputs.now

    made : AreMade c.args.program.now c.args.public.now c.args.inputs.now values (given_from c.args.program.now values)
    made = values_made c.args.program.now c.args.public.now c.args.inputs.now c.unchecked-i.ensures.held c.requires.public c.requires.inputs

    given : List ℕ
    given = given_from c.args.program.now values

    few : unchecked c.args.program.now ≤ c.args.program.now.inputs
    few = (can_be_made c.args.program.now c.unchecked-i.ensures.held).inputs

pub loop-i-preserved : goal.loop-i-preserved
loop-i-preserved c =
    record {
      program = c.meet_value-value.ensures.program ∙ c.loop-i.invariant.program;
      met = (let more = c.meet_value-value.ensures.met in let before = c.loop-i.invariant.met in omega (arith, more, before));
      follows = follows;
      so_far = c.in_ok-push.ensures.items
          ∙ (λ j. c.loop-i.invariant.so_far j ++ c.sub.ensures j ∷ [])
          ∙ ap (λ (p : Pair). take c.loop-i.i (honest_corrections given c.args.dealt.now) ++ (c.meet_value-value.result -ₚ p.x) ∷ []) c.pair.view_is
          ∙ sym (next_correction given c.args.dealt.now c.loop-i.i c.meet_value-value.result c.index-dealt-i.result
          (omega (arith, sized, c.loop-i-test.true, c.givens-i-end.ensures.count))
          (omega (arith, sized, c.requires.dealt))
          value c.index-dealt-i.is);
      elements = one_more (λ k. IsElement (slice_index given k)) c.loop-i.i c.loop-i.invariant.elements
          (subst IsElement value c.meet_value-value.ensures.element);
    }
  where
    values : List ℕ
    values = wires_made c.args.program.now c.args.public.now c.args.inputs.now

    given : List ℕ
    given = given_from c.args.program.now values

    sized : length given ≡ c.args.program.now.givens
    sized = length-given_from c.args.program.now values c.givens-i-end.ensures.held.counted

    before : Follows (λ n. n) c.loop-i.walk values (given_from c.loop-i.walk.program values)
    before = subst (λ (p : Program). Follows (λ n. n) c.loop-i.walk values (given_from p values)) (sym c.loop-i.invariant.program) c.loop-i.invariant.follows

    value : c.meet_value-value.result ≡ slice_index given c.loop-i.i
    value = c.meet_value-value.ensures.value values before
        ∙ (λ i. slice_index (given_from (c.loop-i.invariant.program i) values) (unchecked (c.loop-i.invariant.program i) + c.loop-i.walk.met))
        ∙ ap (slice_index given) c.loop-i.invariant.met

    follows : Follows (λ n. n) c.meet_value-value.new.walk values given
    follows = subst (λ (p : Program). Follows (λ n. n) c.meet_value-value.new.walk values (given_from p values)) c.loop-i.invariant.program
        (c.meet_value-value.ensures.follows values before)

-- what has been made at the end
ended : (c : goal.After-drop-walk-inside-2) → (c.loop-i.corrections.items ≡ honest_corrections (given_from c.args.program.now (wires_made c.args.program.now c.args.public.now c.args.inputs.now)) c.args.dealt.now)
    × (length c.loop-i.corrections.items ≡ c.args.program.now.givens)
ended c =
    all_made (given_from c.args.program.now (wires_made c.args.program.now c.args.public.now c.args.inputs.now)) c.loop-i.corrections.items c.args.dealt.now
    c.args.program.now.givens c.loop-i.i
    (length-given_from c.args.program.now (wires_made c.args.program.now c.args.public.now c.args.inputs.now) c.givens-i-end.ensures.held.counted)
    c.requires.dealt (omega (arith, c.loop-i-test.false, c.givens-i-end.ensures.count)) c.loop-i.invariant.so_far

pub returns-clause-corrections : goal.returns-clause-corrections
unfolding given_made
returns-clause-corrections c = (ended c).0

pub returns-clause-one_each : goal.returns-clause-one_each
returns-clause-one_each c = (ended c).1

pub returns-clause-given : goal.returns-clause-given
returns-clause-given c =
    walked_given c.args.program.now c.args.public.now c.args.inputs.now c.loop-i.corrections.items c.args.dealt.now
    (All-from_get_or IsElement given 0 (λ k below. c.loop-i.invariant.elements k
    (omega (
      arith,
      length-given_from c.args.program.now (wires_made c.args.program.now c.args.public.now c.args.inputs.now) c.givens-i-end.ensures.held.counted,
      below,
      c.loop-i-test.false,
      c.givens-i-end.ensures.count,
    ))))
    (ended c).0
  where
    given : List ℕ
    given = given_from c.args.program.now (wires_made c.args.program.now c.args.public.now c.args.inputs.now)

pub returns-clause-carried : goal.returns-clause-carried
returns-clause-carried c =
    walked_pairs c.args.program.now c.args.public.now c.args.inputs.now c.args.dealt.now c.givens-i-end.ensures.held c.requires.public c.requires.inputs c.requires.dealt
