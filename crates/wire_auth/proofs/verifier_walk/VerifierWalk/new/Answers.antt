use Rattle.std.proofs.Common.{◌++◌, List, ℕ, ap, map, subst, sym, take, ◌∙◌}
use Rattle.std.proofs.lemmas.List.{map-id}
use Rattle.zk_model.specs.Field.{◌*ₚ◌}
use Rattle.zk_model.specs.Mac.{corrected_keys}
use Rattle.zk_model.specs.Program.{Program, Carries}
use Rattle.wire_auth.specs.Values.{numbers_carried}
use Rattle.wire_auth.specs.Walks.{Value}
use Rattle.wire_auth.specs.Walks.{IsVerifierWalk}
use Rattle.wire_auth.proofs.BothWalks.{first_carried, first_corrected, keys_carried}
use Rattle.wire_auth.proofs.verifier_walk.VerifierWalk.new.Goals as goal

pub invariant_of-result : goal.invariant_of-result
invariant_of-result c =
    subst (λ (p : Program). IsVerifierWalk p c.args.key c.args.public.now c.args.keys.now c.args.corrections.now c.in_ok-walk.walk) (sym c.in_ok-walk.ensures.program)
    (record {
      along = c.in_ok-walk.ensures.program;
      public_count = c.requires.public;
      enough = c.requires.keys;
      one_each = c.requires.corrections;
      of_keys = c.in_ok-walk.ensures.follows Value (numbers_carried c.args.key c.args.program.now c.args.public.now given) given carried.steps
          (first_carried c.args.key c.args.program.now c.args.public.now given (numbers_carried c.args.key c.args.program.now c.args.public.now given) carried
          ∙ ap (λ l. map (λ value. value *ₚ c.args.key) c.args.public.now ++ l)
          (first_corrected c.args.program.now.inputs c.args.key c.args.keys.now c.args.corrections.now
          ∙ (λ i. corrected_keys c.args.key (take (sym c.inputs-inputs.ensures.count i) c.args.keys.now) (take (sym c.inputs-inputs.ensures.count i) c.args.corrections.now))
          ∙ sym (c.deref.ensures.value ∙ c.in_ok-first_keys.ensures.keys))
          ∙ sym (map-id c.in_ok-first.first.items ∙ c.in_ok-first.ensures));
    })
  where
    given : List ℕ
    given = corrected_keys c.args.key c.args.keys.now c.args.corrections.now

    carried : Carries c.args.key c.args.program.now c.args.public.now given (numbers_carried c.args.key c.args.program.now c.args.public.now given)
    carried = keys_carried c.args.key c.args.program.now c.args.public.now c.args.keys.now c.args.corrections.now c.inputs-inputs.ensures.held
        c.requires.public c.requires.keys c.requires.corrections

pub returns-clause-carried : goal.returns-clause-carried
returns-clause-carried c =
    keys_carried c.args.key c.args.program.now c.args.public.now c.args.keys.now c.args.corrections.now c.inputs-inputs.ensures.held
    c.requires.public c.requires.keys c.requires.corrections
