use Rattle.std.proofs.Common.{◌++◌, ap, map, subst, sym, take, ◌∙◌}
use Rattle.zk_model.specs.Field.{◌*ₚ◌}
use Rattle.zk_model.specs.Program.{Program, AreMade, Carries}
use Rattle.zk_model.specs.Mac.{macs_of}
use Rattle.wire_auth.specs.Values.{wires_made, given_from, numbers_carried}
use Rattle.wire_auth.specs.Walks.{Value, Mac, IsProverWalk}
use Rattle.wire_auth.proofs.BothWalks.{first_carried, first_macs, values_made, macs_made}
use Rattle.wire_auth.proofs.prover_walk.ProverWalk.new.Goals as goal

pub invariant_of-result : goal.invariant_of-result
invariant_of-result c =
    subst (λ (p : Program). IsProverWalk p c.args.public.now c.args.inputs.now c.args.dealt.now c.in_ok-pairs.pairs) (sym c.in_ok-pairs.ensures.program)
    (record {
      along = c.in_ok-pairs.ensures.program;
      public_count = c.requires.public;
      input_count = c.requires.inputs;
      enough = c.requires.dealt;
      of_values = c.in_ok-pairs.ensures.follows Value (wires_made c.args.program.now c.args.public.now c.args.inputs.now)
          (given_from c.args.program.now (wires_made c.args.program.now c.args.public.now c.args.inputs.now)) made.carried.steps
          (first_carried 1 c.args.program.now c.args.public.now (given_from c.args.program.now (wires_made c.args.program.now c.args.public.now c.args.inputs.now))
          (wires_made c.args.program.now c.args.public.now c.args.inputs.now) made.carried
          ∙ ap (λ l. map (λ value. value *ₚ 1) c.args.public.now ++ l) made.first ∙ sym c.in_ok-first.ensures.values);
      of_macs = c.in_ok-pairs.ensures.follows Mac (numbers_carried 0 c.args.program.now c.args.public.now (take c.args.program.now.givens (macs_of c.args.dealt.now)))
          (take c.args.program.now.givens (macs_of c.args.dealt.now)) macs.steps
          (first_carried 0 c.args.program.now c.args.public.now (take c.args.program.now.givens (macs_of c.args.dealt.now))
          (numbers_carried 0 c.args.program.now c.args.public.now (take c.args.program.now.givens (macs_of c.args.dealt.now))) macs
          ∙ ap (λ l. map (λ value. value *ₚ 0) c.args.public.now ++ l)
          (first_macs c.args.program.now c.args.dealt.now c.products-products.ensures.held
          ∙ ap (λ n. macs_of (take n c.args.dealt.now)) (sym c.inputs.ensures.count))
          ∙ sym c.in_ok-first.ensures.macs);
    })
  where
    made : AreMade c.args.program.now c.args.public.now c.args.inputs.now (wires_made c.args.program.now c.args.public.now c.args.inputs.now)
        (given_from c.args.program.now (wires_made c.args.program.now c.args.public.now c.args.inputs.now))
    made = values_made c.args.program.now c.args.public.now c.args.inputs.now c.products-products.ensures.held c.requires.public c.requires.inputs

    macs : Carries 0 c.args.program.now c.args.public.now (take c.args.program.now.givens (macs_of c.args.dealt.now))
        (numbers_carried 0 c.args.program.now c.args.public.now (take c.args.program.now.givens (macs_of c.args.dealt.now)))
    macs = macs_made c.args.program.now c.args.public.now c.args.dealt.now c.products-products.ensures.held c.requires.public c.requires.dealt
