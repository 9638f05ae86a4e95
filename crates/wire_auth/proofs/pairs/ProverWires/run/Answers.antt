use Rattle.std.proofs.Common.{◌∙◌, List, ℕ, All, take, ap, sym, subst}
use Rattle.std.proofs.lemmas.List.{take-map}
use Rattle.zk_model.specs.Field.{IsElement}
use Rattle.zk_model.specs.HonestProver.{honest_corrections}
use Rattle.zk_model.specs.Mac.{Pair, macs_of, corrected_pairs}
use Rattle.zk_model.specs.Program.{Carries}
use Rattle.wire_auth.specs.Held.{items_in}
use Rattle.wire_auth.specs.Values.{given_from}
use Rattle.wire_auth.proofs.Joined.{joined_is_corrected, given_values, are_made, are_pairs}
use Rattle.wire_auth.proofs.pairs.ProverWires.run.Goals as goal

pub returns-clause-made : goal.returns-clause-made
returns-clause-made c =
    are_made c.args.program.now c.args.public.now c.args.inputs.now c.in_ok-values.values.items c.follow-macs.result.items (items_in c.args.dealt)
    c.givens.ensures.held.counted c.requires.dealt
    (c.in_ok-values.ensures.carried.whole ∙ sym c.follow-macs.ensures.whole) c.in_ok-values.ensures

pub returns-clause-corrections : goal.returns-clause-corrections
returns-clause-corrections c =
    c.in_ok-corrections.ensures.corrections
    ∙ (λ j. honest_corrections (given_from c.args.program.now (c.deref.ensures.value j)) (c.as_slice.ensures j))
    ∙ ap (λ (l : List ℕ). honest_corrections l (items_in c.args.dealt))
    (sym (given_values c.args.program.now c.in_ok-values.values.items (items_in c.args.dealt) c.givens.ensures.held.counted c.requires.dealt))

pub returns-clause-given : goal.returns-clause-given
returns-clause-given c =
    joined_is_corrected (given_from c.args.program.now c.in_ok-values.values.items) (items_in c.args.dealt)
    (subst (λ (l : List ℕ). All IsElement (given_from c.args.program.now l)) c.deref.ensures.value c.in_ok-corrections.ensures.elements)
    ∙ ap (corrected_pairs (items_in c.args.dealt))
    (sym (c.in_ok-corrections.ensures.corrections
    ∙ (λ j. honest_corrections (given_from c.args.program.now (c.deref.ensures.value j)) (c.as_slice.ensures j))))

pub returns-clause-carried : goal.returns-clause-carried
returns-clause-carried c =
    are_pairs c.args.program.now c.args.public.now c.args.inputs.now c.in_ok-values.values.items c.follow-macs.result.items (items_in c.args.dealt)
    c.givens.ensures.held.counted c.requires.dealt
    (c.in_ok-values.ensures.carried.whole ∙ sym c.follow-macs.ensures.whole) c.in_ok-values.ensures
    (subst (λ (l : List ℕ). Carries 0 c.args.program.now c.args.public.now l c.follow-macs.result.items)
    (c.deref-3.ensures.value ∙ c.in_ok-given.ensures ∙ ap (λ (l : List Pair). macs_of (take c.givens.result l)) c.as_slice-2.ensures
    ∙ ap (λ n. macs_of (take n (items_in c.args.dealt))) c.givens.ensures.count
    ∙ sym (take-map (λ (p : Pair). p.m) c.args.program.now.givens (items_in c.args.dealt)))
    (c.follow-macs.ensures.carried c.args.public.now (c.in_ok-begun.ensures c.deref-3.result.now
    (λ i. take (sym c.inputs.ensures.count i) ((c.deref-3.ensures.value ∙ sym c.deref-2.ensures.value) i)))))
