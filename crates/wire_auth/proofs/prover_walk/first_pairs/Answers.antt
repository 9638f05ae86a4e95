use Rattle.std.proofs.Common.{◌≡◌, ◌++◌, List, ℕ, map, length, ap, arith, sym, ◌∙◌, length-append}
use Rattle.std.proofs.lemmas.List.{length-map, take_all}
use Rattle.zk_model.specs.Field.{◌*ₚ◌}
use Rattle.zk_model.specs.Mac.{Pair, values_of, macs_of}
use Rattle.wire_auth.specs.Sides.{joined}
use Rattle.wire_auth.proofs.Joined.{values_of-joined, macs_of-joined}
use Rattle.wire_auth.proofs.prover_walk.first_pairs.Goals as goal

-- the numbers of the first wires
abbrev values : (c : goal.After-drop-values-2) → List ℕ
values c = map (λ value. value *ₚ 1) c.args.public.now ++ c.args.inputs.now

abbrev macs : (c : goal.After-drop-values-2) → List ℕ
macs c = map (λ value. value *ₚ 0) c.args.public.now ++ macs_of c.args.dealt.now

pairs_are : (c : goal.After-drop-values-2) → c.in_ok-first.first.items ≡ joined (values c) (macs c)
pairs_are c = c.in_ok-first.ensures ∙ (λ i. joined ((c.deref-2.ensures.value ∙ c.in_ok-values.ensures) i)
    ((c.deref-3.ensures.value ∙ c.in_ok-macs-2.ensures ∙ ap (λ l. map (λ value. value *ₚ 0) c.args.public.now ++ l) (c.deref.ensures.value ∙ c.in_ok-macs.ensures)) i))

same_length : (c : goal.After-drop-values-2) → length (values c) ≡ length (macs c)
same_length c =
    length-append (map (λ value. value *ₚ 1) c.args.public.now) c.args.inputs.now
    ∙ (let public = length-map c.args.public.now (λ value. value *ₚ 1) in let zero = length-map c.args.public.now (λ value. value *ₚ 0) in
    let dealt = length-map c.args.dealt.now (λ (p : Pair). p.m) in omega (arith, public, zero, dealt, c.requires))
    ∙ sym (length-append (map (λ value. value *ₚ 0) c.args.public.now) (macs_of c.args.dealt.now))

pub returns-clause-values : goal.returns-clause-values
returns-clause-values c = ap values_of (pairs_are c) ∙ values_of-joined (values c) (macs c) (let same = same_length c in omega (arith, same))

pub returns-clause-macs : goal.returns-clause-macs
returns-clause-macs c =
    ap macs_of (pairs_are c) ∙ macs_of-joined (values c) (macs c) ∙ take_all (length (values c)) (macs c) (let same = same_length c in omega (arith, same))
