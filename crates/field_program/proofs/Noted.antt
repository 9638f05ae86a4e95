-- The slots of steps, noted as the steps are taken.
use Rattle.std.proofs.Common.{◌≡◌, ℕ, ◌+◌, ◌-◌, ◌<◌, ◌≤◌, ⊎_elim, inl, inr, List, [], ◌∷◌, ◌++◌, map, length, get_or, refl, sym, ◌∙◌, ap, subst, arith, length-append}
use Rattle.std.specs.Prelude.{Some, slice_get, slice_index, Contains}
use Rattle.std.proofs.Math.ListN.{get_or-append}
use Rattle.std.proofs.Math.Seq.{get_or-append_seam}
use Rattle.std.proofs.lemmas.Bool.{cases_lt}
use Rattle.std.proofs.lemmas.List.{length-map, get_or-map}
use Rattle.std.proofs.lemmas.List.Elements.{All-map}
use Rattle.std.proofs.lemmas.Option.{slice_get_within, slice_get-get_or, get_or_from_slice_get}
use Rattle.zk_model.specs.Boolean.{once, less_once, less_twice}
use Rattle.zk_model.specs.Program as model
use Rattle.zk_model.specs.Program.{Term, Program, IsProgram}
use Rattle.zk_model.specs.declared.Product.{Product}
use Rattle.zk_model.specs.Slots as plans
use Rattle.zk_model.specs.Slots.{Reads, IsLive, AreSlotsOf, IsPlanOf}
use Rattle.field_program.specs.Counts.{unchecked}
use Rattle.field_program.specs.Rules.{HasFactors}
use Rattle.field_program.specs.Programs.{IsSmallProgram}
use Rattle.field_program.specs.Plans.{named, plan_of}
use Rattle.field_program.specs.Steps.{step_equation}
use Rattle.field_program.specs.declared.plan.StepSlots.{StepSlots}
use Rattle.field_program.specs.declared.slots.Followed.{Followed}
use Rattle.field_program.specs.declared.slots.Operands.{Operands}
use Rattle.field_program.specs.declared.slots.Operands.TheVariants.{None, One, Two}
use Rattle.field_program.specs.declared.slots.Slots.{Slots}
use Rattle.field_program.specs.declared.step.Step.{Step}
use Rattle.field_program.specs.declared.step.Step.TheVariants as step
use Rattle.field_program.specs.Slotting.{IsOperand, operands_of, slots_with, TakesSlot, EndsWire, EndsOperands, KeepsSlots, IsNoted, AreNoted, AreSlotsUpTo, IsFollowed}
use Rattle.field_program.proofs.Live.{out_live, some_same}
use Rattle.field_program.proofs.Next.{read_live, step_keeps}
use Rattle.field_program.proofs.Operands.{only, none_in, first_of, second_of, product_is, operands_read, read_set}

-- ---- one step

-- the one term of a list of one
one_term : (known term : Term) (terms : List Term) → terms ≡ known ∷ [] → terms ≡ term ∷ [] → known ≡ term
one_term known term terms are is = only known term (subst (λ l. Contains l term) (sym is ∙ are) (first_of term []))

not_two : (first second term : Term) → first ∷ second ∷ [] ≡ term ∷ [] → ⊥
not_two first second term is = let longer : 2 ≡ 1 = ap length is in absurd (omega (arith, longer))

not_one : (first left right : Term) → first ∷ [] ≡ left ∷ right ∷ [] → ⊥
not_one first left right is = let longer : 1 ≡ 2 = ap length is in absurd (omega (arith, longer))

not_any : (left right : Term) → [] ≡ left ∷ right ∷ [] → ⊥
not_any left right is = let longer : 0 ≡ 2 = ap length is in absurd (omega (arith, longer))

-- the two terms of a list of two
both_terms : (places : List ℕ) (first second left right : Term) → first ∷ second ∷ [] ≡ left ∷ right ∷ []
    → (slice_index places first.place ≡ slice_index places left.place) × (slice_index places second.place ≡ slice_index places right.place)
both_terms places first second left right is =
    (ap (λ l. slice_index places (get_or l 0 first).place) is, ap (λ l. slice_index places (get_or l 1 first).place) is)

not_none : (term : Term) → [] ≡ term ∷ [] → ⊥
not_none term is = let longer : 0 ≡ 1 = ap length is in absurd (omega (arith, longer))

-- the slots of a product that is taken
taken_slots : (program : Program) (places : List ℕ) (a b number : ℕ) (known term : Term) (product : Product) → IsSmallProgram program
    → slice_get program.products (number - unchecked program) ≡ Some (record { a = a; b = b; c = number }) → known.place ≡ number → Contains (known ∷ []) term
    → Contains program.products product → product.c ≡ term.place
    → (slice_index places a ≡ slice_index places product.a) × (slice_index places b ≡ slice_index places product.b)
taken_slots program places a b number known term product held at place there among same =
    let taken : number ≡ term.place = sym place ∙ ap (λ (t : Term). t.place) (only known term there) in
    let is = product_is program number (record { a = a; b = b; c = number }) product held at among (same ∙ sym taken) in
    (ap (λ (p : Product). slice_index places p.a) is, ap (λ (p : Product). slice_index places p.b) is)

slots_are : (program : Program) (places : List ℕ) (s : Step) → IsSmallProgram program → HasFactors program s
    → AreSlotsOf program places (step_equation s) (named (slots_with places (step_equation s).out (operands_of s)))
slots_are program places (step.Const out value) held has = record {
  out = refl;
  one = λ term is. absurd (not_none term is);
  both = λ left right is. absurd (not_any left right is);
  factors = λ term product there among same. absurd (none_in [] term refl there);
}
slots_are program places (step.Copy out a) held has = record {
  out = refl;
  one = λ term is. ap (λ (t : Term). slice_index places t.place) (one_term (once a) term (once a ∷ []) refl is);
  both = λ left right is. absurd (not_one (once a) left right is);
  factors = λ term product there among same. absurd (none_in [] term refl there);
}
slots_are program places (step.Not out a) held has = record {
  out = refl;
  one = λ term is. ap (λ (t : Term). slice_index places t.place) (one_term (less_once a) term (less_once a ∷ []) refl is);
  both = λ left right is. absurd (not_one (less_once a) left right is);
  factors = λ term product there among same. absurd (none_in [] term refl there);
}
slots_are program places (step.Add out a b) held has = record {
  out = refl;
  one = λ term is. absurd (not_two (once a) (once b) term is);
  both = λ left right is. both_terms places (once a) (once b) left right is;
  factors = λ term product there among same. absurd (none_in [] term refl there);
}
slots_are program places (step.Mul out a b number) held has = record {
  out = refl;
  one = λ term is. absurd (not_none term is);
  both = λ left right is. absurd (not_any left right is);
  factors = λ term product there among same. taken_slots program places a b number (once number) term product held has refl there among same;
}
slots_are program places (step.XorFrom out a b number) held has = record {
  out = refl;
  one = λ term is. absurd (not_two (once a) (once b) term is);
  both = λ left right is. both_terms places (once a) (once b) left right is;
  factors = λ term product there among same. taken_slots program places a b number (less_twice number) term product held has refl there among same;
}

-- they are slots
slots_there : (places : List ℕ) (out count : ℕ) (operands : Operands) → slice_index places out < count
    → ((wire : ℕ) → IsOperand operands wire → slice_index places wire < count)
    → ((slots_with places out operands).out < count) × ((slots_with places out operands).a < count) × ((slots_with places out operands).b < count)
slots_there places out count None here there = (here, here, here)
slots_there places out count (One a) here there = (here, there a refl, here)
slots_there places out count (Two a b) here there = (here, there a (inl refl), there b (inr refl))

-- a step that has been taken has the slots that its wires have now
pub step_noted : (program : Program) (ends : List ℕ) (k out : ℕ) (s : Step) (operands : Operands) (after : Slots) (noted : StepSlots) → IsSmallProgram program
    → slice_get program.steps k ≡ Some (step_equation s) → HasFactors program s → operands ≡ operands_of s → out ≡ (step_equation s).out
    → AreSlotsUpTo program ends (k + 1) after → noted ≡ slots_with after.places.items out operands → IsNoted program k after noted
step_noted program ends k out s operands after noted held stands has operands_are out_is far is = record {
  are = λ equation at. subst (λ (e : model.Step). AreSlotsOf program places e (named noted))
      (some_same (step_equation s) equation (slice_get program.steps k) stands at)
      (subst (λ n. AreSlotsOf program places (step_equation s) (named n)) (sym known) (slots_are program places s held has));
  within = subst (λ (n : StepSlots). (n.out < after.count) × (n.a < after.count) × (n.b < after.count)) (sym known)
      (slots_there places (step_equation s).out after.count (operands_of s) (inside (step_equation s).out (out_live program k (step_equation s) stands))
      (λ wire operand. let reads = operands_read program s wire has operand in
      inside wire (read_live program k wire (step_equation s) stands reads (read_set program k wire (step_equation s) held stands reads))));
}
  where
    places : List ℕ
    places = after.places.items

    known : noted ≡ slots_with places (step_equation s).out (operands_of s)
    known = is ∙ (λ i. slots_with places (out_is i) (operands_are i))

    inside : (wire : ℕ) → IsLive program (k + 1) wire → slice_index places wire < after.count
    inside wire live = far.within (k + 1) wire (omega arith) live

-- ---- steps that were taken before

-- the slots of a step whose wires keep theirs
slots_kept : (program : Program) (k : ℕ) (places now : List ℕ) (equation : model.Step) (slots : plans.StepSlots) → IsSmallProgram program
    → slice_get program.steps k ≡ Some equation → ((wire : ℕ) → IsLive program (k + 1) wire → slice_index now wire ≡ slice_index places wire)
    → AreSlotsOf program places equation slots → AreSlotsOf program now equation slots
slots_kept program k places now equation slots held stands same are = record {
  out = are.out ∙ sym (same equation.out (out_live program k equation stands));
  one = λ term is. are.one term is ∙ sym (read term.place (inl (term, subst (λ l. Contains l term) (sym is) (first_of term []), refl)));
  both = λ left right is. let both = are.both left right is in (
    both.0 ∙ sym (read left.place (inl (left, subst (λ l. Contains l left) (sym is) (first_of left (right ∷ [])), refl))),
    both.1 ∙ sym (read right.place (inl (right, subst (λ l. Contains l right) (sym is) (second_of left right []), refl))),
  );
  factors = λ term product there among number. let both = are.factors term product there among number in (
    both.0 ∙ sym (read product.a (inr (term, product, there, among, number, inl refl))),
    both.1 ∙ sym (read product.b (inr (term, product, there, among, number, inr refl))),
  );
}
  where
    read : (wire : ℕ) → Reads program equation wire → slice_index now wire ≡ slice_index places wire
    read wire reads = same wire (read_live program k wire equation stands reads (read_set program k wire equation held stands reads))

noted_kept : (program : Program) (n k : ℕ) (before after : Slots) (noted : StepSlots) → IsSmallProgram program → k < n → KeepsSlots program n before after
    → IsNoted program k before noted → IsNoted program k after noted
noted_kept program n k before after noted held less keeps is = record {
  are = λ equation stands. slots_kept program k before.places.items after.places.items equation (named noted) held stands
      (λ wire live. keeps.kept (k + 1) wire (omega (arith, less)) live) (is.are equation stands);
  within = let grows = keeps.grows in let out = is.within.0 in let a = is.within.1 in let b = is.within.2 in
      (omega (arith, grows, out), omega (arith, grows, a), omega (arith, grows, b));
}

-- operands that give back their slots leave places as they are
pub operands_keep : (n : ℕ) (operands : Operands) (ends : List ℕ) (before after : Slots) → EndsOperands n operands ends before after
    → (after.places ≡ before.places) × (after.count ≡ before.count)
operands_keep n None ends before after same = (ap (λ (s : Slots). s.places) same, ap (λ (s : Slots). s.count) same)
operands_keep n (One a) ends before after ended = (ended.places, ended.count)
operands_keep n (Two a b) ends before after (mid, left, inl right) =
    (ap (λ (s : Slots). s.places) right.1 ∙ left.places, ap (λ (s : Slots). s.count) right.1 ∙ left.count)
operands_keep n (Two a b) ends before after (mid, left, inr right) = (right.1.places ∙ left.places, right.1.count ∙ left.count)

-- a step that is followed keeps the slots of the wires that were live
pub step_kept : (program : Program) (ends : List ℕ) (k out : ℕ) (equation : model.Step) (operands : Operands) (before at mid after : Slots) → IsProgram program
    → slice_get program.steps k ≡ Some equation → out ≡ equation.out → TakesSlot out before at → EndsWire (k + 1) out ends at mid
    → EndsOperands (k + 1) operands ends mid after → KeepsSlots program k before after
step_kept program ends k out equation operands before at mid after formed stands is takes first ended =
    let keep = operands_keep (k + 1) operands ends mid after ended in
    step_keeps program k out equation before at after formed stands is takes (keep.0 ∙ first.places) (keep.1 ∙ first.count)

-- ---- all steps

pub none_noted : (program : Program) (slots : Slots) (noted : List StepSlots) → noted ≡ [] → AreNoted program 0 slots noted
none_noted program slots noted none = record {
  one_each = ap length none;
  each = λ k step there. let empty : length noted ≡ 0 = ap length none in let below = slice_get_within noted k step there in absurd (omega (arith, empty, below));
}

pub one_noted : (program : Program) (n : ℕ) (before after : Slots) (noted : List StepSlots) (last : StepSlots) → IsSmallProgram program
    → KeepsSlots program n before after → IsNoted program n after last → AreNoted program n before noted → AreNoted program (n + 1) after (noted ++ last ∷ [])
one_noted program n before after noted last held keeps now far = record {
  one_each = length-append noted (last ∷ []) ∙ (let counted = far.one_each in omega (arith, counted));
  each = λ k step there. ⊎_elim (earlier k step there) (latest k step there) (cases_lt k n);
}
  where
    at : (k : ℕ) (step : StepSlots) → slice_get (noted ++ last ∷ []) k ≡ Some step → get_or (noted ++ last ∷ []) k last ≡ step
    at k step there = get_or_from_slice_get (noted ++ last ∷ []) k step last there

    earlier : (k : ℕ) (step : StepSlots) → slice_get (noted ++ last ∷ []) k ≡ Some step → k < n → IsNoted program k after step
    earlier k step there less =
        let counted = far.one_each in
        let within : k < length noted = omega (arith, counted, less) in
        noted_kept program n k before after step held less keeps (far.each k step
        (slice_get-get_or noted k last within ∙ ap (λ (s : StepSlots). Some s) (sym (get_or-append noted (last ∷ []) last k within) ∙ at k step there)))

    latest : (k : ℕ) (step : StepSlots) → slice_get (noted ++ last ∷ []) k ≡ Some step → n ≤ k → IsNoted program k after step
    latest k step there past =
        let counted = far.one_each in
        let below = slice_get_within (noted ++ last ∷ []) k step there in
        let place : n ≡ k = omega (arith, past, below, counted, length-append noted (last ∷ [])) in
        let is : last ≡ step = sym (get_or-append_seam noted last [] last) ∙ ap (λ i. get_or (noted ++ last ∷ []) i last) (counted ∙ place) ∙ at k step there in
        subst (λ i. IsNoted program i after step) place (subst (IsNoted program n after) is now)

-- the plan of all that was followed
pub plan_made : (program : Program) (ends : List ℕ) (followed : Followed) (opened : List ℕ) → IsFollowed program ends followed
    → opened ≡ map (slice_index followed.slots.places.items) program.opened
    → IsPlanOf program (plan_of followed.slots.count followed.steps.items opened)
plan_made program ends followed opened is opened_are = record {
  places = followed.slots.places.items;
  whole = is.slots.whole;
  within = is.slots.within;
  apart = is.slots.apart;
  first = is.slots.first;
  one_each = length-map followed.steps.items named ∙ is.noted.one_each;
  steps = λ k equation slots stands there. subst (AreSlotsOf program followed.slots.places.items equation) (slots_at k slots there)
      ((is.noted.each k (step_at k slots) (step_there k slots there)).are equation stands);
  inside = All-map (λ (s : plans.StepSlots). (s.out < followed.slots.count) × (s.a < followed.slots.count) × (s.b < followed.slots.count)) named followed.steps.items
      (λ k d below. (is.noted.each k (get_or followed.steps.items k d) (slice_get-get_or followed.steps.items k d below)).within);
  opened = opened_are;
}
  where
    step_at : ℕ → plans.StepSlots → StepSlots
    step_at k slots = get_or followed.steps.items k (record { out = slots.out; a = slots.a; b = slots.b })

    below : (k : ℕ) (slots : plans.StepSlots) → slice_get (map named followed.steps.items) k ≡ Some slots → k < length followed.steps.items
    below k slots there = omega (arith, slice_get_within (map named followed.steps.items) k slots there, length-map followed.steps.items named)

    step_there : (k : ℕ) (slots : plans.StepSlots) → slice_get (map named followed.steps.items) k ≡ Some slots → slice_get followed.steps.items k ≡ Some (step_at k slots)
    step_there k slots there = slice_get-get_or followed.steps.items k (record { out = slots.out; a = slots.a; b = slots.b }) (below k slots there)

    slots_at : (k : ℕ) (slots : plans.StepSlots) → slice_get (map named followed.steps.items) k ≡ Some slots → named (step_at k slots) ≡ slots
    slots_at k slots there =
        sym (get_or-map named followed.steps.items k (record { out = slots.out; a = slots.a; b = slots.b }) slots (below k slots there))
        ∙ get_or_from_slice_get (map named followed.steps.items) k slots slots there
