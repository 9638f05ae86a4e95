-- Assertions are taken out of rules, one after another.
use Rattle.std.proofs.Common.{◌≡◌, ℕ, zero, suc, ◌+◌, ◌<◌, ◌≤◌, List, [], ◌∷◌, ◌++◌, length, flat_map, take, set, get_or, refl, sym, ap, ◌∙◌, arith, append_assoc, append-nil, get_or-set_other, length-set}
use Rattle.std.proofs.lemmas.List.{take_all, take_more, take_more_set}
use Rattle.std.proofs.lemmas.List.Concat.{flat_map-append}
use Rattle.packed_gates.specs.declared.packed.PackedStep.{PackedStep}
use Rattle.packed_gates.specs.declared.packed.PackedStep.TheVariants as rule
use Rattle.gate_translate.specs.Assertions.{asserted_among, rule_asserted, step_rule, steps_among}

abbrev no_rule : PackedStep
no_rule = rule.Assert 0

-- The first i rules are split: the rules of steps come first, so many of them, and the wires of the others behind those that were opened.
-- The rules from i on are as they were.
pub record AreSplit (rules : List PackedStep) (wires : List ℕ) (i kept : ℕ) (now : List PackedStep) (opened : List ℕ) : Type 0 where
  pub whole : length now ≡ length rules
  pub few : kept ≤ i
  pub kept_are : take kept now ≡ steps_among (take i rules)
  pub others : (k : ℕ) → i ≤ k → k < length rules → get_or now k no_rule ≡ get_or rules k no_rule
  pub opened_are : opened ≡ wires ++ asserted_among (take i rules)

pub none_split : (rules : List PackedStep) (wires : List ℕ) → AreSplit rules wires 0 0 rules wires
none_split rules wires = record {
  whole = refl;
  few = omega arith;
  kept_are = none rules ∙ sym (ap steps_among (none rules));
  others = λ k late below. refl;
  opened_are = sym (append-nil wires) ∙ ap (λ l. wires ++ asserted_among l) (sym (none rules));
}
  where
    none : (l : List PackedStep) → take 0 l ≡ []
    none [] = refl
    none (x ∷ l) = refl

-- rule i, as it stands in the whole list
rule_at : (rules : List PackedStep) (wires : List ℕ) (i kept : ℕ) (now : List PackedStep) (opened : List ℕ) (d r : PackedStep) → AreSplit rules wires i kept now opened
    → i < length rules → r ≡ get_or now i d → r ≡ get_or rules i no_rule
rule_at rules wires i kept now opened d r far below is =
    is ∙ default now i d no_rule (omega (arith, below, far.whole)) ∙ far.others i (omega arith) below
  where
    default : (l : List PackedStep) (k : ℕ) (d e : PackedStep) → k < length l → get_or l k d ≡ get_or l k e
    default [] k d e less = absurd (omega (arith, less))
    default (x ∷ l) zero d e less = refl
    default (x ∷ l) (suc k) d e less = default l k d e (omega (arith, less))

-- one rule more
more : {A : Type 0} (of : PackedStep → List A) (rules : List PackedStep) (i : ℕ) (r : PackedStep) → i < length rules → r ≡ get_or rules i no_rule
    → flat_map of (take (i + 1) rules) ≡ flat_map of (take i rules) ++ of r
more of rules i r below is =
    ap (flat_map of) (take_more rules i no_rule below ∙ ap (λ x. take i rules ++ x ∷ []) (sym is))
    ∙ flat_map-append of (take i rules) (r ∷ []) ∙ ap (λ l. flat_map of (take i rules) ++ l) (append-nil (of r))

-- an assertion is taken out
pub one_taken : (rules : List PackedStep) (wires : List ℕ) (i kept : ℕ) (now : List PackedStep) (opened after : List ℕ) (d r : PackedStep) (a : ℕ)
    → AreSplit rules wires i kept now opened → i < length rules → r ≡ get_or now i d → r ≡ rule.Assert a → after ≡ opened ++ a ∷ []
    → AreSplit rules wires (i + 1) kept now after
one_taken rules wires i kept now opened after d r a far below is asserts added = record {
  whole = far.whole;
  few = let few = far.few in omega (arith, few);
  kept_are = far.kept_are
      ∙ sym (more step_rule rules i r below here ∙ ap (λ x. steps_among (take i rules) ++ step_rule x) asserts ∙ append-nil (steps_among (take i rules)));
  others = λ k late less. far.others k (omega (arith, late)) less;
  opened_are = added ∙ ap (λ l. l ++ a ∷ []) far.opened_are ∙ append_assoc wires (asserted_among (take i rules)) (a ∷ [])
      ∙ ap (λ l. wires ++ l) (sym (more rule_asserted rules i r below here ∙ ap (λ x. asserted_among (take i rules) ++ rule_asserted x) asserts));
}
  where
    here : r ≡ get_or rules i no_rule
    here = rule_at rules wires i kept now opened d r far below is

-- a rule of a step asserts nothing
step_alone : (r : PackedStep) → ((a : ℕ) → r ≡ rule.Assert a → ⊥) → (step_rule r ≡ r ∷ []) × (rule_asserted r ≡ [])
step_alone (rule.Bit out value) not = (refl, refl)
step_alone (rule.Copy out a) not = (refl, refl)
step_alone (rule.Not out a) not = (refl, refl)
step_alone (rule.Mul out product) not = (refl, refl)
step_alone (rule.XorFrom out product) not = (refl, refl)
step_alone (rule.Sum out sum) not = (refl, refl)
step_alone (rule.Const out constant) not = (refl, refl)
step_alone (rule.Assert a) not = absurd (not a refl)

-- the rule of a step is kept
pub one_kept : (rules : List PackedStep) (wires : List ℕ) (i kept : ℕ) (now after : List PackedStep) (opened : List ℕ) (d r : PackedStep)
    → AreSplit rules wires i kept now opened → i < length rules → r ≡ get_or now i d → ((a : ℕ) → r ≡ rule.Assert a → ⊥) → after ≡ set now kept r
    → AreSplit rules wires (i + 1) (kept + 1) after opened
one_kept rules wires i kept now after opened d r far below is not puts = record {
  whole = ap length puts ∙ length-set now kept r ∙ far.whole;
  few = let few = far.few in omega (arith, few);
  kept_are = ap (take (kept + 1)) puts ∙ take_more_set now kept r (let few = far.few in omega (arith, few, below, far.whole))
      ∙ (λ j. far.kept_are j ++ sym alone.0 j) ∙ sym (more step_rule rules i r below here);
  others = λ k late less. ap (λ l. get_or l k no_rule) puts
      ∙ get_or-set_other now kept k r no_rule (λ same. let few = far.few in omega (arith, few, late, same)) ∙ far.others k (omega (arith, late)) less;
  opened_are = far.opened_are ∙ ap (λ l. wires ++ l)
      (sym (more rule_asserted rules i r below here ∙ ap (λ l. asserted_among (take i rules) ++ l) alone.1 ∙ append-nil (asserted_among (take i rules))));
}
  where
    here : r ≡ get_or rules i no_rule
    here = rule_at rules wires i kept now opened d r far below is

    alone : (step_rule r ≡ r ∷ []) × (rule_asserted r ≡ [])
    alone = step_alone r not

-- all rules
pub all_split : (rules : List PackedStep) (wires : List ℕ) (i kept : ℕ) (now : List PackedStep) (opened : List ℕ) → AreSplit rules wires i kept now opened
    → length rules ≤ i → (take kept now ≡ steps_among rules) × (opened ≡ wires ++ asserted_among rules)
all_split rules wires i kept now opened far end = (
  far.kept_are ∙ ap steps_among (take_all i rules end),
  far.opened_are ∙ ap (λ l. wires ++ asserted_among l) (take_all i rules end),
)
