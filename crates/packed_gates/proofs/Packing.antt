-- Gates that are packed, and read back.
use Rattle.std.proofs.Common.{◌≡◌, ℕ, suc, ◌+◌, ◌<◌, ◌≤◌, List, [], ◌∷◌, ◌++◌, length, flat_map, get_or, refl, sym, ap, ◌∙◌, subst, arith, add-zero, append_assoc, append-nil, length-append}
use Rattle.std.specs.Prelude.{All, Some, slice_get}
use Rattle.std.proofs.Math.Seq.{get_or-append_seam}
use Rattle.std.proofs.lemmas.List.{length-map, get_or-map}
use Rattle.std.proofs.lemmas.List.Concat.{flat_map-append}
use Rattle.std.proofs.lemmas.List.Elements.{All-nil, All-cons}
use Rattle.std.proofs.lemmas.Option.{slice_get-get_or}
use Rattle.zk_model.specs.declared.GateRow.{GateRow}
use Rattle.zk_model.specs.declared.GateRow.TheVariants.{And, Xor, Inv, Eqw, Eq}
use Rattle.packed_gates.specs.PackedSteps.{ArePacked, IsGateRule, factors_of, gate_factors, gate_of, gate_rule, gates_of, rules_from}
use Rattle.packed_gates.specs.declared.packed.Factors.{Factors}
use Rattle.packed_gates.specs.declared.packed.PackedStep.{PackedStep}
use Rattle.packed_gates.specs.declared.packed.PackedStep.TheVariants as rule

-- the factors of these gates
abbrev pub factors_in : List GateRow → List Factors
factors_in gates = flat_map gate_factors gates

-- ---- one gate after others

-- the factors behind others
pub factors_behind : (before : List Factors) (next : Factors) (others : List Factors) → factors_of (before ++ next ∷ others) (length before) ≡ next
factors_behind before next others = get_or-append_seam before next others (record { a = 0; b = 0 })

-- factors move from the front of the others to the end of those before
pub one_over : (before : List Factors) (next : Factors) (others : List Factors) → before ++ next ∷ [] ++ others ≡ before ++ (next ∷ others)
one_over before next others = append_assoc before (next ∷ []) others

pub one_longer : (before : List Factors) (next : Factors) → length (before ++ next ∷ []) ≡ length before + 1
one_longer before next = length-append before (next ∷ [])

-- ---- read back

-- the gates that the others say, behind a gate that has a product
gates_behind : (before : List Factors) (next : Factors) (gates : List GateRow)
    → gates_of (before ++ next ∷ [] ++ factors_in gates) (rules_from (length (before ++ next ∷ [])) gates) ≡ gates
    → gates_of (before ++ (next ∷ factors_in gates)) (rules_from (length before + 1) gates) ≡ gates
gates_behind before next gates far =
    sym (λ i. gates_of (one_over before next (factors_in gates) i) (rules_from (one_longer before next i) gates)) ∙ far

-- and behind one that has none
gates_same : (before : List Factors) (gates : List GateRow) → gates_of (before ++ factors_in gates) (rules_from (length before) gates) ≡ gates
    → gates_of (before ++ factors_in gates) (rules_from (length before + 0) gates) ≡ gates
gates_same before gates far = ap (λ n. gates_of (before ++ factors_in gates) (rules_from n gates)) (add-zero (length before)) ∙ far

-- the gates that packed gates say are these
pub unpacked : (before : List Factors) (gates : List GateRow) → gates_of (before ++ factors_in gates) (rules_from (length before) gates) ≡ gates
unpacked before [] = refl
unpacked before (And a b out ∷ gates) =
    let at = factors_behind before (record { a = a; b = b }) (factors_in gates) in
    λ i. And (at i).a (at i).b out ∷ gates_behind before (record { a = a; b = b }) gates (unpacked (before ++ record { a = a; b = b } ∷ []) gates) i
unpacked before (Xor a b out ∷ gates) =
    let at = factors_behind before (record { a = a; b = b }) (factors_in gates) in
    λ i. Xor (at i).a (at i).b out ∷ gates_behind before (record { a = a; b = b }) gates (unpacked (before ++ record { a = a; b = b } ∷ []) gates) i
unpacked before (Inv a out ∷ gates) = λ i. Inv a out ∷ gates_same before gates (unpacked before gates) i
unpacked before (Eqw a out ∷ gates) = λ i. Eqw a out ∷ gates_same before gates (unpacked before gates) i
unpacked before (Eq bit out ∷ gates) = λ i. Eq bit out ∷ gates_same before gates (unpacked before gates) i

-- ---- rules within

-- the first rule and the others are within, behind a gate that has a product
within_behind : (before : List Factors) (next : Factors) (gates : List GateRow) (first : PackedStep)
    → (length before < length (before ++ next ∷ factors_in gates) → IsGateRule (length (before ++ next ∷ factors_in gates)) first)
    → All (IsGateRule (length (before ++ next ∷ [] ++ factors_in gates))) (rules_from (length (before ++ next ∷ [])) gates)
    → All (IsGateRule (length (before ++ next ∷ factors_in gates))) (first ∷ rules_from (length before + 1) gates)
within_behind before next gates first is far =
    All-cons (IsGateRule (length (before ++ next ∷ factors_in gates))) first (rules_from (length before + 1) gates)
    (is (omega (arith, length-append before (next ∷ factors_in gates))))
    (subst (λ n. All (IsGateRule (length (before ++ next ∷ factors_in gates))) (rules_from n gates)) (one_longer before next)
    (subst (λ f. All (IsGateRule (length f)) (rules_from (length (before ++ next ∷ [])) gates)) (one_over before next (factors_in gates)) far))

-- and behind one that has none
within_same : (before : List Factors) (gates : List GateRow) (first : PackedStep) → IsGateRule (length (before ++ factors_in gates)) first
    → All (IsGateRule (length (before ++ factors_in gates))) (rules_from (length before) gates)
    → All (IsGateRule (length (before ++ factors_in gates))) (first ∷ rules_from (length before + 0) gates)
within_same before gates first is far =
    All-cons (IsGateRule (length (before ++ factors_in gates))) first (rules_from (length before + 0) gates) is
    (subst (λ n. All (IsGateRule (length (before ++ factors_in gates))) (rules_from n gates)) (sym (add-zero (length before))) far)

pub rules_within : (before : List Factors) (gates : List GateRow) → All (IsGateRule (length (before ++ factors_in gates))) (rules_from (length before) gates)
rules_within before [] = All-nil (IsGateRule (length (before ++ [])))
rules_within before (And a b out ∷ gates) =
    within_behind before (record { a = a; b = b }) gates (rule.Mul out (length before)) (λ below. below) (rules_within (before ++ record { a = a; b = b } ∷ []) gates)
rules_within before (Xor a b out ∷ gates) =
    within_behind before (record { a = a; b = b }) gates (rule.XorFrom out (length before)) (λ below. below) (rules_within (before ++ record { a = a; b = b } ∷ []) gates)
rules_within before (Inv a out ∷ gates) = within_same before gates (rule.Not out a) tt (rules_within before gates)
rules_within before (Eqw a out ∷ gates) = within_same before gates (rule.Copy out a) tt (rules_within before gates)
rules_within before (Eq bit out ∷ gates) = within_same before gates (rule.Bit out bit) tt (rules_within before gates)

pub packed_within : (gates : List GateRow) (rules : List PackedStep) (factors : List Factors) → ArePacked gates rules factors → All (IsGateRule (length factors)) rules
packed_within gates rules factors are =
    subst (λ r. All (IsGateRule (length factors)) r) (sym are.rules_are)
    (subst (λ f. All (IsGateRule (length f)) (rules_from 0 gates)) (sym are.factors_are) (rules_within [] gates))

-- there are as many rules as gates, and no more products
pub length-rules_from : (number : ℕ) (gates : List GateRow) → length (rules_from number gates) ≡ length gates
length-rules_from number [] = refl
length-rules_from number (gate ∷ gates) = ap suc (length-rules_from (number + length (gate_factors gate)) gates)

at_most_one : (gate : GateRow) → length (gate_factors gate) ≤ 1
at_most_one (And a b out) = omega arith
at_most_one (Xor a b out) = omega arith
at_most_one (Inv a out) = omega arith
at_most_one (Eqw a out) = omega arith
at_most_one (Eq bit out) = omega arith

pub few_factors : (gates : List GateRow) → length (factors_in gates) ≤ length gates
few_factors [] = omega arith
few_factors (gate ∷ gates) = omega (arith, at_most_one gate, few_factors gates, length-append (gate_factors gate) (factors_in gates))

-- ---- one gate more

rules_from-push : (number : ℕ) (gates : List GateRow) (gate : GateRow)
    → rules_from number (gates ++ gate ∷ []) ≡ rules_from number gates ++ gate_rule (number + length (factors_in gates)) gate ∷ []
rules_from-push number [] gate = ap (λ n. gate_rule n gate ∷ []) (sym (add-zero number))
rules_from-push number (first ∷ gates) gate =
    let same : number + length (gate_factors first) + length (factors_in gates) ≡ number + length (factors_in (first ∷ gates)) =
    omega (arith, length-append (gate_factors first) (factors_in gates)) in
    ap (λ l. gate_rule number first ∷ l)
    (rules_from-push (number + length (gate_factors first)) gates gate
    ∙ ap (λ n. rules_from (number + length (gate_factors first)) gates ++ gate_rule n gate ∷ []) same)

-- what packed gates say
pub packed_say : (gates : List GateRow) (rules : List PackedStep) (factors : List Factors) → ArePacked gates rules factors → gates_of factors rules ≡ gates
packed_say gates rules factors are = (λ i. gates_of (are.factors_are i) (are.rules_are i)) ∙ unpacked [] gates

pub packed_more : (gates : List GateRow) (rules more_rules : List PackedStep) (factors more_factors : List Factors) (gate : GateRow) (number : ℕ)
    → ArePacked gates rules factors → number ≡ length factors → more_rules ≡ rules ++ gate_rule number gate ∷ [] → more_factors ≡ factors ++ gate_factors gate
    → ArePacked (gates ++ gate ∷ []) more_rules more_factors
packed_more gates rules more_rules factors more_factors gate number are count pushed appended = record {
  rules_are = pushed ∙ (λ i. are.rules_are i ++ gate_rule (next i) gate ∷ []) ∙ sym (rules_from-push 0 gates gate);
  factors_are = appended ∙ (λ i. are.factors_are i ++ gate_factors gate) ∙ sym (ap (λ l. factors_in gates ++ l) (append-nil (gate_factors gate)))
      ∙ sym (flat_map-append gate_factors gates (gate ∷ []));
}
  where
    next : number ≡ 0 + length (factors_in gates)
    next = omega (arith, count, ap length are.factors_are)

-- the gates that these say are packed so
pub packed_again : (gates : List GateRow) (rules : List PackedStep) (factors : List Factors) → ArePacked gates rules factors
    → ArePacked (gates_of factors rules) rules factors
packed_again gates rules factors are = subst (λ l. ArePacked l rules factors) (sym (packed_say gates rules factors are)) are

pub none_packed : (rules : List PackedStep) (factors : List Factors) → rules ≡ [] → factors ≡ [] → ArePacked [] rules factors
none_packed rules factors none nothing = record { rules_are = none; factors_are = nothing }

-- gate i
pub gate_at : (factors : List Factors) (rules : List PackedStep) (i : ℕ) (r : PackedStep) → i < length rules
    → slice_get (gates_of factors rules) i ≡ Some (gate_of factors (get_or rules i r))
gate_at factors rules i r below =
    let within : i < length (gates_of factors rules) = omega (arith, below, length-map rules (gate_of factors)) in
    slice_get-get_or (gates_of factors rules) i (gate_of factors r) within
    ∙ ap (λ (g : GateRow). Some g) (get_or-map (gate_of factors) rules i r (gate_of factors r) below)

-- the gates that packed gates say, after one more
pub packed_push : (gates : List GateRow) (rules more_rules : List PackedStep) (factors more_factors : List Factors) (gate : GateRow) (number : ℕ)
    → gates_of factors rules ≡ gates → ArePacked (gates_of factors rules) rules factors → number ≡ length factors
    → more_rules ≡ rules ++ gate_rule number gate ∷ [] → more_factors ≡ factors ++ gate_factors gate
    → ArePacked (gates_of more_factors more_rules) more_rules more_factors × (gates_of more_factors more_rules ≡ gates ++ gate ∷ [])
packed_push gates rules more_rules factors more_factors gate number say are count pushed appended =
    let more = packed_more (gates_of factors rules) rules more_rules factors more_factors gate number are count pushed appended in (
      packed_again (gates_of factors rules ++ gate ∷ []) more_rules more_factors more,
      packed_say (gates_of factors rules ++ gate ∷ []) more_rules more_factors more ∙ ap (λ l. l ++ gate ∷ []) say,
    )
