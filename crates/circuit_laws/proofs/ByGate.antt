-- What stands for each gate of a circuit, by the given value of its product.
use Rattle.std.proofs.Common.{◌≡◌, ℕ, zero, suc, ◌+◌, ◌≤◌, List, [], ◌∷◌, ◌++◌, length, map, take, refl, sym, ap, ◌∙◌, arith, add-zero, zero-add}
use Rattle.std.specs.Prelude.{Some, slice_get, sum_by}
use Rattle.std.specs.List.{enumerate_from}
use Rattle.std.proofs.lemmas.List.Sums.{sum_by-cons}
use Rattle.zk_model.specs.Circuit.{Circuit}
use Rattle.zk_model.specs.Boolean.{products_in, by_gate, private_inputs}
use Rattle.zk_model.specs.declared.GateRow.{GateRow}

-- gate by gate, with the given value c for the first product
abbrev pub from_given : {A : Type 0} → (ℕ → GateRow → A) → ℕ → List GateRow → List A
from_given item c [] = []
from_given item c (gate ∷ gates) = item c gate ∷ from_given item (c + products_in gate) gates

-- the products of a list's gates
abbrev pub products_of_all : List GateRow → ℕ
products_of_all gates = sum_by products_in gates

-- those of a gate and of the gates after it
pub one_more_gate : (gate : GateRow) (gates : List GateRow)
    → products_of_all (gate ∷ gates) ≡ products_in gate + products_of_all gates
one_more_gate gate gates = sum_by-cons products_in gate gates

-- the gates after the first n, of a list whose first n are known
by_number : {A : Type 0} (item : ℕ → GateRow → A) (base c n : ℕ) (whole gates : List GateRow)
    → ((k : ℕ) → k ≤ length gates → base + products_of_all (take (n + k) whole) ≡ c + products_of_all (take k gates))
    → map (λ entry. item (base + products_of_all (take entry.0 whole)) entry.1) (enumerate_from n gates)
    ≡ from_given item c gates
by_number item base c n whole [] fits = refl
by_number item base c n whole (gate ∷ gates) fits =
    let first : base + products_of_all (take n whole) ≡ c =
    ap (λ k. base + products_of_all (take k whole)) (sym (add-zero n)) ∙ fits 0 (omega arith) ∙ add-zero c in
    let rest : (k : ℕ) → k ≤ length gates
    → base + products_of_all (take (n + 1 + k) whole) ≡ c + products_in gate + products_of_all (take k gates) =
    λ k below.
    let same : n + 1 + k ≡ n + suc k = omega arith in
    let more : base + products_of_all (take (n + suc k) whole) ≡ c + products_of_all (gate ∷ take k gates) = fits (suc k) (omega (arith, below)) in
    ap (λ m. base + products_of_all (take m whole)) same ∙ omega (arith, more, one_more_gate gate (take k gates)) in
    λ i. item (first i) gate ∷ by_number item base (c + products_in gate) (n + 1) whole gates rest i

-- what stands for the gates, gate by gate
pub by_gate_is : {A : Type 0} (item : ℕ → GateRow → A) (public : ℕ) (circuit : Circuit)
    → by_gate public circuit item ≡ from_given item (private_inputs public circuit) circuit.gates
by_gate_is item public circuit =
    by_number item (private_inputs public circuit) (private_inputs public circuit) 0 circuit.gates circuit.gates
    (λ k below. ap (λ n. private_inputs public circuit + products_of_all (take n circuit.gates)) (zero-add k))

-- item n stands for gate n
pub gate_of_item : {A : Type 0} (item : ℕ → GateRow → A) (c n : ℕ) (gates : List GateRow) (a : A)
    → slice_get (from_given item c gates) n ≡ Some a
    → (gate : GateRow) × (slice_get gates n ≡ Some gate) × (a ≡ item (c + products_of_all (take n gates)) gate)
gate_of_item item c n [] a at = cc
gate_of_item item c zero (gate ∷ gates) a at = (gate, refl, let same : item c gate ≡ a = cc in sym same ∙ ap (λ k. item k gate) (sym (add-zero c)))
gate_of_item item c (suc n) (gate ∷ gates) a at =
    let later = gate_of_item item (c + products_in gate) n gates a at in
    let sum : c + products_in gate + products_of_all (take n gates) ≡ c + products_of_all (gate ∷ take n gates) = omega (arith, one_more_gate gate (take n gates)) in
    (later.0, later.1, later.2 ∙ ap (λ k. item k later.0) sum)

-- gate n has an item
pub item_of_gate : {A : Type 0} (item : ℕ → GateRow → A) (c n : ℕ) (gates : List GateRow) (gate : GateRow)
    → slice_get gates n ≡ Some gate
    → slice_get (from_given item c gates) n ≡ Some (item (c + products_of_all (take n gates)) gate)
item_of_gate item c n [] gate at = cc
item_of_gate item c zero (first ∷ gates) gate at =
    let same : first ≡ gate = cc in ap (λ (g : GateRow). Some (item c g)) same ∙ ap (λ k. Some (item k gate)) (sym (add-zero c))
item_of_gate item c (suc n) (first ∷ gates) gate at =
    let sum : c + products_in first + products_of_all (take n gates) ≡ c + products_of_all (first ∷ take n gates) = omega (arith, one_more_gate first (take n gates)) in
    item_of_gate item (c + products_in first) n gates gate at ∙ ap (λ k. Some (item k gate)) sum

-- the products up to gate n and its own are among all
pub product_within : (n : ℕ) (gates : List GateRow) (gate : GateRow) → slice_get gates n ≡ Some gate
    → products_of_all (take n gates) + products_in gate ≤ products_of_all gates
product_within n [] gate at = cc
product_within zero (first ∷ gates) gate at = let same : first ≡ gate = cc in let one : products_in first ≡ products_in gate = ap products_in same in omega (arith, one, one_more_gate first gates)
product_within (suc n) (first ∷ gates) gate at = let later = product_within n gates gate at in omega (arith, later, one_more_gate first gates, one_more_gate first (take n gates))

-- as many items as gates
pub length-from_given : {A : Type 0} (item : ℕ → GateRow → A) (c : ℕ) (gates : List GateRow) → length (from_given item c gates) ≡ length gates
length-from_given item c [] = refl
length-from_given item c (gate ∷ gates) = ap suc (length-from_given item (c + products_in gate) gates)

-- one gate more
pub from_given-more : {A : Type 0} (item : ℕ → GateRow → A) (c : ℕ) (gates : List GateRow) (gate : GateRow)
    → from_given item c (gates ++ gate ∷ []) ≡ from_given item c gates ++ item (c + products_of_all gates) gate ∷ []
from_given-more item c [] gate = ap (λ k. item k gate ∷ []) (sym (add-zero c))
from_given-more item c (first ∷ gates) gate =
    let sum : c + products_in first + products_of_all gates ≡ c + products_of_all (first ∷ gates) = omega (arith, one_more_gate first gates) in
    ap (λ l. item c first ∷ l) (from_given-more item (c + products_in first) gates gate ∙ ap (λ k. from_given item (c + products_in first) gates ++ item k gate ∷ []) sum)
