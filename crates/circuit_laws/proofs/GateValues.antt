-- Where the wires that a gate reads have the values of bits, its equation gives the value of the bit in its truth table.
use Rattle.std.proofs.Common.{◌≡◌, ℕ, zero, suc, ◌+◌, ◌≤◌, Bool, true, false, not, ◌&&◌, List, [], ◌∷◌, ◌++◌, map, take, length, flat_map, ◌<◌, inl, inr, refl, sym, ◌∙◌, subst, arith, add-zero, lit<}
use Rattle.std.specs.Prelude.{Some, All, slice_get, slice_index}
use Rattle.std.specs.List.{range_with_len}
use Rattle.std.proofs.Math.Seq.{take-append_seam, drop-append_seam}
use Rattle.std.proofs.lemmas.List.FromFn.{get_or-map-range_with_len, length-map-range_with_len}
use Rattle.std.proofs.lemmas.List.Elements.{All-take, All-drop}
use Rattle.zk_model.specs.Bits.{from_bit, exclusive_or}
use Rattle.zk_model.specs.Field.{◌*ₚ◌}
use Rattle.zk_model.specs.Circuit.{Circuit, bit_of, MeetsGate, IsSet, wire_set, wires_read}
use Rattle.zk_model.specs.Program.{step_value, Multiplies}
use Rattle.zk_model.specs.Boolean.{gate_step, gate_products, products_in, private_inputs, given_of_gate, bit_check, circuit_products}
use Rattle.circuit_laws.proofs.ByGate.{one_more_gate, by_gate_is, products_of_all}
use Rattle.circuit_laws.proofs.CircuitIsProgram.{gate_products_from}
use Rattle.circuit_laws.specs.GateBits.{gate_bit}
use Rattle.zk_model.specs.declared.GateRow.{GateRow}
use Rattle.zk_model.specs.declared.GateRow.TheVariants.{And, Xor, Inv, Eqw, Eq}
use Rattle.zk_model.specs.declared.Product.{Product}

-- a wire that is set early is set later too
pub set_later : (circuit : Circuit) (k n wire : ℕ) → k ≤ n → IsSet circuit k wire → IsSet circuit n wire
set_later circuit k n wire later (inl input) = inl input
set_later circuit k n wire later (inr by) = inr (by.0, by.1, omega (arith, by.2, later), by.3, by.4)

-- ---- truth tables

-- a gate is met where the wire that it sets has that bit
pub meets_gate : (bits : List Bool) (gate : GateRow) → bit_of bits (wire_set gate) ≡ gate_bit bits gate → MeetsGate bits gate
meets_gate bits (And a b out) h = h
meets_gate bits (Xor a b out) h = h
meets_gate bits (Inv a out) h = h
meets_gate bits (Eqw a out) h = h
meets_gate bits (Eq bit out) h = h

-- and the other way round
pub bit_set : (bits : List Bool) (gate : GateRow) → MeetsGate bits gate → bit_of bits (wire_set gate) ≡ gate_bit bits gate
bit_set bits (And a b out) h = h
bit_set bits (Xor a b out) h = h
bit_set bits (Inv a out) h = h
bit_set bits (Eqw a out) h = h
bit_set bits (Eq bit out) h = h

-- ---- equations over bits

pub and_value : (x y : Bool) → from_bit (x && y) ≡ from_bit x *ₚ from_bit y
and_value false false = refl
and_value false true = refl
and_value true false = refl
and_value true true = refl

-- the equation of an AND whose product is given
and_equation : (x : Bool) → step_value 1 [] (from_bit x ∷ []) (gate_step 0 (And 0 1 2)) ≡ from_bit x
and_equation false = refl
and_equation true = refl

xor_equation : (x y : Bool)
    → step_value 1 (from_bit x ∷ from_bit y ∷ []) (from_bit (x && y) ∷ []) (gate_step 0 (Xor 0 1 2)) ≡ from_bit (exclusive_or x y)
xor_equation false false = refl
xor_equation false true = refl
xor_equation true false = refl
xor_equation true true = refl

inv_equation : (x : Bool) → step_value 1 (from_bit x ∷ []) [] (gate_step 0 (Inv 0 1)) ≡ from_bit (not x)
inv_equation false = refl
inv_equation true = refl

eqw_equation : (x : Bool) → step_value 1 (from_bit x ∷ []) [] (gate_step 0 (Eqw 0 1)) ≡ from_bit x
eqw_equation false = refl
eqw_equation true = refl

eq_equation : (x : Bool) → step_value 1 [] [] (gate_step 0 (Eq x 0)) ≡ from_bit x
eq_equation false = refl
eq_equation true = refl

-- ---- one gate

-- a wire's value is that of its bit
abbrev pub HasBit : List Bool → List ℕ → ℕ → Type 0
HasBit bits wires wire = slice_index wires wire ≡ from_bit (bit_of bits wire)

-- the product of two bits is their conjunction
product_value : (bits : List Bool) (wires given : List ℕ) (a b c : ℕ) → HasBit bits wires a → HasBit bits wires b
    → slice_index given c ≡ slice_index wires a *ₚ slice_index wires b → slice_index given c ≡ from_bit (bit_of bits a && bit_of bits b)
product_value bits wires given a b c left right product =
    product ∙ (λ i. left i *ₚ right i) ∙ sym (and_value (bit_of bits a) (bit_of bits b))

-- where a gate reads bits and its product is right, its equation gives the bit of its truth table
pub gate_value : (bits : List Bool) (wires given : List ℕ) (c : ℕ) (gate : GateRow)
    → All (HasBit bits wires) (wires_read gate) → All (Multiplies wires given) (gate_products c gate)
    → step_value 1 wires given (gate_step c gate) ≡ from_bit (gate_bit bits gate)
gate_value bits wires given c (And a b out) reads products =
    let product = product_value bits wires given a b c (reads 0 0 (lit< tt)) (reads 1 0 (lit< tt)) (products 0 (record { a = 0; b = 0; c = 0 }) (lit< tt)) in
    (λ i. step_value 1 [] (product i ∷ []) (gate_step 0 (And 0 1 2))) ∙ and_equation (bit_of bits a && bit_of bits b)
gate_value bits wires given c (Xor a b out) reads products =
    let left : HasBit bits wires a = reads 0 0 (lit< tt) in
    let right : HasBit bits wires b = reads 1 0 (lit< tt) in
    let product = product_value bits wires given a b c left right (products 0 (record { a = 0; b = 0; c = 0 }) (lit< tt)) in
    (λ i. step_value 1 (left i ∷ right i ∷ []) (product i ∷ []) (gate_step 0 (Xor 0 1 2)))
    ∙ xor_equation (bit_of bits a) (bit_of bits b)
gate_value bits wires given c (Inv a out) reads products =
    let read : HasBit bits wires a = reads 0 0 (lit< tt) in
    (λ i. step_value 1 (read i ∷ []) [] (gate_step 0 (Inv 0 1))) ∙ inv_equation (bit_of bits a)
gate_value bits wires given c (Eqw a out) reads products =
    let read : HasBit bits wires a = reads 0 0 (lit< tt) in
    (λ i. step_value 1 (read i ∷ []) [] (gate_step 0 (Eqw 0 1))) ∙ eqw_equation (bit_of bits a)
gate_value bits wires given c (Eq bit out) reads products = eq_equation bit

-- ---- what holds of all products

left_part : {A : Type 0} (P : A → Type 0) (xs ys : List A) → All P (xs ++ ys) → All P xs
left_part P xs ys all = subst (All P) (take-append_seam xs ys) (All-take P (length xs) (xs ++ ys) all)

right_part : {A : Type 0} (P : A → Type 0) (xs ys : List A) → All P (xs ++ ys) → All P ys
right_part P xs ys all = subst (All P) (drop-append_seam xs ys) (All-drop P (length xs) (xs ++ ys) all)

-- what holds of the products from given value c on holds of those of gate n
of_gate_from : (P : Product → Type 0) (c n : ℕ) (gates : List GateRow) (gate : GateRow) → All P (gate_products_from c gates)
    → slice_get gates n ≡ Some gate → All P (gate_products (c + products_of_all (take n gates)) gate)
of_gate_from P c n [] gate all at = cc
of_gate_from P c zero (first ∷ gates) gate all at =
    let same : first ≡ gate = cc in
    subst (λ (g : GateRow). All P (gate_products (c + 0) g)) same
    (subst (λ (k : ℕ). All P (gate_products k first)) (sym (add-zero c))
    (left_part P (gate_products c first) (gate_products_from (c + products_in first) gates) all))
of_gate_from P c (suc n) (first ∷ gates) gate all at =
    let sum : c + products_in first + products_of_all (take n gates) ≡ c + products_of_all (first ∷ take n gates) = omega (arith, one_more_gate first (take n gates)) in
    subst (λ (k : ℕ). All P (gate_products k gate)) sum
    (of_gate_from P (c + products_in first) n gates gate
    (right_part P (gate_products c first) (gate_products_from (c + products_in first) gates) all) at)

-- what holds of all products holds of those of gate n
pub of_gate : (P : Product → Type 0) (public : ℕ) (circuit : Circuit) (n : ℕ) (gate : GateRow) → All P (circuit_products public circuit)
    → slice_get circuit.gates n ≡ Some gate → All P (gate_products (given_of_gate public circuit n) gate)
of_gate P public circuit n gate all at =
    of_gate_from P (private_inputs public circuit) n circuit.gates gate
    (subst (λ (lists : List (List Product)). All P (flat_map (λ list. list) lists)) (by_gate_is gate_products public circuit)
    (right_part P (map (bit_check public) (range_with_len 0 (private_inputs public circuit))) _ all)) at

-- and of each bit check
pub of_bit_check : (P : Product → Type 0) (public : ℕ) (circuit : Circuit) (i : ℕ) → All P (circuit_products public circuit)
    → i < private_inputs public circuit → P (bit_check public i)
of_bit_check P public circuit i all below =
    let count = private_inputs public circuit in
    let none : Product = record { a = 0; b = 0; c = 0 } in
    subst P (get_or-map-range_with_len (bit_check public) 0 count i i none below (omega arith))
    (left_part P (map (bit_check public) (range_with_len 0 count)) _ all i none
    (let many = length-map-range_with_len (bit_check public) 0 count in omega (arith, many, below)))
