-- The tokens of a gate, one after another.
use Rattle.std.proofs.Common.{◌≡◌, ℕ, zero, suc, ◌+◌, ◌<◌, ◌≤◌, ◌^◌, ◌⊎◌, inl, inr, Bool, true, false, Some, List, [], ◌∷◌, map, length, min, refl, ap, sym, ◌∙◌, subst, arith}
use Rattle.std.specs.Prelude.{All, codes, ◌==◌}
use Rattle.std.proofs.lemmas.List.Elements.{All-head, All-tail}
use Rattle.zk_model.specs.Bits.{from_bit}
use Rattle.zk_model.specs.Bristol.{Lexeme, number, name, gate_lexemes}
use Rattle.bristol_reader.specs.TextFaults.{a_wire, a_name, input_number, output_number, GateWants, first, second, next_wire, last, is_gate_name}
use Rattle.zk_model.specs.declared.GateRow.{GateRow}
use Rattle.zk_model.specs.declared.ReadFault.{ReadFault}
use Rattle.bristol_reader.specs.declared.wants.BinaryGate.{BinaryGate}
use Rattle.bristol_reader.specs.declared.wants.BinaryGate.TheVariants as pair
use Rattle.bristol_reader.specs.declared.wants.UnaryGate.{UnaryGate}
use Rattle.bristol_reader.specs.declared.wants.UnaryGate.TheVariants as single
use Rattle.bristol_reader.specs.declared.wants.Placed.{Placed}
use Rattle.zk_model.specs.ArithFaults.{Place}
use Rattle.text_tokens.specs.Words.{Takes}
use Rattle.bristol_reader.specs.Words.{greatest}
use Rattle.bristol_reader.specs.Wants.{next_fault, IsFaultBehind, TakesNumber, IsPlaced, pair_text, single_text, inputs_of}
use Rattle.bristol_reader.specs.Gates.{flag_of, FitsFlags, MayBeInput, pair_gate, single_gate, IsWrongPair, IsWrongSingle, IsGateFault, BehindNumbers}
use Rattle.bristol_reader.proofs.Lists.{takes_both, takes_same, fault_here}
use Rattle.bristol_reader.proofs.Wires.{flagged_within}

-- a gate's number of inputs
abbrev IsInputs : ℕ → Type 0
IsInputs n = (n ≡ 1) ⊎ (n ≡ 2)

-- ---- a gate whose tokens are not all right

pub inputs_wanted : (start : Place) (fault : ReadFault) → next_fault input_number start ≡ Some fault → IsFaultBehind GateWants start fault
inputs_wanted start fault is = fault_here GateWants [] input_number start start fault (record { left = refl; taken = omega arith }) (first refl refl) is

inputs_are : (is_pair : Bool) → IsInputs (inputs_of is_pair)
inputs_are true = inr refl
inputs_are false = inl refl

pub outputs_wanted : (start now : Place) (is_pair : Bool) (fault : ReadFault) → Takes (number (inputs_of is_pair) ∷ []) start now
    → next_fault output_number now ≡ Some fault → IsFaultBehind GateWants start fault
outputs_wanted start now is_pair fault takes is =
    fault_here GateWants (number (inputs_of is_pair) ∷ []) output_number start now fault takes (second (inputs_of is_pair) (inputs_are is_pair) refl refl) is

pub ruleset numbers_wanted = (inputs_wanted, outputs_wanted)

-- a gate's first tokens, its numbers of inputs and of outputs and some wires
abbrev TakesWires : ℕ → List ℕ → Place → Place → Type 0
TakesWires n wires start now = Takes (number n ∷ number 1 ∷ map number wires) start now

wire_wanted : (flags : List Bool) (n : ℕ) (wires : List ℕ) (start now : Place) (fault : ReadFault) → IsInputs n → length wires ≤ n → TakesWires n wires start now
    → next_fault a_wire now ≡ Some fault → IsGateFault flags start fault
wire_wanted flags n wires start now fault inputs few takes is =
    inl (fault_here GateWants (number n ∷ number 1 ∷ map number wires) a_wire start now fault takes (next_wire n wires inputs few refl refl) is)

name_wanted : (flags : List Bool) (n : ℕ) (wires : List ℕ) (start now : Place) (fault : ReadFault) → IsInputs n → length wires ≡ 1 + n → TakesWires n wires start now
    → next_fault (a_name n) now ≡ Some fault → IsGateFault flags start fault
name_wanted flags n wires start now fault inputs all takes is =
    inl (fault_here GateWants (number n ∷ number 1 ∷ map number wires) (a_name n) start now fault takes (last n wires inputs all refl refl) is)

-- one wire
one_wire : (n : ℕ) (start before after : Place) (a : Placed) (one : TakesNumber before after a) → Takes (number n ∷ number 1 ∷ []) start before → TakesWires n (one.exact ∷ []) start after
one_wire n start before after a one takes = takes_both (number n ∷ number 1 ∷ []) (number one.exact ∷ []) start before after takes one.takes

two_wires : (n x : ℕ) (start before after : Place) (a : Placed) (one : TakesNumber before after a) → TakesWires n (x ∷ []) start before → TakesWires n (x ∷ one.exact ∷ []) start after
two_wires n x start before after a one takes = takes_both (number n ∷ number 1 ∷ number x ∷ []) (number one.exact ∷ []) start before after takes one.takes

three_wires : (n x y : ℕ) (start before after : Place) (a : Placed) (one : TakesNumber before after a) → TakesWires n (x ∷ y ∷ []) start before
    → TakesWires n (x ∷ y ∷ one.exact ∷ []) start after
three_wires n x y start before after a one takes = takes_both (number n ∷ number 1 ∷ number x ∷ number y ∷ []) (number one.exact ∷ []) start before after takes one.takes

-- where a number stands
placed_at : (n k : ℕ) (part : List Lexeme) (start before after : Place) (a : Placed) (one : TakesNumber before after a) → Takes part start before → length part ≡ k
    → IsPlaced a one.exact (start.taken + k)
placed_at n k part start before after a one takes long = record { number_is = one.is.number_is; token_is = omega (arith, one.is.token_is, takes.taken) }

-- ---- a gate with two inputs

-- its numbers, one after another
all_three : (p0 p1 p2 p3 : Place) (a b c : Placed) (one : TakesNumber p0 p1 a) (two : TakesNumber p1 p2 b) (three : TakesNumber p2 p3 c) (start : Place)
    → Takes (number 2 ∷ number 1 ∷ []) start p0 → TakesWires 2 (one.exact ∷ two.exact ∷ three.exact ∷ []) start p3
all_three p0 p1 p2 p3 a b c one two three start takes =
    three_wires 2 one.exact two.exact start p2 p3 c three (two_wires 2 one.exact start p1 p2 b two (one_wire 2 start p0 p1 a one takes))

pub first_wanted : (flags : List Bool) (n : ℕ) (p0 : Place) (fault : ReadFault) → IsInputs n → next_fault a_wire p0 ≡ Some fault → BehindNumbers n p0 (λ start. IsGateFault flags start fault)
first_wanted flags n p0 fault inputs is = λ start takes. wire_wanted flags n [] start p0 fault inputs (omega arith) takes is

pub second_wanted : (flags : List Bool) (n : ℕ) (p0 p1 : Place) (a : Placed) (fault : ReadFault) → IsInputs n → TakesNumber p0 p1 a → next_fault a_wire p1 ≡ Some fault
    → BehindNumbers n p0 (λ start. IsGateFault flags start fault)
second_wanted flags n p0 p1 a fault inputs one is = λ start takes.
    wire_wanted flags n (one.exact ∷ []) start p1 fault inputs (some inputs) (one_wire n start p0 p1 a one takes) is
  where
    some : IsInputs n → 1 ≤ n
    some (inl is) = omega arith
    some (inr is) = omega arith

pub first_of_two : (flags : List Bool) (p0 : Place) (fault : ReadFault) → next_fault a_wire p0 ≡ Some fault → BehindNumbers 2 p0 (λ start. IsGateFault flags start fault)
first_of_two flags p0 fault is = first_wanted flags 2 p0 fault (inr refl) is

pub second_of_two : (flags : List Bool) (p0 p1 : Place) (a : Placed) (fault : ReadFault) → TakesNumber p0 p1 a → next_fault a_wire p1 ≡ Some fault
    → BehindNumbers 2 p0 (λ start. IsGateFault flags start fault)
second_of_two flags p0 p1 a fault one is = second_wanted flags 2 p0 p1 a fault (inr refl) one is

pub third_wanted : (flags : List Bool) (p0 p1 p2 : Place) (a b : Placed) (fault : ReadFault) → TakesNumber p0 p1 a → TakesNumber p1 p2 b → next_fault a_wire p2 ≡ Some fault
    → BehindNumbers 2 p0 (λ start. IsGateFault flags start fault)
third_wanted flags p0 p1 p2 a b fault one two is = λ start takes.
    wire_wanted flags 2 (one.exact ∷ two.exact ∷ []) start p2 fault (inr refl) (omega arith) (two_wires 2 one.exact start p1 p2 b two (one_wire 2 start p0 p1 a one takes)) is

pub pair_wanted : (flags : List Bool) (p0 p1 p2 p3 : Place) (a b c : Placed) (fault : ReadFault) → TakesNumber p0 p1 a → TakesNumber p1 p2 b → TakesNumber p2 p3 c → next_fault (a_name 2) p3 ≡ Some fault
    → BehindNumbers 2 p0 (λ start. IsGateFault flags start fault)
pair_wanted flags p0 p1 p2 p3 a b c fault one two three is = λ start takes.
    name_wanted flags 2 (one.exact ∷ two.exact ∷ three.exact ∷ []) start p3 fault (inr refl) refl (all_three p0 p1 p2 p3 a b c one two three start takes) is

-- a number below the number of flags is exact
exact_below : (flags : List Bool) (shown exact : ℕ) → length flags ≤ 2 ^ 24 → shown ≡ min exact greatest → shown < length flags → exact ≡ shown
exact_below flags shown exact few is below = omega arith

-- its tokens are those of its gate
pub pair_taken : (flags : List Bool) (p0 p1 p2 p3 p4 : Place) (a b c : Placed) (text : BinaryGate) (gate : GateRow) → length flags ≤ 2 ^ 24 → TakesNumber p0 p1 a → TakesNumber p1 p2 b → TakesNumber p2 p3 c
    → Takes (name (pair_text text) ∷ []) p3 p4 → gate ≡ pair_gate text a.number b.number c.number → FitsFlags flags gate
    → BehindNumbers 2 p0 (λ start. Takes (gate_lexemes gate) start p4)
pair_taken flags p0 p1 p2 p3 p4 a b c text gate few one two three named is fits = λ start takes.
    let x : ℕ = one.exact in
    let y : ℕ = two.exact in
    let z : ℕ = three.exact in
    let whole : Takes (number 2 ∷ number 1 ∷ number x ∷ number y ∷ number z ∷ name (pair_text text) ∷ []) start p4 =
    takes_both (number 2 ∷ number 1 ∷ number x ∷ number y ∷ number z ∷ []) (name (pair_text text) ∷ []) start p3 p4 (all_three p0 p1 p2 p3 a b c one two three start takes) named in
    let same : FitsFlags flags (pair_gate text a.number b.number c.number) = subst (λ (g : GateRow). FitsFlags flags g) is fits in
    let ends = ends_of text same in
    let ex : x ≡ a.number = exact_below flags a.number x few one.is.number_is ends.0 in
    let ey : y ≡ b.number = exact_below flags b.number y few two.is.number_is ends.1 in
    let ez : z ≡ c.number = exact_below flags c.number z few three.is.number_is ends.2 in
    takes_same (number 2 ∷ number 1 ∷ number x ∷ number y ∷ number z ∷ name (pair_text text) ∷ []) (gate_lexemes gate) start p4
    ((λ i. number 2 ∷ number 1 ∷ number (ex i) ∷ number (ey i) ∷ number (ez i) ∷ name (pair_text text) ∷ []) ∙ spelled text ∙ ap gate_lexemes (sym is)) whole
  where
    spelled : (text : BinaryGate) → (number 2 ∷ number 1 ∷ number a.number ∷ number b.number ∷ number c.number ∷ name (pair_text text) ∷ []) ≡ gate_lexemes (pair_gate text a.number b.number c.number)
    spelled pair.And = refl
    spelled pair.Xor = refl

    on : (flags : List Bool) (x y : ℕ) → All (λ wire. flag_of flags wire ≡ true) (x ∷ y ∷ []) → (x < length flags) × (y < length flags)
    on flags x y all = (
      flagged_within flags x (All-head (λ wire. flag_of flags wire ≡ true) x (y ∷ []) all),
      flagged_within flags y (All-head (λ wire. flag_of flags wire ≡ true) y [] (All-tail (λ wire. flag_of flags wire ≡ true) x (y ∷ []) all)),
    )

    ends_of : (text : BinaryGate) → FitsFlags flags (pair_gate text a.number b.number c.number) → (a.number < length flags) × (b.number < length flags) × (c.number < length flags)
    ends_of pair.And fits = let both = on flags a.number b.number fits.reads in (both.0, both.1, fits.within)
    ends_of pair.Xor fits = let both = on flags a.number b.number fits.reads in (both.0, both.1, fits.within)

pub ruleset tokens_of_two = (first_of_two, second_of_two, third_wanted, pair_wanted)

-- its tokens are right, and its wires are not
pub pair_wrong : (flags : List Bool) (p0 p1 p2 p3 p4 : Place) (a b c : Placed) (text : BinaryGate) (fault : ReadFault) → TakesNumber p0 p1 a → TakesNumber p1 p2 b → TakesNumber p2 p3 c
    → Takes (name (pair_text text) ∷ []) p3 p4 → IsWrongPair flags text a b c fault → BehindNumbers 2 p0 (λ start. IsGateFault flags start fault)
pair_wrong flags p0 p1 p2 p3 p4 a b c text fault one two three named wrong = λ start takes.
    let x : ℕ = one.exact in
    let y : ℕ = two.exact in
    let z : ℕ = three.exact in
    let whole : Takes (number 2 ∷ number 1 ∷ number x ∷ number y ∷ number z ∷ name (pair_text text) ∷ []) start p4 =
    takes_both (number 2 ∷ number 1 ∷ number x ∷ number y ∷ number z ∷ []) (name (pair_text text) ∷ []) start p3 p4 (all_three p0 p1 p2 p3 a b c one two three start takes) named in
    let first = one_wire 2 start p0 p1 a one takes in
    let second = two_wires 2 x start p1 p2 b two first in
    inr (record {
      said = record { reads = x ∷ y ∷ []; sets = z; text = pair_text text };
      is_said = record { reads = inr refl; text = has_name text };
      behind = p4.left;
      left = whole.left;
      wrong = wrong start.taken x y z (placed_at 2 2 (number 2 ∷ number 1 ∷ []) start p0 p1 a one takes refl)
          (placed_at 2 3 (number 2 ∷ number 1 ∷ number x ∷ []) start p1 p2 b two first refl)
          (placed_at 2 4 (number 2 ∷ number 1 ∷ number x ∷ number y ∷ []) start p2 p3 c three second refl);
    })
  where
    has_name : (text : BinaryGate) → is_gate_name 2 (pair_text text) ≡ true
    has_name pair.And = refl
    has_name pair.Xor = refl

-- ---- a gate with one input

pub first_of_one : (flags : List Bool) (p0 : Place) (fault : ReadFault) → next_fault a_wire p0 ≡ Some fault → BehindNumbers 1 p0 (λ start. IsGateFault flags start fault)
first_of_one flags p0 fault is = first_wanted flags 1 p0 fault (inl refl) is

pub second_of_one : (flags : List Bool) (p0 p1 : Place) (a : Placed) (fault : ReadFault) → TakesNumber p0 p1 a → next_fault a_wire p1 ≡ Some fault
    → BehindNumbers 1 p0 (λ start. IsGateFault flags start fault)
second_of_one flags p0 p1 a fault one is = second_wanted flags 1 p0 p1 a fault (inl refl) one is

pub single_wanted : (flags : List Bool) (p0 p1 p2 : Place) (a c : Placed) (fault : ReadFault) → TakesNumber p0 p1 a → TakesNumber p1 p2 c → next_fault (a_name 1) p2 ≡ Some fault
    → BehindNumbers 1 p0 (λ start. IsGateFault flags start fault)
single_wanted flags p0 p1 p2 a c fault one two is = λ start takes.
    name_wanted flags 1 (one.exact ∷ two.exact ∷ []) start p2 fault (inl refl) refl (two_wires 1 one.exact start p1 p2 c two (one_wire 1 start p0 p1 a one takes)) is

pub single_taken : (flags : List Bool) (p0 p1 p2 p3 : Place) (a c : Placed) (text : UnaryGate) (gate : GateRow) → length flags ≤ 2 ^ 24 → TakesNumber p0 p1 a → TakesNumber p1 p2 c
    → Takes (name (single_text text) ∷ []) p2 p3 → MayBeInput flags text a → gate ≡ single_gate text a.number c.number → FitsFlags flags gate
    → BehindNumbers 1 p0 (λ start. Takes (gate_lexemes gate) start p3)
single_taken flags p0 p1 p2 p3 a c text gate few one two named may is fits = λ start takes.
    let x : ℕ = one.exact in
    let z : ℕ = two.exact in
    let whole : Takes (number 1 ∷ number 1 ∷ number x ∷ number z ∷ name (single_text text) ∷ []) start p3 =
    takes_both (number 1 ∷ number 1 ∷ number x ∷ number z ∷ []) (name (single_text text) ∷ []) start p2 p3 (two_wires 1 x start p1 p2 c two (one_wire 1 start p0 p1 a one takes)) named in
    let same : FitsFlags flags (single_gate text a.number c.number) = subst (λ (g : GateRow). FitsFlags flags g) is fits in
    let ex : x ≡ a.number = input_exact text may in
    let ez : z ≡ c.number = exact_below flags c.number z few two.is.number_is (out_below text same) in
    takes_same (number 1 ∷ number 1 ∷ number x ∷ number z ∷ name (single_text text) ∷ []) (gate_lexemes gate) start p3
    ((λ i. number 1 ∷ number 1 ∷ number (ex i) ∷ number (ez i) ∷ name (single_text text) ∷ []) ∙ spelled text may ∙ ap gate_lexemes (sym is)) whole
  where
    bit : (n : ℕ) → n ≤ 1 → from_bit (n == 1) ≡ n
    bit zero few = refl
    bit (suc zero) few = refl
    bit (suc (suc n)) few = absurd (omega arith)

    spelled : (text : UnaryGate) → MayBeInput flags text a → (number 1 ∷ number 1 ∷ number a.number ∷ number c.number ∷ name (single_text text) ∷ []) ≡ gate_lexemes (single_gate text a.number c.number)
    spelled single.Inv may = refl
    spelled single.Eqw may = refl
    spelled single.Eq may = ap (λ n. number 1 ∷ number 1 ∷ number n ∷ number c.number ∷ name (codes "EQ") ∷ []) (sym (bit a.number may))

    input_exact : (text : UnaryGate) → MayBeInput flags text a → one.exact ≡ a.number
    input_exact single.Inv may = exact_below flags a.number one.exact few one.is.number_is (flagged_within flags a.number may)
    input_exact single.Eqw may = exact_below flags a.number one.exact few one.is.number_is (flagged_within flags a.number may)
    input_exact single.Eq may = omega (arith, one.is.number_is, may)

    out_below : (text : UnaryGate) → FitsFlags flags (single_gate text a.number c.number) → c.number < length flags
    out_below single.Inv fits = fits.within
    out_below single.Eqw fits = fits.within
    out_below single.Eq fits = fits.within

pub ruleset tokens_of_one = (first_of_one, second_of_one, single_wanted, single_taken)

pub single_wrong : (flags : List Bool) (p0 p1 p2 p3 : Place) (a c : Placed) (text : UnaryGate) (fault : ReadFault) → TakesNumber p0 p1 a → TakesNumber p1 p2 c
    → Takes (name (single_text text) ∷ []) p2 p3 → IsWrongSingle flags text a c fault → BehindNumbers 1 p0 (λ start. IsGateFault flags start fault)
single_wrong flags p0 p1 p2 p3 a c text fault one two named wrong = λ start takes.
    let x : ℕ = one.exact in
    let z : ℕ = two.exact in
    let first = one_wire 1 start p0 p1 a one takes in
    let whole : Takes (number 1 ∷ number 1 ∷ number x ∷ number z ∷ name (single_text text) ∷ []) start p3 =
    takes_both (number 1 ∷ number 1 ∷ number x ∷ number z ∷ []) (name (single_text text) ∷ []) start p2 p3 (two_wires 1 x start p1 p2 c two first) named in
    inr (record {
      said = record { reads = x ∷ []; sets = z; text = single_text text };
      is_said = record { reads = inl refl; text = has_name text };
      behind = p3.left;
      left = whole.left;
      wrong = wrong start.taken x z (placed_at 1 2 (number 1 ∷ number 1 ∷ []) start p0 p1 a one takes refl)
          (placed_at 1 3 (number 1 ∷ number 1 ∷ number x ∷ []) start p1 p2 c two first refl);
    })
  where
    has_name : (text : UnaryGate) → is_gate_name 1 (single_text text) ≡ true
    has_name single.Inv = refl
    has_name single.Eq = refl
    has_name single.Eqw = refl

-- ---- a gate

pub gate_taken : (n : ℕ) (is_pair : Bool) (start p1 : Place) (P : Place → Type 0) → n ≡ inputs_of is_pair → Takes (number (inputs_of is_pair) ∷ number 1 ∷ []) start p1
    → BehindNumbers n p1 P → P start
gate_taken n is_pair start p1 P is takes behind = behind start (subst (λ (k : ℕ). Takes (number k ∷ number 1 ∷ []) start p1) (sym is) takes)
