-- Worked rows, by computation.
use Rattle.std.proofs.Common.{◌≡◌, [], ◌∷◌, refl, codes, lit<, arith}
use Rattle.std.specs.Prelude.{Ok, Err}
use Rattle.std.proofs.lemmas.List.Elements.{All-from_recursion}
use Rattle.zk_model.proofs.ExampleTools.{each_item}
use Rattle.zk_model.specs.Field.{IsElement}
use Rattle.zk_model.specs.declared.ReadFault.TheVariants.{ShortText, BadNumber, TooLarge, BadGate, BadConstant, WireRange, ReadBeforeSet, SetTwice, OutputUnset, ExtraText}
use Rattle.zk_model.specs.Arithmetic.{Arith, AreComputed, Computes, IsFirstFailed, SatisfiesElements, element_of, is_set}
use Rattle.zk_model.specs.ArithFaults.{judged}
use Rattle.zk_model.specs.declared.ArithRow.TheVariants.{Add, Mul, Const, Assert}

-- the square of the input less 9 is 0: wire 3 is asserted, and is the output
abbrev square : Arith
square = record {
  wires = 4;
  inputs = 1;
  outputs = 1;
  gates = Mul 0 0 1 ∷ Const 2305843009213693942 2 ∷ Add 1 2 3 ∷ Assert 3 ∷ [];
}

square_text : judged (codes "4 4 1 1 MUL 0 0 1 CONST 2305843009213693942 2 ADD 1 2 3 ASSERT 3") ≡ Ok square
unfolding is_set
square_text = refl

-- with other blanks, leading zeros, and wires that are set out of order
other_blanks : judged (codes "\n3  05 2\t1\r\nADD 0 1 3\nCONST 000 2 MUL 3 2 0004\n") ≡ Ok (record {
  wires = 5;
  inputs = 2;
  outputs = 1;
  gates = Add 0 1 3 ∷ Const 0 2 ∷ Mul 3 2 4 ∷ [];
})
unfolding is_set
other_blanks = refl

-- no gates, and an input that is the output
no_gates : judged (codes "0 1 1 1") ≡ Ok (record { wires = 1; inputs = 1; outputs = 1; gates = [] })
unfolding is_set
no_gates = refl

-- ---- faults

short_text : judged (codes "1 3 2") ≡ Err (ShortText 3)
short_text = refl

short_gate : judged (codes "1 3 2 1 MUL 0 1") ≡ Err (ShortText 7)
unfolding is_set
short_gate = refl

bad_number : judged (codes "1 x 2 1") ≡ Err (BadNumber 1)
bad_number = refl

-- a wire that is no number, and before it one out of range
range_first : judged (codes "1 3 2 1 MUL 9 x 2") ≡ Err (WireRange 5)
range_first = refl

number_first : judged (codes "1 3 2 1 MUL x 9 2") ≡ Err (BadNumber 5)
number_first = refl

too_large : judged (codes "16777217 3 2 1") ≡ Err (TooLarge 0)
too_large = refl

too_many_wires : judged (codes "1 16777217 2 1") ≡ Err (TooLarge 1)
too_many_wires = refl

wide_inputs : judged (codes "0 1 2 1") ≡ Err (WireRange 2)
wide_inputs = refl

bad_gate : judged (codes "1 3 2 1 XOR 0 1 2") ≡ Err (BadGate 4)
bad_gate = refl

number_for_name : judged (codes "1 3 2 1 2 1 0 1 2 ADD") ≡ Err (BadGate 4)
number_for_name = refl

-- the prime is no constant, and the number below it is one
bad_constant : judged (codes "1 1 0 1 CONST 2305843009213693951 9") ≡ Err (BadConstant 5)
bad_constant = refl

last_constant : judged (codes "1 1 0 1 CONST 2305843009213693950 0") ≡ Ok (record { wires = 1; inputs = 0; outputs = 1; gates = Const 2305843009213693950 0 ∷ [] })
unfolding is_set
last_constant = refl

read_before_set : judged (codes "2 4 2 1 ADD 0 2 3 MUL 0 1 2") ≡ Err (ReadBeforeSet 6)
unfolding is_set
read_before_set = refl

assert_before_set : judged (codes "1 3 2 0 ASSERT 2") ≡ Err (ReadBeforeSet 5)
unfolding is_set
assert_before_set = refl

set_twice : judged (codes "2 3 2 1 ADD 0 1 2 MUL 0 1 2") ≡ Err (SetTwice 11)
unfolding is_set
set_twice = refl

sets_input : judged (codes "1 3 2 1 ADD 0 1 1") ≡ Err (SetTwice 7)
unfolding is_set
sets_input = refl

-- the lowest output that is not set, after a text that goes on
output_unset : judged (codes "1 5 2 3 ADD 0 1 3") ≡ Err (OutputUnset 2)
unfolding is_set
output_unset = refl

extra_text : judged (codes "1 5 2 3 ADD 0 1 3 ADD") ≡ Err (ExtraText 8)
unfolding is_set
extra_text = refl

-- ---- what it computes

of_three : AreComputed square (3 ∷ []) (3 ∷ 9 ∷ 2305843009213693942 ∷ 0 ∷ [])
of_three = record {
  whole = refl;
  elements_are = All-from_recursion IsElement (3 ∷ 9 ∷ 2305843009213693942 ∷ 0 ∷ []) (lit< tt, (lit< tt, (lit< tt, (lit< tt, tt))));
  first = refl;
  gates = each_item (λ n gate. Computes (3 ∷ 9 ∷ 2305843009213693942 ∷ 0 ∷ []) gate) square.gates (refl, (refl, (refl, (tt, tt))));
}

-- 3 satisfies it, with the output 0
three_satisfies : SatisfiesElements square (3 ∷ []) (0 ∷ [])
three_satisfies = (
  3 ∷ 9 ∷ 2305843009213693942 ∷ 0 ∷ [],
  record {
    computed = of_three;
    zero = All-from_recursion (λ wire. element_of (3 ∷ 9 ∷ 2305843009213693942 ∷ 0 ∷ []) wire ≡ 0) (3 ∷ []) (refl, tt);
  },
  refl,
)

-- 4 does not: the first assertion is of 7
four_fails : IsFirstFailed square (4 ∷ []) 0 7
four_fails = record {
  elements = 4 ∷ 16 ∷ 2305843009213693942 ∷ 7 ∷ [];
  computed = record {
    whole = refl;
    elements_are = All-from_recursion IsElement (4 ∷ 16 ∷ 2305843009213693942 ∷ 7 ∷ []) (lit< tt, (lit< tt, (lit< tt, (lit< tt, tt))));
    first = refl;
    gates = each_item (λ n gate. Computes (4 ∷ 16 ∷ 2305843009213693942 ∷ 7 ∷ []) gate) square.gates (refl, (refl, (refl, (tt, tt))));
  };
  wire = 3;
  stands = refl;
  value_is = refl;
  not_zero = λ e. absurd (omega (arith, e));
  before = All-from_recursion (λ other. element_of (4 ∷ 16 ∷ 2305843009213693942 ∷ 7 ∷ []) other ≡ 0) [] tt;
}
