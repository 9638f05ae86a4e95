-- A header, part by part.
use Rattle.std.proofs.Common.{◌≡◌, ℕ, ◌≤◌, ◌^◌, List, [], ◌∷◌, ◌++◌, length, sum, refl, ap, sym, ◌∙◌, arith, append-nil}
use Rattle.std.specs.Prelude.{Some}
use Rattle.std.proofs.lemmas.List.Elements.{All-from_recursion}
use Rattle.zk_model.specs.Bristol.{Lexeme, number, counted_lexemes, Values}
use Rattle.bristol_reader.specs.TextFaults.{Want, a_count, HeaderWants, first_number, second_number, a_list, one_size, IsStart, start_lexemes}
use Rattle.zk_model.specs.declared.ReadFault.{ReadFault}
use Rattle.bristol_reader.specs.declared.header.Header.{Header}
use Rattle.zk_model.specs.ArithFaults.{Place}
use Rattle.text_tokens.specs.Words.{Takes}
use Rattle.bristol_reader.specs.Wants.{next_fault, IsFaultBehind}
use Rattle.bristol_reader.specs.Headers as headers
use Rattle.bristol_reader.specs.Headers.{ListWants, TakesList, TakesHeader}
use Rattle.bristol_reader.proofs.Lists.{takes_both, takes_same, fault_here, fault_later}

-- the numbers of gates and of wires stand between two places
takes_start : (a b c : Place) (gates wires : ℕ) → Takes (number gates ∷ []) a b → Takes (number wires ∷ []) b c → Takes (start_lexemes gates wires []) a c
takes_start a b c gates wires left right = takes_both (number gates ∷ []) (number wires ∷ []) a b c left right

-- a list after those numbers, and maybe after another list
list_wants : (gates wires : ℕ) (lists : List (List ℕ)) → IsStart gates wires lists → length lists ≤ 1
    → (behind : List Lexeme) (want : Want) → ListWants wires behind want → HeaderWants (start_lexemes gates wires lists ++ behind) want
list_wants gates wires lists start more behind want (headers.the_number none is) =
    a_list (record {
      gates = gates;
      wires = wires;
      lists = lists;
      start = start;
      more = more;
      before_is = ap (λ l. start_lexemes gates wires lists ++ l) none ∙ append-nil (start_lexemes gates wires lists);
      want_is = is;
    })
list_wants gates wires lists start more behind want (headers.one_size values sizes few within missing are is) =
    one_size (record {
      gates = gates;
      wires = wires;
      lists = lists;
      values = values;
      sizes = sizes;
      start = start;
      more = more;
      few = few;
      within = within;
      missing = missing;
      before_is = ap (λ l. start_lexemes gates wires lists ++ l) are;
      want_is = is;
    })

pub gates_fault : (a : Place) (fault : ReadFault) → next_fault (a_count (2 ^ 24)) a ≡ Some fault → IsFaultBehind HeaderWants a fault
gates_fault a fault is = fault_here HeaderWants [] (a_count (2 ^ 24)) a a fault (record { left = refl; taken = omega arith }) (first_number refl refl) is

pub wires_fault : (a b : Place) (gates : ℕ) (fault : ReadFault) → gates ≤ 2 ^ 24 → Takes (number gates ∷ []) a b → next_fault (a_count (2 ^ 24)) b ≡ Some fault
    → IsFaultBehind HeaderWants a fault
wires_fault a b gates fault few takes is = fault_here HeaderWants (number gates ∷ []) (a_count (2 ^ 24)) a b fault takes (second_number gates few refl refl) is

pub inputs_fault : (a b c : Place) (gates wires : ℕ) (fault : ReadFault) → gates ≤ 2 ^ 24 → wires ≤ 2 ^ 24 → Takes (number gates ∷ []) a b → Takes (number wires ∷ []) b c
    → IsFaultBehind (ListWants wires) c fault → IsFaultBehind HeaderWants a fault
inputs_fault a b c gates wires fault few most one two is =
    fault_later (ListWants wires) HeaderWants (start_lexemes gates wires []) a c fault (takes_start a b c gates wires one two)
    (list_wants gates wires [] (record { gates_most = few; wires_most = most; few = All-from_recursion (λ (l : List ℕ). length l ≤ 1024) [] tt; within = All-from_recursion (λ (l : List ℕ). sum l ≤ wires) [] tt }) (omega arith)) is

pub outputs_fault : (a b c d : Place) (gates wires total : ℕ) (fault : ReadFault) → gates ≤ 2 ^ 24 → wires ≤ 2 ^ 24 → Takes (number gates ∷ []) a b → Takes (number wires ∷ []) b c
    → total ≤ wires → TakesList c d total → IsFaultBehind (ListWants wires) d fault → IsFaultBehind HeaderWants a fault
outputs_fault a b c d gates wires total fault few most one two within list is =
    let lists : List (List ℕ) = list.sizes ∷ [] in
    let taken : Takes (start_lexemes gates wires lists) a d =
    takes_same (start_lexemes gates wires [] ++ counted_lexemes list.sizes) (start_lexemes gates wires lists) a d
    (ap (λ l. number gates ∷ number wires ∷ l) (sym (append-nil (counted_lexemes list.sizes))))
    (takes_both (start_lexemes gates wires []) (counted_lexemes list.sizes) a c d (takes_start a b c gates wires one two) list.takes) in
    fault_later (ListWants wires) HeaderWants (start_lexemes gates wires lists) a d fault taken
    (list_wants gates wires lists (record {
      gates_most = few;
      wires_most = most;
      few = All-from_recursion (λ (l : List ℕ). length l ≤ 1024) lists (list.few, tt);
      within = All-from_recursion (λ (l : List ℕ). sum l ≤ wires) lists (omega (arith, list.total_is), tt);
    }) (omega arith)) is

pub header_taken : (a b c d e : Place) (header : Header) → header.gates ≤ 2 ^ 24 → header.wires ≤ 2 ^ 24 → Takes (number header.gates ∷ []) a b → Takes (number header.wires ∷ []) b c
    → header.inputs ≤ header.wires → TakesList c d header.inputs → header.outputs ≤ header.wires → TakesList d e header.outputs → TakesHeader a e header
header_taken a b c d e header few most one two ins inputs outs outputs =
    let values : Values = record { inputs = inputs.sizes; outputs = outputs.sizes } in
    record {
      values = values;
      is = assumption;
      takes = takes_both (number header.gates ∷ number header.wires ∷ counted_lexemes inputs.sizes) (counted_lexemes outputs.sizes) a d e
          (takes_both (start_lexemes header.gates header.wires []) (counted_lexemes inputs.sizes) a c d (takes_start a b c header.gates header.wires one two) inputs.takes) outputs.takes;
    }
