-- Tokens between places; a list of values, size by size.
use Rattle.std.proofs.Common.{◌≡◌, ℕ, ◌-◌, ◌+◌, ◌<◌, ◌≤◌, Some, List, [], ◌∷◌, ◌++◌, map, length, sum, refl, ap, sym, ◌∙◌, subst, arith, length-append, append_assoc}
use Rattle.std.proofs.lemmas.List.Sums.{sum_by-cons}
use Rattle.zk_model.specs.Bristol.{Lexeme, number, counted_lexemes}
use Rattle.bristol_reader.specs.TextFaults.{Want, a_count, a_size, first_lexeme_fault}
use Rattle.zk_model.specs.declared.ReadFault.{ReadFault}
use Rattle.zk_model.specs.ArithFaults.{Place}
use Rattle.text_tokens.specs.Words.{Takes}
use Rattle.bristol_reader.specs.Wants.{next_fault, IsFaultBehind}
use Rattle.bristol_reader.specs.Headers.{ListWants, the_number, one_size, TakesList}

-- ---- places

-- tokens after tokens
pub takes_both : (some others : List Lexeme) (a b c : Place) → Takes some a b → Takes others b c → Takes (some ++ others) a c
takes_both some others a b c left right = record {
  left = left.left ∙ ap (λ l. some ++ l) right.left ∙ sym (append_assoc some others c.left);
  taken = omega (arith, left.taken, right.taken, length-append some others);
}

pub takes_same : (some others : List Lexeme) (a b : Place) → some ≡ others → Takes some a b → Takes others a b
takes_same some others a b same = subst (λ (l : List Lexeme). Takes l a b) same

-- a fault after tokens that are taken
pub fault_here : (Wants : List Lexeme → Want → Type 0) (part : List Lexeme) (want : Want) (a b : Place) (fault : ReadFault) → Takes part a b → Wants part want
    → next_fault want b ≡ Some fault → IsFaultBehind Wants a fault
fault_here Wants part want a b fault takes wanted is = record {
  part = part;
  behind = b.left;
  want = want;
  left = takes.left;
  wanted = wanted;
  fault_is = ap (first_lexeme_fault want b.left) (sym takes.taken) ∙ is;
}

-- a fault after more tokens
pub fault_later : (Wants More : List Lexeme → Want → Type 0) (part : List Lexeme) (a b : Place) (fault : ReadFault) → Takes part a b
    → ((behind : List Lexeme) (want : Want) → Wants behind want → More (part ++ behind) want) → IsFaultBehind Wants b fault → IsFaultBehind More a fault
fault_later Wants More part a b fault takes more is = record {
  part = part ++ is.part;
  behind = is.behind;
  want = is.want;
  left = takes.left ∙ ap (λ l. part ++ l) is.left ∙ sym (append_assoc part is.part is.behind);
  wanted = more is.part is.want is.wanted;
  fault_is = ap (first_lexeme_fault is.want is.behind) (omega (arith, takes.taken, length-append part is.part)) ∙ is.fault_is;
}

-- ---- a list of values

-- a list's number and its sizes so far
pub record AreSizes (before now : Place) (values count total wires : ℕ) : Type 0 where
  pub sizes : List ℕ
  pub counted : length sizes ≡ count
  pub total_is : sum sizes ≡ total
  pub within : total ≤ wires
  pub few : values ≤ 1024
  pub takes : Takes (number values ∷ map number sizes) before now

sum-cons : (x : ℕ) (xs : List ℕ) → sum (x ∷ xs) ≡ x + sum xs
sum-cons x xs = sum_by-cons (λ n. n) x xs

sum_push : (sizes : List ℕ) (n : ℕ) → sum (sizes ++ n ∷ []) ≡ sum sizes + n
sum_push [] n = omega arith
sum_push (x ∷ sizes) n = omega (arith, sum_push sizes n, sum-cons x (sizes ++ n ∷ []), sum-cons x sizes)

map_push : (sizes : List ℕ) (n : ℕ) → map number (sizes ++ n ∷ []) ≡ map number sizes ++ number n ∷ []
map_push [] n = refl
map_push (x ∷ sizes) n = ap (λ l. number x ∷ l) (map_push sizes n)

pub no_sizes : (before now : Place) (values wires : ℕ) → values ≤ 1024 → Takes (number values ∷ []) before now → AreSizes before now values 0 0 wires
no_sizes before now values wires few takes = record { sizes = []; counted = refl; total_is = refl; within = omega arith; few = few; takes = takes }

pub more_sizes : (before now after : Place) (values count total wires n : ℕ) → n ≤ wires - total → Takes (number n ∷ []) now after
    → AreSizes before now values count total wires → AreSizes before after values (count + 1) (total + n) wires
more_sizes before now after values count total wires n few next far = record {
  sizes = far.sizes ++ n ∷ [];
  counted = length-append far.sizes (n ∷ []) ∙ ap (λ k. k + 1) far.counted;
  total_is = sum_push far.sizes n ∙ ap (λ k. k + n) far.total_is;
  within = omega (arith, far.within);
  few = far.few;
  takes = takes_same (number values ∷ map number far.sizes ++ number n ∷ []) (number values ∷ map number (far.sizes ++ n ∷ [])) before after
      (ap (λ l. number values ∷ l) (sym (map_push far.sizes n))) (takes_both (number values ∷ map number far.sizes) (number n ∷ []) before now after far.takes next);
}

pub all_sizes : (before now : Place) (values count total wires : ℕ) → count ≡ values → AreSizes before now values count total wires → TakesList before now total
all_sizes before now values count total wires all far = record {
  sizes = far.sizes;
  few = omega (arith, far.counted, far.few);
  total_is = far.total_is;
  takes = takes_same (number values ∷ map number far.sizes) (counted_lexemes far.sizes) before now (ap (λ k. number k ∷ map number far.sizes) (sym (far.counted ∙ all))) far.takes;
}

pub values_fault : (place : Place) (wires : ℕ) (fault : ReadFault) → next_fault (a_count 1024) place ≡ Some fault → IsFaultBehind (ListWants wires) place fault
values_fault place wires fault is =
    fault_here (ListWants wires) [] (a_count 1024) place place fault (record { left = refl; taken = omega arith }) (the_number refl refl) is

pub sizes_fault : (before now : Place) (values count total wires : ℕ) (fault : ReadFault) → count < values → AreSizes before now values count total wires
    → next_fault (a_size (wires - total)) now ≡ Some fault → IsFaultBehind (ListWants wires) before fault
sizes_fault before now values count total wires fault less far is =
    fault_here (ListWants wires) (number values ∷ map number far.sizes) (a_size (wires - total)) before now fault far.takes
    (one_size values far.sizes far.few (omega (arith, far.total_is, far.within)) (omega (arith, far.counted)) refl (ap (λ k. a_size (wires - k)) (sym far.total_is))) is
