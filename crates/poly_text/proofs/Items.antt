-- Items that are read one after another.
use Rattle.std.proofs.Common.{◌≡◌, ℕ, suc, ◌+◌, ◌-◌, ◌<◌, List, [], ◌∷◌, ◌++◌, length, refl, ap, sym, ◌∙◌, arith, append-nil, append_assoc, length-append}
use Rattle.std.specs.Prelude.{Result, Ok, Err}
use Rattle.zk_model.specs.ArithFaults.{Behind, Place}
use Rattle.poly_model.specs.declared.limits.TheConstants.{MAX_FACTORS}
use Rattle.poly_model.specs.Constraints.{Term}
use Rattle.poly_text.specs.TextFaults.{Reading, and_then, coefficient_of, count_of, counted_at, factor_of, items_at, next, term_at}
use Rattle.poly_text.specs.Steps.{Gives, Refuses}
use Rattle.poly_text.specs.declared.fault.PolyFault.{PolyFault}

pub joined : {A B : Type 0} (r : Result (Behind A) PolyFault) (more : A → Place → Result B PolyFault) (item : A) (place : Place)
    → r ≡ Ok (record { item = item; place = place }) → and_then r more ≡ more item place
joined r more item place is = ap (λ s. and_then s more) is

-- items that were read before
abbrev pub behind_items : {A : Type 0} → List A → Result (Behind (List A)) PolyFault → Result (Behind (List A)) PolyFault
behind_items items r = and_then r (λ rest last. Ok (record { item = items ++ rest; place = last }))

abbrev behind_item : {A : Type 0} → A → Result (Behind (List A)) PolyFault → Result (Behind (List A)) PolyFault
behind_item item r = and_then r (λ rest last. Ok (record { item = item ∷ rest; place = last }))

none_before : {A : Type 0} (r : Result (Behind (List A)) PolyFault) → behind_items [] r ≡ r
none_before (Ok read) = refl
none_before (Err fault) = refl

one_between : {A : Type 0} (items : List A) (item : A) (r : Result (Behind (List A)) PolyFault)
    → behind_items items (behind_item item r) ≡ behind_items (items ++ item ∷ []) r
one_between items item (Ok read) = ap (λ l. Ok (record { item = l; place = read.place })) (sym (append_assoc items (item ∷ []) read.item))
one_between items item (Err fault) = refl

-- n of so many items were read: what is said of those that are left, behind these, is what is said of all
pub record AreSoFar {A : Type 0} (item_at : Reading A) (count : ℕ) (start place : Place) (items : List A) (n : ℕ) : Type 0 where
  pub number : length items ≡ n
  pub left : (more : ℕ) → n + more ≡ count → items_at item_at count start ≡ behind_items items (items_at item_at more place)

pub none_yet : {A : Type 0} (item_at : Reading A) (count : ℕ) (start : Place) (items : List A) → items ≡ [] → AreSoFar item_at count start start items 0
none_yet item_at count start items none = record {
  number = ap length none;
  left = λ more all.
      ap (λ n. items_at item_at n start) (omega (arith, all)) ∙ sym (none_before (items_at item_at more start))
      ∙ ap (λ l. behind_items l (items_at item_at more start)) (sym none);
}

pub one_more : {A : Type 0} (item_at : Reading A) (count : ℕ) (start place after : Place) (items longer : List A) (item : A) (n : ℕ)
    → longer ≡ items ++ item ∷ [] → Gives item_at place after item → AreSoFar item_at count start place items n
    → AreSoFar item_at count start after longer (n + 1)
one_more item_at count start place after items longer item n pushed gives far = record {
  number = omega (arith, ap length pushed, length-append items (item ∷ []), far.number);
  left = λ more all.
      far.left (suc more) (omega (arith, all))
      ∙ ap (behind_items items) (joined (item_at place) _ item after gives)
      ∙ one_between items item (items_at item_at more after)
      ∙ ap (λ l. behind_items l (items_at item_at more after)) (sym pushed);
}

pub all_given : {A : Type 0} (item_at : Reading A) (count : ℕ) (start place : Place) (items : List A) (n : ℕ) → n ≡ count
    → AreSoFar item_at count start place items n → Gives (items_at item_at count) start place items
all_given item_at count start place items n all far =
    far.left 0 (omega (arith, all)) ∙ ap (λ l. Ok (record { item = l; place = place })) (append-nil items)

pub one_refused : {A : Type 0} (item_at : Reading A) (count : ℕ) (start place : Place) (items : List A) (n : ℕ) (fault : PolyFault) → n < count
    → Refuses item_at place fault → AreSoFar item_at count start place items n → Refuses (items_at item_at count) start fault
one_refused item_at count start place items n fault more refuses far =
    far.left (suc (count - n - 1)) (omega (arith, more))
    ∙ ap (λ r. behind_items items (and_then r (λ item second. and_then (items_at item_at (count - n - 1) second) (λ rest last. Ok (record { item = item ∷ rest; place = last }))))) refuses

-- ---- as many as a number before them says

pub counted_given : {A : Type 0} (limit : ℕ) (item_at : Reading A) (before start place : Place) (count n : ℕ) (items : List A)
    → Gives (next (count_of limit)) before start count → n ≡ count → AreSoFar item_at count start place items n
    → Gives (counted_at limit item_at) before place items
counted_given limit item_at before start place count n items counted all far =
    joined (next (count_of limit) before) _ count start counted ∙ all_given item_at count start place items n all far

pub count_refused : {A : Type 0} (limit : ℕ) (item_at : Reading A) (before : Place) (fault : PolyFault)
    → Refuses (next (count_of limit)) before fault → Refuses (counted_at limit item_at) before fault
count_refused limit item_at before fault refuses = ap (λ r. and_then r (λ count second. items_at item_at count second)) refuses

pub counted_refused : {A : Type 0} (limit : ℕ) (item_at : Reading A) (before start place : Place) (count n : ℕ) (items : List A) (fault : PolyFault)
    → Gives (next (count_of limit)) before start count → n < count → Refuses item_at place fault → AreSoFar item_at count start place items n
    → Refuses (counted_at limit item_at) before fault
counted_refused limit item_at before start place count n items fault counted more refuses far =
    joined (next (count_of limit) before) _ count start counted ∙ one_refused item_at count start place items n fault more refuses far

-- ---- a term

abbrev factors_at : ℕ → Reading (List ℕ)
factors_at variables place = counted_at MAX_FACTORS (next (factor_of variables)) place

abbrev with_coefficient : ℕ → List ℕ → Place → Result (Behind Term) PolyFault
with_coefficient coefficient factors last = Ok (record { item = record { coefficient = coefficient; factors = factors }; place = last })

pub term_given : (variables : ℕ) (before second after : Place) (coefficient : ℕ) (term : Term) → Gives (next coefficient_of) before second coefficient
    → Gives (counted_at MAX_FACTORS (next (factor_of variables))) second after term.factors → term.coefficient ≡ coefficient
    → Gives (term_at variables) before after term
term_given variables before second after coefficient term first factors same =
    joined (next coefficient_of before) _ coefficient second first
    ∙ joined (factors_at variables second) (with_coefficient coefficient) term.factors after factors
    ∙ ap (λ a. Ok (record { item = record { coefficient = a; factors = term.factors }; place = after })) (sym same)

pub coefficient_refused : (variables : ℕ) (before : Place) (fault : PolyFault) → Refuses (next coefficient_of) before fault → Refuses (term_at variables) before fault
coefficient_refused variables before fault refuses =
    ap (λ r. and_then r (λ coefficient second. and_then (factors_at variables second) (with_coefficient coefficient))) refuses

pub factors_refused : (variables : ℕ) (before second : Place) (coefficient : ℕ) (fault : PolyFault) → Gives (next coefficient_of) before second coefficient
    → Refuses (counted_at MAX_FACTORS (next (factor_of variables))) second fault → Refuses (term_at variables) before fault
factors_refused variables before second coefficient fault first refuses =
    joined (next coefficient_of before) _ coefficient second first ∙ ap (λ r. and_then r (with_coefficient coefficient)) refuses
