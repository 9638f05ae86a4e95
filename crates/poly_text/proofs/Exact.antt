-- Texts that are judged to say constraints say them, and the other way round.
use Rattle.std.proofs.Common.{◌≡◌, ℕ, zero, suc, ◌+◌, ◌<◌, ◌≤◌, Bool, true, false, List, [], ◌∷◌, ◌++◌, length, flat_map, refl, ap, sym, ◌∙◌, subst, append-nil, append_assoc, nat_lt, nat_le, le-leb, leb-true, lt-ltb, ltb-true}
use Rattle.std.specs.Prelude.{All, Result, Ok, Err, if◌then◌else◌}
use Rattle.std.proofs.lemmas.List.Elements.{All-nil, All-cons, All-head, All-tail}
use Rattle.zk_model.specs.ArithFaults.{Behind, Place, start_of}
use Rattle.zk_model.specs.Bristol.{Lexeme, number, name}
use Rattle.zk_model.specs.Field.{prime, IsElement}
use Rattle.poly_model.specs.Constraints.{Term, Constraints, AreConstraints, IsTerm}
use Rattle.poly_model.specs.declared.limits.TheConstants.{MAX_CONSTRAINTS, MAX_FACTORS, MAX_TERMS, MAX_VARIABLES}
use Rattle.poly_text.specs.Laws.{TextsAreExact}
use Rattle.poly_text.specs.Steps.{Gives}
use Rattle.poly_text.specs.Texts.{AreWithinLimits, IsPolyText, constraints_lexemes, list_lexemes, number_lexemes, polynomial_lexemes, term_lexemes}
use Rattle.poly_text.specs.TextFaults.{Judge, Reading, and_then, behind, coefficient_of, constraints_at, count_of, counted_at, end_at, end_behind, factor_of, first_judged, items_at, judged, next, polynomial_at, term_at}
use Rattle.poly_text.specs.declared.fault.PolyFault.{PolyFault}
use Rattle.poly_text.proofs.Items.{joined}

-- ---- one step after another

-- of what two steps gave, what the first gave
record IsThen {A B : Type 0} (r : Result (Behind A) PolyFault) (more : A → Place → Result B PolyFault) (out : B) : Type 0 where
  item : A
  place : Place
  first : r ≡ Ok (record { item = item; place = place })
  last : more item place ≡ Ok out

split : {A B : Type 0} (r : Result (Behind A) PolyFault) (more : A → Place → Result B PolyFault) (out : B) → and_then r more ≡ Ok out → IsThen r more out
split (Ok read) more out is = record { item = read.item; place = read.place; first = refl; last = is }
split (Err fault) more out is = absurd cc

same_item : {A : Type 0} (one two : A) (p q : Place) → ◌≡◌ {A = Result (Behind A) PolyFault} (Ok (record { item = one; place = p })) (Ok (record { item = two; place = q })) → (one ≡ two) × (p ≡ q)
same_item {A} one two p q is =
    let same : ◌≡◌ {A = Behind A} (record { item = one; place = p }) (record { item = two; place = q }) = cc in
    (ap (λ (b : Behind A). b.item) same, ap (λ (b : Behind A). b.place) same)

-- the token that gave an item
record IsToken {A : Type 0} (judge : Judge A) (before after : Place) (item : A) : Type 0 where
  lexeme : Lexeme
  left : before.left ≡ lexeme ∷ after.left
  is : judge before.taken lexeme ≡ Ok item

token_of : {A : Type 0} (judge : Judge A) (before after : Place) (item : A) → Gives (next judge) before after item → IsToken judge before after item
token_of {A} judge before after item = of before.left refl
  where
    given : (lexeme : Lexeme) (left : List Lexeme) → before.left ≡ lexeme ∷ left → (r : Result A PolyFault) → judge before.taken lexeme ≡ r
        → behind (record { left = left; taken = before.taken + 1 }) r ≡ Ok (record { item = item; place = after }) → IsToken judge before after item
    given lexeme left stands (Ok found) was is =
        let same : ◌≡◌ {A = Behind A} (record { item = found; place = record { left = left; taken = before.taken + 1 } }) (record { item = item; place = after }) = cc in
        record {
          lexeme = lexeme;
          left = stands ∙ ap (λ (b : Behind A). lexeme ∷ b.place.left) same;
          is = was ∙ ap (λ (b : Behind A). Ok b.item) same;
        }
    given lexeme left stands (Err fault) was is = absurd cc

    of : (l : List Lexeme) → before.left ≡ l → first_judged judge l before.taken ≡ Ok (record { item = item; place = after }) → IsToken judge before after item
    of [] stands is = absurd cc
    of (lexeme ∷ left) stands is = given lexeme left stands (judge before.taken lexeme) refl is

-- ---- readings that read what is spelled, and nothing else

-- an item that was read is spelled by the tokens before the place behind it, and fits
record IsRead {A : Type 0} (spelled : A → List Lexeme) (Fits : A → Type 0) (before after : Place) (item : A) : Type 0 where
  left : before.left ≡ spelled item ++ after.left
  fits : Fits item

-- an item that is spelled is read, up to the tokens behind it
record IsGiven {A : Type 0} (item_at : Reading A) (before : Place) (item : A) (left : List Lexeme) : Type 0 where
  after : Place
  left_is : after.left ≡ left
  gives : Gives item_at before after item

record ReadsExactly {A : Type 0} (item_at : Reading A) (spelled : A → List Lexeme) (Fits : A → Type 0) : Type 0 where
  said : (before after : Place) (item : A) → Gives item_at before after item → IsRead spelled Fits before after item
  given : (before : Place) (item : A) (left : List Lexeme) → before.left ≡ spelled item ++ left → Fits item → IsGiven item_at before item left

-- ---- numbers

if_ok : {A : Type 0} (b : Bool) (item found : A) (fault : PolyFault) → (if b then Ok item else Err fault) ≡ Ok found → (b ≡ true) × (item ≡ found)
if_ok true item found fault is = (refl, cc)
if_ok false item found fault is = absurd cc

chosen : {A : Type 0} (b : Bool) (x y : A) → b ≡ true → (if b then x else y) ≡ x
chosen true x y on = refl
chosen false x y on = cc

-- a judge that takes the numbers that fit, and no others
record TakesExactly (judge : Judge ℕ) (Fits : ℕ → Type 0) : Type 0 where
  said : (token n : ℕ) (lexeme : Lexeme) → judge token lexeme ≡ Ok n → (lexeme ≡ number n) × Fits n
  given : (token n : ℕ) → Fits n → judge token (number n) ≡ Ok n

counts_exactly : (limit : ℕ) → TakesExactly (count_of limit) (λ n. n ≤ limit)
counts_exactly limit = record { said = said; given = λ token n within. chosen (nat_le n limit) _ _ (le-leb n limit within) }
  where
    said : (token n : ℕ) (lexeme : Lexeme) → count_of limit token lexeme ≡ Ok n → (lexeme ≡ number n) × (n ≤ limit)
    said token n (number m) is =
        let both = if_ok (nat_le m limit) m n _ is in
        (ap number both.1, subst (λ (k : ℕ). k ≤ limit) both.1 (leb-true m limit both.0))
    said token n (name text) is = absurd cc

coefficients_exactly : TakesExactly coefficient_of IsElement
coefficients_exactly = record { said = said; given = λ token n is. chosen (nat_lt n prime) _ _ (lt-ltb n prime is) }
  where
    said : (token n : ℕ) (lexeme : Lexeme) → coefficient_of token lexeme ≡ Ok n → (lexeme ≡ number n) × IsElement n
    said token n (number m) is =
        let both = if_ok (nat_lt m prime) m n _ is in
        (ap number both.1, subst IsElement both.1 (ltb-true m prime both.0))
    said token n (name text) is = absurd cc

factors_exactly : (variables : ℕ) → TakesExactly (factor_of variables) (λ v. v < variables)
factors_exactly variables = record { said = said; given = λ token v within. chosen (nat_lt v variables) _ _ (lt-ltb v variables within) }
  where
    said : (token v : ℕ) (lexeme : Lexeme) → factor_of variables token lexeme ≡ Ok v → (lexeme ≡ number v) × (v < variables)
    said token v (number m) is =
        let both = if_ok (nat_lt m variables) m v _ is in
        (ap number both.1, subst (λ (k : ℕ). k < variables) both.1 (ltb-true m variables both.0))
    said token v (name text) is = absurd cc

number_exactly : (judge : Judge ℕ) (Fits : ℕ → Type 0) → TakesExactly judge Fits → ReadsExactly (next judge) number_lexemes Fits
number_exactly judge Fits takes = record { said = said; given = given }
  where
    said : (before after : Place) (n : ℕ) → Gives (next judge) before after n → IsRead number_lexemes Fits before after n
    said before after n gives =
        let token = token_of judge before after n gives in
        let both = takes.said before.taken n token.lexeme token.is in
        record { left = token.left ∙ ap (λ l. l ∷ after.left) both.0; fits = both.1 }

    given : (before : Place) (n : ℕ) (left : List Lexeme) → before.left ≡ number n ∷ left → Fits n → IsGiven (next judge) before n left
    given before n left stands fits = record {
      after = record { left = left; taken = before.taken + 1 };
      left_is = refl;
      gives = ap (λ l. first_judged judge l before.taken) stands
          ∙ ap (behind (record { left = left; taken = before.taken + 1 })) (takes.given before.taken n fits);
    }

-- ---- items, and how many they are

items_said : {A : Type 0} (item_at : Reading A) (spelled : A → List Lexeme) (Fits : A → Type 0) → ReadsExactly item_at spelled Fits → (n : ℕ) (before after : Place) (items : List A)
    → Gives (items_at item_at n) before after items → (length items ≡ n) × IsRead (flat_map spelled) (All Fits) before after items
items_said item_at spelled Fits exact zero before after items gives =
    let same = same_item [] items before after gives in (
      ap length (sym same.0),
      record {
        left = ap (λ p. p.left) same.1 ∙ ap (λ l. flat_map spelled l ++ after.left) same.0;
        fits = subst (All Fits) same.0 (All-nil Fits);
      },
    )
items_said item_at spelled Fits exact (suc n) before after items gives =
    let s1 = split (item_at before) _ _ gives in
    let first = exact.said before s1.place s1.item s1.first in
    let s2 = split (items_at item_at n s1.place) _ _ s1.last in
    let rest = items_said item_at spelled Fits exact n s1.place s2.place s2.item s2.first in
    let same = same_item (s1.item ∷ s2.item) items s2.place after s2.last in (
      ap length (sym same.0) ∙ ap suc rest.0,
      record {
        left = first.left ∙ ap (λ l. spelled s1.item ++ l) rest.1.left ∙ sym (append_assoc (spelled s1.item) (flat_map spelled s2.item) s2.place.left)
            ∙ ap (λ p. flat_map spelled (s1.item ∷ s2.item) ++ p.left) same.1 ∙ ap (λ l. flat_map spelled l ++ after.left) same.0;
        fits = subst (All Fits) same.0 (All-cons Fits s1.item s2.item first.fits rest.1.fits);
      },
    )

items_given : {A : Type 0} (item_at : Reading A) (spelled : A → List Lexeme) (Fits : A → Type 0) → ReadsExactly item_at spelled Fits → (items : List A) (before : Place) (left : List Lexeme)
    → before.left ≡ flat_map spelled items ++ left → All Fits items → IsGiven (items_at item_at (length items)) before items left
items_given item_at spelled Fits exact [] before left stands fits = record { after = before; left_is = stands; gives = refl }
items_given item_at spelled Fits exact (item ∷ items) before left stands fits =
    let first = exact.given before item (flat_map spelled items ++ left) (stands ∙ append_assoc (spelled item) (flat_map spelled items) left) (All-head Fits item items fits) in
    let rest = items_given item_at spelled Fits exact items first.after left first.left_is (All-tail Fits item items fits) in
    record {
      after = rest.after;
      left_is = rest.left_is;
      gives = joined (item_at before) _ item first.after first.gives
          ∙ joined (items_at item_at (length items) first.after) _ items rest.after rest.gives;
    }

-- up to a limit, and each fits
abbrev AreFew : {A : Type 0} → ℕ → (A → Type 0) → List A → Type 0
AreFew limit Fits items = (length items ≤ limit) × All Fits items

counted_exactly : {A : Type 0} (limit : ℕ) (item_at : Reading A) (spelled : A → List Lexeme) (Fits : A → Type 0) → ReadsExactly item_at spelled Fits
    → ReadsExactly (counted_at limit item_at) (list_lexemes spelled) (AreFew limit Fits)
counted_exactly {A} limit item_at spelled Fits exact = record { said = said; given = given }
  where
    counts : ReadsExactly (next (count_of limit)) number_lexemes (λ n. n ≤ limit)
    counts = number_exactly (count_of limit) (λ n. n ≤ limit) (counts_exactly limit)

    said : (before after : Place) (items : List A) → Gives (counted_at limit item_at) before after items → IsRead (list_lexemes spelled) (AreFew limit Fits) before after items
    said before after items gives =
        let s = split (next (count_of limit) before) _ _ gives in
        let count = counts.said before s.place s.item s.first in
        let rest = items_said item_at spelled Fits exact s.item s.place after items s.last in
        record {
          left = count.left ∙ (λ i. number (sym rest.0 i) ∷ rest.1.left i);
          fits = (subst (λ (n : ℕ). n ≤ limit) (sym rest.0) count.fits, rest.1.fits);
        }

    given : (before : Place) (items : List A) (left : List Lexeme) → before.left ≡ list_lexemes spelled items ++ left → AreFew limit Fits items
        → IsGiven (counted_at limit item_at) before items left
    given before items left stands fits =
        let count = counts.given before (length items) (flat_map spelled items ++ left) stands fits.0 in
        let rest = items_given item_at spelled Fits exact items count.after left count.left_is fits.1 in
        record {
          after = rest.after;
          left_is = rest.left_is;
          gives = joined (next (count_of limit) before) _ (length items) count.after count.gives ∙ rest.gives;
        }

-- ---- a term

record IsShort (variables : ℕ) (term : Term) : Type 0 where
  element : IsElement term.coefficient
  few : length term.factors ≤ MAX_FACTORS
  within : All (λ v. v < variables) term.factors

term_exactly : (variables : ℕ) → ReadsExactly (term_at variables) term_lexemes (IsShort variables)
term_exactly variables = record { said = said; given = given }
  where
    coefficients : ReadsExactly (next coefficient_of) number_lexemes IsElement
    coefficients = number_exactly coefficient_of IsElement coefficients_exactly

    factors : ReadsExactly (counted_at MAX_FACTORS (next (factor_of variables))) (list_lexemes number_lexemes) (AreFew MAX_FACTORS (λ v. v < variables))
    factors = counted_exactly MAX_FACTORS (next (factor_of variables)) number_lexemes (λ v. v < variables)
        (number_exactly (factor_of variables) (λ v. v < variables) (factors_exactly variables))

    said : (before after : Place) (term : Term) → Gives (term_at variables) before after term → IsRead term_lexemes (IsShort variables) before after term
    said before after term gives =
        let s1 = split (next coefficient_of before) _ _ gives in
        let first = coefficients.said before s1.place s1.item s1.first in
        let s2 = split (counted_at MAX_FACTORS (next (factor_of variables)) s1.place) _ _ s1.last in
        let rest = factors.said s1.place s2.place s2.item s2.first in
        let found : Term = record { coefficient = s1.item; factors = s2.item } in
        let same = same_item found term s2.place after s2.last in
        let whole : IsRead term_lexemes (IsShort variables) before s2.place found = record {
          left = first.left ∙ ap (λ l. number s1.item ∷ l) rest.left;
          fits = record { element = first.fits; few = rest.fits.0; within = rest.fits.1 };
        } in
        subst (λ (p : Place). IsRead term_lexemes (IsShort variables) before p term) same.1
        (subst (λ (t : Term). IsRead term_lexemes (IsShort variables) before s2.place t) same.0 whole)

    given : (before : Place) (term : Term) (left : List Lexeme) → before.left ≡ term_lexemes term ++ left → IsShort variables term → IsGiven (term_at variables) before term left
    given before term left stands is =
        let first = coefficients.given before term.coefficient (list_lexemes number_lexemes term.factors ++ left) stands is.element in
        let rest = factors.given first.after term.factors left first.left_is (is.few, is.within) in
        record {
          after = rest.after;
          left_is = rest.left_is;
          gives = joined (next coefficient_of before) _ term.coefficient first.after first.gives
              ∙ joined (counted_at MAX_FACTORS (next (factor_of variables)) first.after) _ term.factors rest.after rest.gives;
        }

-- ---- all constraints

polynomials_exactly : (variables : ℕ) → ReadsExactly (counted_at MAX_CONSTRAINTS (polynomial_at variables)) (list_lexemes polynomial_lexemes)
    (AreFew MAX_CONSTRAINTS (AreFew MAX_TERMS (IsShort variables)))
polynomials_exactly variables =
    counted_exactly MAX_CONSTRAINTS (polynomial_at variables) polynomial_lexemes (AreFew MAX_TERMS (IsShort variables))
    (counted_exactly MAX_TERMS (term_at variables) term_lexemes (IsShort variables) (term_exactly variables))

record AreShort (constraints : Constraints) : Type 0 where
  values : constraints.variables ≤ MAX_VARIABLES
  polynomials : AreFew MAX_CONSTRAINTS (AreFew MAX_TERMS (IsShort constraints.variables)) constraints.polynomials

constraints_exactly : ReadsExactly constraints_at constraints_lexemes AreShort
constraints_exactly = record { said = said; given = given }
  where
    counts : ReadsExactly (next (count_of MAX_VARIABLES)) number_lexemes (λ n. n ≤ MAX_VARIABLES)
    counts = number_exactly (count_of MAX_VARIABLES) (λ n. n ≤ MAX_VARIABLES) (counts_exactly MAX_VARIABLES)

    said : (before after : Place) (constraints : Constraints) → Gives constraints_at before after constraints → IsRead constraints_lexemes AreShort before after constraints
    said before after constraints gives =
        let s1 = split (next (count_of MAX_VARIABLES) before) _ _ gives in
        let first = counts.said before s1.place s1.item s1.first in
        let s2 = split (counted_at MAX_CONSTRAINTS (polynomial_at s1.item) s1.place) _ _ s1.last in
        let rest = (polynomials_exactly s1.item).said s1.place s2.place s2.item s2.first in
        let found : Constraints = record { variables = s1.item; polynomials = s2.item } in
        let same = same_item found constraints s2.place after s2.last in
        let whole : IsRead constraints_lexemes AreShort before s2.place found = record {
          left = first.left ∙ ap (λ l. number s1.item ∷ l) rest.left;
          fits = record { values = first.fits; polynomials = rest.fits };
        } in
        subst (λ (p : Place). IsRead constraints_lexemes AreShort before p constraints) same.1
        (subst (λ (k : Constraints). IsRead constraints_lexemes AreShort before s2.place k) same.0 whole)

    given : (before : Place) (constraints : Constraints) (left : List Lexeme) → before.left ≡ constraints_lexemes constraints ++ left → AreShort constraints
        → IsGiven constraints_at before constraints left
    given before constraints left stands is =
        let first = counts.given before constraints.variables (list_lexemes polynomial_lexemes constraints.polynomials ++ left) stands is.values in
        let rest = (polynomials_exactly constraints.variables).given first.after constraints.polynomials left first.left_is is.polynomials in
        record {
          after = rest.after;
          left_is = rest.left_is;
          gives = joined (next (count_of MAX_VARIABLES) before) _ constraints.variables first.after first.gives
              ∙ joined (counted_at MAX_CONSTRAINTS (polynomial_at constraints.variables) first.after) _ constraints.polynomials rest.after rest.gives;
        }

-- ---- limits and form

all_to : {A : Type 0} (P Q : A → Type 0) → ((a : A) → P a → Q a) → (items : List A) → All P items → All Q items
all_to P Q to [] each = All-nil Q
all_to P Q to (item ∷ items) each = All-cons Q item items (to item (All-head P item items each)) (all_to P Q to items (All-tail P item items each))

both_all : {A : Type 0} (P Q R : A → Type 0) → ((a : A) → P a → Q a → R a) → (items : List A) → All P items → All Q items → All R items
both_all P Q R to [] some others = All-nil R
both_all P Q R to (item ∷ items) some others =
    All-cons R item items (to item (All-head P item items some) (All-head Q item items others))
    (both_all P Q R to items (All-tail P item items some) (All-tail Q item items others))

abbrev HasFew : Term → Type 0
HasFew term = length term.factors ≤ MAX_FACTORS

abbrev AreShortTerms : ℕ → List Term → Type 0
AreShortTerms variables terms = AreFew MAX_TERMS (IsShort variables) terms

within : (constraints : Constraints) → AreShort constraints → AreWithinLimits constraints
within constraints is = record {
  values = is.values;
  count = is.polynomials.0;
  terms = all_to (AreShortTerms constraints.variables) (λ terms. length terms ≤ MAX_TERMS) (λ terms few. few.0) constraints.polynomials is.polynomials.1;
  factors = all_to (AreShortTerms constraints.variables) (All HasFew)
      (λ terms few. all_to (IsShort constraints.variables) HasFew (λ term short. short.few) terms few.1) constraints.polynomials is.polynomials.1;
}

formed : (constraints : Constraints) → AreShort constraints → AreConstraints constraints
formed constraints is =
    all_to (AreShortTerms constraints.variables) (All (IsTerm constraints.variables))
    (λ terms few. all_to (IsShort constraints.variables) (IsTerm constraints.variables) (λ term short. record { element = short.element; within = short.within }) terms few.1)
    constraints.polynomials is.polynomials.1

short_terms : (variables : ℕ) (terms : List Term) → All HasFew terms → All (IsTerm variables) terms → All (IsShort variables) terms
short_terms variables terms few are =
    both_all HasFew (IsTerm variables) (IsShort variables) (λ term f t. record { element = t.element; few = f; within = t.within }) terms few are

short : (constraints : Constraints) → AreWithinLimits constraints → AreConstraints constraints → AreShort constraints
short constraints limits are =
    let variables = constraints.variables in
    record {
      values = limits.values;
      polynomials = (
        limits.count,
        both_all (λ terms. length terms ≤ MAX_TERMS) (All (IsShort variables)) (AreShortTerms variables) (λ terms count each. (count, each))
            constraints.polynomials limits.terms
            (both_all (All HasFew) (All (IsTerm variables)) (All (IsShort variables)) (short_terms variables) constraints.polynomials limits.factors are),
      );
    }

-- ---- the text

at_end : (constraints found : Constraints) (left : List Lexeme) (taken : ℕ) → end_behind constraints left taken ≡ Ok found → (left ≡ []) × (constraints ≡ found)
at_end constraints found [] taken is = (refl, same constraints found is)
  where
    same : (c d : Constraints) → ◌≡◌ {A = Result Constraints PolyFault} (Ok c) (Ok d) → c ≡ d
    same c d is = cc
at_end constraints found (lexeme ∷ left) taken is = absurd cc

text_said : (text : List ℕ) (constraints : Constraints) → judged text ≡ Ok constraints → IsPolyText constraints text
text_said text constraints is =
    let s = split (constraints_at (start_of text)) end_at constraints is in
    let read = constraints_exactly.said (start_of text) s.place s.item s.first in
    let end = at_end s.item constraints s.place.left s.place.taken s.last in
    let whole : IsPolyText s.item text = record {
      says = read.left ∙ ap (λ l. constraints_lexemes s.item ++ l) end.0 ∙ append-nil (constraints_lexemes s.item);
      limits = within s.item read.fits;
      formed = formed s.item read.fits;
    } in
    subst (λ (c : Constraints). IsPolyText c text) end.1 whole

text_given : (text : List ℕ) (constraints : Constraints) → IsPolyText constraints text → judged text ≡ Ok constraints
text_given text constraints says =
    let read = constraints_exactly.given (start_of text) constraints [] (says.says ∙ sym (append-nil (constraints_lexemes constraints)))
    (short constraints says.limits says.formed) in
    joined (constraints_at (start_of text)) end_at constraints read.after read.gives
    ∙ ap (λ l. end_behind constraints l read.after.taken) read.left_is

pub texts_are_exact : TextsAreExact
texts_are_exact text constraints = (text_said text constraints, text_given text constraints)
