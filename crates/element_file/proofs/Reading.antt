-- A file of elements, token by token.
use Rattle.std.proofs.Common.{◌≡◌, ℕ, ◌+◌, ◌<◌, ◌∙◌, List, [], ◌∷◌, ◌++◌, length, map, Option, None, Some, refl, sym, ap, subst, arith, append-nil, append_assoc, length-append}
use Rattle.std.specs.Prelude.{is_none, position}
use Rattle.std.specs.List.{position_or_len}
use Rattle.std.proofs.lemmas.Bool.Decides.{nat_tests}
use Rattle.std.proofs.lemmas.List.{length-map, map-append}
use Rattle.zk_model.specs.ArithFaults.{Place}
use Rattle.zk_model.specs.Bristol.{Lexeme}
use Rattle.text_tokens.specs.Words.{left_of, place_of}
use Rattle.element_file.specs.Elements.{SaysElements, SaysNoElements, element_in, elements_in, first_bad}
use Rattle.element_file.specs.Steps.{IsBadValue, Stands}
use Rattle.element_file.specs.declared.fault.ElementsError.TheVariants.{Fault}
use Rattle.element_file.specs.declared.fault.ElementsFault.{ElementsFault}

-- these elements are those of the tokens before a place
pub record IsReadSoFar (text : List ℕ) (place : Place) (elements : List ℕ) : Type 0 where
  pub read : elements_in text ≡ map Some elements ++ map element_in place.left
  pub taken : place.taken ≡ length elements

-- one element more
pub one_more : (text : List ℕ) (before after : Place) (elements : List ℕ) (element : ℕ) → IsReadSoFar text before elements
    → Stands before after (Some element) → IsReadSoFar text after (elements ++ element ∷ [])
one_more text before after elements element far stands = record {
  read = far.read ∙ ap (λ l. map Some elements ++ map element_in l) stands.left
      ∙ ap (λ o. map Some elements ++ o ∷ map element_in after.left) stands.element_is
      ∙ sym (append_assoc (map Some elements) (Some element ∷ []) (map element_in after.left))
      ∙ ap (λ l. l ++ map element_in after.left) (sym (map-append (λ (n : ℕ). Some n) elements (element ∷ [])));
  taken = stands.taken ∙ ap (λ n. n + 1) far.taken ∙ sym (length-append elements (element ∷ []));
}

-- none is left
pub all_read : (text : List ℕ) (place : Place) (elements : List ℕ) → IsReadSoFar text place elements → place.left ≡ [] → SaysElements text elements
all_read text place elements far none =
    far.read ∙ ap (λ l. map Some elements ++ map element_in l) none ∙ append-nil (map Some elements)

somes_first : (elements : List ℕ) (rest : List (Option ℕ)) → position_or_len is_none (map (λ (n : ℕ). Some n) elements ++ None ∷ rest) ≡ length elements
somes_first [] rest = refl
somes_first (element ∷ elements) rest = let more = somes_first elements rest in omega (arith, more)

at_length : (all : List (Option ℕ)) (k : ℕ) → k < length all → position_or_len is_none all ≡ k → position is_none all ≡ Some k
at_length all k within same = grind (arith, nat_tests, within, same)

none_behind : (elements : List ℕ) (rest : List (Option ℕ)) → position is_none (map (λ (n : ℕ). Some n) elements ++ None ∷ rest) ≡ Some (length elements)
none_behind elements rest =
    let front : List (Option ℕ) = map (λ (n : ℕ). Some n) elements in
    at_length (front ++ None ∷ rest) (length elements) (omega (arith, length-append front (None ∷ rest), length-map elements (λ (n : ℕ). Some n))) (somes_first elements rest)

-- the next token is no element
pub bad_here : (text : List ℕ) (place : Place) (elements : List ℕ) (lexeme : Lexeme) (left : List Lexeme) → IsReadSoFar text place elements
    → place.left ≡ lexeme ∷ left → element_in lexeme ≡ None → first_bad text ≡ Some place.taken
bad_here text place elements lexeme left far stands none =
    ap (position is_none) (far.read ∙ ap (λ l. map Some elements ++ map element_in l) stands ∙ ap (λ o. map Some elements ++ o ∷ map element_in left) none)
    ∙ none_behind elements (map element_in left) ∙ ap Some (sym far.taken)

-- ---- a whole text

pub none_read : (text : List ℕ) (place : Place) → place ≡ place_of text 0 → IsReadSoFar text place []
unfolding left_of
none_read text place is = record {
  read = ap (λ p. map element_in p.left) (sym is);
  taken = ap (λ p. p.taken) is;
}

pub bad_value : (text : List ℕ) (place : Place) (elements : List ℕ) (fault : ElementsFault) → IsReadSoFar text place elements → IsBadValue place fault
    → SaysNoElements text (Fault fault)
bad_value text place elements fault far bad =
    subst (λ f. SaysNoElements text (Fault f)) (sym bad.fault_is) (bad_here text place elements bad.lexeme bad.left far bad.stands bad.none)
