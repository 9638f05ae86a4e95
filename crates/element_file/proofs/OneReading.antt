-- A text says one list of elements, or has a token that is none.
use Rattle.std.proofs.Common.{◌≡◌, ℕ, ◌∙◌, List, [], ◌∷◌, length, map, Option, None, Some, refl, sym, ap, arith, subst}
use Rattle.std.specs.Prelude.{◌<◌, ◌≢◌, All, Bool, true, false, if◌then◌else◌, is_none, nat_lt, position}
use Rattle.std.specs.List.{position_or_len}
use Rattle.std.proofs.lemmas.Bool.{ltb-true}
use Rattle.std.proofs.lemmas.Bool.Decides.{nat_tests}
use Rattle.std.proofs.lemmas.List.{length-map}
use Rattle.std.proofs.lemmas.List.Elements.{All-cons}
use Rattle.zk_model.specs.Bristol.{Lexeme, number, name, lexemes}
use Rattle.zk_model.specs.Field.{prime, IsElement}
use Rattle.element_file.specs.Laws.{ElementsAreExact}
use Rattle.element_file.specs.Elements.{LacksElements, SaysElements, SaysNoElements, element_in, first_bad}
use Rattle.element_file.specs.declared.fault.ElementsError.{ElementsError}
use Rattle.element_file.specs.declared.fault.ElementsError.TheVariants.{Fault, NoMemory}
use Rattle.element_file.specs.declared.fault.ElementsFault.{ElementsFault}
use Rattle.element_file.specs.declared.fault.ElementsFault.TheVariants.{BadValue, Count}

same_some : (some others : List ℕ) → map (λ (n : ℕ). Some n) some ≡ map (λ (n : ℕ). Some n) others → some ≡ others
same_some [] [] same = refl
same_some [] (other ∷ others) same = cc
same_some (one ∷ some) [] same = cc
same_some (one ∷ some) (other ∷ others) same =
    let first : one ≡ other = cc in
    let rest : some ≡ others = same_some some others (cc) in
    cc

pub one_list : (text some others : List ℕ) → SaysElements text some → SaysElements text others → some ≡ others
one_list text some others one other = same_some some others (sym one ∙ other)

somes : (elements : List ℕ) → position_or_len is_none (map (λ (n : ℕ). Some n) elements) ≡ length elements
somes [] = refl
somes (element ∷ elements) = let more = somes elements in omega (arith, more)

at_no_place : (all : List (Option ℕ)) → position_or_len is_none all ≡ length all → position is_none all ≡ None
at_no_place all same = grind (arith, nat_tests, same)

none_bad : (elements : List ℕ) → position is_none (map (λ (n : ℕ). Some n) elements) ≡ None
none_bad elements = at_no_place (map (λ (n : ℕ). Some n) elements) (somes elements ∙ sym (length-map elements (λ (n : ℕ). Some n)))

-- where it says elements, each token is one
pub no_bad : (text elements : List ℕ) → SaysElements text elements → first_bad text ≡ None
no_bad text elements says = ap (position is_none) says ∙ none_bad elements

-- ---- elements are below the prime

below : (lexeme : Lexeme) (element : ℕ) → element_in lexeme ≡ Some element → element < prime
below (number n) element is = small (nat_lt n prime) refl is
  where
    small : (b : Bool) → nat_lt n prime ≡ b → (if b then Some n else None) ≡ Some element → element < prime
    small true within is = let same : n ≡ element = cc is in subst (λ (m : ℕ). m < prime) same (ltb-true n prime within)
    small false beyond is = cc is
below (name text) element is = cc is

all_below : (all : List Lexeme) (elements : List ℕ) → map element_in all ≡ map (λ (n : ℕ). Some n) elements → All IsElement elements
all_below [] [] says = λ k d within. absurd (omega (arith, within))
all_below [] (element ∷ elements) says = cc
all_below (lexeme ∷ rest) [] says = λ k d within. absurd (omega (arith, within))
all_below (lexeme ∷ left) (element ∷ elements) says =
    let first : element_in lexeme ≡ Some element = cc in
    let rest : map element_in left ≡ map (λ (n : ℕ). Some n) elements = cc in
    All-cons IsElement element elements (below lexeme element first) (all_below left elements rest)

pub exact : ElementsAreExact
exact text elements says = record {
  only = λ others other. one_list text others elements other says;
  elements_are = all_below (lexemes text) elements says;
  none_bad = no_bad text elements says;
}

-- ---- why there are not so many

pub lacks_any : (need : ℕ) (text : List ℕ) (error : ElementsError) → SaysNoElements text error → LacksElements need text error
lacks_any need text (Fault (BadValue token)) says = says
lacks_any need text (Fault (Count needed got)) says = absurd says
lacks_any need text NoMemory says = tt

pub lacks_count : (need : ℕ) (text elements : List ℕ) (fault : ElementsFault) → SaysElements text elements → fault ≡ Count need (length elements)
    → need ≢ length elements → LacksElements need text (Fault fault)
lacks_count need text elements fault says is differs =
    subst (λ f. LacksElements need text (Fault f)) (sym is) (refl, record { elements = elements; says = says; count = refl; differs = differs })
