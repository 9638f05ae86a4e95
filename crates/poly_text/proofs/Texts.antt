-- What is read of a whole text.
use Rattle.std.proofs.Common.{◌≡◌, ℕ, ◌<◌, List, [], refl, ap, sym, ◌∙◌}
use Rattle.std.specs.Prelude.{Result, Ok, Err, IfOk, IfErr}
use Rattle.zk_model.specs.ArithFaults.{Behind, Place, start_of}
use Rattle.text_tokens.specs.Words.{left_of, place_of}
use Rattle.poly_model.specs.Constraints.{Constraints, Term}
use Rattle.poly_model.specs.declared.limits.TheConstants.{MAX_CONSTRAINTS, MAX_VARIABLES}
use Rattle.poly_text.specs.Laws.{TextsAreExact}
use Rattle.poly_text.specs.Reads.{AreOnlyConstraints, ReadCause}
use Rattle.poly_text.specs.Steps.{Gives, IsExtra, Lacks, Refuses, TextCause}
use Rattle.poly_text.specs.TextFaults.{Reading, and_then, constraints_at, count_of, counted_at, end_at, end_behind, judged, next, polynomial_at}
use Rattle.poly_text.specs.declared.fault.PolyFault.{PolyFault}
use Rattle.poly_text.specs.declared.fault.ReadError.{ReadError}
use Rattle.poly_text.specs.declared.fault.ReadError.TheVariants.{Fault, NoMemory}
use Rattle.poly_text.proofs.Items.{AreSoFar, counted_given, counted_refused, joined}

-- ---- all constraints

abbrev polynomials_at : ℕ → Reading (List (List Term))
polynomials_at variables place = counted_at MAX_CONSTRAINTS (polynomial_at variables) place

abbrev with_variables : ℕ → List (List Term) → Place → Result (Behind Constraints) PolyFault
with_variables variables polynomials last = Ok (record { item = record { variables = variables; polynomials = polynomials }; place = last })

constraints_given : (variables : ℕ) (before second after : Place) (constraints : Constraints) → Gives (next (count_of MAX_VARIABLES)) before second variables
    → Gives (counted_at MAX_CONSTRAINTS (polynomial_at variables)) second after constraints.polynomials → constraints.variables ≡ variables
    → Gives constraints_at before after constraints
constraints_given variables before second after constraints first polynomials same =
    joined (next (count_of MAX_VARIABLES) before) _ variables second first
    ∙ joined (polynomials_at variables second) (with_variables variables) constraints.polynomials after polynomials
    ∙ ap (λ v. Ok (record { item = record { variables = v; polynomials = constraints.polynomials }; place = after })) (sym same)

variables_refused : (before : Place) (fault : PolyFault) → Refuses (next (count_of MAX_VARIABLES)) before fault → Refuses constraints_at before fault
variables_refused before fault refuses = ap (λ r. and_then r (λ variables second. and_then (polynomials_at variables second) (with_variables variables))) refuses

polynomials_refused : (variables : ℕ) (before second : Place) (fault : PolyFault) → Gives (next (count_of MAX_VARIABLES)) before second variables
    → Refuses (counted_at MAX_CONSTRAINTS (polynomial_at variables)) second fault → Refuses constraints_at before fault
polynomials_refused variables before second fault first refuses =
    joined (next (count_of MAX_VARIABLES) before) _ variables second first ∙ ap (λ r. and_then r (with_variables variables)) refuses

-- ---- from the first token on

start_is : (text : List ℕ) → place_of text 0 ≡ start_of text
unfolding left_of
start_is text = refl

begun_at : (text : List ℕ) (place : Place) → place ≡ place_of text 0 → judged text ≡ and_then (constraints_at place) end_at
begun_at text place is = ap (λ p. and_then (constraints_at p) end_at) (sym (is ∙ start_is text))

refused : (text : List ℕ) (place : Place) (fault : PolyFault) → place ≡ place_of text 0 → Refuses constraints_at place fault → judged text ≡ Err fault
refused text place fault is refuses = begun_at text place is ∙ ap (λ r. and_then r end_at) refuses

pub no_variables : (text : List ℕ) (place : Place) (fault : PolyFault) → place ≡ place_of text 0 → Refuses (next (count_of MAX_VARIABLES)) place fault
    → TextCause text (Fault fault)
no_variables text place fault is refuses = refused text place fault is (variables_refused place fault refuses)

pub no_polynomials : (text : List ℕ) (variables : ℕ) (place second : Place) (fault : PolyFault) → place ≡ place_of text 0
    → Gives (next (count_of MAX_VARIABLES)) place second variables → Refuses (counted_at MAX_CONSTRAINTS (polynomial_at variables)) second fault
    → TextCause text (Fault fault)
no_polynomials text variables place second fault is first refuses =
    refused text place fault is (polynomials_refused variables place second fault first refuses)

-- a constraint that is not read
pub no_polynomial : (text : List ℕ) (variables : ℕ) (place second third here : Place) (count n : ℕ) (polynomials : List (List Term)) (error : ReadError)
    → place ≡ place_of text 0 → Gives (next (count_of MAX_VARIABLES)) place second variables → Gives (next (count_of MAX_CONSTRAINTS)) second third count
    → n < count → AreSoFar (polynomial_at variables) count third here polynomials n → Lacks (polynomial_at variables) here error → TextCause text error
no_polynomial text variables place second third here count n polynomials (Fault fault) is first counted more far lacks =
    no_polynomials text variables place second fault is first
    (counted_refused MAX_CONSTRAINTS (polynomial_at variables) second third here count n polynomials fault counted more lacks far)
no_polynomial text variables place second third here count n polynomials NoMemory is first counted more far lacks = tt

-- all are read
pub constraints_read : (variables : ℕ) (place second third after : Place) (count n : ℕ) (constraints : Constraints)
    → Gives (next (count_of MAX_VARIABLES)) place second variables → Gives (next (count_of MAX_CONSTRAINTS)) second third count → n ≡ count
    → AreSoFar (polynomial_at variables) count third after constraints.polynomials n → constraints.variables ≡ variables → Gives constraints_at place after constraints
constraints_read variables place second third after count n constraints first counted all far same =
    constraints_given variables place second after constraints first
    (counted_given MAX_CONSTRAINTS (polynomial_at variables) second third after count n constraints.polynomials counted all far) same

pub extra : (text : List ℕ) (place after : Place) (constraints : Constraints) (fault : PolyFault) → place ≡ place_of text 0 → Gives constraints_at place after constraints
    → IsExtra after fault → TextCause text (Fault fault)
extra text place after constraints fault is gives more =
    begun_at text place is ∙ joined (constraints_at place) end_at constraints after gives
    ∙ ap (λ l. end_behind constraints l after.taken) more.stands ∙ ap Err (sym more.fault_is)

pub whole : (text : List ℕ) (place after : Place) (constraints : Constraints) → place ≡ place_of text 0 → Gives constraints_at place after constraints
    → after.left ≡ [] → judged text ≡ Ok constraints
whole text place after constraints is gives none =
    begun_at text place is ∙ joined (constraints_at place) end_at constraints after gives ∙ ap (λ l. end_behind constraints l after.taken) none

-- ---- the only constraints, or the only fault

pub only_constraints : (text : List ℕ) (read : Result Constraints ReadError) → TextsAreExact → IfOk read (λ c. judged text ≡ Ok c) → IfOk read (AreOnlyConstraints text)
only_constraints text (Ok constraints) exact is = record {
  says = (exact text constraints).0 is;
  only = λ others says. same others constraints (sym ((exact text others).1 says) ∙ is);
  no_fault = λ fault other. apart constraints fault (sym is ∙ other);
}
  where
    same : (c d : Constraints) → ◌≡◌ {A = Result Constraints PolyFault} (Ok c) (Ok d) → c ≡ d
    same c d is = cc

    apart : (c : Constraints) (fault : PolyFault) → ◌≡◌ {A = Result Constraints PolyFault} (Ok c) (Err fault) → ⊥
    apart c fault is = absurd cc
only_constraints text (Err error) exact is = tt

only_cause : (text : List ℕ) (error : ReadError) → TextsAreExact → TextCause text error → ReadCause text error
only_cause text (Fault fault) exact cause = record {
  first = cause;
  no_constraints = λ constraints says. apart constraints (sym ((exact text constraints).1 says) ∙ cause);
}
  where
    apart : (c : Constraints) → ◌≡◌ {A = Result Constraints PolyFault} (Ok c) (Err fault) → ⊥
    apart c is = absurd cc
only_cause text NoMemory exact cause = tt

pub only_fault : (text : List ℕ) (read : Result Constraints ReadError) → TextsAreExact → IfErr read (TextCause text) → IfErr read (ReadCause text)
only_fault text (Ok constraints) exact cause = tt
only_fault text (Err error) exact cause = only_cause text error exact cause
