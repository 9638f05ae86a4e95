-- How the text of constraints is judged: token by token, each where it stands. The first that is not right is the text's fault.
use Rattle.std.specs.Prelude.{ℕ, zero, suc, ◌+◌, nat_le, nat_lt, if◌then◌else◌, Result, Ok, Err, List, [], ◌∷◌}
use Rattle.zk_model.specs.ArithFaults.{Place, Behind, start_of}
use Rattle.zk_model.specs.Bristol.{Lexeme, number, name}
use Rattle.zk_model.specs.Field.{prime}
use Rattle.poly_model.specs.Constraints.{Term, Constraints}
use Rattle.poly_model.specs.declared.limits.TheConstants.{MAX_CONSTRAINTS, MAX_FACTORS, MAX_TERMS, MAX_VARIABLES}
use Rattle.poly_text.specs.declared.fault.PolyFault.{PolyFault}
use Rattle.poly_text.specs.declared.fault.PolyFault.TheVariants.{ShortText, BadNumber, TooLarge, VarRange, ExtraText}

-- ---- one token

-- what a token gives, by its number in the text, or its fault
abbrev pub Judge : Type 0 → Type 0
Judge A = ℕ → Lexeme → Result A PolyFault

-- a number of values, constraints, terms or factors, up to a limit
abbrev pub count_of : ℕ → Judge ℕ
count_of limit token (number n) = if nat_le n limit then Ok n else Err (TooLarge token)
count_of limit token (name text) = Err (BadNumber token)

-- a coefficient
abbrev pub coefficient_of : Judge ℕ
coefficient_of token (number n) = if nat_lt n prime then Ok n else Err (TooLarge token)
coefficient_of token (name text) = Err (BadNumber token)

-- a factor, one of so many values
abbrev pub factor_of : ℕ → Judge ℕ
factor_of variables token (number n) = if nat_lt n variables then Ok n else Err (VarRange token)
factor_of variables token (name text) = Err (BadNumber token)

-- ---- one token after another

-- what stands at a place: an item, with the place behind its tokens, or the first fault
abbrev pub Reading : Type 0 → Type 0
Reading A = Place → Result (Behind A) PolyFault

-- what a token gave, with the place behind it
abbrev pub behind : {A : Type 0} → Place → Result A PolyFault → Result (Behind A) PolyFault
behind place (Ok item) = Ok (record { item = item; place = place })
behind place (Err fault) = Err fault

-- the first of these tokens, which has this number
abbrev pub first_judged : {A : Type 0} → Judge A → List Lexeme → ℕ → Result (Behind A) PolyFault
first_judged judge [] token = Err (ShortText token)
first_judged judge (lexeme ∷ left) token = behind (record { left = left; taken = token + 1 }) (judge token lexeme)

-- the next token
abbrev pub next : {A : Type 0} → Judge A → Reading A
next judge place = first_judged judge place.left place.taken

-- what comes behind an item, unless there is a fault
abbrev pub and_then : {A B : Type 0} → Result (Behind A) PolyFault → (A → Place → Result B PolyFault) → Result B PolyFault
and_then (Ok read) more = more read.item read.place
and_then (Err fault) more = Err fault

-- so many items, one after another
abbrev pub items_at : {A : Type 0} → Reading A → ℕ → Reading (List A)
items_at item_at zero place = Ok (record { item = []; place = place })
items_at item_at (suc more) place =
    and_then (item_at place) (λ item second.
    and_then (items_at item_at more second) (λ items last. Ok (record { item = item ∷ items; place = last })))

-- how many items, up to a limit, and the items
abbrev pub counted_at : {A : Type 0} → ℕ → Reading A → Reading (List A)
counted_at limit item_at place = and_then (next (count_of limit) place) (λ count second. items_at item_at count second)

-- ---- constraints

abbrev pub term_at : ℕ → Reading Term
term_at variables place =
    and_then (next coefficient_of place) (λ coefficient second.
    and_then (counted_at MAX_FACTORS (next (factor_of variables)) second) (λ factors last.
    Ok (record { item = record { coefficient = coefficient; factors = factors }; place = last })))

abbrev pub polynomial_at : ℕ → Reading (List Term)
polynomial_at variables place = counted_at MAX_TERMS (term_at variables) place

abbrev pub constraints_at : Reading Constraints
constraints_at place =
    and_then (next (count_of MAX_VARIABLES) place) (λ variables second.
    and_then (counted_at MAX_CONSTRAINTS (polynomial_at variables) second) (λ polynomials last.
    Ok (record { item = record { variables = variables; polynomials = polynomials }; place = last })))

-- ---- the text

-- the end of the text, where these tokens are left, the first of which has this number
abbrev pub end_behind : Constraints → List Lexeme → ℕ → Result Constraints PolyFault
end_behind constraints [] token = Ok constraints
end_behind constraints (lexeme ∷ left) token = Err (ExtraText token)

abbrev pub end_at : Constraints → Place → Result Constraints PolyFault
end_at constraints place = end_behind constraints place.left place.taken

-- what a text says: constraints, or its first fault
abbrev pub judged : List ℕ → Result Constraints PolyFault
judged text = and_then (constraints_at (start_of text)) end_at
