-- Rows of matches, by the ids that they have.
use Rattle.std.proofs.Common.{◌≡◌, ◌∙◌, List, [], ◌∷◌, ◌++◌, Bool, true, false, ◌||◌, cond, Some, None, Option, refl, ap, true≢false, append-nil}
use Rattle.std.specs.Str.{bytes_eq}
use Rattle.std.specs.Prelude.{option_and_then, slice_get, find}
use Rattle.std.proofs.lemmas.Slice.Eq.{bytes_eq-Decides}
use Rattle.clap.specs.Walk.{Row, Text, at_row, first_of, has_row, without}
use Rattle.clap.specs.declared.builder.value_parser.Reading.TheVariants.{AsWritten}
use Rattle.clap.specs.declared.parser.matches.ValueSource.TheVariants.{CommandLine}
use Rattle.command_words.specs.Found.{places_in, with_place}

-- one value, that a word gave
abbrev pub row : Text → Text → Row
row id value = record { id = id; values = value ∷ []; count = None; source = Some CommandLine; reading = AsWritten }

pub same_text : (a b : Text) → bytes_eq a b ≡ true → a ≡ b
same_text a b e = (bytes_eq-Decides a b).0 e

pub equals_itself : (a : Text) → bytes_eq a a ≡ true
equals_itself a = (bytes_eq-Decides a a).1 refl

pub or_false : (a b : Bool) → (a || b) ≡ false → (a ≡ false) × (b ≡ false)
or_false true b e = absurd (true≢false e)
or_false false b e = (refl, e)

-- a row that is new stands at the end
pub at_end : (id : Text) (change : Row → List Row) (missing rows : List Row) → has_row id rows ≡ false → at_row id change missing rows ≡ rows ++ missing
at_end id change missing [] none = refl
at_end id change missing (r ∷ rows) none =
    let parts = or_false (bytes_eq r.id id) (has_row id rows) none in
    ap (λ b. cond b (change r ++ rows) (r ∷ at_row id change missing rows)) parts.0 ∙ ap (λ rs. r ∷ rs) (at_end id change missing rows parts.1)

pub without_none : (id : Text) (rows : List Row) → has_row id rows ≡ false → without id rows ≡ rows
without_none id rows none = at_end id (λ _. []) [] rows none ∙ append-nil rows

-- one more row, of another id
pub still_none : (id : Text) (rows : List Row) (r : Row) → has_row id rows ≡ false → bytes_eq r.id id ≡ false → has_row id (rows ++ r ∷ []) ≡ false
still_none id [] r none other = ap (λ b. b || false) other
still_none id (x ∷ rows) r none other =
    let parts = or_false (bytes_eq x.id id) (has_row id rows) none in
    ap (λ b. b || has_row id (rows ++ r ∷ [])) parts.0 ∙ still_none id rows r parts.1 other

abbrev first_in : Option Row → Option Text
first_in o = option_and_then (λ (r : Row). slice_get r.values 0) o

pub first_here : (id value : Text) (rows : List Row) → first_of id (row id value ∷ rows) ≡ Some value
first_here id value rows = ap (λ b. first_in (cond b (Some (row id value)) (find (λ r. bytes_eq r.id id) rows))) (equals_itself id)

pub first_later : (id : Text) (r : Row) (rows : List Row) → bytes_eq r.id id ≡ false → first_of id (r ∷ rows) ≡ first_of id rows
first_later id r rows other = ap (λ b. first_in (cond b (Some r) (find (λ x. bytes_eq x.id id) rows))) other

-- what is in the places depends on what is given there alone
abbrev pub GiveSame : {A : Type 0} → (Text → A) → (Text → A) → List Text → Type 0
GiveSame f g [] = Unit {0}
GiveSame f g (id ∷ ids) = (f id ≡ g id) × GiveSame f g ids

pub places_same : (f g : Text → Option Text) (ids : List Text) → GiveSame f g ids → places_in f ids ≡ places_in g ids
places_same f g [] same = refl
places_same f g (id ∷ ids) same = ap (λ o. with_place o (places_in f ids)) same.0 ∙ ap (with_place (g id)) (places_same f g ids same.1)
