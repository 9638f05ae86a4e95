-- Which wires are set after one gate more.
use Rattle.std.proofs.Common.{◌≡◌, ℕ, ◌||◌, nat_lt, Bool, true, false, List, [], ◌∷◌, ◌++◌, refl, ap, ◌∙◌}
use Rattle.std.specs.Prelude.{if◌then◌else◌}
use Rattle.zk_model.specs.Arithmetic.{is_among, is_set, sets}
use Rattle.zk_model.specs.declared.ArithRow.{ArithRow}

-- a test that holds, and one that does not
pub chosen : {A : Type 0} (b : Bool) (x y : A) → b ≡ true → (if b then x else y) ≡ x
chosen true x y on = refl
chosen false x y on = cc

pub other : {A : Type 0} (b : Bool) (x y : A) → b ≡ false → (if b then x else y) ≡ y
other true x y off = cc
other false x y off = refl

or_assoc : (a b c : Bool) → (a || (b || c)) ≡ ((a || b) || c)
or_assoc true b c = refl
or_assoc false b c = refl

or_none : (a : Bool) → (a || false) ≡ a
or_none true = refl
or_none false = refl

among_push : (wire : ℕ) (gates : List ArithRow) (row : ArithRow) → is_among wire (gates ++ row ∷ []) ≡ (is_among wire gates || sets wire row)
among_push wire [] row = or_none (sets wire row)
among_push wire (gate ∷ gates) row = ap (λ b. sets wire gate || b) (among_push wire gates row) ∙ or_assoc (sets wire gate) (is_among wire gates) (sets wire row)

pub set_push : (inputs : ℕ) (gates : List ArithRow) (row : ArithRow) (wire : ℕ) → is_set inputs (gates ++ row ∷ []) wire ≡ (is_set inputs gates wire || sets wire row)
unfolding is_set
set_push inputs gates row wire = ap (λ b. nat_lt wire inputs || b) (among_push wire gates row) ∙ or_assoc (nat_lt wire inputs) (is_among wire gates) (sets wire row)

pub set_first : (inputs wire : ℕ) → is_set inputs [] wire ≡ nat_lt wire inputs
unfolding is_set
set_first inputs wire = or_none (nat_lt wire inputs)
