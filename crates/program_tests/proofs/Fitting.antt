-- What came for units, one after another.
use Rattle.std.proofs.Common.{◌≡◌, ℕ, ◌<◌, List, [], ◌∷◌, ◌++◌, length, get_or, All, Vec, Global, ap, sym, ◌∙◌, subst, arith}
use Rattle.std.proofs.lemmas.List.{map-append, get_or-map, length-map}
use Rattle.std.proofs.lemmas.List.Elements.{All-append, All-cons, All-nil, All-get_or}
use Rattle.round_fan.specs.Fans.{lists_of}

-- with that for one more
pub more_fit : {A : Type 0} (Fits : List A → Type 0) (before after : List (Vec A Global)) (one : Vec A Global) → after ≡ before ++ one ∷ []
    → All Fits (lists_of before) → Fits one.items → All Fits (lists_of after)
more_fit {A} Fits before after one is far fits =
    subst (All Fits) (sym (ap lists_of is ∙ map-append (λ (v : Vec A Global). v.items) before (one ∷ [])))
    (All-append Fits (lists_of before) (one.items ∷ []) far (All-cons Fits one.items [] fits (All-nil Fits)))

-- that for one of them
pub fit_at : {A : Type 0} (Fits : List A → Type 0) (vectors : List (Vec A Global)) (i : ℕ) (one : Vec A Global) → i < length vectors → one ≡ get_or vectors i one
    → All Fits (lists_of vectors) → Fits one.items
fit_at {A} Fits vectors i one within is all =
    subst Fits (get_or-map (λ (v : Vec A Global). v.items) vectors i one one.items within ∙ ap (λ (v : Vec A Global). v.items) (sym is))
    (All-get_or Fits (lists_of vectors) i one.items (omega (arith, within, length-map vectors (λ (v : Vec A Global). v.items))) all)
