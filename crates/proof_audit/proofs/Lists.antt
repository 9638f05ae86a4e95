-- Lists that agree as far as they have been compared.
use Rattle.std.proofs.Common.{Bool, true, false, not, ◌&&◌, eqb, refl, ◌≡◌, ℕ, ◌+◌, ◌<◌, List, [], ◌∷◌, ◌++◌, length, take, get_or, sym, ◌∙◌}
use Rattle.std.proofs.lemmas.List.{take_more}
use Rattle.std.proofs.lemmas.Slice.Eq.{slice_eq-Decides}
use Rattle.std.proofs.lemmas.Bool.Decides.{Decides-eqb}
use Rattle.std.specs.Cmp.Lexicographic.{pointwise}
use Rattle.zk_model.specs.Bytes.{LeftRight}

-- one item more
pub both_more : {X : Type 0} (some others : List X) (n : ℕ) (item other : X) → take n some ≡ take n others
    → item ≡ get_or some n item → other ≡ get_or others n other → n < length some → n < length others → item ≡ other
    → take (n + 1) some ≡ take (n + 1) others
both_more some others n item other far is other_is below other_below same =
    take_more some n item below ∙ (λ i. far i ++ (sym is ∙ same ∙ other_is) i ∷ []) ∙ sym (take_more others n other other_below)

-- two messages that do not differ
pub same_masked : (some other : LeftRight) → false ≡ not (pointwise eqb some.left other.left && pointwise eqb some.right other.right) → some ≡ other
same_masked some other same = λ i. record { left = left i; right = right i }
  where
    both : (a b : Bool) → false ≡ not (a && b) → (a ≡ true) × (b ≡ true)
    both false b e = cc
    both true false e = cc
    both true true e = (refl, refl)

    left : some.left ≡ other.left
    left = (slice_eq-Decides Decides-eqb some.left other.left (pointwise eqb some.left other.left) refl).0 (both (pointwise eqb some.left other.left) (pointwise eqb some.right other.right) same).0

    right : some.right ≡ other.right
    right = (slice_eq-Decides Decides-eqb some.right other.right (pointwise eqb some.right other.right) refl).0 (both (pointwise eqb some.left other.left) (pointwise eqb some.right other.right) same).1
