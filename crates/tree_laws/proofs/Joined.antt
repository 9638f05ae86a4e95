-- Lists of lists: what holds of each part, and parts of pairs in lists that are joined.
use Rattle.std.proofs.Common.{◌≡◌, ◌⊎◌, inl, inr, ℕ, ◌+◌, ◌<◌, ◌≤◌, List, [], ◌∷◌, ◌++◌, map, get_or, length, refl, sym, ◌∙◌, ap, subst, arith}
use Rattle.std.specs.Prelude.{flat_map}
use Rattle.std.proofs.lemmas.Bool.{cases_lt}
use Rattle.std.proofs.lemmas.List.{map-append, get_or_append_left, get_or-append-add}
use Rattle.zk_model.specs.Mac.{Pair}

-- what holds of each part by its number holds of one part more
pub each_more : {B : Type 0} (P : ℕ → List B → Type 0) (parts : List (List B)) (part : List B) (n : ℕ) → length parts ≡ n
    → ((k : ℕ) → k < n → P k (get_or parts k [])) → P n part
    → (k : ℕ) → k < n + 1 → P k (get_or (parts ++ part ∷ []) k [])
each_more P parts part n sized far now k below = by_stage (cases_lt k n)
  where
    last : get_or (parts ++ part ∷ []) n [] ≡ part
    last = ap (λ m. get_or (parts ++ part ∷ []) m []) (omega (arith, sized)) ∙ get_or-append-add parts (part ∷ []) 0 []

    by_stage : (k < n) ⊎ (n ≤ k) → P k (get_or (parts ++ part ∷ []) k [])
    by_stage (inr end) =
        let at : n ≡ k = omega (arith, end, below) in
        subst (λ m. P m (get_or (parts ++ part ∷ []) m [])) at (subst (P n) (sym last) now)
    by_stage (inl before) = subst (P k) (sym (get_or_append_left parts (part ∷ []) [] k (omega (arith, sized, before)))) (far k before)

-- parts of lists joined are parts of the joined list
pub joined_parts : (part : Pair → ℕ) (units : List (List Pair)) → flat_map (map part) units ≡ map part (flat_map (λ unit. unit) units)
joined_parts part [] = refl
joined_parts part (unit ∷ units) =
    ap (λ l. map part unit ++ l) (joined_parts part units) ∙ sym (map-append part unit (flat_map (λ unit. unit) units))
