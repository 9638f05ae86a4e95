-- Two lists that correspond element by element.
use Rattle.std.proofs.Common.{◌≡◌, ◌<◌, ◌++◌, ℕ, zero, suc, List, [], ◌∷◌, length, map, get_or, refl, ap, arith}
use Rattle.std.specs.List.{AllZip}

module _ {A B : Type 0} (R : A → B → Type 0) where
  pub zip_length : (xs : List A) (ys : List B) → AllZip R xs ys → length xs ≡ length ys
  zip_length [] [] zip = refl
  zip_length [] (y ∷ ys) zip = absurd zip
  zip_length (x ∷ xs) [] zip = absurd zip
  zip_length (x ∷ xs) (y ∷ ys) zip = ap suc (zip_length xs ys zip.1)

  pub zip_at : (xs : List A) (ys : List B) → AllZip R xs ys → (k : ℕ) (d : A) (e : B) → k < length xs → R (get_or xs k d) (get_or ys k e)
  zip_at [] ys zip k d e within = absurd (omega (arith, within))
  zip_at (x ∷ xs) [] zip k d e within = absurd zip
  zip_at (x ∷ xs) (y ∷ ys) zip zero d e within = zip.0
  zip_at (x ∷ xs) (y ∷ ys) zip (suc k) d e within = zip_at xs ys zip.1 k d e (omega (arith, within))

  pub zip_push : (xs : List A) (ys : List B) (x : A) (y : B) → AllZip R xs ys → R x y → AllZip R (xs ++ x ∷ []) (ys ++ y ∷ [])
  zip_push [] [] x y zip is = (is, tt)
  zip_push [] (z ∷ ys) x y zip is = absurd zip
  zip_push (z ∷ xs) [] x y zip is = absurd zip
  zip_push (a ∷ xs) (b ∷ ys) x y zip is = (zip.0, zip_push xs ys x y zip.1 is)

-- the second list's elements made into others
pub zip_map : {A B C : Type 0} (R : A → B → Type 0) (S : A → C → Type 0) (f : B → C) → ((x : A) (y : B) → R x y → S x (f y))
    → (xs : List A) (ys : List B) → AllZip R xs ys → AllZip S xs (map f ys)
zip_map R S f each [] [] zip = tt
zip_map R S f each [] (y ∷ ys) zip = absurd zip
zip_map R S f each (x ∷ xs) [] zip = absurd zip
zip_map R S f each (x ∷ xs) (y ∷ ys) zip = (each x y zip.0, zip_map R S f each xs ys zip.1)
