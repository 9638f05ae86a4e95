-- Two lists, item by item.
use Rattle.std.proofs.Common.{◌≡◌, ℕ, zero, suc, ◌+◌, ◌<◌, List, [], ◌∷◌, ◌++◌, length, map, flat_map, take, get_or, refl, sym, ◌∙◌, arith}
use Rattle.std.specs.Prelude.{All}
use Rattle.std.specs.List.{AllZip, AllByRecursion}
use Rattle.std.proofs.lemmas.List.{take_more, take_all}
use Rattle.std.proofs.lemmas.List.Elements.{recursion_from_All}
use Rattle.zk_model.specs.Mac.{Pair, AreKeysOf, fitting_key}

-- both lists go on
pub all_zip_append : {A B : Type 0} (R : A → B → Type 0) (xs more : List A) (ys others : List B)
    → AllZip R xs ys → AllZip R more others → AllZip R (xs ++ more) (ys ++ others)
all_zip_append R [] more [] others front back = back
all_zip_append R [] more (y ∷ ys) others front back = absurd front
all_zip_append R (x ∷ xs) more [] others front back = absurd front
all_zip_append R (x ∷ xs) more (y ∷ ys) others front back = (front.0, all_zip_append R xs more ys others front.1 back)

-- and are split where they did
pub all_zip_split : {A B : Type 0} (R : A → B → Type 0) (xs more : List A) (ys others : List B) → length xs ≡ length ys
    → AllZip R (xs ++ more) (ys ++ others) → AllZip R xs ys × AllZip R more others
all_zip_split R [] more [] others same all = (tt, all)
all_zip_split R [] more (y ∷ ys) others same all = absurd (omega (arith, same))
all_zip_split R (x ∷ xs) more [] others same all = absurd (omega (arith, same))
all_zip_split R (x ∷ xs) more (y ∷ ys) others same all =
    let rest = all_zip_split R xs more ys others (omega (arith, same)) all.1 in
    ((all.0, rest.0), rest.1)

-- what holds item by item holds at each place
pub all_zip_at : {A B : Type 0} (R : A → B → Type 0) (xs : List A) (ys : List B) (i : ℕ) (d : A) (e : B)
    → AllZip R xs ys → i < length xs → R (get_or xs i d) (get_or ys i e)
all_zip_at R [] [] i d e all below = absurd (omega arith)
all_zip_at R [] (y ∷ ys) i d e all below = absurd all
all_zip_at R (x ∷ xs) [] i d e all below = absurd all
all_zip_at R (x ∷ xs) (y ∷ ys) zero d e all below = all.0
all_zip_at R (x ∷ xs) (y ∷ ys) (suc i) d e all below = all_zip_at R xs ys i d e all.1 (omega arith)

-- one place more
pub all_zip_more : {A B : Type 0} (R : A → B → Type 0) (xs : List A) (ys : List B) (i : ℕ) (d : A) (e : B)
    → i < length xs → length xs ≡ length ys → AllZip R (take i xs) (take i ys) → R (get_or xs i d) (get_or ys i e)
    → AllZip R (take (i + 1) xs) (take (i + 1) ys)
all_zip_more R xs ys i d e below same far here =
    rw (take_more xs i d below, take_more ys i e (omega (arith, same)))
    (all_zip_append R (take i xs) (get_or xs i d ∷ []) (take i ys) (get_or ys i e ∷ []) far (here, tt))

-- all places
pub all_zip_whole : {A B : Type 0} (R : A → B → Type 0) (xs : List A) (ys : List B) (n : ℕ) → length xs ≡ n → length xs ≡ length ys
    → AllZip R (take n xs) (take n ys) → AllZip R xs ys
all_zip_whole R xs ys n whole same all =
    let left : take n xs ≡ xs = take_all n xs (omega (arith, whole)) in
    let right : take n ys ≡ ys = take_all n ys (omega (arith, whole, same)) in
    rw left at (rw right at all)

-- ---- lists of lists

pub zip_of_joined : {A B : Type 0} (R : A → B → Type 0) (xss : List (List A)) (yss : List (List B))
    → AllZip (AllZip R) xss yss → AllZip R (flat_map (λ l. l) xss) (flat_map (λ l. l) yss)
zip_of_joined R [] [] all = tt
zip_of_joined R [] (ys ∷ yss) all = absurd all
zip_of_joined R (xs ∷ xss) [] all = absurd all
zip_of_joined R (xs ∷ xss) (ys ∷ yss) all =
    all_zip_append R xs (flat_map (λ l. l) xss) ys (flat_map (λ l. l) yss) all.0 (zip_of_joined R xss yss all.1)

joined_by : {A B : Type 0} (R : A → B → Type 0) (n : ℕ) (xss : List (List A)) (yss : List (List B)) → length xss ≡ length yss
    → AllByRecursion (λ xs. length xs ≡ n) xss → AllByRecursion (λ ys. length ys ≡ n) yss
    → AllZip R (flat_map (λ l. l) xss) (flat_map (λ l. l) yss) → AllZip (AllZip R) xss yss
joined_by R n [] [] same left right all = tt
joined_by R n [] (ys ∷ yss) same left right all = absurd (omega (arith, same))
joined_by R n (xs ∷ xss) [] same left right all = absurd (omega (arith, same))
joined_by R n (xs ∷ xss) (ys ∷ yss) same left right all =
    let both = all_zip_split R xs (flat_map (λ l. l) xss) ys (flat_map (λ l. l) yss) (left.0 ∙ sym right.0) all in
    (both.0, joined_by R n xss yss (omega (arith, same)) left.1 right.1 both.1)

pub joined_of_zip : {A B : Type 0} (R : A → B → Type 0) (n : ℕ) (xss : List (List A)) (yss : List (List B)) → length xss ≡ length yss
    → All (λ xs. length xs ≡ n) xss → All (λ ys. length ys ≡ n) yss
    → AllZip R (flat_map (λ l. l) xss) (flat_map (λ l. l) yss) → AllZip (AllZip R) xss yss
joined_of_zip R n xss yss same left right =
    joined_by R n xss yss same (recursion_from_All (λ xs. length xs ≡ n) xss left) (recursion_from_All (λ ys. length ys ≡ n) yss right)

-- ---- keys

-- a key fits its pair
abbrev pub KeyFits : ℕ → Pair → ℕ → Type 0
KeyFits key pair k = k ≡ fitting_key key pair

pub keys_are : (key : ℕ) (pairs : List Pair) (keys : List ℕ) → AllZip (KeyFits key) pairs keys → AreKeysOf key pairs keys
keys_are key [] [] all = refl
keys_are key [] (k ∷ keys) all = absurd all
keys_are key (pair ∷ pairs) [] all = absurd all
keys_are key (pair ∷ pairs) (k ∷ keys) all = λ i. all.0 i ∷ keys_are key pairs keys all.1 i

pub each_key_fits : (key : ℕ) (pairs : List Pair) → AllZip (KeyFits key) pairs (map (fitting_key key) pairs)
each_key_fits key [] = tt
each_key_fits key (pair ∷ pairs) = (refl, each_key_fits key pairs)
