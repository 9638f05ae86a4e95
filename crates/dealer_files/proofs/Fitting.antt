-- What tests of keys and of pads tell.
use Rattle.std.proofs.Common.{◌≡◌, ℕ, ◌<◌, Bool, true, false, not, ◌&&◌, List, [], ◌∷◌, length, get_or, eqb, refl, ap, sym, ◌∙◌, subst}
use Rattle.std.specs.Cmp.Lexicographic.{pointwise}
use Rattle.std.specs.List.{AllZip}
use Rattle.std.proofs.lemmas.Bool.{eqb-true, eq-eqb}
use Rattle.zk_model.specs.Field.{◌+ₚ◌, ◌*ₚ◌}
use Rattle.zk_model.specs.Mac.{Pair}
use Rattle.zk_model.specs.Bytes.{LeftRight}
use Rattle.zk_model.specs.Extension.{choice_of}
use Rattle.zk_model.specs.Files.{Transfer}
use Rattle.dealer_files.specs.Dealt.{NamesItsPad}
use Rattle.dealer_files.proofs.Zips.{all_zip_at, KeyFits}

-- ---- tests

not_false : (b : Bool) → false ≡ not b → b ≡ true
not_false false e = cc
not_false true e = refl

not_true : (b : Bool) → true ≡ not b → b ≡ true → ⊥
not_true false e f = cc
not_true true e f = cc

both_true : (a b : Bool) → (a && b) ≡ true → (a ≡ true) × (b ≡ true)
both_true false b e = cc
both_true true b e = (refl, e)

same_bytes : (xs ys : List ℕ) → pointwise eqb xs ys ≡ true → xs ≡ ys
same_bytes [] [] e = refl
same_bytes [] (y ∷ ys) e = cc
same_bytes (x ∷ xs) [] e = cc
same_bytes (x ∷ xs) (y ∷ ys) e =
    let both = both_true (eqb x y) (pointwise eqb xs ys) e in λ i. eqb-true x y both.0 i ∷ same_bytes xs ys both.1 i

own_bytes : (xs : List ℕ) → pointwise eqb xs xs ≡ true
own_bytes [] = refl
own_bytes (x ∷ xs) = (λ i. eq-eqb x x refl i && pointwise eqb xs xs) ∙ own_bytes xs

-- ---- one transfer

pub pad_fits : (transfers : List Transfer) (pads : List LeftRight) (i : ℕ) (shown transfer : Transfer) (both : LeftRight) (chosen : List ℕ)
    → shown ≡ transfer → transfer ≡ get_or transfers i transfer → both ≡ get_or pads i both → chosen ≡ choice_of shown.bit both
    → false ≡ not (pointwise eqb shown.pad chosen) → NamesItsPad (get_or transfers i transfer) (get_or pads i both)
pad_fits transfers pads i shown transfer both chosen is at other choice test =
    let fit : NamesItsPad shown both = same_bytes shown.pad chosen (not_false (pointwise eqb shown.pad chosen) test) ∙ choice in
    subst (λ (t : Transfer). NamesItsPad t (get_or pads i both)) (is ∙ at) (subst (λ (p : LeftRight). NamesItsPad shown p) other fit)

pub pad_differs : (transfers : List Transfer) (pads : List LeftRight) (i : ℕ) (shown transfer : Transfer) (both : LeftRight) (chosen : List ℕ)
    → shown ≡ transfer → transfer ≡ get_or transfers i transfer → both ≡ get_or pads i both → chosen ≡ choice_of shown.bit both
    → true ≡ not (pointwise eqb shown.pad chosen) → i < length transfers → AllZip NamesItsPad transfers pads → ⊥
pad_differs transfers pads i shown transfer both chosen is at other choice test below all =
    let fit : NamesItsPad (get_or transfers i transfer) (get_or pads i both) = all_zip_at NamesItsPad transfers pads i transfer both all below in
    let mine : NamesItsPad shown both =
    subst (λ (t : Transfer). NamesItsPad t both) (sym (is ∙ at)) (subst (λ (p : LeftRight). NamesItsPad (get_or transfers i transfer) p) (sym other) fit) in
    let same : shown.pad ≡ chosen = mine ∙ sym choice in
    not_true (pointwise eqb shown.pad chosen) test (ap (λ l. pointwise eqb shown.pad l) (sym same) ∙ own_bytes shown.pad)

-- ---- one key

pub key_fits : (key : ℕ) (pairs : List Pair) (keys : List ℕ) (i : ℕ) (shown pair : Pair) (k product sum : ℕ)
    → shown ≡ pair → pair ≡ get_or pairs i pair → k ≡ get_or keys i k → product ≡ shown.x *ₚ key → sum ≡ shown.m +ₚ product
    → false ≡ not (eqb k sum) → KeyFits key (get_or pairs i pair) (get_or keys i k)
key_fits key pairs keys i shown pair k product sum is at other multiplied added test =
    let fit : KeyFits key shown k = eqb-true k sum (not_false (eqb k sum) test) ∙ added ∙ ap (λ n. shown.m +ₚ n) multiplied in
    subst (λ (p : Pair). KeyFits key p (get_or keys i k)) (is ∙ at) (subst (λ (n : ℕ). KeyFits key shown n) other fit)
