-- Trees that are read one by one.
use Rattle.std.proofs.Common.{◌≡◌, ℕ, suc, ◌+◌, ◌-◌, ◌*◌, ◌<◌, ◌≤◌, List, ◌++◌, length, take, drop, sym, ◌∙◌, ap, arith, length-append, append-nil, subst}
use Rattle.std.proofs.lemmas.List.{take_at, drop_at}
use Rattle.proof_frames.specs.Rows.{FitsFields, AreWithin, SpellElement, repeat, tree_fields}
use Rattle.proof_frames.proofs.Fields.{fits_split}

-- the levels of a tree, and its element
pub record TreeApart (height size most : ℕ) (bytes : List ℕ) : Type 0 where
  pub sized : length bytes ≡ size * height + 8
  pub levels : AreWithin (size * height) 0 most (take (length bytes - 8) bytes)
  pub element : SpellElement (drop (length bytes - 8) bytes)

pub tree_apart : (height size most : ℕ) (bytes : List ℕ) → FitsFields (tree_fields height size most) bytes → TreeApart height size most bytes
tree_apart height size most bytes fits =
    let behind = fits.4 in
    let spells : SpellElement fits.1 = subst SpellElement (sym (behind.2 ∙ ap (λ l. behind.0 ++ l) behind.4 ∙ append-nil behind.0)) behind.3 in
    let counted = fits.3.counted in
    let sized : length bytes ≡ size * height + 8 = omega (arith, ap length fits.2, length-append fits.0 fits.1, counted, ap length spells.spelled) in
    let at : length fits.0 ≡ length bytes - 8 = omega (arith, counted, sized) in
    record {
      sized = sized;
      levels = subst (AreWithin (size * height) 0 most) (sym (ap (take (length bytes - 8)) fits.2 ∙ take_at fits.0 fits.1 (length bytes - 8) at)) fits.3;
      element = subst SpellElement (sym (ap (drop (length bytes - 8)) fits.2 ∙ drop_at fits.0 fits.1 (length bytes - 8) at)) spells;
    }

-- the first of some trees, and the others
pub record FirstTree (count at height size most : ℕ) (bytes : List ℕ) : Type 0 where
  pub word : FitsFields (tree_fields height size most) (take at bytes)
  pub others : FitsFields (repeat count (tree_fields height size most)) (drop at bytes)
  pub enough : at ≤ length bytes

pub first_tree : (count at height size most n : ℕ) (bytes : List ℕ) → at ≡ size * height + 8 → n ≡ count + 1 → FitsFields (repeat n (tree_fields height size most)) bytes
    → FirstTree count at height size most bytes
first_tree count at height size most n bytes is_at more fits =
    let fields = tree_fields height size most in
    let apart = fits_split fields (repeat count fields) bytes (subst (λ (k : ℕ). FitsFields (repeat k fields) bytes) (let e : n ≡ suc count = omega arith in e) fits) in
    let sized : length apart.0 ≡ at = (tree_apart height size most apart.0 apart.3).sized ∙ sym is_at in
    record {
      word = subst (FitsFields fields) (sym (ap (take at) apart.2 ∙ take_at apart.0 apart.1 at sized)) apart.3;
      others = subst (FitsFields (repeat count fields)) (sym (ap (drop at) apart.2 ∙ drop_at apart.0 apart.1 at sized)) apart.4;
      enough = omega (arith, ap length apart.2, sized, length-append apart.0 apart.1);
    }

-- levels that are left
pub one_level : (size height done most : ℕ) (rest : List ℕ) → done < height → AreWithin (size * (height - done)) 0 most rest
    → AreWithin (size + size * (height - (done + 1))) 0 most rest
one_level size height done most rest some fits =
    let left : height - done ≡ suc (height - (done + 1)) = omega arith in
    subst (λ (n : ℕ). AreWithin n 0 most rest) (ap (λ n. size * n) left ∙ (let e : size * suc (height - (done + 1)) ≡ size + size * (height - (done + 1)) = omega arith in e)) fits
