-- Places of a tree's levels, and the ancestors of a leaf.
use Rattle.std.proofs.Common.{◌≡◌, ◌≢◌, ℕ, zero, suc, ◌+◌, ◌-◌, ◌*◌, ◌/◌, ◌%◌, ◌^◌, ◌<◌, ◌≤◌, ◌⊎◌, inl, inr, Bool, true, false, refl, sym, ◌∙◌, ap, subst, arith, add-one, pow-suc, pow-add}
use Rattle.std.proofs.Math.Nat.{div-div-eq-div-mul}
use Rattle.std.proofs.lemmas.Nat.{div_below, pow_pos}
use Rattle.zk_model.specs.Bits.{from_bit}
use Rattle.zk_model.specs.Tree.{ancestor}

-- two numbers are the same or not
pub same_or_not : (a b : ℕ) → (a ≡ b) ⊎ (a ≢ b)
same_or_not zero zero = inl refl
same_or_not zero (suc b) = inr (λ e. omega (arith, e))
same_or_not (suc a) zero = inr (λ e. omega (arith, e))
same_or_not (suc a) (suc b) = one_more (same_or_not a b)
  where
    one_more : (a ≡ b) ⊎ (a ≢ b) → (suc a ≡ suc b) ⊎ (suc a ≢ suc b)
    one_more (inl e) = inl (ap suc e)
    one_more (inr e) = inr (λ same. e (omega (arith, same)))

-- the ancestor in a level is above that in the next
pub parent : (h alpha level : ℕ) → level < h → ancestor h alpha (level + 1) / 2 ≡ ancestor h alpha level
parent h alpha level below =
    div-div-eq-div-mul alpha (2 ^ (h - (level + 1))) 2
    ∙ ap (λ n. alpha / n) (sym (pow-suc 2 (h - (level + 1))))
    ∙ ap (λ n. alpha / 2 ^ n) next
  where
    next : suc (h - (level + 1)) ≡ h - level
    next = omega (arith, below)

-- and it is a place of its level
pub ancestor_below : (h alpha level : ℕ) → alpha < 2 ^ h → level ≤ h → ancestor h alpha level < 2 ^ level
ancestor_below h alpha level inside below =
    div_below alpha (2 ^ (h - level)) (2 ^ level) (pow_pos (h - level)) (subst (λ (n : ℕ). alpha < n) whole inside)
  where
    split : h ≡ level + (h - level)
    split = omega (arith, below)

    whole : 2 ^ h ≡ 2 ^ level * 2 ^ (h - level)
    whole = ap (λ n. 2 ^ n) split ∙ pow-add 2 level (h - level)

-- a remainder by 2 is a side
pub side_of : (n : ℕ) → n < 2 → (side : Bool) × (from_bit side ≡ n)
side_of zero below = (false, refl)
side_of (suc zero) below = (true, refl)
side_of (suc (suc n)) below = absurd (omega (arith, below))

-- so a place is that of a child of its half
pub child_place : (j : ℕ) → (side : Bool) × (2 * (j / 2) + from_bit side ≡ j)
child_place j = let side = side_of (j % 2) (omega arith) in (side.0, omega (arith, side.1))

-- the other child of the same parent
pub other_child : (j q : ℕ) → j ≢ q → j / 2 ≡ q / 2 → 2 * (q / 2) + (1 - q % 2) ≡ j
other_child j q not same = omega (arith, not, same)

-- a child is on one side
pub halved : (j n : ℕ) → (2 * j + (1 - n)) / 2 ≡ j
halved j n = omega arith

-- a child on the side away from a place is not at that place
pub other_side : (k q : ℕ) → 2 * k + (1 - q % 2) ≢ q
other_side k q same = omega (arith, same)

-- ---- places

-- twice a place below half, and one, is below the whole
pub child_below : (level j side : ℕ) → j < 2 ^ level → side ≤ 1 → 2 * j + side < 2 ^ (level + 1)
child_below level j side below one = omega (arith, pow-suc 2 level, ap (λ n. 2 ^ n) (add-one level), below, one)

-- the parent of a place below the whole is below half
pub parent_below : (level j : ℕ) → j < 2 ^ (level + 1) → j / 2 < 2 ^ level
parent_below level j below = omega (arith, pow-suc 2 level, ap (λ n. 2 ^ n) (add-one level), below)
