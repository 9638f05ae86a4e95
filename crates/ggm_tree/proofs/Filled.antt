-- Leaves that are written below a sibling.
use Rattle.std.proofs.Common.{◌≡◌, Bool, true, false, ℕ, suc, zero, ◌+◌, ◌-◌, ◌*◌, ◌/◌, ◌%◌, ◌^◌, ◌<◌, ◌≤◌, ◌⊎◌, inl, inr, nat_eq, if◌then◌else◌, List, [], ◌∷◌, ◌++◌, length, get_or, take, drop, refl, subst, sym, ◌∙◌, ap, arith}
use Rattle.std.specs.Int.{from_bool}
use Rattle.std.proofs.lemmas.List.{get_or_append_left, get_or-append_right, get_or-append-add, get_or-take, get_or-drop, get_or_default, drop_at, length-take-le, length-drop}
use borrow.Rule.Slice.PartMut.{put_mid}
use Rattle.zk_model.specs.Bytes.{LeftRight, xor_bytes}
use Rattle.zk_model.specs.Extension.{choice_of}
use Rattle.ggm_tree.specs.Rows.{leaves_below, level_in, AreAdded}
use Rattle.ggm_tree.specs.Found.{sibling_of, sibling_node, AreLeavesFilled}

-- the block that a bit names
pub choice_is : (bit : Bool) (both : LeftRight) → choice_of bit both ≡ (if bit then both.right else both.left)
choice_is false both = refl
choice_is true both = refl

-- the side away from a remainder by 2, as a digit
away_digit : (n : ℕ) → n < 2 → from_bool (nat_eq n 0) ≡ 1 - n
away_digit zero below = refl
away_digit (suc zero) below = refl
away_digit (suc (suc n)) below = absurd (omega (arith, below))

-- a part of a list, written
part_written : (start k : ℕ) (old new : List ℕ) → start ≤ length old → (j : ℕ) → j < length new
    → get_or (put_mid start k old new) (start + j) 0 ≡ get_or new j 0
part_written start k old new inside j below =
    ap (λ n. get_or (put_mid start k old new) (n + j) 0) (sym long)
    ∙ get_or-append-add (take start old) (new ++ drop k (drop start old)) j 0 ∙ get_or_append_left new (drop k (drop start old)) 0 j below
  where
    long : length (take start old) ≡ start
    long = length-take-le start old inside

-- and all others are kept
part_kept : (start k : ℕ) (old new : List ℕ) → start ≤ length old → length new ≡ k → (j : ℕ) → (j < start) ⊎ (start + k ≤ j)
    → get_or (put_mid start k old new) j 0 ≡ get_or old j 0
part_kept start k old new inside same j (inl below) =
    get_or_append_left (take start old) (new ++ drop k (drop start old)) 0 j (omega (arith, below, length-take-le start old inside))
    ∙ get_or-take start old j 0 below
part_kept start k old new inside same j (inr past) =
    get_or-append_right (take start old) (new ++ drop k (drop start old)) start j 0 (length-take-le start old inside) (omega (arith, past))
    ∙ get_or-append_right new (drop k (drop start old)) k (j - start) 0 same (omega (arith, past))
    ∙ get_or-drop k (drop start old) (j - start - k) 0 ∙ get_or-drop start old (k + (j - start - k)) 0
    ∙ ap (λ n. get_or old n 0) back
  where
    back : start + (k + (j - start - k)) ≡ j
    back = omega (arith, past)

-- what a write to a part of the leaves, and to the sums past a level, says of both
pub filled_is : (level height place digit count start k : ℕ) (sum node : List ℕ) (held above below new : List LeftRight) (none : LeftRight)
    (leaves written : List ℕ) → held ≡ above ++ below → length above ≡ level + 1
    → node ≡ xor_bytes (if nat_eq (place % 2) 0 then (get_or above level none).right else (get_or above level none).left) sum
    → digit ≡ from_bool (nat_eq (place % 2) 0) → count ≡ 2 ^ height → start ≡ (place / 2 * 2 + digit) * count → k ≡ start + count - start
    → sibling_of place * 2 ^ height + 2 ^ height ≤ length leaves
    → length written ≡ length (take k (drop start leaves)) → AreAdded (node ∷ []) height below new → written ≡ leaves_below (node ∷ []) height
    → AreLeavesFilled level height place sum held (above ++ new) leaves (put_mid start k leaves written)
filled_is level height place digit count start k sum node held above below new none leaves written split front is side wide at most room long added are =
    subst (λ (n : ℕ). AreLeavesFilled level height place sum held (above ++ new) leaves (put_mid n k leaves written)) (sym there)
    (subst (λ (n : ℕ). AreLeavesFilled level height place sum held (above ++ new) leaves (put_mid (sibling_of place * 2 ^ height) n leaves written))
    (sym few) (record {
      added = subst (λ (list : List LeftRight). AreAdded (here ∷ []) height list (drop (level + 1) (above ++ new)))
          (sym (drop_at above below (level + 1) front) ∙ ap (drop (level + 1)) (sym split))
          (subst (λ (list : List LeftRight). AreAdded (here ∷ []) height below list) (sym (drop_at above new (level + 1) front))
          (subst (λ (n : List ℕ). AreAdded (n ∷ []) height below new) same added));
      written = λ j inside. part_written (sibling_of place * 2 ^ height) (2 ^ height) leaves written (omega (arith, room)) j
          (omega (arith, inside, whole)) ∙ ap (λ list. get_or list j 0) (are ∙ ap (λ n. leaves_below (n ∷ []) height) same);
      kept = part_kept (sibling_of place * 2 ^ height) (2 ^ height) leaves written (omega (arith, room)) whole;
    }))
  where
    here : List ℕ
    here = sibling_node place sum (level_in held level)

    read : get_or above level none ≡ level_in held level
    read = get_or_default above level none (record { left = []; right = [] }) (omega (arith, front))
        ∙ sym (get_or_append_left above below (record { left = []; right = [] }) level (omega (arith, front))) ∙ ap (λ list. level_in list level) (sym split)

    same : node ≡ here
    same = is ∙ ap (λ (both : LeftRight). xor_bytes (if nat_eq (place % 2) 0 then both.right else both.left) sum) read

    place_is : place / 2 * 2 + digit ≡ sibling_of place
    place_is = omega (arith, side ∙ away_digit (place % 2) (omega arith))

    there : start ≡ sibling_of place * 2 ^ height
    there = at ∙ (λ i. place_is i * wide i)

    few : k ≡ 2 ^ height
    few = omega (arith, most, wide)

    whole : length written ≡ 2 ^ height
    whole = long ∙ length-take-le k (drop start leaves) (omega (arith, few, there, room, length-drop start leaves)) ∙ few
