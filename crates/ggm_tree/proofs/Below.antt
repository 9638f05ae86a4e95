-- The nodes below a row.
use Rattle.std.proofs.Common.{◌≡◌, ◌≢◌, ℕ, zero, suc, ◌-◌, ◌*◌, ◌^◌, ◌<◌, ◌≤◌, Bool, true, false, List, [], ◌∷◌, ◌++◌, map, length, drop, get_or, set, fold, refl, sym, ◌∙◌, ap, subst, arith, pow-suc, ◌+◌, inl, inr, zero-add}
use Rattle.std.proofs.lemmas.Bool.{cases_lt}
use Rattle.std.proofs.lemmas.List.{get_or_append_left, get_or-append_right, map-append}
use Rattle.std.proofs.lemmas.Nat.{pow-add}
use Rattle.zk_model.specs.Bytes.{LeftRight, xor_bytes}
use Rattle.zk_model.specs.Tree.{child_of, leaf_value}
use Rattle.ggm_tree.specs.Rows.{children_of, nodes_below, leaves_below, sums_with, level_in, AreAdded}

-- ---- numbers

-- a level more is twice as wide
pub pow_more : (height : ℕ) → height ≢ 0 → 2 ^ height ≡ 2 * 2 ^ (height - 1)
pow_more zero some = absurd (some refl)
pow_more (suc height) some =
    let next = pow-suc 2 height in let less : suc height - 1 ≡ height = omega arith in
    let same = ap (λ n. 2 ^ n) less in omega (arith, next, same)

-- ---- nodes

-- the children of two rows, one after the other
children_append : (front back : List (List ℕ)) → children_of (front ++ back) ≡ children_of front ++ children_of back
children_append [] back = refl
children_append (node ∷ front) back = λ i. child_of false node ∷ child_of true node ∷ children_append front back i

-- and the nodes below them
pub below_append : (front back : List (List ℕ)) (height : ℕ)
    → nodes_below (front ++ back) height ≡ nodes_below front height ++ nodes_below back height
unfolding nodes_below
below_append front back zero = refl
below_append front back (suc height) =
    ap (λ row. nodes_below row height) (children_append front back) ∙ below_append (children_of front) (children_of back) height

-- no level below is the row itself
pub below_none : (row : List (List ℕ)) (height : ℕ) → height ≡ 0 → nodes_below row height ≡ row
unfolding nodes_below
below_none row height none = ap (nodes_below row) none

-- and what is below it is below its children
pub below_more : (row : List (List ℕ)) (height : ℕ) → height ≢ 0 → nodes_below row height ≡ nodes_below (children_of row) (height - 1)
unfolding nodes_below
below_more row zero some = absurd (some refl)
below_more row (suc height) some = let less : suc height - 1 ≡ height = omega arith in ap (nodes_below (children_of row)) (sym less)

-- ---- leaves

pub leaves_none : (row : List (List ℕ)) (height : ℕ) (leaves : List ℕ) → height ≡ 0 → leaves ≡ map leaf_value row → leaves ≡ leaves_below row height
leaves_none row height leaves none are = are ∙ ap (map leaf_value) (sym (below_none row height none))

pub leaves_more : (row children : List (List ℕ)) (height : ℕ) (leaves : List ℕ) → height ≢ 0 → children ≡ children_of row
    → leaves ≡ leaves_below children (height - 1) → leaves ≡ leaves_below row height
leaves_more row children height leaves some is are =
    are ∙ ap (map leaf_value) (ap (λ r. nodes_below r (height - 1)) is ∙ sym (below_more row height some))

pub leaves_two : (row first last : List (List ℕ)) (height : ℕ) (front back : List ℕ) → height ≢ 0 → first ++ last ≡ children_of row
    → front ≡ leaves_below first (height - 1) → back ≡ leaves_below last (height - 1) → front ++ back ≡ leaves_below row height
leaves_two row first last height front back some is left right =
    (λ i. left i ++ right i) ∙ sym (map-append leaf_value (nodes_below first (height - 1)) (nodes_below last (height - 1)))
    ∙ ap (map leaf_value) (sym (below_append first last (height - 1)) ∙ ap (λ r. nodes_below r (height - 1)) is ∙ sym (below_more row height some))

-- ---- sums

-- two rows are added one after the other
fold_on : (child : List ℕ → List ℕ) (front back : List (List ℕ)) (sum : List ℕ)
    → fold xor_bytes (fold xor_bytes sum (map child front)) (map child back) ≡ fold xor_bytes sum (map child (front ++ back))
fold_on child [] back sum = refl
fold_on child (node ∷ front) back sum = fold_on child front back (xor_bytes sum (child node))

sums_append : (sums : LeftRight) (front back : List (List ℕ)) → sums_with (sums_with sums front) back ≡ sums_with sums (front ++ back)
sums_append sums front back = λ i. record {
  left = fold_on (child_of false) front back sums.left i;
  right = fold_on (child_of true) front back sums.right i;
}

-- what is added below two rows is what is added below both
pub added_two : (row first last : List (List ℕ)) (height : ℕ) (before between after : List LeftRight) → first ++ last ≡ row
    → AreAdded first height before between → AreAdded last height between after → AreAdded row height before after
added_two row first last height before between after is front back = record {
  added = λ level below. back.added level below ∙ ap (λ sums. sums_with sums (nodes_below last level)) (front.added level below)
      ∙ sums_append (level_in before level) (nodes_below first level) (nodes_below last level)
      ∙ ap (sums_with (level_in before level)) (sym (below_append first last level) ∙ ap (λ r. nodes_below r level) is);
  kept = λ level below. back.kept level below ∙ front.kept level below;
}

-- the first level, and what is added below it
added_first : (row : List (List ℕ)) (height : ℕ) (first here : LeftRight) (back after : List LeftRight) → here ≡ sums_with first row
    → AreAdded (children_of row) (height - 1) back after → height ≢ 0 → AreAdded row height (first ∷ back) (here ∷ after)
unfolding nodes_below
added_first row height first here back after is so_far some = record { added = at; kept = past }
  where
    at : (level : ℕ) → level < height → level_in (here ∷ after) level ≡ sums_with (level_in (first ∷ back) level) (nodes_below row level)
    at zero below = is
    at (suc level) below = so_far.added level (omega (arith, below))

    past : (level : ℕ) → height ≤ level → level_in (here ∷ after) level ≡ level_in (first ∷ back) level
    past zero below = absurd (some (omega (arith, below)))
    past (suc level) below = so_far.kept level (omega (arith, below))

-- the same, of a list of which the first item is written apart
pub added_more : (row children : List (List ℕ)) (height : ℕ) (sums front back after : List LeftRight) (here none : LeftRight)
    → sums ≡ front ++ back → length front ≡ 1 → here ≡ sums_with (get_or front 0 none) row → children ≡ children_of row → height ≢ 0
    → AreAdded children (height - 1) back after → AreAdded row height sums (set front 0 here ++ after)
added_more row children height sums [] back after here none whole one is same some so_far = absurd (omega (arith, one))
added_more row children height sums (first ∷ second ∷ front) back after here none whole one is same some so_far = absurd (omega (arith, one))
added_more row children height sums (first ∷ []) back after here none whole one is same some so_far =
    subst (λ (list : List LeftRight). AreAdded row height list (here ∷ after)) (sym whole)
    (added_first row height first here back after is
    (subst (λ (nodes : List (List ℕ)). AreAdded nodes (height - 1) back after) same so_far) some)

-- sums with one more on each side
abbrev pub with_pair : LeftRight → List ℕ → List ℕ → LeftRight
with_pair sums left right = record { left = xor_bytes sums.left left; right = xor_bytes sums.right right }

-- the sums with the children of one node
pub pair_added : (node left right : List ℕ) (sums here : LeftRight) → left ≡ child_of false node → right ≡ child_of true node
    → here ≡ with_pair sums left right → here ≡ sums_with sums (node ∷ [])
pair_added node left right sums here one other is = is ∙ (λ i. with_pair sums (one i) (other i))

-- ---- several levels at once

-- what is below nodes that are so far below a row
pub below_further : (row : List (List ℕ)) (k height : ℕ) → nodes_below (nodes_below row k) height ≡ nodes_below row (k + height)
unfolding nodes_below
below_further row zero height = ap (nodes_below row) (sym (zero-add height))
below_further row (suc k) height =
    below_further (children_of row) k height ∙ let same : suc (k + height) ≡ suc k + height = omega arith in ap (nodes_below row) same

pub leaves_further : (row nodes : List (List ℕ)) (k height : ℕ) (leaves : List ℕ) → k ≤ height → nodes ≡ nodes_below row k
    → leaves ≡ leaves_below nodes (height - k) → leaves ≡ leaves_below row height
leaves_further row nodes k height leaves few is are =
    let same : k + (height - k) ≡ height = omega arith in
    are ∙ ap (λ r. leaves_below r (height - k)) is ∙ ap (map leaf_value) (below_further row k (height - k) ∙ ap (nodes_below row) same)

-- what is added to the first levels, and to those below them
pub added_further : (row nodes : List (List ℕ)) (k height : ℕ) (sums front back top under : List LeftRight) → k ≤ height
    → sums ≡ front ++ back → length front ≡ k → length top ≡ k → nodes ≡ nodes_below row k
    → AreAdded row k front top → AreAdded nodes (height - k) back under → AreAdded row height sums (top ++ under)
added_further row nodes k height sums front back top under few whole long same is first later = record { added = at; kept = past }
  where
    none : LeftRight
    none = record { left = []; right = [] }

    early : (level : ℕ) → level < k → (level_in sums level ≡ level_in front level) × (level_in (top ++ under) level ≡ level_in top level)
    early level less = (
      ap (λ l. level_in l level) whole ∙ get_or_append_left front back none level (omega (arith, less)),
      get_or_append_left top under none level (omega (arith, less)),
    )

    late : (level : ℕ) → k ≤ level → (level_in sums level ≡ level_in back (level - k)) × (level_in (top ++ under) level ≡ level_in under (level - k))
    late level more = (
      ap (λ l. level_in l level) whole ∙ get_or-append_right front back k level none long more,
      get_or-append_right top under k level none same more,
    )

    at : (level : ℕ) → level < height → level_in (top ++ under) level ≡ sums_with (level_in sums level) (nodes_below row level)
    at level below = elim (cases_lt level k) [
      | inl less ↦ (early level less).1 ∙ first.added level less ∙ ap (λ b. sums_with b (nodes_below row level)) (sym (early level less).0)
      | inr more ↦
          let again : k + (level - k) ≡ level = omega (arith, more) in
          (late level more).1 ∙ later.added (level - k) (omega (arith, below, more))
          ∙ (λ i. sums_with (sym (late level more).0 i)
          ((ap (λ r. nodes_below r (level - k)) is ∙ below_further row k (level - k) ∙ ap (nodes_below row) again) i))
    ]

    past : (level : ℕ) → height ≤ level → level_in (top ++ under) level ≡ level_in sums level
    past level above =
        let more : k ≤ level = omega (arith, above, few) in
        (late level more).1 ∙ later.kept (level - k) (omega (arith, above)) ∙ sym (late level more).0

-- three levels, one after another
pub added_three : (row two four : List (List ℕ)) (sums : List LeftRight) (first second third none other last : LeftRight) → length sums ≡ 3
    → two ≡ children_of row → four ≡ children_of two → first ≡ sums_with (get_or sums 0 none) row
    → second ≡ sums_with (get_or (set sums 0 first) 1 other) two
    → third ≡ sums_with (get_or (set (set sums 0 first) 1 second) 2 last) four
    → AreAdded row 3 sums (set (set (set sums 0 first) 1 second) 2 third)
unfolding nodes_below
added_three row two four (a ∷ b ∷ c ∷ []) first second third none other last long is next one then_one at_last = record { added = at; kept = past }
  where
    at : (level : ℕ) → level < 3 → level_in (first ∷ second ∷ third ∷ []) level ≡ sums_with (level_in (a ∷ b ∷ c ∷ []) level) (nodes_below row level)
    at zero below = one
    at (suc zero) below = then_one ∙ ap (sums_with b) is
    at (suc (suc zero)) below = at_last ∙ ap (sums_with c) (next ∙ ap children_of is)
    at (suc (suc (suc level))) below = absurd (omega (arith, below))

    past : (level : ℕ) → 3 ≤ level → level_in (first ∷ second ∷ third ∷ []) level ≡ level_in (a ∷ b ∷ c ∷ []) level
    past (suc (suc (suc level))) above = refl
    past zero above = absurd (omega (arith, above))
    past (suc zero) above = absurd (omega (arith, above))
    past (suc (suc zero)) above = absurd (omega (arith, above))
added_three row two four [] first second third none other last long is next one then_one at_last = absurd (omega (arith, long))
added_three row two four (a ∷ []) first second third none other last long is next one then_one at_last = absurd (omega (arith, long))
added_three row two four (a ∷ b ∷ []) first second third none other last long is next one then_one at_last = absurd (omega (arith, long))
added_three row two four (a ∷ b ∷ c ∷ d ∷ sums) first second third none other last long is next one then_one at_last = absurd (omega (arith, long))

-- eight times as wide
pub pow_eight : (height : ℕ) → 3 ≤ height → 2 ^ height ≡ 8 * 2 ^ (height - 3)
pow_eight height more =
    let split : height ≡ 3 + (height - 3) = omega (arith, more) in
    ap (λ n. 2 ^ n) split ∙ pow-add 2 3 (height - 3)

-- ---- eight nodes

-- a list of eight nodes
pub eight_are : (nodes : List (List ℕ)) → length nodes ≡ 8
    → nodes ≡ get_or nodes 0 [] ∷ get_or nodes 1 [] ∷ get_or nodes 2 [] ∷ get_or nodes 3 []
    ∷ get_or nodes 4 [] ∷ get_or nodes 5 [] ∷ get_or nodes 6 [] ∷ get_or nodes 7 [] ∷ []
eight_are [] eight = absurd (omega (arith, eight))
eight_are (a ∷ []) eight = absurd (omega (arith, eight))
eight_are (a ∷ b ∷ []) eight = absurd (omega (arith, eight))
eight_are (a ∷ b ∷ c ∷ []) eight = absurd (omega (arith, eight))
eight_are (a ∷ b ∷ c ∷ d ∷ []) eight = absurd (omega (arith, eight))
eight_are (a ∷ b ∷ c ∷ d ∷ e ∷ []) eight = absurd (omega (arith, eight))
eight_are (a ∷ b ∷ c ∷ d ∷ e ∷ f ∷ []) eight = absurd (omega (arith, eight))
eight_are (a ∷ b ∷ c ∷ d ∷ e ∷ f ∷ g ∷ []) eight = absurd (omega (arith, eight))
eight_are (a ∷ b ∷ c ∷ d ∷ e ∷ f ∷ g ∷ h ∷ []) eight = refl
eight_are (a ∷ b ∷ c ∷ d ∷ e ∷ f ∷ g ∷ h ∷ i ∷ nodes) eight = absurd (omega (arith, eight))

-- the children of eight nodes, one by one
pub eight_children : (nodes : List (List ℕ)) (child : ℕ → Bool → List ℕ) → length nodes ≡ 8
    → ((j : ℕ) (side : Bool) → j < 8 → child j side ≡ child_of side (get_or nodes j []))
    → child 0 false ∷ child 0 true ∷ child 1 false ∷ child 1 true ∷ child 2 false ∷ child 2 true ∷ child 3 false ∷ child 3 true
    ∷ child 4 false ∷ child 4 true ∷ child 5 false ∷ child 5 true ∷ child 6 false ∷ child 6 true ∷ child 7 false ∷ child 7 true ∷ []
    ≡ children_of nodes
eight_children nodes child eight each =
    (λ i. each 0 false (omega arith) i ∷ each 0 true (omega arith) i ∷ each 1 false (omega arith) i ∷ each 1 true (omega arith) i
    ∷ each 2 false (omega arith) i ∷ each 2 true (omega arith) i ∷ each 3 false (omega arith) i ∷ each 3 true (omega arith) i
    ∷ each 4 false (omega arith) i ∷ each 4 true (omega arith) i ∷ each 5 false (omega arith) i ∷ each 5 true (omega arith) i
    ∷ each 6 false (omega arith) i ∷ each 6 true (omega arith) i ∷ each 7 false (omega arith) i ∷ each 7 true (omega arith) i ∷ [])
    ∙ ap children_of (sym (eight_are nodes eight))

-- with the first four pairs of a list, added one after the other
abbrev pub with_four : LeftRight → List (List ℕ) → LeftRight
with_four sums list =
    with_pair (with_pair (with_pair (with_pair sums (get_or list 0 []) (get_or list 1 [])) (get_or list 2 []) (get_or list 3 []))
    (get_or list 4 []) (get_or list 5 [])) (get_or list 6 []) (get_or list 7 [])

-- the sums with the children of eight nodes, which are two rows of eight, added one after the other
pub rows_added : (nodes first last : List (List ℕ)) (sums : LeftRight) → length nodes ≡ 8 → length first ≡ 8 → first ++ last ≡ children_of nodes
    → with_four (with_four sums first) last ≡ sums_with sums nodes
rows_added nodes first last sums eight row are =
    ap (λ list. with_four (with_four sums list) last) (eight_are first row)
    ∙ ap added (sym (ap (λ list. list ++ last) (eight_are first row)) ∙ are ∙ ap children_of (eight_are nodes eight))
    ∙ ap (sums_with sums) (sym (eight_are nodes eight))
  where
    added : List (List ℕ) → LeftRight
    added list = with_four (with_four sums list) (drop 8 list)
