-- XORs of the nodes at the places of a range, and of those outside it.
use Rattle.std.proofs.Common.{◌≡◌, ℕ, zero, suc, ◌+◌, ◌-◌, ◌<◌, ◌≤◌, List, [], ◌∷◌, ◌++◌, map, length, fold, refl, sym, ◌∙◌, ap, arith}
use Rattle.std.specs.List.{AllByRecursion, range_with_len}
use Rattle.std.proofs.lemmas.List.Sums.{fold-append}
use Rattle.tree_laws.proofs.Xors.{either_order, xor_length, long_range, last_of_all, nothing_added, around}
use Rattle.zk_model.specs.Bytes.{xor_bytes, xor_all}
use Rattle.ggm_tree.specs.Rows.{nothing}

-- ---- lists

-- the order of the last two does not matter
last_two : (a b c : List ℕ) → xor_bytes (xor_bytes a b) c ≡ xor_bytes (xor_bytes a c) b
last_two a b c = last_of_all (c ∷ []) a b

-- three lists may be added in either order
together : (a b c : List ℕ) → xor_bytes (xor_bytes a b) c ≡ xor_bytes a (xor_bytes b c)
together a b c = ap (λ sum. xor_bytes sum c) (either_order a b) ∙ last_two b a c ∙ either_order (xor_bytes b c) a

-- a XOR of nodes is a node
fold_long : (nodes : List (List ℕ)) (sum : List ℕ) → length sum ≡ 16 → AllByRecursion (λ node. length node ≡ 16) nodes
    → length (fold xor_bytes sum nodes) ≡ 16
fold_long [] sum first all = first
fold_long (node ∷ nodes) sum first all = fold_long nodes (xor_bytes sum node) (xor_length 16 sum node first all.0) all.1

-- nodes are added to a sum at once or one by one
pub from_sum : (nodes : List (List ℕ)) (sum : List ℕ) → length sum ≡ 16 → fold xor_bytes sum nodes ≡ xor_bytes sum (xor_all nodes)
from_sum nodes sum long =
    ap (λ start. fold xor_bytes start nodes) (sym (nothing_added sum long)) ∙ last_of_all nodes nothing sum ∙ either_order (xor_all nodes) sum

-- ---- ranges

-- the XOR of the nodes at so many places from one on
abbrev pub xor_range : (ℕ → List ℕ) → ℕ → ℕ → List ℕ
xor_range node a n = xor_all (map node (range_with_len a n))

range_append : (node : ℕ → List ℕ) (a m n : ℕ)
    → map node (range_with_len a (m + n)) ≡ map node (range_with_len a m) ++ map node (range_with_len (a + m) n)
range_append node a zero n =
    let all : 0 + n ≡ n = omega arith in let here : a ≡ a + 0 = omega arith in
    (λ i. map node (range_with_len (here i) (all i)))
range_append node a (suc m) n =
    let more : suc m + n ≡ suc (m + n) = omega arith in let next : a + 1 + m ≡ a + suc m = omega arith in
    ap (λ k. map node (range_with_len a k)) more
    ∙ (λ i. node a ∷ range_append node (a + 1) m n i)
    ∙ ap (λ k. node a ∷ (map node (range_with_len (a + 1) m) ++ map node (range_with_len k n))) next

range_is_long : (node : ℕ → List ℕ) (a n : ℕ) → ((j : ℕ) → a ≤ j → j < a + n → length (node j) ≡ 16) → length (xor_range node a n) ≡ 16
range_is_long node a n each = fold_long (map node (range_with_len a n)) nothing refl (long_range node a n each)

-- a range in two parts
range_more : (node : ℕ → List ℕ) (a m n : ℕ) → ((j : ℕ) → a ≤ j → j < a + m → length (node j) ≡ 16)
    → xor_range node a (m + n) ≡ xor_bytes (xor_range node a m) (xor_range node (a + m) n)
range_more node a m n each =
    ap xor_all (range_append node a m n) ∙ fold-append xor_bytes nothing (map node (range_with_len a m)) (map node (range_with_len (a + m) n))
    ∙ from_sum (map node (range_with_len (a + m) n)) (xor_range node a m) (range_is_long node a m each)

-- ---- outside of a range

-- the XOR of the nodes at n places but for w from one on
abbrev pub outside : (ℕ → List ℕ) → ℕ → ℕ → ℕ → List ℕ
outside node low w n = xor_bytes (xor_range node 0 low) (xor_range node (low + w) (n - (low + w)))

-- nodes are there outside of that range
abbrev pub AreLong : (ℕ → List ℕ) → ℕ → ℕ → ℕ → Type 0
AreLong node low w n = (j : ℕ) → j < n → (low ≤ j → j < low + w → ⊥) → length (node j) ≡ 16

pub outside_long : (node : ℕ → List ℕ) (low w n : ℕ) → low + w ≤ n → AreLong node low w n → length (outside node low w n) ≡ 16
outside_long node low w n inside each = xor_length 16 (xor_range node 0 low) (xor_range node (low + w) (n - (low + w)))
    (range_is_long node 0 low (λ j least below. each j (omega (arith, below, inside)) (λ l h. omega (arith, below, l))))
    (range_is_long node (low + w) (n - (low + w)) (λ j least below. each j (omega (arith, below, inside)) (λ l h. omega (arith, least, h))))

-- the front half of the range is kept out
pub outside_back : (node : ℕ → List ℕ) (low w n : ℕ) → low + (w + w) ≤ n → AreLong node low w n
    → xor_bytes (outside node low (w + w) n) (xor_range node (low + w) w) ≡ outside node low w n
outside_back node low w n inside each =
    together (xor_range node 0 low) (xor_range node (low + (w + w)) rest) (xor_range node (low + w) w)
    ∙ ap (xor_bytes (xor_range node 0 low)) (either_order (xor_range node (low + (w + w)) rest) (xor_range node (low + w) w)
    ∙ ap (λ k. xor_bytes (xor_range node (low + w) w) (xor_range node k rest)) place
    ∙ sym (range_more node (low + w) w rest (λ j least below. each j (omega (arith, below, inside)) (λ l h. omega (arith, least, h))))
    ∙ ap (xor_range node (low + w)) all)
  where
    rest : ℕ
    rest = n - (low + (w + w))

    place : low + (w + w) ≡ low + w + w
    place = omega arith

    all : w + (n - (low + (w + w))) ≡ n - (low + w)
    all = omega (arith, inside)

-- the back half of the range is kept out
pub outside_front : (node : ℕ → List ℕ) (low w n : ℕ) → low + (w + w) ≤ n → AreLong node (low + w) w n
    → xor_bytes (outside node low (w + w) n) (xor_range node low w) ≡ outside node (low + w) w n
outside_front node low w n inside each =
    last_two (xor_range node 0 low) (xor_range node (low + (w + w)) (n - (low + (w + w)))) (xor_range node low w)
    ∙ (λ i. xor_bytes (front i) (xor_range node (place i) (n - place i)))
  where
    first : 0 + low ≡ low
    first = omega arith

    place : low + (w + w) ≡ low + w + w
    place = omega arith

    front : xor_bytes (xor_range node 0 low) (xor_range node low w) ≡ xor_range node 0 (low + w)
    front = ap (λ k. xor_bytes (xor_range node 0 low) (xor_range node k w)) (sym first)
        ∙ sym (range_more node 0 low w (λ j least below. each j (omega (arith, below, inside)) (λ l h. omega (arith, below, l))))

-- one node is told apart
told_apart : (node : ℕ → List ℕ) (p n : ℕ) → p < n → AreLong node p 1 n → length (node p) ≡ 16
    → xor_range node 0 n ≡ xor_bytes (outside node p 1 n) (node p)
told_apart node p n below each here =
    ap (xor_range node 0) whole ∙ range_more node 0 p (1 + rest) (λ j least under. each j (omega (arith, under, below)) (λ l h. omega (arith, under, l)))
    ∙ ap (xor_bytes (xor_range node 0 p)) (ap (λ k. xor_range node k (1 + rest)) first
    ∙ range_more node p 1 rest (λ j least under. let is : j ≡ p = omega (arith, least, under) in ap (λ k. length (node k)) is ∙ here)
    ∙ ap (λ one. xor_bytes one (xor_range node (p + 1) rest)) (nothing_added (node p) here))
    ∙ sym (together (xor_range node 0 p) (node p) (xor_range node (p + 1) rest)) ∙ last_two (xor_range node 0 p) (node p) (xor_range node (p + 1) rest)
  where
    rest : ℕ
    rest = n - (p + 1)

    first : 0 + p ≡ p
    first = omega arith

    whole : n ≡ p + (1 + (n - (p + 1)))
    whole = omega (arith, below)

-- and found from the others
pub found_apart : (node : ℕ → List ℕ) (p n : ℕ) (sum : List ℕ) → p < n → AreLong node p 1 n → length (node p) ≡ 16
    → xor_range node 0 n ≡ sum → xor_bytes (outside node p 1 n) sum ≡ node p
found_apart node p n sum below each here is =
    ap (xor_bytes (outside node p 1 n)) (sym is ∙ told_apart node p n below each here)
    ∙ around (outside node p 1 n) (node p) (outside_long node p 1 n (omega (arith, below)) each ∙ sym here)
