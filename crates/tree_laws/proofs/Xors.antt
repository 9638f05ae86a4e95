-- The XOR of lists of bytes.
use Rattle.std.proofs.Common.{◌≡◌, ℕ, zero, suc, ◌+◌, ◌<◌, ◌≤◌, List, [], ◌∷◌, map, drop, length, slice_index, replicate, refl, sym, ◌∙◌, ap, arith}
use Rattle.std.specs.Prelude.{zip, fold, bit_xor}
use Rattle.std.specs.List.{AllByRecursion, range_with_len}
use Rattle.std.specs.Int.Bits.{xor_self, xor_zero_l, xor_zero_r, xor_assoc}
use Rattle.std.proofs.lemmas.List.{length-map}
use Rattle.std.proofs.lemmas.List.Elements.{recursion_from_All, All-from_recursion}
use Rattle.std.proofs.lemmas.Nat.{xor_comm, xor_of_8}
use Rattle.std.proofs.lemmas.Slice.Zip.{length-zip}
use Rattle.zk_model.specs.Bytes.{AreBytes, xor_bytes}

-- what was added twice is gone
pub twice : (x z : ℕ) → bit_xor (bit_xor x z) z ≡ x
twice x z = xor_assoc x z z ∙ ap (bit_xor x) (xor_self z) ∙ xor_zero_r x

-- equal sums with the same bytes are of equal bytes
pub cancel_last : (a b c : List ℕ) → length a ≡ length c → length b ≡ length c → xor_bytes a c ≡ xor_bytes b c → a ≡ b
cancel_last [] [] c left right same = refl
cancel_last [] (y ∷ b) [] left right same = absurd (omega (arith, right))
cancel_last [] (y ∷ b) (z ∷ c) left right same = absurd (omega (arith, left))
cancel_last (x ∷ a) b [] left right same = absurd (omega (arith, left))
cancel_last (x ∷ a) [] (z ∷ c) left right same = absurd (omega (arith, right))
cancel_last (x ∷ a) (y ∷ b) (z ∷ c) left right same =
    let first : bit_xor x z ≡ bit_xor y z = ap (λ l. slice_index l 0) same in
    let one : x ≡ y = sym (twice x z) ∙ ap (λ n. bit_xor n z) first ∙ twice y z in
    let rest : a ≡ b = cancel_last a b c (omega (arith, left)) (omega (arith, right)) (ap (drop 1) same) in
    λ i. one i ∷ rest i

-- the order of two does not matter
pub either_order : (a b : List ℕ) → xor_bytes a b ≡ xor_bytes b a
either_order [] [] = refl
either_order [] (y ∷ b) = refl
either_order (x ∷ a) [] = refl
either_order (x ∷ a) (y ∷ b) = λ i. xor_comm x y i ∷ either_order a b i

-- the sum is as long as both
pub xor_length : (n : ℕ) (a b : List ℕ) → length a ≡ n → length b ≡ n → length (xor_bytes a b) ≡ n
xor_length n a b left right = length-map (zip a b) (λ q. bit_xor q.0 q.1) ∙ length-zip a b ∙ omega (arith, left, right)

-- sums that go on with the same nodes and end the same began the same
pub same_start : (nodes : List (List ℕ)) (a b : List ℕ) → AllByRecursion (λ node. length node ≡ 16) nodes → length a ≡ 16 → length b ≡ 16
    → fold xor_bytes a nodes ≡ fold xor_bytes b nodes → a ≡ b
same_start [] a b long left right same = same
same_start (node ∷ nodes) a b long left right same =
    cancel_last a b node (left ∙ sym long.0) (right ∙ sym long.0)
    (same_start nodes (xor_bytes a node) (xor_bytes b node) long.1 (xor_length 16 a node left long.0) (xor_length 16 b node right long.0) same)

-- what is the same at every place of a range
pub same_range : (f g : ℕ → List ℕ) (a n : ℕ) → ((j : ℕ) → a ≤ j → j < a + n → f j ≡ g j)
    → map f (range_with_len a n) ≡ map g (range_with_len a n)
same_range f g a zero same = refl
same_range f g a (suc n) same =
    λ i. same a (omega arith) (omega arith) i ∷ same_range f g (a + 1) n (λ j low high. same j (omega (arith, low)) (omega (arith, high))) i

-- nodes of 16 bytes at every place of a range
pub long_range : (f : ℕ → List ℕ) (a n : ℕ) → ((j : ℕ) → a ≤ j → j < a + n → length (f j) ≡ 16)
    → AllByRecursion (λ node. length node ≡ 16) (map f (range_with_len a n))
long_range f a zero long = tt
long_range f a (suc n) long =
    (long a (omega arith) (omega arith), long_range f (a + 1) n (λ j low high. long j (omega (arith, low)) (omega (arith, high))))

-- ---- one sum of two lists

-- two numbers may be added in either order
either_last : (x y z : ℕ) → bit_xor (bit_xor x y) z ≡ bit_xor (bit_xor x z) y
either_last x y z = xor_assoc x y z ∙ ap (bit_xor x) (xor_comm y z) ∙ sym (xor_assoc x z y)

-- and so may two lists
last_two : (a b c : List ℕ) → xor_bytes (xor_bytes a b) c ≡ xor_bytes (xor_bytes a c) b
last_two [] b c = refl
last_two (x ∷ a) [] [] = refl
last_two (x ∷ a) [] (z ∷ c) = refl
last_two (x ∷ a) (y ∷ b) [] = refl
last_two (x ∷ a) (y ∷ b) (z ∷ c) = λ i. either_last x y z i ∷ last_two a b c i

-- what was added first may be added last
pub last_of_all : (nodes : List (List ℕ)) (sum x : List ℕ) → fold xor_bytes (xor_bytes sum x) nodes ≡ xor_bytes (fold xor_bytes sum nodes) x
last_of_all [] sum x = refl
last_of_all (node ∷ nodes) sum x =
    ap (λ l. fold xor_bytes l nodes) (last_two sum x node) ∙ last_of_all nodes (xor_bytes sum node) x

-- nothing is added
pub add_nothing : (a : List ℕ) → xor_bytes a (replicate (length a) 0) ≡ a
add_nothing [] = refl
add_nothing (x ∷ a) = λ i. xor_zero_r x i ∷ add_nothing a i

-- and to nothing
pub nothing_added : (a : List ℕ) → length a ≡ 16 → xor_bytes (replicate 16 0) a ≡ a
nothing_added a long = either_order (replicate 16 0) a ∙ ap (λ n. xor_bytes a (replicate n 0)) (sym long) ∙ add_nothing a

-- what was added before and after is gone
pub around : (a b : List ℕ) → length a ≡ length b → xor_bytes a (xor_bytes a b) ≡ b
around [] [] same = refl
around [] (y ∷ b) same = absurd (omega (arith, same))
around (x ∷ a) [] same = absurd (omega (arith, same))
around (x ∷ a) (y ∷ b) same =
    λ i. (sym (xor_assoc x x y) ∙ ap (λ n. bit_xor n y) (xor_self x) ∙ xor_zero_l y) i ∷ around a b (omega (arith, same)) i

-- ---- bytes

-- the sum of bytes is of bytes
xor_octets : (a b : List ℕ) → AllByRecursion (λ byte. byte < 256) a → AllByRecursion (λ byte. byte < 256) b
    → AllByRecursion (λ byte. byte < 256) (xor_bytes a b)
xor_octets [] b left right = tt
xor_octets (x ∷ a) [] left right = tt
xor_octets (x ∷ a) (y ∷ b) left right = (xor_of_8 x y left.0 right.0, xor_octets a b left.1 right.1)

-- and as many
pub xor_are_bytes : (n : ℕ) (a b : List ℕ) → AreBytes n a → AreBytes n b → AreBytes n (xor_bytes a b)
xor_are_bytes n a b left right = (
  xor_length n a b left.0 right.0,
  All-from_recursion (λ byte. byte < 256) (xor_bytes a b)
      (xor_octets a b (recursion_from_All (λ byte. byte < 256) a left.1) (recursion_from_All (λ byte. byte < 256) b right.1)),
)

-- and so is the sum of many
pub sum_are_bytes : (n : ℕ) (nodes : List (List ℕ)) (sum : List ℕ) → AreBytes n sum → AllByRecursion (AreBytes n) nodes
    → AreBytes n (fold xor_bytes sum nodes)
sum_are_bytes n [] sum first all = first
sum_are_bytes n (node ∷ nodes) sum first all = sum_are_bytes n nodes (xor_bytes sum node) (xor_are_bytes n sum node first all.0) all.1

-- what holds of each item of a range
pub range_all : {A : Type 0} (P : A → Type 0) (f : ℕ → A) (a n : ℕ) → ((j : ℕ) → a ≤ j → j < a + n → P (f j))
    → AllByRecursion P (map f (range_with_len a n))
range_all P f a zero each = tt
range_all P f a (suc n) each =
    (each a (omega arith) (omega arith), range_all P f (a + 1) n (λ j low high. each j (omega (arith, low)) (omega (arith, high))))
