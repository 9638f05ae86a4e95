-- Bytes that determine the values that they spell, and where the bytes after them begin.
use Rattle.std.proofs.Common.{◌≡◌, ℕ, ◌^◌, ◌<◌, List, [], ◌∷◌, ◌++◌, flat_map, length, take, drop, get_or, refl, sym, ◌∙◌, ap, arith, append_assoc}
use Rattle.std.specs.Prelude.{All}
use Rattle.std.specs.Int.{w32, w64, from_le_bytes, to_le_bytes}
use Rattle.std.specs.List.{AllByRecursion}
use Rattle.std.proofs.lemmas.Nat.{from_le_bytes-to_le_bytes_8, from_le_bytes-to_le_bytes_4}
use Rattle.std.proofs.lemmas.List.Elements.{recursion_from_All}
use Rattle.zk_model.specs.declared.FrameKind.{FrameKind}
use Rattle.zk_model.specs.Field.{IsElement}
use Rattle.zk_model.specs.Bytes.{AreBytes, element_bytes}
use Rattle.zk_model.specs.Transcript.{frame_bytes}

-- the bytes of a value that meets the condition tell the value, and where the bytes after it begin
abbrev pub IsCode : {A : Type 0} → (A → List ℕ) → (A → Type 0) → Type 0
IsCode {A} f P = (x y : A) (ps qs : List ℕ) → P x → P y → f x ++ ps ≡ f y ++ qs → (x ≡ y) × (ps ≡ qs)

-- the first two of three lists, put apart
pub regroup : (a b c a' b' c' : List ℕ) → (a ++ b) ++ c ≡ (a' ++ b') ++ c' → a ++ (b ++ c) ≡ a' ++ (b' ++ c')
regroup a b c a' b' c' same = sym (append_assoc a b c) ∙ same ∙ append_assoc a' b' c'

-- fronts of one length are the same, and so is what comes after them
pub same_front : (xs ys ps qs : List ℕ) → length xs ≡ length ys → xs ++ ps ≡ ys ++ qs → (xs ≡ ys) × (ps ≡ qs)
same_front [] [] ps qs sized same = (refl, same)
same_front [] (y ∷ ys) ps qs sized same = absurd (omega arith)
same_front (x ∷ xs) [] ps qs sized same = absurd (omega arith)
same_front (x ∷ xs) (y ∷ ys) ps qs sized same =
    let first : x ≡ y = ap (λ l. get_or l 0 0) same in
    let rest : (xs ≡ ys) × (ps ≡ qs) = same_front xs ys ps qs (omega arith) (ap (drop 1) same) in
    (λ i. first i ∷ rest.0 i, rest.1)

-- lists of n bytes
pub bytes_code : (n : ℕ) → IsCode (λ bytes. bytes) (AreBytes n)
bytes_code n x y ps qs left right same = same_front x y ps qs (left.0 ∙ sym right.0) same

-- numbers in 8 bytes
pub word64_code : IsCode (to_le_bytes w64) (λ n. n < 2 ^ 64)
word64_code x y ps qs left right same =
    (sym (from_le_bytes-to_le_bytes_8 x left) ∙ ap (λ l. from_le_bytes w64 (take 8 l)) same ∙ from_le_bytes-to_le_bytes_8 y right, ap (drop 8) same)

-- numbers in 4 bytes
pub word32_code : IsCode (to_le_bytes w32) (λ n. n < 2 ^ 32)
word32_code x y ps qs left right same =
    (sym (from_le_bytes-to_le_bytes_4 x left) ∙ ap (λ l. from_le_bytes w32 (take 4 l)) same ∙ from_le_bytes-to_le_bytes_4 y right, ap (drop 4) same)

-- elements
pub element_code : IsCode element_bytes IsElement
element_code x y ps qs left right same = word64_code x y ps qs (wide x left) (wide y right) same
  where
    wide : (x : ℕ) → IsElement x → x < 2 ^ 64
    wide x below = omega arith

-- one value after another
pub pair_code : {A B : Type 0} (f : A → List ℕ) (P : A → Type 0) (g : B → List ℕ) (Q : B → Type 0)
    → IsCode f P → IsCode g Q → IsCode (λ (both : A × B). f both.0 ++ g both.1) (λ both. P both.0 × Q both.1)
pair_code f P g Q one two x y ps qs left right same =
    let first : (x.0 ≡ y.0) × (g x.1 ++ ps ≡ g y.1 ++ qs) =
    one x.0 y.0 (g x.1 ++ ps) (g y.1 ++ qs) left.0 right.0 (regroup (f x.0) (g x.1) ps (f y.0) (g y.1) qs same) in
    let second : (x.1 ≡ y.1) × (ps ≡ qs) = two x.1 y.1 ps qs left.1 right.1 first.1 in
    (λ i. (first.0 i, second.0 i), second.1)

-- a given number of values, one after another
pub many_code : {A : Type 0} (f : A → List ℕ) (P : A → Type 0) (n : ℕ) → IsCode f P → IsCode (flat_map f) (λ xs. (length xs ≡ n) × All P xs)
many_code {A} f P n code xs ys ps qs left right same =
    each xs ys ps qs (left.0 ∙ sym right.0) (recursion_from_All P xs left.1) (recursion_from_All P ys right.1) same
  where
    each : (xs ys : List A) (ps qs : List ℕ) → length xs ≡ length ys → AllByRecursion P xs → AllByRecursion P ys
        → flat_map f xs ++ ps ≡ flat_map f ys ++ qs → (xs ≡ ys) × (ps ≡ qs)
    each [] [] ps qs sized left right same = (refl, same)
    each [] (y ∷ ys) ps qs sized left right same = absurd (omega arith)
    each (x ∷ xs) [] ps qs sized left right same = absurd (omega arith)
    each (x ∷ xs) (y ∷ ys) ps qs sized left right same =
        let first : (x ≡ y) × (flat_map f xs ++ ps ≡ flat_map f ys ++ qs) =
        code x y (flat_map f xs ++ ps) (flat_map f ys ++ qs) left.0 right.0 (regroup (f x) (flat_map f xs) ps (f y) (flat_map f ys) qs same) in
        let rest : (xs ≡ ys) × (ps ≡ qs) = each xs ys ps qs (omega arith) left.1 right.1 first.1 in
        (λ i. first.0 i ∷ rest.0 i, rest.1)

-- values in a frame of one kind
pub frame_code : {A : Type 0} (f : A → List ℕ) (P : A → Type 0) (kind : FrameKind) → IsCode f P → IsCode (λ x. frame_bytes kind (f x)) P
frame_code f P kind code x y ps qs left right same = code x y ps qs left right (ap (drop 5) same)
