-- Items that are read one after another.
use Rattle.std.proofs.Common.{◌≡◌, ℕ, zero, suc, ◌+◌, ◌*◌, ◌<◌, ◌≤◌, List, [], ◌∷◌, ◌++◌, length, take, drop, refl, ap, sym, ◌∙◌, arith, append_assoc, append-nil, length-append, subst, inl, inr}
use Rattle.std.specs.Prelude.{◌⊎◌, slice_index, nat_eq}
use Rattle.std.proofs.lemmas.List.{drop-drop, flat_map_more}
use Rattle.std.proofs.lemmas.List.Elements.{All-from_recursion, All-append}
use Rattle.std.proofs.Math.Seq.{take-add}
use Rattle.zk_model.specs.Bits.{from_bit}
use Rattle.zk_model.specs.Bytes.{element_bytes}
use Rattle.zk_model.specs.Field.{prime}
use Rattle.dealer_files.specs.FileFaults.{word64_at}
use Rattle.dealer_files.specs.Reading.{Spelled, AreAppended, AreElementsFrom, AreBits, IsElementFaultOr}
use Rattle.dealer_files.specs.declared.fault.FileFault.{FileFault}
use Rattle.dealer_files.specs.declared.fault.FileFault.TheVariants.{BadElement}

-- none yet
pub none_appended : {A : Type 0} (form : Spelled A) (old : List A) (bytes : List ℕ) (place : ℕ) → AreAppended form old old 0 bytes place
none_appended form old bytes place = record {
  items = [];
  whole = sym (append-nil old);
  counted = refl;
  spelled = let none : form.size * 0 ≡ 0 = omega arith in ap (λ n. take n (drop place bytes)) (sym none);
  hold = All-from_recursion form.Holds [] tt;
}

-- one more
pub one_appended : {A : Type 0} (form : Spelled A) (old before now : List A) (item : A) (count : ℕ) (bytes : List ℕ) (place : ℕ)
    → now ≡ before ++ item ∷ [] → form.spell item ≡ take form.size (drop (place + form.size * count) bytes) → form.Holds item
    → AreAppended form old before count bytes place → AreAppended form old now (count + 1) bytes place
one_appended form old before now item count bytes place pushed is holds far = record {
  items = far.items ++ item ∷ [];
  whole = pushed ∙ ap (λ l. l ++ item ∷ []) far.whole ∙ append_assoc old far.items (item ∷ []);
  counted = length-append far.items (item ∷ []) ∙ ap (λ n. n + 1) far.counted;
  spelled =
      let more : form.size * count + form.size ≡ form.size * (count + 1) = omega arith in
      sym (flat_map_more form.spell [] far.items item)
      ∙ (λ i. far.spelled i ++ (is ∙ ap (take form.size) (sym (drop-drop (form.size * count) place bytes))) i)
      ∙ sym (take-add (form.size * count) form.size (drop place bytes))
      ∙ ap (λ n. take n (drop place bytes)) more;
  hold = All-append form.Holds far.items (item ∷ []) far.hold (All-from_recursion form.Holds (item ∷ []) (holds, tt));
}

-- ---- ranges

-- below the next number is below this one, or this one
pub le_or_more : (i count : ℕ) → i ≤ count → (i < count) ⊎ (i ≡ count)
le_or_more zero zero most = inr refl
le_or_more zero (suc count) most = inl (omega arith)
le_or_more (suc i) zero most = absurd (omega arith)
le_or_more (suc i) (suc count) most = more (le_or_more i count (omega arith)) where
  more : (i < count) ⊎ (i ≡ count) → (suc i < suc count) ⊎ (suc i ≡ suc count)
  more (inl less) = inl (omega arith)
  more (inr same) = inr (omega arith)

-- one element more is below the prime
pub element_good : (bytes : List ℕ) (place count : ℕ) → word64_at bytes (place + 8 * count) < prime → AreElementsFrom bytes place count → AreElementsFrom bytes place (count + 1)
element_good bytes place count good far i below = by_cases i (le_or_more i count (omega (arith, below)))
  where
    by_cases : (i : ℕ) → (i < count) ⊎ (i ≡ count) → word64_at bytes (place + 8 * i) < prime
    by_cases i (inl less) = far i less
    by_cases i (inr same) = subst (λ (n : ℕ). word64_at bytes (place + 8 * n) < prime) (sym same) good

-- and one bit more is 0 or 1
pub bit_good : (bytes : List ℕ) (place count : ℕ) → slice_index bytes (place + 17 * count) ≤ 1 → AreBits bytes place count → AreBits bytes place (count + 1)
bit_good bytes place count good far i below = by_cases i (le_or_more i count (omega (arith, below)))
  where
    by_cases : (i : ℕ) → (i < count) ⊎ (i ≡ count) → slice_index bytes (place + 17 * i) ≤ 1
    by_cases i (inl less) = far i less
    by_cases i (inr same) = subst (λ (n : ℕ). slice_index bytes (place + 17 * n) ≤ 1) (sym same) good

-- two elements more
pub two_good : (bytes : List ℕ) (place count : ℕ) → word64_at bytes (place + 8 * (2 * count)) < prime → word64_at bytes (place + 8 * (2 * count + 1)) < prime
    → AreElementsFrom bytes place (2 * count) → AreElementsFrom bytes place (2 * (count + 1))
two_good bytes place count first second far =
    let end : 2 * count + 1 + 1 ≡ 2 * (count + 1) = omega arith in
    subst (λ (n : ℕ). AreElementsFrom bytes place n) end
    (element_good bytes place (2 * count + 1) second (element_good bytes place (2 * count) first far))

-- an element that is the prime or more, after some that are not
pub element_fault : (bytes : List ℕ) (place count number fault : ℕ) (reason : FileFault) → reason ≡ BadElement fault → number < count
    → fault ≡ place + 8 * number → prime ≤ word64_at bytes fault → AreElementsFrom bytes place number → IsElementFaultOr bytes place count reason
element_fault bytes place count number fault reason is within stands bad before =
    subst (IsElementFaultOr bytes place count) (sym is)
    (record { number = number; within = within; stands = stands; bad = bad; before = before })

-- ---- items of two parts

-- what stands at a place and after it
two_parts : (n m place : ℕ) (bytes first second : List ℕ) → first ≡ take n (drop place bytes) → second ≡ take m (drop (place + n) bytes)
    → first ++ second ≡ take (n + m) (drop place bytes)
two_parts n m place bytes first second one two =
    (λ i. one i ++ (two ∙ ap (take m) (sym (drop-drop n place bytes))) i) ∙ sym (take-add n m (drop place bytes))

pub two_8 : (bytes : List ℕ) (place j x m : ℕ) → element_bytes x ≡ take 8 (drop (place + 8 * (2 * j)) bytes)
    → element_bytes m ≡ take 8 (drop (place + 8 * (2 * j + 1)) bytes)
    → element_bytes x ++ element_bytes m ≡ take 16 (drop (place + 16 * j) bytes)
two_8 bytes place j x m one two =
    let first : place + 8 * (2 * j) ≡ place + 16 * j = omega arith in
    let second : place + 8 * (2 * j + 1) ≡ place + 16 * j + 8 = omega arith in
    two_parts 8 8 (place + 16 * j) bytes (element_bytes x) (element_bytes m)
    (one ∙ ap (λ n. take 8 (drop n bytes)) first) (two ∙ ap (λ n. take 8 (drop n bytes)) second)

pub two_16 : (bytes : List ℕ) (place : ℕ) (left right : List ℕ) → left ≡ take 16 (drop place bytes) → right ≡ take 16 (drop (place + 16) bytes)
    → left ++ right ≡ take 32 (drop place bytes)
two_16 bytes place left right one two = two_parts 16 16 place bytes left right one two

-- a bit and the pad after it
pub bit_and_pad : (bytes : List ℕ) (place : ℕ) (pad : List ℕ) → place < length bytes → slice_index bytes place ≤ 1
    → pad ≡ take 16 (drop (place + 1) bytes) → from_bit (nat_eq (slice_index bytes place) 1) ∷ pad ≡ take 17 (drop place bytes)
bit_and_pad bytes place pad below small two = two_parts 1 16 place bytes (from_bit (nat_eq (slice_index bytes place) 1) ∷ []) pad one two
  where
    is_bit : (n : ℕ) → n ≤ 1 → from_bit (nat_eq n 1) ≡ n
    is_bit zero most = refl
    is_bit (suc zero) most = refl
    is_bit (suc (suc n)) most = absurd (omega arith)

    first : (place : ℕ) (l : List ℕ) → place < length l → slice_index l place ∷ [] ≡ take 1 (drop place l)
    first place [] less = absurd (omega arith)
    first zero (x ∷ l) less = refl
    first (suc place) (x ∷ l) less = first place l (omega arith)

    one : from_bit (nat_eq (slice_index bytes place) 1) ∷ [] ≡ take 1 (drop place bytes)
    one = ap (λ n. n ∷ []) (is_bit (slice_index bytes place) small) ∙ first place bytes below
