-- What blocks of units make, added one block after another.
use Rattle.std.proofs.Common.{◌≡◌, ℕ, suc, ◌+◌, ◌-◌, ◌*◌, ◌/◌, ◌%◌, ◌<◌, ◌≤◌, min, List, [], ◌∷◌, ◌++◌, length, take, drop, get_or, refl, ap, sym, ◌∙◌, subst, arith, append_assoc, append-nil, length-append}
use Rattle.std.specs.Prelude.{Result, Ok, IfOk}
use Rattle.std.proofs.Math.Nat.{mul-le-mul_right}
use Rattle.std.proofs.Math.Seq.{take-add}
use Rattle.std.proofs.lemmas.List.{take_all, length-drop, length-take-le, get_or-drop, drop-drop}
use Rattle.std.proofs.lemmas.Grind.{div_ceil_times}
use Rattle.std.specs.Fork.{slice_chunk}
use Rattle.round_fan.specs.Fans.{AreBlocksMade}

-- ---- of lists

-- items, and some behind them
pub some_behind : {X : Type 0} (items : List X) (i more : ℕ) → take i items ++ take (i + more - i) (drop i items) ≡ take (i + more) items
some_behind items i more = ap (λ n. take i items ++ take n (drop i items)) count ∙ sym (take-add i more items)
  where
    count : i + more - i ≡ more
    count = omega arith

-- no chunk yet
no_chunk : {X : Type 0} (items : List X) (size : ℕ) → take (0 * size) items ≡ []
no_chunk items size = ap (λ n. take n items) none_of ∙ nothing items
  where
    none_of : 0 * size ≡ 0
    none_of = omega arith

    nothing : {X : Type 0} (l : List X) → take 0 l ≡ []
    nothing [] = refl
    nothing (x ∷ l) = refl

-- one chunk more
one_chunk : {X : Type 0} (items : List X) (size i : ℕ) → take (i * size) items ++ take size (drop (i * size) items) ≡ take ((i + 1) * size) items
one_chunk items size i = sym (ap (λ n. take n items) next ∙ take-add (i * size) size items)
  where
    next : (i + 1) * size ≡ i * size + size
    next = omega arith

-- ---- what was made

-- what is made of each chunk is made of all that came
pub chunks_made : {X M F : Type 0} (Makes : ℕ → List X → M → Type 0) (from start size : ℕ) (first came : List X) (made : List (Result M F))
    → start ≡ from + length first → 0 < size → length made ≡ length came / size + min 1 (length came % size)
    → ((i : ℕ) (other : Result M F) → i < length made → (chunk : List X) × (chunk ≡ slice_chunk came size i) × (i * size ≤ length came) × IfOk (get_or made i other) (Makes (start + i * size) chunk))
    → AreBlocksMade Makes (from + length first) size came made
chunks_made Makes from start size first came made place some count each = subst (λ n. AreBlocksMade Makes n size came made) place (record {
  all = subst (λ n. length came ≤ n * size) (sym count) (div_ceil_times (length came) size some).0;
  each = λ i other below. let (chunk, is, inside, one) = each i other below in (
    inside,
    subst (λ l. IfOk (get_or made i other) (Makes (start + i * size) l)) is one,
  );
})

-- the first blocks have been added, and these are left
abbrev pub IsSoFar : {X M F : Type 0} → (ℕ → List X → M → Type 0) → ℕ → ℕ → List X → List X → List (Result M F) → List (Result M F) → M → Type 0
IsSoFar Makes start size first came made left all = (k : ℕ) × (left ≡ drop k made) × Makes start (first ++ take (k * size) came) all

-- none yet
pub none_added : {X M F : Type 0} (Makes : ℕ → List X → M → Type 0) (start size : ℕ) (first came : List X) (made left : List (Result M F)) (all : M) → left ≡ made
    → Makes start first all → IsSoFar Makes start size first came made left all
none_added Makes start size first came made left all is begun = (
  0,
  is ∙ sym (whole made),
  subst (λ l. Makes start l all) (sym (append-nil first) ∙ ap (λ l. first ++ l) (sym (no_chunk came size))) begun,
)
  where
    whole : {X : Type 0} (l : List X) → drop 0 l ≡ l
    whole [] = refl
    whole (x ∷ l) = refl

-- one more
pub one_added : {X M F : Type 0} (Makes : ℕ → List X → M → Type 0) (start size : ℕ) (first came : List X) (made left behind : List (Result M F)) (one all now : M)
    → ((start : ℕ) (first rest : List X) → Makes start first all → Makes (start + length first) rest one → Makes start (first ++ rest) now)
    → left ≡ Ok one ∷ behind → AreBlocksMade Makes (start + length first) size came made
    → IsSoFar Makes start size first came made left all → IsSoFar Makes start size first came made behind now
one_added Makes start size first came made left behind one all now adds next are (k, cut, far) = (
  k + 1,
  ap (λ l. drop 1 l) (sym next ∙ cut) ∙ drop-drop 1 k made,
  subst (λ l. Makes start l now) (append_assoc first (take (k * size) came) (slice_chunk came size k) ∙ ap (λ l. first ++ l) (one_chunk came size k))
      (adds start (first ++ take (k * size) came) (slice_chunk came size k) far (subst (λ n. Makes n (slice_chunk came size k) one) place own)),
)
  where
    long : suc (length behind) ≡ length made - k
    long = ap length (sym next ∙ cut) ∙ length-drop k made

    below : k < length made
    below = omega (arith, long)

    own : Makes (start + length first + k * size) (slice_chunk came size k) one
    own = subst (λ r. IfOk r (Makes (start + length first + k * size) (slice_chunk came size k)))
        (sym (get_or-drop k made 0 (Ok one) ∙ ap (λ n. get_or made n (Ok one)) (omega arith)) ∙ ap (λ l. get_or l 0 (Ok one)) (sym cut ∙ next))
        (are.each k (Ok one) below).1

    place : start + length first + k * size ≡ start + length (first ++ take (k * size) came)
    place = omega (arith, length-append first (take (k * size) came), length-take-le (k * size) came (are.each k (Ok one) below).0)

-- all of them
pub all_added : {X M F : Type 0} (Makes : ℕ → List X → M → Type 0) (start size : ℕ) (first came : List X) (made left : List (Result M F)) (all : M)
    → length left ≡ 0 → length came ≤ length made * size → IsSoFar Makes start size first came made left all → Makes start (first ++ came) all
all_added Makes start size first came made left all none enough (k, cut, far) =
    subst (λ l. Makes start (first ++ l) all) (take_all (k * size) came (omega (arith, enough, mul-le-mul_right size ended))) far
  where
    ended : length made ≤ k
    ended = omega (arith, none, ap length cut ∙ length-drop k made)
