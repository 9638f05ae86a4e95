-- Lists over numbers in a row, and lists cut into pieces of one size.
use Rattle.std.proofs.Common.{◌≡◌, ℕ, zero, suc, ◌+◌, ◌-◌, ◌*◌, ◌<◌, ◌≤◌, List, [], ◌∷◌, ◌++◌, length, map, flat_map, take, drop, get_or, refl, ap, sym, ◌∙◌, arith, add-one, append-nil, length-append, length-take-le, length-drop, le_refl}
use Rattle.std.specs.List.{range_with_len}
use Rattle.std.proofs.lemmas.List.{drop-drop, get_or-take, get_or-drop, ext_get_or}
use Rattle.std.proofs.lemmas.List.Concat.{flat_map-append}
use Rattle.std.proofs.lemmas.List.FromFn.{get_or-map-range_with_len, length-map-range_with_len}
use Rattle.std.proofs.lemmas.Nat.{mul-le}
use Rattle.std.proofs.Math.Seq.{take-add, take-append_seam, drop-append-add}
use Rattle.dealer_files.specs.Flat.{piece}

-- ---- numbers in a row

-- one number more
range_more : (a n j : ℕ) → a + n ≡ j → range_with_len a (n + 1) ≡ range_with_len a n ++ j ∷ []
range_more a n j at = rw add-one (from a n j at) where
  from : (a n j : ℕ) → a + n ≡ j → range_with_len a (suc n) ≡ range_with_len a n ++ j ∷ []
  from a zero j at = let same : a ≡ j = omega arith in ap (λ i. i ∷ []) same
  from a (suc n) j at = ap (λ rest. a ∷ rest) (from (a + 1) n j (omega arith))

-- functions that agree on the numbers
pub map_range_same : {X : Type 0} (f g : ℕ → X) (a n : ℕ) → ((i : ℕ) → a ≤ i → i < a + n → f i ≡ g i) → map f (range_with_len a n) ≡ map g (range_with_len a n)
map_range_same f g a zero same = refl
map_range_same f g a (suc n) same =
    (λ i. same a (omega arith) (omega arith) i ∷ map_range_same f g (a + 1) n (λ j low high. same j (omega arith) (omega arith)) i)

-- and lists that do
pub flat_map_range_same : {X : Type 0} (f g : ℕ → List X) (a n : ℕ) → ((i : ℕ) → a ≤ i → i < a + n → f i ≡ g i) → flat_map f (range_with_len a n) ≡ flat_map g (range_with_len a n)
flat_map_range_same f g a zero same = refl
flat_map_range_same f g a (suc n) same =
    (λ i. same a (omega arith) (omega arith) i ++ flat_map_range_same f g (a + 1) n (λ j low high. same j (omega arith) (omega arith)) i)

-- the lists of one number more
pub flat_map_range_more : {X : Type 0} (f : ℕ → List X) (before now new : List X) (n : ℕ) → now ≡ before ++ new → new ≡ f n
    → before ≡ flat_map f (range_with_len 0 n) → now ≡ flat_map f (range_with_len 0 (n + 1))
flat_map_range_more f before now new n pushed made far =
    pushed ∙ (λ i. far i ++ made i)
    ∙ sym (ap (flat_map f) (range_more 0 n n (omega arith)) ∙ flat_map-append f (range_with_len 0 n) (n ∷ [])
    ∙ ap (λ rest. flat_map f (range_with_len 0 n) ++ rest) (append-nil (f n)))

-- lists of one length, joined
pub length_joined : {X : Type 0} (f : ℕ → List X) (size a n : ℕ) → ((i : ℕ) → length (f i) ≡ size) → length (flat_map f (range_with_len a n)) ≡ size * n
length_joined f size a zero sized = omega arith
length_joined f size a (suc n) sized =
    length-append (f a) (flat_map f (range_with_len (a + 1) n)) ∙ omega (arith, sized a, length_joined f size (a + 1) n sized)

-- ---- pieces

-- lists of one length, joined: each is the piece of its number
pub piece_at : {X : Type 0} (f : ℕ → List X) (size a n u : ℕ) → ((i : ℕ) → length (f i) ≡ size) → u < n
    → piece size (flat_map f (range_with_len a n)) u ≡ f (a + u)
piece_at f size a zero u sized within = absurd (omega arith)
piece_at f size a (suc n) zero sized within =
    let rest = flat_map f (range_with_len (a + 1) n) in
    let none : size * 0 ≡ 0 = omega arith in
    ap (λ k. take size (drop k (f a ++ rest))) none
    ∙ ap (λ k. take k (f a ++ rest)) (sym (sized a)) ∙ take-append_seam (f a) rest ∙ ap f (omega arith)
piece_at f size a (suc n) (suc u) sized within =
    let rest = flat_map f (range_with_len (a + 1) n) in
    let behind : size * suc u ≡ length (f a) + size * u = omega (arith, sized a) in
    ap (λ k. take size (drop k (f a ++ rest))) behind
    ∙ ap (take size) (drop-append-add (f a) rest (size * u))
    ∙ piece_at f size (a + 1) n u sized (omega arith) ∙ ap f (omega arith)

-- pieces in a row, joined
pub joined_pieces : {A : Type 0} (size : ℕ) (items : List A) (a n : ℕ) → flat_map (piece size items) (range_with_len a n) ≡ take (size * n) (drop (size * a) items)
joined_pieces size items a zero = let none : 0 ≡ size * 0 = omega arith in ap (λ k. take k (drop (size * a) items)) none
joined_pieces size items a (suc n) =
    let split : size + size * n ≡ size * suc n = omega arith in
    let place : size * a + size ≡ size * (a + 1) = omega arith in
    ap (λ rest. piece size items a ++ rest) (joined_pieces size items (a + 1) n)
    ∙ ap (λ k. take size (drop (size * a) items) ++ take (size * n) (drop k items)) (sym place)
    ∙ ap (λ l. take size (drop (size * a) items) ++ take (size * n) l) (sym (drop-drop size (size * a) items))
    ∙ sym (take-add size (size * n) (drop (size * a) items))
    ∙ ap (λ k. take k (drop (size * a) items)) split

-- the parts of units in a row, where each part is the piece of its unit's number
pub joined_parts : {A U : Type 0} (part : U → List A) (made : ℕ → U) (none : U) (size total : ℕ) (items : List A) (a b : ℕ)
    → ((u : ℕ) → part (made u) ≡ piece size items u) → a ≤ b → b ≤ total
    → flat_map (λ u. part (get_or (map made (range_with_len 0 total)) u none)) (range_with_len a (b - a))
    ≡ take (size * b - size * a) (drop (size * a) items)
joined_parts part made none size total items a b cut order within =
    flat_map_range_same (λ u. part (get_or (map made (range_with_len 0 total)) u none)) (piece size items) a (b - a)
    (λ u low high. ap part (get_or-map-range_with_len made 0 total u u none (omega arith) (omega arith)) ∙ cut u)
    ∙ joined_pieces size items a (b - a)
    ∙ ap (λ k. take k (drop (size * a) items)) (apart size a b (b - a) (omega arith))
  where
    apart : (size a b n : ℕ) → a + n ≡ b → size * n ≡ size * b - size * a
    apart size a b n at = rw (sym at) (omega arith)

-- the piece of a list that is made number by number
pub piece_of_range : {A : Type 0} (item : ℕ → A) (size count i : ℕ) → i < count
    → piece size (map item (range_with_len 0 (count * size))) i ≡ map (λ k. item (size * i + k)) (range_with_len 0 size)
piece_of_range item size count i below =
    let items = map item (range_with_len 0 (count * size)) in
    let whole : length items ≡ count * size = length-map-range_with_len item 0 (count * size) in
    let last : suc i * size ≤ count * size = mul-le (suc i) size count size below (le_refl size) in
    let more : size * i + size ≡ suc i * size = omega arith in
    let room : size ≤ length (drop (size * i) items) = omega (arith, length-drop (size * i) items) in
    let taken : length (take size (drop (size * i) items)) ≡ size = length-take-le size (drop (size * i) items) room in
    ext_get_or (item 0) _ _ (taken ∙ sym (length-map-range_with_len (λ k. item (size * i + k)) 0 size))
    (λ k short.
    let inside : k < size = omega arith in
    get_or-take size (drop (size * i) items) k (item 0) inside
    ∙ get_or-drop (size * i) items k (item 0)
    ∙ get_or-map-range_with_len item 0 (count * size) (size * i + k) (size * i + k) (item 0) (omega arith) (omega arith)
    ∙ sym (get_or-map-range_with_len (λ k. item (size * i + k)) 0 size k k (item 0) inside (omega arith)))
