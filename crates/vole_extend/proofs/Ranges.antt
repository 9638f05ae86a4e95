-- Lists over numbers in a row, and what is read of lists.
use Rattle.std.proofs.Common.{◌≡◌, ℕ, ◌+◌, ◌<◌, false, List, [], ◌∷◌, ◌++◌, length, map, get_or, sym, ◌∙◌, ap, arith, zero-add}
use Rattle.std.specs.List.{range_with_len, enumerate_from}
use Rattle.std.proofs.lemmas.List.{get_or_default, get_or-map, length-map, ext_get_or}
use Rattle.std.proofs.lemmas.List.FromFn.{map-range_with_len_more, length-map-range_with_len, get_or-map-range_with_len, length-enumerate_from, get_or-enumerate_from}
use Rattle.zk_model.specs.Files.{Transfer}
use Rattle.vole_extend.specs.Levels.{transfer_at}

-- one item more
pub map_more : {X : Type 0} (f : ℕ → X) (before now : List X) (item : X) (n : ℕ) → now ≡ before ++ item ∷ [] → item ≡ f n
    → before ≡ map f (range_with_len 0 n) → now ≡ map f (range_with_len 0 (n + 1))
map_more f before now item n added is far =
    added ∙ (λ i. far i ++ is i ∷ []) ∙ sym (map-range_with_len_more f 0 n n (omega arith))

-- an item that is seen as another, at whatever default
pub read_at : {X : Type 0} (items : List X) (n : ℕ) (seen item default : X) → seen ≡ item → item ≡ get_or items n item → n < length items
    → seen ≡ get_or items n default
read_at items n seen item default view is below = view ∙ is ∙ get_or_default items n item default below

-- a transfer that is seen as a record
pub transfer_read : (transfers : List Transfer) (level : ℕ) (seen item : Transfer) → seen ≡ item → item ≡ get_or transfers level item
    → level < length transfers → seen ≡ transfer_at transfers level
transfer_read transfers level seen item = read_at transfers level seen item (record { bit = false; pad = [] })

-- what is made of each item and its number
pub numbered : {A B : Type 0} (f : ℕ → A → B) (items : List A) (n : ℕ) (none : A) (default : B) → length items ≡ n
    → map (λ k. f k (get_or items k none)) (range_with_len 0 n) ≡ map (λ entry. f entry.0 entry.1) (enumerate_from 0 items)
numbered {A} {B} f items n none default count =
    ext_get_or default (map at (range_with_len 0 n)) (map made entries)
    (length-map-range_with_len at 0 n ∙ sym (length-map entries made ∙ entry_count)) same
  where
    at : ℕ → B
    at k = f k (get_or items k none)

    made : ℕ × A → B
    made entry = f entry.0 entry.1

    entries : List (ℕ × A)
    entries = enumerate_from 0 items

    entry_count : length entries ≡ n
    entry_count = length-enumerate_from 0 items ∙ count

    same : (k : ℕ) → k < length (map at (range_with_len 0 n)) → get_or (map at (range_with_len 0 n)) k default ≡ get_or (map made entries) k default
    same k below =
        let inside : k < n = omega (arith, below, length-map-range_with_len at 0 n) in
        get_or-map-range_with_len at 0 n k k default inside (omega arith)
        ∙ sym (get_or-map made entries k (0, none) default (omega (arith, inside, entry_count))
        ∙ ap made (get_or-enumerate_from 0 items k (0, none) (omega (arith, inside, count)))
        ∙ ap (λ j. f j (get_or items k none)) (zero-add k))
