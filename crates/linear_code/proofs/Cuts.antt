-- Base places, in a row and column by column.
use Rattle.std.proofs.Common.{◌≡◌, ℕ, ◌+◌, ◌-◌, ◌*◌, ◌%◌, ◌<◌, ◌≤◌, ◌⊎◌, inl, inr, List, [], ◌∷◌, ◌++◌, refl, map, length, take, drop, get_or, ◌∙◌, ap, arith, length-append}
use Rattle.std.specs.Prelude.{All}
use Rattle.std.specs.List.{range_with_len}
use Rattle.std.proofs.lemmas.List.{get_or-take, get_or-drop, length-take-le, length-drop, get_or-append_right}
use Rattle.std.proofs.Math.ListN.{get_or-append}
use Rattle.std.proofs.lemmas.List.Elements.{All-map}
use Rattle.std.proofs.lemmas.List.FromFn.{fill_by_all, length-map-range_with_len, get_or-map-range_with_len}
use Rattle.std.proofs.lemmas.Bool.{cases_lt}
use Rattle.std.proofs.lemmas.Nat.{mod_below}
use Rattle.zk_model.specs.Coins.{coin_word}
use Rattle.zk_model.specs.Extension.{code_column}
use Rattle.zk_coins.specs.Words.{coin_words}
use Rattle.linear_code.specs.Codes.{places_of}

-- so many items of a list of terms, from one on
cut : (f : ℕ → ℕ) (n first count : ℕ) → first + count ≤ n
    → take count (drop first (map f (range_with_len 0 n))) ≡ map (λ i. f (first + i)) (range_with_len 0 count)
cut f n first count within =
    fill_by_all (λ i. f (first + i)) (take count (drop first all)) count 0
    (length-take-le count (drop first all) (omega (arith, length-drop first all, whole, within)))
    (λ k below. get_or-take count (drop first all) k 0 below ∙ get_or-drop first all k 0
    ∙ get_or-map-range_with_len f 0 n (first + k) (first + k) 0 (omega (arith, below, within)) (omega arith))
  where
    all : List ℕ
    all = map f (range_with_len 0 n)

    whole : length all ≡ n
    whole = length-map-range_with_len f 0 n

-- terms, and those after them
joined : (f : ℕ → ℕ) (n more : ℕ)
    → map f (range_with_len 0 n) ++ map (λ i. f (n + i)) (range_with_len 0 more) ≡ map f (range_with_len 0 (n + more))
joined f n more = fill_by_all f (front ++ back) (n + more) 0 (omega (arith, length-append front back, front_long, back_long)) at
  where
    front : List ℕ
    front = map f (range_with_len 0 n)

    back : List ℕ
    back = map (λ i. f (n + i)) (range_with_len 0 more)

    front_long : length front ≡ n
    front_long = length-map-range_with_len f 0 n

    back_long : length back ≡ more
    back_long = length-map-range_with_len (λ i. f (n + i)) 0 more

    at : (k : ℕ) → k < n + more → get_or (front ++ back) k 0 ≡ f k
    at k below = by_side (cases_lt k n)
      where
        by_side : (k < n) ⊎ (n ≤ k) → get_or (front ++ back) k 0 ≡ f k
        by_side (inl low) = get_or-append front back 0 k (omega (arith, low, front_long))
            ∙ get_or-map-range_with_len f 0 n k k 0 low (omega arith)
        by_side (inr high) = get_or-append_right front back n k 0 front_long high
            ∙ get_or-map-range_with_len (λ i. f (n + i)) 0 more (k - n) (k - n) 0 (omega (arith, below, high)) (omega arith)
            ∙ ap f (omega (arith, high))

-- a term of a term
map_twice : (g h : ℕ → ℕ) (xs : List ℕ) → map g (map h xs) ≡ map (λ x. g (h x)) xs
map_twice g h [] = refl
map_twice g h (x ∷ xs) = λ i. g (h x) ∷ map_twice g h xs i

-- places that are drawn after others
pub places_more : (code_seed : List ℕ) (base n more : ℕ) (before now : List ℕ) → before ≡ places_of code_seed base n
    → now ≡ before ++ map (λ word. word % base) (coin_words code_seed 0 n more) → now ≡ places_of code_seed base (n + more)
places_more code_seed base n more before now far drawn =
    drawn ∙ (λ i. far i ++ reduced i) ∙ joined (λ i. coin_word code_seed 0 i % base) n more
  where
    reduced : map (λ word. word % base) (coin_words code_seed 0 n more) ≡ map (λ i. coin_word code_seed 0 (n + i) % base) (range_with_len 0 more)
    reduced = map_twice (λ word. word % base) (λ i. coin_word code_seed 0 (n + i)) (range_with_len 0 more)

-- ten of all places are a column
pub column_cut : (code_seed : List ℕ) (base count j : ℕ) (places : List ℕ) → j < count → places ≡ places_of code_seed base (10 * count)
    → take (10 * j + 10 - 10 * j) (drop (10 * j) places) ≡ code_column code_seed base j
column_cut code_seed base count j places below chosen =
    ap (λ n. take n (drop (10 * j) places)) ten ∙ ap (λ l. take 10 (drop (10 * j) l)) chosen
    ∙ cut (λ i. coin_word code_seed 0 i % base) (10 * count) (10 * j) 10 (omega (arith, below))
  where
    ten : 10 * j + 10 - 10 * j ≡ 10
    ten = omega arith

-- and its places are those of base elements
pub column_inside : (code_seed : List ℕ) (base j : ℕ) → 0 < base → All (λ place. place < base) (code_column code_seed base j)
column_inside code_seed base j some =
    All-map (λ place. place < base) (λ i. coin_word code_seed 0 (10 * j + i) % base) (range_with_len 0 10)
    (λ k d below. mod_below (coin_word code_seed 0 (10 * j + get_or (range_with_len 0 10) k d)) base some)

-- places that are the words of a column, reduced, are the column
pub column_filled : (code_seed : List ℕ) (base j : ℕ) (words places : List ℕ) → words ≡ coin_words code_seed 0 (10 * j) 10
    → length places ≡ 10 → ((k : ℕ) → k < 10 → get_or places k 0 ≡ get_or words k 0 % base) → places ≡ code_column code_seed base j
column_filled code_seed base j words places drawn long each =
    fill_by_all (λ i. coin_word code_seed 0 (10 * j + i) % base) places 10 0 long
    (λ k below. each k below ∙ ap (λ l. get_or l k 0 % base) drawn
    ∙ ap (λ n. n % base) (get_or-map-range_with_len (λ i. coin_word code_seed 0 (10 * j + i)) 0 10 k k 0 below (omega arith)))
