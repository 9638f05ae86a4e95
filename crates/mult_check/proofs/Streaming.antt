-- Sums over blocks, part by part, and items that a walk gives.
use Rattle.std.proofs.Common.{◌≡◌, ℕ, ◌+◌, ◌*◌, ◌<◌, ◌≤◌, List, [], ◌∷◌, ◌++◌, length, map, min, take, drop, get_or, ap, sym, ◌∙◌, arith}
use Rattle.std.specs.Prelude.{Some, None, Option, slice_get}
use Rattle.std.proofs.Math.Seq.{take-add}
use Rattle.std.proofs.lemmas.List.{take_more, take_all, length-map, length-drop, get_or-map, get_or-drop, drop-drop, drop-map, take-map}
use Rattle.std.proofs.lemmas.Option.{slice_get-get_or}
use Rattle.zk_model.specs.Check.{section_of}
use Rattle.zk_model.specs.declared.Product.{Product}

-- ---- items that a walk gives

none : Product
none = record { a = 0; b = 0; c = 0 }

-- what a walk gives of the next product is the item there
pub given_next : {T : Type 0} (f : Product → T) (products : List Product) (met : ℕ) (item : T) (result : Option T) → met < length (map f products)
    → ((product : Product) → slice_get products met ≡ Some product → result ≡ Some (f product))
    → result ≡ Some (get_or (map f products) met item)
given_next f products met item result below gives =
    let there : met < length products = omega (arith, below, length-map products f) in
    gives (get_or products met none) (slice_get-get_or products met none there) ∙ ap Some (sym (get_or-map f products met none item there))

-- the items of a section
pub items_of_section : {T : Type 0} (f : Product → T) (products : List Product) (g s : ℕ) → section_of g s (map f products) ≡ map f (section_of g s products)
items_of_section f products g s = ap (take g) (drop-map f (s * g) products) ∙ take-map f g (drop (s * g) products)

-- and those of a walk that has met some already
pub section_of_walk : {T S : Type 0} (f : S → Product → T) (products : S → List Product) (side old : S) (g s : ℕ) → side ≡ old
    → section_of g s (map (f side) (products side)) ≡ map (f old) (section_of g s (products old))
section_of_walk f products side old g s same =
    items_of_section (f side) (products side) g s ∙ ap (λ at. map (f at) (section_of g s (products at))) same

-- how many a walk has met behind a section
pub met_next : {T S : Type 0} (f : S → Product → T) (products : S → List Product) (side old : S) (s g met : ℕ) → side ≡ old
    → met ≡ min (s * g + g) (length (map (f side) (products side))) → met ≡ min ((s + 1) * g) (length (products old))
met_next f products side old s g met same is = is ∙ (λ i. min (next i) ((length-map (products side) (f side) ∙ ap (λ at. length (products at)) same) i))
  where
    next : s * g + g ≡ (s + 1) * g
    next = omega arith

-- an item of a list that is long enough
pub some_item : {T : Type 0} (l : List T) (n : ℕ) → n < length l → T
some_item [] n below = absurd (omega arith)
some_item (x ∷ l) n below = x

held : {T : Type 0} → T → Option T → T
held other None = other
held other (Some item) = item

-- what a walk gives is the item there
pub given_item : {T : Type 0} (all : List T) (met : ℕ) (item : T) (result : Option T) → result ≡ Some item → result ≡ Some (get_or all met item) → item ≡ get_or all met item
unfolding held
given_item all met item result gives is = ap (held item) (sym gives ∙ is)

-- one item more of a block
pub one_taken : {T : Type 0} (all now : List T) (first met taken : ℕ) (item : T) (before after : List T)
    → now ≡ all → met ≡ first + taken → first + taken < length all
    → item ≡ get_or now met item → before ≡ take taken (drop first all) → after ≡ before ++ item ∷ []
    → after ≡ take (taken + 1) (drop first all)
one_taken all now first met taken item before after same at below is far pushed =
    pushed
    ∙ (λ i. far i ++ (is ∙ ap (λ l. get_or l met item) same ∙ ap (λ n. get_or all n item) at ∙ sym (get_or-drop first all taken item)) i ∷ [])
    ∙ sym (take_more (drop first all) taken item (omega (arith, below, length-drop first all)))

-- ---- blocks

-- a block that was read of a walk
pub block_read : {T : Type 0} (all now : List T) (first done met more : ℕ) (block read : List T) → now ≡ all → met ≡ first + done
    → block ≡ take more (drop met now) → read ≡ block → read ≡ take more (drop (first + done) all)
block_read all now first done met more block read same at is read_is =
    read_is ∙ is ∙ ap (λ l. take more (drop met l)) same ∙ ap (λ n. take more (drop n all)) at

-- a block more
pub block_joined : {T : Type 0} (all : List T) (first done more : ℕ)
    → take done (drop first all) ++ take more (drop (first + done) all) ≡ take (done + more) (drop first all)
block_joined all first done more =
    sym (take-add done more (drop first all) ∙ ap (λ l. take done (drop first all) ++ take more l) (drop-drop done first all))

-- no part yet
pub no_part : {T : Type 0} (block : List T) (size : ℕ) → [] ≡ take (0 * size) block
no_part block size = let none : 0 * size ≡ 0 = omega arith in sym (ap (λ n. take n block) none)

-- one part more of a block
pub one_joined : {T : Type 0} (block : List T) (size i : ℕ) → take (i * size) block ++ take size (drop (i * size) block) ≡ take ((i + 1) * size) block
one_joined block size i = sym (ap (λ n. take n block) next ∙ take-add (i * size) size block)
  where
    next : (i + 1) * size ≡ i * size + size
    next = omega arith

-- all of them
pub all_joined : {T : Type 0} (block : List T) (size count : ℕ) → length block ≤ count * size → take (count * size) block ≡ block
all_joined block size count all = take_all (count * size) block all
