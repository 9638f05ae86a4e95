-- Products of a section, block by block.
use Rattle.std.proofs.Common.{◌≡◌, ℕ, ◌+◌, ◌-◌, ◌<◌, ◌≤◌, List, [], ◌∷◌, ◌++◌, length, map, take, drop, get_or, set, ap, sym, ◌∙◌, arith, length-drop, length-set, get_or-set_same, subst}
use Rattle.std.specs.Prelude.{Some, slice_get}
use Rattle.std.proofs.Math.Seq.{take-add}
use Rattle.std.proofs.lemmas.List.{get_or-drop, drop-drop, map-append, take_more, take-set}
use Rattle.std.proofs.lemmas.Option.{slice_get-get_or}
use Rattle.zk_model.specs.declared.Product.{Product}

-- one item more of a block that begins after the first products
filled_more : {T : Type 0} (f : Product → T) (products : List Product) (first i : ℕ) (items : List T) (item : T)
    → first + i < length products → i < length items
    → ((product : Product) → slice_get products (first + i) ≡ Some product → item ≡ f product)
    → take i items ≡ map f (take i (drop first products))
    → take (i + 1) (set items i item) ≡ map f (take (i + 1) (drop first products))
filled_more f products first i items item below within gives far =
    let none : Product = record { a = 0; b = 0; c = 0 } in
    let behind = drop first products in
    let there : i < length behind = omega (arith, length-drop first products, below) in
    let room : i < length (set items i item) = omega (arith, length-set items i item, within) in
    let same : get_or (set items i item) i item ≡ f (get_or behind i none) =
    get_or-set_same items i item item within
    ∙ gives (get_or products (first + i) none) (slice_get-get_or products (first + i) none below)
    ∙ ap f (sym (get_or-drop first products i none)) in
    take_more (set items i item) i item room
    ∙ (λ j. (take-set items i item ∙ far) j ++ same j ∷ [])
    ∙ sym (ap (map f) (take_more behind i none there) ∙ map-append f (take i behind) (get_or behind i none ∷ []))

-- the same, with the block's length
pub block_filled : {T : Type 0} (f : Product → T) (products : List Product) (first i count : ℕ) (items : List T) (item : T)
    → first + i < length products → i < length items
    → ((product : Product) → slice_get products (first + i) ≡ Some product → item ≡ f product)
    → (length items ≡ count) × (take i items ≡ map f (take i (drop first products)))
    → (length (set items i item) ≡ count) × (take (i + 1) (set items i item) ≡ map f (take (i + 1) (drop first products)))
block_filled f products first i count items item below within gives far =
    (length-set items i item ∙ far.0, filled_more f products first i items item below within gives far.1)

-- the items from one number up to another, and those of a block after them
block_joined : {T : Type 0} (f : Product → T) (products : List Product) (first at count : ℕ) → first ≤ at
    → map f (take (at - first) (drop first products)) ++ map f (take (at + count - at) (drop at products))
    ≡ map f (take (at + count - first) (drop first products))
block_joined f products first at count low =
    let length_is : at + count - first ≡ (at - first) + (at + count - at) = omega (arith, low) in
    let place : first + (at - first) ≡ at = omega (arith, low) in
    sym (ap (λ n. map f (take n (drop first products))) length_is
    ∙ ap (map f) (take-add (at - first) (at + count - at) (drop first products))
    ∙ map-append f (take (at - first) (drop first products)) (take (at + count - at) (drop (at - first) (drop first products)))
    ∙ ap (λ l. map f (take (at - first) (drop first products)) ++ map f (take (at + count - at) l))
    (drop-drop (at - first) first products ∙ ap (λ n. drop n products) place))

-- none yet
none_between : {T : Type 0} (f : Product → T) (products : List Product) (first : ℕ) → map f (take (first - first) (drop first products)) ≡ []
none_between f products first = let none : first - first ≡ 0 = omega arith in ap (λ n. map f (take n (drop first products))) none

-- ---- what holds of the items from one number up to another

-- of none yet
pub holds_of_none : {T : Type 0} (P : List T → Type 0) (f : Product → T) (products : List Product) (first : ℕ) → P [] → P (map f (take (first - first) (drop first products)))
holds_of_none P f products first none = subst P (sym (none_between f products first)) none

-- and of a block more, that was read into a list
pub holds_of_more : {T : Type 0} (P : List T → Type 0) (f : Product → T) (products : List Product) (first at count : ℕ) (block : List T) → first ≤ at
    → block ≡ map f (take (at + count - at) (drop at products)) → P (map f (take (at - first) (drop first products)) ++ block)
    → P (map f (take (at + count - first) (drop first products)))
holds_of_more P f products first at count block low read = subst P
    (ap (λ l. map f (take (at - first) (drop first products)) ++ l) read ∙ block_joined f products first at count low)
