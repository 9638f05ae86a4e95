-- Sections of a list, and maps over them.
use Rattle.std.proofs.Common.{◌≡◌, ℕ, ◌+◌, ◌*◌, ◌/◌, ◌%◌, ◌<◌, ◌≤◌, List, [], ◌∷◌, map, take, drop, length, refl, sym, ◌∙◌, ap, arith}
use Rattle.std.specs.Prelude.{All, slice_index_or}
use Rattle.std.specs.List.{take-map, drop-map}
use Rattle.std.proofs.Math.ListN.{length-take, length-drop}
use Rattle.std.proofs.lemmas.List.{get_or-take, get_or-drop}
use Rattle.std.proofs.lemmas.List.Elements.{All-take, All-drop, All-tail}
use Rattle.std.proofs.lemmas.Nat.{div_below, mod_below}
use Rattle.zk_model.specs.Program.{part_count}
use Rattle.zk_model.specs.Check.{section_of}

-- ---- maps

-- functions that agree on all items make the same list of them
pub map_same : {A B : Type 0} (f g : A → B) (items : List A) → All (λ item. f item ≡ g item) items → map f items ≡ map g items
map_same f g [] same = refl
map_same f g (item ∷ items) same =
    λ i. same 0 item (omega arith) i ∷ map_same f g items (All-tail (λ item. f item ≡ g item) item items same) i

-- a map after a map
pub map_twice : {A B C : Type 0} (f : B → C) (g : A → B) (items : List A) → map f (map g items) ≡ map (λ item. f (g item)) items
map_twice f g [] = refl
map_twice f g (item ∷ items) = ap (λ l. f (g item) ∷ l) (map_twice f g items)

-- a section of mapped items
pub section_of-map : {A B : Type 0} (f : A → B) (size s : ℕ) (items : List A) → section_of size s (map f items) ≡ map f (section_of size s items)
section_of-map f size s items = ap (take size) (drop-map f (s * size) items) ∙ take-map f size (drop (s * size) items)

-- what holds of all items holds of those of a section
pub in_section : {A : Type 0} (P : A → Type 0) (size s : ℕ) (items : List A) → All P items → All P (section_of size s items)
in_section P size s items all = All-take P size (drop (s * size) items) (All-drop P (s * size) items all)

-- ---- places

-- place k stands in a section of the list
section_below : (n size k : ℕ) → 1 ≤ size → k < n → k / size < part_count n size
section_below n size k some below = div_below k size (part_count n size) some within
  where
    within : k < part_count n size * size
    within = omega (arith, some, below)

-- what section k / size has at place k % size is what the list has at place k
section_place : (size k : ℕ) (items : List ℕ) (d : ℕ) → 1 ≤ size
    → slice_index_or (section_of size (k / size) items) (k % size) d ≡ slice_index_or items k d
section_place size k items d some =
    get_or-take size (drop (k / size * size) items) (k % size) d (mod_below k size some)
    ∙ get_or-drop (k / size * size) items (k % size) d
    ∙ ap (λ i. slice_index_or items i d) (omega (arith, some))

-- and that section is long enough
section_long : (size k : ℕ) (items : List ℕ) → 1 ≤ size → k < length items → k % size < length (section_of size (k / size) items)
section_long size k items some below =
    let taken = length-take size (drop (k / size * size) items) in
    let dropped = length-drop (k / size * size) items in
    let part = mod_below k size some in
    let split : k / size * size + k % size ≡ k = omega (arith, some) in
    omega (arith, taken, dropped, part, split, below)

-- where every item of every section is 0, all items are 0
pub all_zero : (n size : ℕ) (items : List ℕ) → 1 ≤ size → length items ≡ n
    → ((s : ℕ) → s < part_count n size → All (λ a. a ≡ 0) (section_of size s items)) → All (λ a. a ≡ 0) items
all_zero n size items some count each k d below =
    sym (section_place size k items d some)
    ∙ each (k / size) (section_below n size k some (omega (arith, count, below))) (k % size) d (section_long size k items some below)
