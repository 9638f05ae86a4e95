-- Bytes, item by item and unit by unit.
use Rattle.std.proofs.Common.{◌≡◌, ℕ, ◌+◌, ◌-◌, ◌*◌, ◌<◌, ◌≤◌, List, [], ◌∷◌, ◌++◌, length, map, flat_map, take, drop, get_or, ap, sym, ◌∙◌, arith, append_assoc, length-take-le, length-drop, mul-le-mul_left}
use Rattle.std.specs.Prelude.{slice_range}
use Rattle.std.specs.List.{range_with_len}
use Rattle.std.proofs.lemmas.List.{flat_map_more, take_more, take_all}
use Rattle.std.proofs.lemmas.List.Folds.{flat_map-map}
use Rattle.std.proofs.lemmas.List.FromFn.{get_or-map-range_with_len}
use Rattle.zk_model.specs.declared.Params.{Params}
use Rattle.dealer_files.specs.Flat.{piece, trees_of, transfers_per_unit}
use Rattle.dealer_files.proofs.Pieces.{joined_pieces}

-- the bytes of one item more
pub item_more : {A : Type 0} (f : A → List ℕ) (items : List A) (i : ℕ) (item : A) (old before now bytes : List ℕ)
    → i < length items → item ≡ get_or items i item → before ≡ old ++ flat_map f (take i items) → now ≡ before ++ bytes → bytes ≡ f item
    → now ≡ old ++ flat_map f (take (i + 1) items)
item_more f items i item old before now bytes within at far pushed is =
    let last : take i items ++ item ∷ [] ≡ take (i + 1) items = ap (λ q. take i items ++ q ∷ []) at ∙ sym (take_more items i item within) in
    pushed ∙ (λ j. far j ++ is j) ∙ flat_map_more f old (take i items) item ∙ ap (λ l. old ++ flat_map f l) last

-- of two pieces
pub item_of_two_more : {A : Type 0} (f : A → List ℕ) (items : List A) (i : ℕ) (item : A) (old before between now first second : List ℕ)
    → i < length items → item ≡ get_or items i item → before ≡ old ++ flat_map f (take i items)
    → between ≡ before ++ first → now ≡ between ++ second → first ++ second ≡ f item
    → now ≡ old ++ flat_map f (take (i + 1) items)
item_of_two_more f items i item old before between now first second within at far begun ended is =
    item_more f items i item old before now (first ++ second) within at far
    (ended ∙ (λ j. begun j ++ second) ∙ append_assoc before first second) is

-- the items of a unit, tree by tree, are a range of the flat list
pub unit_items_are : {A U : Type 0} (params : Params) (part : U → List (List A)) (made : ℕ → U) (none : U) (items : List A) (unit : ℕ)
    → length items ≡ transfers_per_unit params * params.total → unit < params.total
    → ((u : ℕ) → part (made u) ≡ trees_of params items u)
    → slice_range items (transfers_per_unit params * unit) (transfers_per_unit params * (unit + 1))
    ≡ flat_map (λ levels. levels) (part (get_or (map made (range_with_len 0 params.total)) unit none))
unit_items_are {A = A} params part made none items unit whole below cut =
    ap (λ k. take k (drop (each * unit) items)) (one each unit)
    ∙ sym (flat_map-map (λ (levels : List A). levels) (piece params.height block) (range_with_len 0 params.trees)
    ∙ joined_pieces params.height block 0 params.trees ∙ all)
    ∙ ap (flat_map (λ levels. levels)) (sym (ap part (get_or-map-range_with_len made 0 params.total unit unit none below (omega arith)) ∙ cut unit))
  where
    each : ℕ
    each = transfers_per_unit params

    block : List A
    block = piece each items unit

    one : (each unit : ℕ) → each * (unit + 1) - each * unit ≡ each
    one each unit = let more : each * (unit + 1) ≡ each * unit + each = omega arith in omega arith

    sized : length block ≡ each
    sized =
        let most : each * (unit + 1) ≤ each * params.total = mul-le-mul_left each (omega (arith, below)) in
        let more : each * (unit + 1) ≡ each * unit + each = omega arith in
        length-take-le each (drop (each * unit) items) (omega (arith, length-drop (each * unit) items))

    all : take (params.height * params.trees) (drop (params.height * 0) block) ≡ block
    all =
        let none : params.height * 0 ≡ 0 = omega arith in
        ap (λ k. take (params.height * params.trees) (drop k block)) none
        ∙ take_all (params.height * params.trees) block (omega (arith, sized))

-- one list more after those that are appended
appended_more : (old appended before now next : List ℕ) → now ≡ before ++ next → before ≡ old ++ appended → now ≡ old ++ (appended ++ next)
appended_more old appended before now next pushed far = pushed ∙ ap (λ l. l ++ next) far ∙ append_assoc old appended next

-- six lists, one after another
pub six_appended : (p q r s t u old a b d e f g : List ℕ) → a ≡ old ++ p → b ≡ a ++ q → d ≡ b ++ r → e ≡ d ++ s → f ≡ e ++ t → g ≡ f ++ u
    → g ≡ old ++ (p ++ q ++ r ++ s ++ t ++ u)
six_appended p q r s t u old a b d e f g first second third fourth fifth sixth =
    appended_more old (p ++ q ++ r ++ s ++ t) f g u sixth
    (appended_more old (p ++ q ++ r ++ s) e f t fifth
    (appended_more old (p ++ q ++ r) d e s fourth
    (appended_more old (p ++ q) b d r third
    (appended_more old p a b q second first))))
