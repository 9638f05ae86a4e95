-- What an update of a map of files does to what stands under each name.
use Rattle.std.proofs.Common.{◌≡◌, ℕ, List, Option, Some, None, Bool, true, false, cond, refl, ap, ◌∙◌, Vec, String}
use Rattle.std.specs.Option.{option_map}
use Rattle.std.specs.BTreeMap.{BTreeMap, UpdatesBy}
use Rattle.std.specs.Ordering.{nat_cmp}
use Rattle.std.specs.Cmp.Lexicographic.{slice_cmp}
use Rattle.std.specs.Str.{bytes_eq}
use Rattle.std.specs.String.{string_cmp, string_bytes}
use Rattle.std.specs.declared.alloc.Global.{Global}
use Rattle.std.proofs.lemmas.Map.Text.{btree_map_updates_text}
use Rattle.zk_port.specs.Files.{Files, stored}
use Rattle.memory_ports.specs.Plans.{file_of, found, without}

option_map-cond : {A B : Type 0} (f : A → B) (b : Bool) (x y : Option A) → option_map f (cond b x y) ≡ cond b (option_map f x) (option_map f y)
option_map-cond f true x y = refl
option_map-cond f false x y = refl

pub put_files : (old new : BTreeMap (String Global) (Vec ℕ Global)) (key : String Global) (value : Vec ℕ Global) (name bytes : List ℕ)
    → UpdatesBy string_cmp (λ k. slice_cmp nat_cmp (string_bytes key) (string_bytes k)) old new (Some value)
    → string_bytes key ≡ name → value.items ≡ bytes
    → (other : List ℕ) → file_of new other ≡ stored name bytes (file_of old) other
put_files old new key value name bytes updates named held other =
    ap (option_map (λ v. v.items)) (btree_map_updates_text (string_bytes key) old new (Some value) updates other)
    ∙ option_map-cond (λ (v : Vec ℕ Global). v.items) (bytes_eq (string_bytes key) other) _ _
    ∙ ap (λ n. cond (bytes_eq n other) (Some value.items) (file_of old other)) named
    ∙ ap (λ b. cond (bytes_eq name other) (Some b) (file_of old other)) held

pub take_files : (old new : BTreeMap (String Global) (Vec ℕ Global)) (name : List ℕ)
    → UpdatesBy string_cmp (λ k. slice_cmp nat_cmp name (string_bytes k)) old new None
    → (other : List ℕ) → file_of new other ≡ without name (file_of old) other
take_files old new name updates other =
    ap (option_map (λ v. v.items)) (btree_map_updates_text name old new None updates other)
    ∙ option_map-cond (λ (v : Vec ℕ Global). v.items) (bytes_eq name other) _ _

-- a plan that reads what isn't there as empty sees the same change
pub found-stored : (forgiving : Bool) (name bytes : List ℕ) (files : Files) (other : List ℕ)
    → found forgiving (stored name bytes files other) ≡ stored name bytes (λ n. found forgiving (files n)) other
found-stored forgiving name bytes files other =
    let P : Bool → Type 0 = λ b. found forgiving (cond b (Some bytes) (files other)) ≡ cond b (Some bytes) (found forgiving (files other)) in
    elim (bytes_eq name other) as (λ b. P b) [ true ↦ refl | false ↦ refl ]

-- files that change at each name alike are changed alike as a whole
pub same_files : (forgiving : Bool) (name bytes : List ℕ) (old new : Files)
    → ((other : List ℕ) → new other ≡ stored name bytes old other)
    → ◌≡◌ {A = Option Files} (Some (λ n. found forgiving (new n))) (Some (stored name bytes (λ n. found forgiving (old n))))
same_files forgiving name bytes old new each =
    λ i. Some (λ other. (ap (found forgiving) (each other) ∙ found-stored forgiving name bytes old other) i)
