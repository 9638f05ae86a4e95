-- What a door in memory was asked last.
use Rattle.std.proofs.Common.{◌≡◌, ◌-◌, ◌+◌, ◌<◌, ◌++◌, ◌∷◌, [], ℕ, List, Some, Result, Ok, Err, IfOk, String, Global, length, slice_get, take, map, string_bytes, ap, sym, ◌∙◌, arith}
use Rattle.std.proofs.lemmas.List.{map_push, take_all, take_more}
use Rattle.std.proofs.lemmas.Option.{get_or_from_slice_get, slice_get_within}
use Rattle.memory_ports.specs.Asking.{asked_of}
use Rattle.memory_ports.specs.declared.memory_door.Asked.{Asked}

-- the last item stands behind the others
last_split : {X : Type 0} (xs : List X) (x : X) → slice_get xs (length xs - 1) ≡ Some x → xs ≡ take (length xs - 1) xs ++ x ∷ []
last_split xs x is =
    let within : length xs - 1 < length xs = slice_get_within xs (length xs - 1) x is in
    let whole : length xs - 1 + 1 ≡ length xs = omega (arith, within) in
    sym (take_all (length xs) xs (omega arith)) ∙ ap (λ n. take n xs) (sym whole) ∙ take_more xs (length xs - 1) x within
    ∙ ap (λ y. take (length xs - 1) xs ++ y ∷ []) (get_or_from_slice_get xs (length xs - 1) x x is)

-- the address that was asked for last
last_asked : (all : List Asked) (asked : Asked) (text : List ℕ) → slice_get all (length all - 1) ≡ Some asked → text ≡ string_bytes asked.address
    → (before : List (List ℕ × ℕ)) × (patience : ℕ) × (map asked_of all ≡ before ++ (text, patience) ∷ [])
last_asked all asked text is said = (
  map asked_of (take (length all - 1) all),
  asked.patience,
  ap (map asked_of) (last_split all asked is) ∙ map_push asked_of (take (length all - 1) all) asked
      ∙ ap (λ t. map asked_of (take (length all - 1) all) ++ (t, asked.patience) ∷ []) (sym said),
)

-- and its text
pub says_asked : {E : Type 0} (all : List Asked) (asked : Asked) (bytes : List ℕ) (result : Result (String Global) E) → slice_get all (length all - 1) ≡ Some asked
    → bytes ≡ string_bytes asked.address → IfOk result (λ text. string_bytes text ≡ bytes)
    → IfOk result (λ text. (before : List (List ℕ × ℕ)) × (patience : ℕ) × (map asked_of all ≡ before ++ (string_bytes text, patience) ∷ []))
says_asked all asked bytes (Ok text) is same said = last_asked all asked (string_bytes text) is (said ∙ same)
says_asked all asked bytes (Err fault) is same said = tt
