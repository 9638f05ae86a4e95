-- A first half that was noted, or not.
use Rattle.std.proofs.Common.{◌≡◌, ℕ, List, [], ◌∷◌, ◌++◌, take, refl, ap, sym, ◌∙◌, Result, Ok, Err, OnOk, OnErr, append-nil, length, ◌+◌, ◌≤◌, min, arith}
use Rattle.std.proofs.lemmas.List.{length-append, length-take}
use Rattle.std.specs.declared.alloc.AllocError.{AllocError}
use Rattle.zk_port.specs.Logs.{bytes_of}
use Rattle.zk_port.specs.declared.way.Way.{Way}

pub half_noted : (r : Result (Unit {0}) AllocError) (old new : List (Way × ℕ)) (way : Way) (bytes : List ℕ) (n : ℕ)
    → OnOk r (new ≡ old ++ bytes_of way (take n bytes)) → OnErr r (new ≡ old)
    → (m : ℕ) × (new ≡ old ++ bytes_of way (take m bytes))
half_noted (Ok u) old new way bytes n noted refused = (n, noted)
half_noted (Err e) old new way bytes n noted refused = (0, refused ∙ sym (append-nil old))

pub length-bytes_of : (way : Way) (bytes : List ℕ) → length (bytes_of way bytes) ≡ length bytes
length-bytes_of way [] = refl
length-bytes_of way (b ∷ bytes) = let e : length (bytes_of way bytes) ≡ length bytes = length-bytes_of way bytes in omega (arith, e)

pub half_length : (r : Result (Unit {0}) AllocError) (old new : List (Way × ℕ)) (way : Way) (bytes : List ℕ) (n : ℕ)
    → OnOk r (new ≡ old ++ bytes_of way (take n bytes)) → OnErr r (new ≡ old)
    → length new ≤ length old + n
half_length (Ok u) old new way bytes n noted refused =
    let all : length new ≡ length old + length (bytes_of way (take n bytes)) =
    ap length noted ∙ length-append old (bytes_of way (take n bytes)) in
    let same : length (bytes_of way (take n bytes)) ≡ length (take n bytes) = length-bytes_of way (take n bytes) in
    let cut : length (take n bytes) ≡ min n (length bytes) = length-take n bytes in
    omega (arith, all, same, cut)
half_length (Err e) old new way bytes n noted refused =
    let all : length new ≡ length old = ap length refused in omega (arith, all)
