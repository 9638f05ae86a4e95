-- What is held where a piece has a bad byte, and what that says of all bytes that were wanted.
use Rattle.std.proofs.Common.{◌≡◌, ℕ, ◌+◌, ◌-◌, ◌≤◌, List, [], ◌∷◌, ◌++◌, length, take, drop, get_or, refl, sym, ◌∙◌, ap, arith, length-append, append_assoc, subst}
use Rattle.std.proofs.Math.Seq.{take-append-add}
use Rattle.std.proofs.lemmas.List.{take_at}
use Rattle.zk_model.specs.Frames.{CanGoOn}
use Rattle.zk_model.specs.declared.Expect.{Expect}
use Rattle.proof_frames.specs.Holding.{Holds, StopsAt, bytes_of}
use Rattle.proof_frames.specs.declared.held.Held.{Held}

-- the front of bytes of which others are the front, too
front : (n : ℕ) (one rest other piece : List ℕ) → one ++ rest ≡ other ++ piece → length one ≡ length other + n → one ≡ other ++ take n piece
front n one rest other piece same sized =
    sym (take_at one rest (length one) refl) ∙ (λ i. take (sized i) (same i)) ∙ take-append-add other piece n

-- a list that is not empty
split : (rest : List ℕ) (byte : ℕ) → 1 ≤ length rest → byte ≡ get_or rest 0 0 → rest ≡ byte ∷ drop 1 rest
split [] byte some is = absurd (omega arith)
split (first ∷ rest) byte some is = ap (λ x. x ∷ rest) (sym is)

-- a piece up to its bad byte
pub stops : (place : Expect) (old now new : Held) (piece rest : List ℕ) (byte : ℕ) → Holds place now
    → bytes_of now ++ rest ≡ bytes_of old ++ piece → length rest ≤ length piece → 1 ≤ length rest → byte ≡ get_or rest 0 0 → new ≡ now
    → ¬ CanGoOn place (bytes_of now ++ byte ∷ []) → StopsAt place old piece (length piece - length rest) new
stops place old now new piece rest byte holds same less some first unchanged ends =
    let one : List ℕ = bytes_of now in
    let other : List ℕ = bytes_of old in
    let n = length piece - length rest in
    let sized : length one + length rest ≡ length other + length piece = sym (length-append one rest) ∙ ap length same ∙ length-append other piece in
    let more : (one ++ byte ∷ []) ++ drop 1 rest ≡ other ++ piece =
    append_assoc one (byte ∷ []) (drop 1 rest) ∙ ap (λ l. one ++ l) (sym (split rest byte some first)) ∙ same in
    record {
      within = omega arith;
      holds = subst (Holds place) (sym unchanged) holds;
      bytes = ap bytes_of unchanged ∙ front n one rest other piece same (omega arith);
      ends = subst (λ (l : List ℕ). ¬ CanGoOn place l) (front (n + 1) (one ++ byte ∷ []) (drop 1 rest) other piece more (omega (arith, length-append one (byte ∷ [])))) ends;
    }
