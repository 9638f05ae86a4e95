-- The MACs of opened wires, one after another.
use Rattle.std.proofs.Common.{◌≡◌, ℕ, zero, suc, ◌+◌, ◌<◌, ◌≤◌, List, [], ◌∷◌, ◌++◌, length, take, get_or, refl, ap, sym, ◌∙◌, arith}
use Rattle.std.proofs.lemmas.List.{take_more, map-append, length-map, take_all}
use Rattle.zk_model.specs.Mac.{Pair, pair_at, macs_of}
use Rattle.zk_model.specs.Program.{Program}
use Rattle.zk_model.specs.Check.{WirePairs, opened_pairs}

-- the pair at a place, as the item that is read there
pair_there : (pairs : List Pair) (o : ℕ) (other : Pair) → o < length pairs → pair_at pairs o ≡ get_or pairs o other
pair_there [] o other below = absurd (omega arith)
pair_there (pair ∷ pairs) zero other below = refl
pair_there (pair ∷ pairs) (suc o) other below = pair_there pairs o other (omega arith)

-- one MAC more
pub macs_more : (pairs : List Pair) (o count : ℕ) (pair : Pair) (before now : List ℕ) → length pairs ≡ count → o < count → pair ≡ pair_at pairs o
    → now ≡ before ++ pair.m ∷ [] → before ≡ macs_of (take o pairs) → now ≡ macs_of (take (o + 1) pairs)
macs_more pairs o count pair before now sized below is pushed far =
    let within : o < length pairs = omega (arith, sized) in
    pushed ∙ (λ i. far i ++ (is i).m ∷ [])
    ∙ ap (λ (p : Pair). macs_of (take o pairs) ++ p.m ∷ []) (pair_there pairs o pair within)
    ∙ sym (map-append (λ (p : Pair). p.m) (take o pairs) (get_or pairs o pair ∷ []))
    ∙ ap macs_of (sym (take_more pairs o pair within))

-- all MACs
pub all_macs : (program : Program) (pairs : WirePairs) (opened : List ℕ) (o : ℕ) (macs : List ℕ) → opened ≡ program.opened → length opened ≤ o
    → macs ≡ macs_of (take o (opened_pairs program pairs))
    → (macs ≡ macs_of (opened_pairs program pairs)) × (length macs ≡ length program.opened)
all_macs program pairs opened o macs are end far =
    let sized : length (opened_pairs program pairs) ≡ length opened = length-map program.opened (pair_at pairs.wires) ∙ sym (ap length are) in
    let all : take o (opened_pairs program pairs) ≡ opened_pairs program pairs = take_all o (opened_pairs program pairs) (omega (arith, sized, end)) in
    let whole : macs ≡ macs_of (opened_pairs program pairs) = far ∙ ap macs_of all in
    (whole, ap length whole ∙ length-map (opened_pairs program pairs) (λ (p : Pair). p.m) ∙ length-map program.opened (pair_at pairs.wires))
