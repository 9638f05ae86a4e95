-- Turns of a session as lists of bytes: which of them are the same, by how long they are.
use Rattle.std.proofs.Common.{◌≡◌, ℕ, zero, suc, ◌<◌, ◌≤◌, List, [], ◌∷◌, ◌++◌, map, flat_map, take, drop, length, get_or, refl, ap, arith, ◌∙◌, sym, length-append, append-nil, append_assoc}
use Rattle.std.specs.List.{AllByRecursion}
use Rattle.std.proofs.lemmas.Grind.{flat_map-append}
use Rattle.frame_laws.proofs.Codes.{regroup, same_front}
use Rattle.frame_laws.proofs.SentBytes.{sent_by-prover, sent_by-verifier}
use Rattle.zk_model.specs.Transcript.{bytes_from, turn_bytes, sent_by}
use Rattle.zk_model.specs.declared.Side.TheVariants.{Prover, Verifier}

-- what the prover says in turns, and what the verifier answers
abbrev pub said : List (List ℕ × List ℕ) → List ℕ
said turns = flat_map (λ turn. turn.0) turns

abbrev pub answered : List (List ℕ × List ℕ) → List ℕ
answered turns = flat_map (λ turn. turn.1) turns

-- how long both are, turn by turn
abbrev pub sizes : List (List ℕ × List ℕ) → List (ℕ × ℕ)
sizes turns = map (λ turn. (length turn.0, length turn.1)) turns

-- ---- turns of the same sizes

-- the first turns are
first_sizes : (u t : List ℕ × List ℕ) (us ts : List (List ℕ × List ℕ)) → sizes (u ∷ us) ≡ sizes (t ∷ ts)
    → (length u.0 ≡ length t.0) × (length u.1 ≡ length t.1) × (sizes us ≡ sizes ts)
first_sizes u t us ts sized = (
  ap (λ (l : List (ℕ × ℕ)). (get_or l 0 (0, 0)).0) sized,
  ap (λ (l : List (ℕ × ℕ)). (get_or l 0 (0, 0)).1) sized,
  ap (drop 1) sized,
)

-- there are as many
pub as_many : (us ts : List (List ℕ × List ℕ)) → sizes us ≡ sizes ts → length us ≡ length ts
as_many [] [] sized = refl
as_many [] (t ∷ ts) sized = let whole = ap length sized in absurd (omega (arith, whole))
as_many (u ∷ us) [] sized = let whole = ap length sized in absurd (omega (arith, whole))
as_many (u ∷ us) (t ∷ ts) sized = ap suc (as_many us ts (first_sizes u t us ts sized).2)

-- a part of a turn, of which turns of the same sizes have as much
abbrev IsSized : (List ℕ × List ℕ → List ℕ) → Type 0
IsSized part = (u t : List ℕ × List ℕ) → length u.0 ≡ length t.0 → length u.1 ≡ length t.1 → length (part u) ≡ length (part t)

-- the parts of as many first turns, joined, tell each of them, and what comes after them
same_parts : (part : List ℕ × List ℕ → List ℕ) → IsSized part → (n : ℕ) (us ts : List (List ℕ × List ℕ)) (xs ys : List ℕ)
    → sizes us ≡ sizes ts → flat_map part (take n us) ++ xs ≡ flat_map part (take n ts) ++ ys
    → (map part (take n us) ≡ map part (take n ts)) × (xs ≡ ys)
same_parts part alike zero us ts xs ys sized same = (refl, same)
same_parts part alike (suc n) [] [] xs ys sized same = (refl, same)
same_parts part alike (suc n) [] (t ∷ ts) xs ys sized same = let whole = as_many [] (t ∷ ts) sized in absurd (omega (arith, whole))
same_parts part alike (suc n) (u ∷ us) [] xs ys sized same = let whole = as_many (u ∷ us) [] sized in absurd (omega (arith, whole))
same_parts part alike (suc n) (u ∷ us) (t ∷ ts) xs ys sized same =
    let sizes_of = first_sizes u t us ts sized in
    let first = same_front (part u) (part t) (flat_map part (take n us) ++ xs) (flat_map part (take n ts) ++ ys)
    (alike u t sizes_of.0 sizes_of.1)
    (regroup (part u) (flat_map part (take n us)) xs (part t) (flat_map part (take n ts)) ys same) in
    let rest = same_parts part alike n us ts xs ys sizes_of.2 first.1 in
    (λ i. first.0 i ∷ rest.0 i, rest.1)

pub same_said : (n : ℕ) (us ts : List (List ℕ × List ℕ)) (xs ys : List ℕ) → sizes us ≡ sizes ts
    → said (take n us) ++ xs ≡ said (take n ts) ++ ys
    → (map (λ turn. turn.0) (take n us) ≡ map (λ turn. turn.0) (take n ts)) × (xs ≡ ys)
same_said n us ts xs ys sized same = same_parts (λ turn. turn.0) (λ u t left right. left) n us ts xs ys sized same

pub same_answered : (n : ℕ) (us ts : List (List ℕ × List ℕ)) (xs ys : List ℕ) → sizes us ≡ sizes ts
    → answered (take n us) ++ xs ≡ answered (take n ts) ++ ys
    → (map (λ turn. turn.1) (take n us) ≡ map (λ turn. turn.1) (take n ts)) × (xs ≡ ys)
same_answered n us ts xs ys sized same = same_parts (λ turn. turn.1) (λ u t left right. right) n us ts xs ys sized same

-- the answers in as many first turns are as long
pub as_long_answered : (n : ℕ) (us ts : List (List ℕ × List ℕ)) → sizes us ≡ sizes ts
    → length (answered (take n us)) ≡ length (answered (take n ts))
as_long_answered zero us ts sized = refl
as_long_answered (suc n) [] [] sized = refl
as_long_answered (suc n) [] (t ∷ ts) sized = let whole = as_many [] (t ∷ ts) sized in absurd (omega (arith, whole))
as_long_answered (suc n) (u ∷ us) [] sized = let whole = as_many (u ∷ us) [] sized in absurd (omega (arith, whole))
as_long_answered (suc n) (u ∷ us) (t ∷ ts) sized =
    let part = first_sizes u t us ts sized in
    let same = part.1 in
    let rest = as_long_answered n us ts part.2 in
    let left = length-append u.1 (answered (take n us)) in
    let right = length-append t.1 (answered (take n ts)) in
    omega (arith, same, rest, left, right)

-- where every turn has some of a part, turns that have no more of it than n turns are n at most
no_more_parts : (part : List ℕ × List ℕ → List ℕ) → IsSized part → (m n : ℕ) (us ts : List (List ℕ × List ℕ)) → sizes us ≡ sizes ts
    → AllByRecursion (λ turn. 1 ≤ length (part turn)) us → m ≤ length us
    → length (flat_map part (take m us)) ≤ length (flat_map part (take n ts)) → m ≤ n
no_more_parts part alike zero n us ts sized some within most = omega arith
no_more_parts part alike (suc m) n [] ts sized some within most = absurd (omega (arith, within))
no_more_parts part alike (suc m) zero (u ∷ us) ts sized some within most =
    let joined = length-append (part u) (flat_map part (take m us)) in let first = some.0 in absurd (omega (arith, joined, first, most))
no_more_parts part alike (suc m) (suc n) (u ∷ us) [] sized some within most =
    let whole = as_many (u ∷ us) [] sized in absurd (omega (arith, whole))
no_more_parts part alike (suc m) (suc n) (u ∷ us) (t ∷ ts) sized some within most =
    let sizes_of = first_sizes u t us ts sized in
    let same = alike u t sizes_of.0 sizes_of.1 in
    let left = length-append (part u) (flat_map part (take m us)) in
    let right = length-append (part t) (flat_map part (take n ts)) in
    let rest = no_more_parts part alike m n us ts sizes_of.2 some.1 (omega (arith, within)) (omega (arith, same, left, right, most)) in
    omega (arith, rest)

pub no_more_turns : (m n : ℕ) (us ts : List (List ℕ × List ℕ)) → sizes us ≡ sizes ts
    → AllByRecursion (λ turn. 1 ≤ length turn.1) us → m ≤ length us
    → length (answered (take m us)) ≤ length (answered (take n ts)) → m ≤ n
no_more_turns = no_more_parts (λ turn. turn.1) (λ u t left right. right)

pub no_more_said : (m n : ℕ) (us ts : List (List ℕ × List ℕ)) → sizes us ≡ sizes ts
    → AllByRecursion (λ turn. 1 ≤ length turn.0) us → m ≤ length us
    → length (said (take m us)) ≤ length (said (take n ts)) → m ≤ n
no_more_said = no_more_parts (λ turn. turn.0) (λ u t left right. left)

-- turns are the same where what is said and what is answered are
pub same_turns : (us ts : List (List ℕ × List ℕ)) → map (λ turn. turn.0) us ≡ map (λ turn. turn.0) ts
    → map (λ turn. turn.1) us ≡ map (λ turn. turn.1) ts → us ≡ ts
same_turns [] [] left right = refl
same_turns [] (t ∷ ts) left right = let whole = ap length left in absurd (omega (arith, whole))
same_turns (u ∷ us) [] left right = let whole = ap length left in absurd (omega (arith, whole))
same_turns (u ∷ us) (t ∷ ts) left right =
    let first : u.0 ≡ t.0 = ap (λ l. get_or l 0 []) left in
    let second : u.1 ≡ t.1 = ap (λ l. get_or l 0 []) right in
    let rest : us ≡ ts = same_turns us ts (ap (drop 1) left) (ap (drop 1) right) in
    λ i. (first i, second i) ∷ rest i

-- ---- one turn more

part_more : (part : List ℕ × List ℕ → List ℕ) (n : ℕ) (turns : List (List ℕ × List ℕ)) → n < length turns
    → flat_map part (take (suc n) turns) ≡ flat_map part (take n turns) ++ part (get_or turns n ([], []))
part_more part n [] below = absurd (omega (arith, below))
part_more part zero (turn ∷ turns) below = append-nil (part turn)
part_more part (suc n) (turn ∷ turns) below =
    ap (λ l. part turn ++ l) (part_more part n turns (omega (arith, below)))
    ∙ sym (append_assoc (part turn) (flat_map part (take n turns)) (part (get_or turns n ([], []))))

pub said_more : (n : ℕ) (turns : List (List ℕ × List ℕ)) → n < length turns
    → said (take (suc n) turns) ≡ said (take n turns) ++ (get_or turns n ([], [])).0
said_more = part_more (λ turn. turn.0)

pub answered_more : (n : ℕ) (turns : List (List ℕ × List ℕ)) → n < length turns
    → answered (take (suc n) turns) ≡ answered (take n turns) ++ (get_or turns n ([], [])).1
answered_more = part_more (λ turn. turn.1)

-- fewer turns are a beginning
fewer_parts : (part : List ℕ × List ℕ → List ℕ) (n m : ℕ) (turns : List (List ℕ × List ℕ)) → n ≤ m
    → (rest : List ℕ) × (flat_map part (take m turns) ≡ flat_map part (take n turns) ++ rest)
fewer_parts part zero m turns within = (flat_map part (take m turns), refl)
fewer_parts part (suc n) zero turns within = absurd (omega (arith, within))
fewer_parts part (suc n) (suc m) [] within = ([], refl)
fewer_parts part (suc n) (suc m) (turn ∷ turns) within =
    let later = fewer_parts part n m turns (omega (arith, within)) in
    (later.0, ap (λ l. part turn ++ l) later.1 ∙ sym (append_assoc (part turn) (flat_map part (take n turns)) later.0))

pub fewer_answered : (n m : ℕ) (turns : List (List ℕ × List ℕ)) → n ≤ m
    → (rest : List ℕ) × (answered (take m turns) ≡ answered (take n turns) ++ rest)
fewer_answered = fewer_parts (λ turn. turn.1)

pub fewer_said : (n m : ℕ) (turns : List (List ℕ × List ℕ)) → n ≤ m
    → (rest : List ℕ) × (said (take m turns) ≡ said (take n turns) ++ rest)
fewer_said = fewer_parts (λ turn. turn.0)

-- turns of the same sizes are as long at each place
pub same_length_in : (n : ℕ) (us ts : List (List ℕ × List ℕ)) → sizes us ≡ sizes ts
    → length (get_or us n ([], [])).0 ≡ length (get_or ts n ([], [])).0
same_length_in n [] [] sized = refl
same_length_in n [] (t ∷ ts) sized = let whole = as_many [] (t ∷ ts) sized in absurd (omega (arith, whole))
same_length_in n (u ∷ us) [] sized = let whole = as_many (u ∷ us) [] sized in absurd (omega (arith, whole))
same_length_in zero (u ∷ us) (t ∷ ts) sized = (first_sizes u t us ts sized).0
same_length_in (suc n) (u ∷ us) (t ∷ ts) sized = same_length_in n us ts (first_sizes u t us ts sized).2

-- ---- a log that ends with bytes of the prover

-- bytes of the prover after turns are one more turn, without an answer
abbrev pub unanswered : List (List ℕ × List ℕ) → List ℕ → List (List ℕ × List ℕ)
unanswered turns rest = turns ++ (rest, []) ∷ []

as_turns : (turns : List (List ℕ × List ℕ)) (rest : List ℕ)
    → turn_bytes turns ++ bytes_from Prover rest ≡ turn_bytes (unanswered turns rest)
as_turns turns rest =
    ap (λ l. turn_bytes turns ++ l) (sym (append-nil (bytes_from Prover rest)) ∙ sym (append-nil (bytes_from Prover rest ++ [])))
    ∙ sym (flat_map-append (λ turn. bytes_from Prover turn.0 ++ bytes_from Verifier turn.1) turns ((rest, []) ∷ []))

pub cut_said : (turns : List (List ℕ × List ℕ)) (rest : List ℕ)
    → sent_by Prover (turn_bytes turns ++ bytes_from Prover rest) ≡ said turns ++ rest
cut_said turns rest =
    ap (sent_by Prover) (as_turns turns rest) ∙ sent_by-prover (unanswered turns rest)
    ∙ flat_map-append (λ turn. turn.0) turns ((rest, []) ∷ []) ∙ ap (λ l. said turns ++ l) (append-nil rest)

pub cut_answered : (turns : List (List ℕ × List ℕ)) (rest : List ℕ)
    → sent_by Verifier (turn_bytes turns ++ bytes_from Prover rest) ≡ answered turns
cut_answered turns rest =
    ap (sent_by Verifier) (as_turns turns rest) ∙ sent_by-verifier (unanswered turns rest)
    ∙ flat_map-append (λ turn. turn.1) turns ((rest, []) ∷ []) ∙ append-nil (answered turns)
