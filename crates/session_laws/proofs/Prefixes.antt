-- Beginnings of the log of turns: where they end.
use Rattle.std.proofs.Common.{◌≡◌, ℕ, zero, suc, ◌<◌, List, [], ◌∷◌, ◌++◌, ◌⊎◌, inl, inr, ⊎_elim, take, drop, length, get_or, refl, sym, ◌∙◌, ap, arith, append_assoc, append-nil}
use Rattle.std.proofs.lemmas.List.{map-append}
use Rattle.std.proofs.lemmas.Grind.{flat_map-append}
use Rattle.session_laws.proofs.Turns.{said, answered}
use Rattle.frame_laws.proofs.SentBytes.{sent_by-prover, sent_by-verifier}
use Rattle.zk_model.specs.Transcript.{BeginsWith, bytes_from, turn_bytes, sent_by}
use Rattle.zk_model.specs.declared.Side.{Side}
use Rattle.zk_model.specs.declared.Side.TheVariants.{Prover, Verifier}

-- ---- turns, a turn, and the turns after it

abbrev turn_at : List (List ℕ × List ℕ) → ℕ → List ℕ × List ℕ
turn_at turns n = get_or turns n ([], [])

one_apart : (turns : List (List ℕ × List ℕ)) (n : ℕ) → n < length turns
    → (later : List (Side × ℕ)) × (turn_bytes turns ≡ turn_bytes (take n turns)
    ++ (bytes_from Prover (turn_at turns n).0 ++ (bytes_from Verifier (turn_at turns n).1 ++ later)))
one_apart [] n below = absurd (omega (arith, below))
one_apart (turn ∷ turns) zero below =
    (turn_bytes turns, append_assoc (bytes_from Prover turn.0) (bytes_from Verifier turn.1) (turn_bytes turns))
one_apart (turn ∷ turns) (suc n) below =
    let rest = one_apart turns n (omega (arith, below)) in
    let first = bytes_from Prover turn.0 ++ bytes_from Verifier turn.1 in (
      rest.0,
      ap (λ l. first ++ l) rest.1
          ∙ sym (append_assoc first (turn_bytes (take n turns))
          (bytes_from Prover (turn_at turns n).0 ++ (bytes_from Verifier (turn_at turns n).1 ++ rest.0))),
    )

-- the log of turns begins with some of them and a part of what is said in the next
pub begins_in_turn : (turns : List (List ℕ × List ℕ)) (n : ℕ) (rest more : List ℕ) → n < length turns → (get_or turns n ([], [])).0 ≡ rest ++ more
    → BeginsWith (turn_bytes turns) (turn_bytes (take n turns) ++ bytes_from Prover rest)
begins_in_turn turns n rest more below same =
    let apart = one_apart turns n below in
    let later = bytes_from Verifier (turn_at turns n).1 ++ apart.0 in (
      bytes_from Prover more ++ later,
      apart.1
          ∙ ap (λ l. turn_bytes (take n turns) ++ (l ++ later)) (ap (bytes_from Prover) same ∙ map-append (λ byte. (Prover, byte)) rest more)
          ∙ ap (λ l. turn_bytes (take n turns) ++ l) (append_assoc (bytes_from Prover rest) (bytes_from Prover more) later)
          ∙ sym (append_assoc (turn_bytes (take n turns)) (bytes_from Prover rest) (bytes_from Prover more ++ later)),
    )

-- or with a part of the answer to it
pub begins_in_answer : (turns : List (List ℕ × List ℕ)) (n : ℕ) (rest more : List ℕ) → n < length turns → (get_or turns n ([], [])).1 ≡ rest ++ more
    → BeginsWith (turn_bytes turns)
    (turn_bytes (take n turns) ++ (bytes_from Prover (get_or turns n ([], [])).0 ++ bytes_from Verifier rest))
begins_in_answer turns n rest more below same =
    let apart = one_apart turns n below in
    let front = turn_bytes (take n turns) in
    let says = bytes_from Prover (turn_at turns n).0 in (
      bytes_from Verifier more ++ apart.0,
      apart.1
          ∙ ap (λ l. front ++ (says ++ (l ++ apart.0))) (ap (bytes_from Verifier) same ∙ map-append (λ byte. (Verifier, byte)) rest more)
          ∙ ap (λ l. front ++ (says ++ l)) (append_assoc (bytes_from Verifier rest) (bytes_from Verifier more) apart.0)
          ∙ ap (λ l. front ++ l) (sym (append_assoc says (bytes_from Verifier rest) (bytes_from Verifier more ++ apart.0)))
          ∙ sym (append_assoc front (says ++ bytes_from Verifier rest) (bytes_from Verifier more ++ apart.0)),
    )

-- ---- a log that ends with bytes of the verifier

as_turns : (turns : List (List ℕ × List ℕ)) (says rest : List ℕ)
    → turn_bytes turns ++ (bytes_from Prover says ++ bytes_from Verifier rest) ≡ turn_bytes (turns ++ (says, rest) ∷ [])
as_turns turns says rest =
    ap (λ l. turn_bytes turns ++ l) (sym (append-nil (bytes_from Prover says ++ bytes_from Verifier rest)))
    ∙ sym (flat_map-append (λ turn. bytes_from Prover turn.0 ++ bytes_from Verifier turn.1) turns ((says, rest) ∷ []))

pub answer_said : (turns : List (List ℕ × List ℕ)) (says rest : List ℕ)
    → sent_by Prover (turn_bytes turns ++ (bytes_from Prover says ++ bytes_from Verifier rest)) ≡ said turns ++ says
answer_said turns says rest =
    ap (sent_by Prover) (as_turns turns says rest) ∙ sent_by-prover (turns ++ (says, rest) ∷ [])
    ∙ flat_map-append (λ turn. turn.0) turns ((says, rest) ∷ []) ∙ ap (λ l. said turns ++ l) (append-nil says)

pub answer_answered : (turns : List (List ℕ × List ℕ)) (says rest : List ℕ)
    → sent_by Verifier (turn_bytes turns ++ (bytes_from Prover says ++ bytes_from Verifier rest)) ≡ answered turns ++ rest
answer_answered turns says rest =
    ap (sent_by Verifier) (as_turns turns says rest) ∙ sent_by-verifier (turns ++ (says, rest) ∷ [])
    ∙ flat_map-append (λ turn. turn.1) turns ((says, rest) ∷ []) ∙ ap (λ l. answered turns ++ l) (append-nil rest)

-- ---- where a beginning ends

-- after the last turn, in what is said in a turn, or in the answer to it
pub data EndsIn (turns : List (List ℕ × List ℕ)) (log : List (Side × ℕ)) : Type 0 where
  at_end : log ≡ turn_bytes turns → EndsIn turns log
  in_turn : (n : ℕ) (rest more : List ℕ) → n < length turns → (get_or turns n ([], [])).0 ≡ rest ++ more
      → log ≡ turn_bytes (take n turns) ++ bytes_from Prover rest → EndsIn turns log
  in_answer : (n : ℕ) (rest more : List ℕ) → n < length turns → (get_or turns n ([], [])).1 ≡ rest ++ more
      → log ≡ turn_bytes (take n turns) ++ (bytes_from Prover (get_or turns n ([], [])).0 ++ bytes_from Verifier rest)
      → EndsIn turns log

-- a beginning of two lists ends in the first, or goes on with a beginning of the second
split_beginning : {A : Type 0} (xs ys front rest : List A) → xs ++ ys ≡ front ++ rest
    → BeginsWith xs front ⊎ ((more : List A) × (front ≡ xs ++ more) × (ys ≡ more ++ rest))
split_beginning [] ys front rest same = inr (front, refl, same)
split_beginning (x ∷ xs) ys [] rest same = inl (x ∷ xs, refl)
split_beginning {A} (x ∷ xs) ys (y ∷ front) rest same =
    let first : x ≡ y = ap (λ l. get_or l 0 x) same in
    ⊎_elim
    (λ (ends : BeginsWith xs front). inl (ends.0, λ i. first i ∷ ends.1 i))
    (λ (goes : (more : List A) × (front ≡ xs ++ more) × (ys ≡ more ++ rest)). inr (goes.0, λ i. sym first i ∷ goes.1 i, goes.2))
    (split_beginning xs ys front rest (ap (drop 1) same))

-- a beginning of one side's bytes is of that side
of_side : (side : Side) (bytes : List ℕ) (front rest : List (Side × ℕ)) → bytes_from side bytes ≡ front ++ rest
    → (first : List ℕ) × (more : List ℕ) × (bytes ≡ first ++ more) × (front ≡ bytes_from side first)
of_side side bytes [] rest same = ([], bytes, refl, refl)
of_side side [] (entry ∷ front) rest same = let whole = ap length same in absurd (omega (arith, whole))
of_side side (byte ∷ bytes) (entry ∷ front) rest same =
    let first : entry ≡ (side, byte) = sym (ap (λ l. get_or l 0 (side, byte)) same) in
    let later = of_side side bytes front rest (ap (drop 1) same) in
    (byte ∷ later.0, later.1, ap (λ l. byte ∷ l) later.2, λ i. first i ∷ later.3 i)

-- one turn earlier
later_turn : (turn : List ℕ × List ℕ) (turns : List (List ℕ × List ℕ)) (log more : List (Side × ℕ))
    → log ≡ (bytes_from Prover turn.0 ++ bytes_from Verifier turn.1) ++ more → EndsIn turns more → EndsIn (turn ∷ turns) log
later_turn turn turns log more is (at_end whole) =
    at_end (is ∙ ap (λ l. (bytes_from Prover turn.0 ++ bytes_from Verifier turn.1) ++ l) whole)
later_turn turn turns log more is (in_turn n rest after below same spelled) =
    in_turn (suc n) rest after (omega (arith, below)) same
    (is ∙ ap (λ l. (bytes_from Prover turn.0 ++ bytes_from Verifier turn.1) ++ l) spelled
    ∙ sym (append_assoc (bytes_from Prover turn.0 ++ bytes_from Verifier turn.1) (turn_bytes (take n turns)) (bytes_from Prover rest)))
later_turn turn turns log more is (in_answer n rest after below same spelled) =
    in_answer (suc n) rest after (omega (arith, below)) same
    (is ∙ ap (λ l. (bytes_from Prover turn.0 ++ bytes_from Verifier turn.1) ++ l) spelled
    ∙ sym (append_assoc (bytes_from Prover turn.0 ++ bytes_from Verifier turn.1) (turn_bytes (take n turns))
    (bytes_from Prover (get_or turns n ([], [])).0 ++ bytes_from Verifier rest)))

-- in the first turn
in_first_turn : (turn : List ℕ × List ℕ) (turns : List (List ℕ × List ℕ)) (log : List (Side × ℕ))
    → BeginsWith (bytes_from Prover turn.0) log → EndsIn (turn ∷ turns) log
in_first_turn turn turns log begins =
    let part = of_side Prover turn.0 log begins.0 begins.1 in
    in_turn 0 part.0 part.1 (omega arith) part.2 part.3

in_first_answer : (turn : List ℕ × List ℕ) (turns : List (List ℕ × List ℕ)) (log more : List (Side × ℕ))
    → log ≡ bytes_from Prover turn.0 ++ more → BeginsWith (bytes_from Verifier turn.1) more → EndsIn (turn ∷ turns) log
in_first_answer turn turns log more is begins =
    let part = of_side Verifier turn.1 more begins.0 begins.1 in
    in_answer 0 part.0 part.1 (omega arith) part.2 (is ∙ ap (λ l. bytes_from Prover turn.0 ++ l) part.3)

pub where_it_ends : (turns : List (List ℕ × List ℕ)) (log rest : List (Side × ℕ)) → turn_bytes turns ≡ log ++ rest → EndsIn turns log
where_it_ends [] [] rest same = at_end refl
where_it_ends [] (entry ∷ log) rest same = let whole = ap length same in absurd (omega (arith, whole))
where_it_ends (turn ∷ turns) log rest same = ⊎_elim
    (λ (begins : BeginsWith says log). in_first_turn turn turns log begins)
    (λ (goes : (more : List (Side × ℕ)) × (log ≡ says ++ more) × (answers ++ turn_bytes turns ≡ more ++ rest)). ⊎_elim
    (λ (begins : BeginsWith answers goes.0). in_first_answer turn turns log goes.0 goes.1 begins)
    (λ (later : (more : List (Side × ℕ)) × (goes.0 ≡ answers ++ more) × (turn_bytes turns ≡ more ++ rest)).
    later_turn turn turns log later.0 (goes.1 ∙ ap (λ l. says ++ l) later.1 ∙ sym (append_assoc says answers later.0))
    (where_it_ends turns later.0 rest later.2))
    (split_beginning answers (turn_bytes turns) goes.0 rest goes.2))
    (split_beginning says (answers ++ turn_bytes turns) log rest (sym (append_assoc says answers (turn_bytes turns)) ∙ same))
  where
    says : List (Side × ℕ)
    says = bytes_from Prover turn.0

    answers : List (Side × ℕ)
    answers = bytes_from Verifier turn.1
