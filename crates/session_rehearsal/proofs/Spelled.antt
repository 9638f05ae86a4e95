-- The log that the frames of a session make, one after another.
use Rattle.std.proofs.Common.{◌≡◌, ℕ, List, [], ◌∷◌, ◌++◌, ap, refl, sym, ◌∙◌, append_assoc, append-nil}
use mathlib.Core.List.{map-append}
use Rattle.std.proofs.lemmas.Grind.{flat_map-append}
use Rattle.zk_model.specs.Transcript.{Hello, Grant, Transcript, hello_frame, grant_frame, bytes_from, turn_bytes, setup_turns, spelling, corrections_frame, challenge_frame, sums_frame, openings_frame, verdict_frame}
use Rattle.zk_model.specs.declared.Side.{Side}
use Rattle.zk_model.specs.declared.Side.TheVariants.{Prover, Verifier}

-- a hello, a grant, and the asks and replies of rounds after them
pub setup_noted : (hello : Hello) (grant : Grant) (asks replies : List (Side × ℕ)) (turns : List (List ℕ × List ℕ))
    → asks ++ replies ≡ [] ++ turn_bytes turns
    → bytes_from Prover (hello_frame hello) ++ bytes_from Verifier (grant_frame grant) ++ asks ++ replies
    ≡ turn_bytes ((hello_frame hello, grant_frame grant) ∷ turns)
setup_noted hello grant asks replies turns noted =
    append_assoc (bytes_from Prover (hello_frame hello) ++ bytes_from Verifier (grant_frame grant)) asks replies
    ∙ ap (λ l. bytes_from Prover (hello_frame hello) ++ bytes_from Verifier (grant_frame grant) ++ l) noted

-- six lists in a row, as three parts
in_turns : {X : Type 0} (s c d e f g : List X)
    → s ++ c ++ d ++ e ++ f ++ g ≡ s ++ ((c ++ d) ++ ((e ++ f ++ g) ++ []))
in_turns s c d e f g =
    ap (λ l. l ++ e ++ f ++ g) (append_assoc s c d)
    ∙ ap (λ l. l ++ g) (append_assoc (s ++ (c ++ d)) e f)
    ∙ append_assoc (s ++ (c ++ d)) (e ++ f) g
    ∙ append_assoc s (c ++ d) (e ++ f ++ g)
    ∙ ap (λ l. s ++ ((c ++ d) ++ l)) (sym (append-nil (e ++ f ++ g)))

-- a log to which all frames after the setup are noted, one after another, is what the transcript spells
pub spelled : (t : Transcript) (l2 l3 l4 l5 l6 l7 : List (Side × ℕ)) → l2 ≡ turn_bytes (setup_turns t.commitment.setup)
    → l3 ≡ l2 ++ bytes_from Prover (corrections_frame t.commitment.corrections)
    → l4 ≡ l3 ++ bytes_from Verifier (challenge_frame t.challenge)
    → l5 ≡ l4 ++ bytes_from Prover (sums_frame t.sums)
    → l6 ≡ l5 ++ bytes_from Prover (openings_frame t.openings)
    → l7 ≡ l6 ++ bytes_from Verifier (verdict_frame t.code t.number)
    → l7 ≡ spelling t
spelled t l2 l3 l4 l5 l6 l7 e2 e3 e4 e5 e6 e7 =
    e7 ∙ ap (λ l. l ++ g)
    (e6 ∙ ap (λ l. l ++ f) (e5 ∙ ap (λ l. l ++ e) (e4 ∙ ap (λ l. l ++ d) (e3 ∙ ap (λ l. l ++ c) e2))))
    ∙ in_turns (turn_bytes (setup_turns t.commitment.setup)) c d e f g
    ∙ ap (λ l. turn_bytes (setup_turns t.commitment.setup) ++ ((c ++ d) ++ ((l ++ g) ++ [])))
    (sym (map-append (λ byte. (Prover, byte)) (sums_frame t.sums) (openings_frame t.openings)))
    ∙ sym (flat_map-append turn_of (setup_turns t.commitment.setup)
    ((corrections_frame t.commitment.corrections, challenge_frame t.challenge)
    ∷ (sums_frame t.sums ++ openings_frame t.openings, verdict_frame t.code t.number) ∷ []))
  where
    turn_of : List ℕ × List ℕ → List (Side × ℕ)
    turn_of turn = bytes_from Prover turn.0 ++ bytes_from Verifier turn.1

    c : List (Side × ℕ)
    c = bytes_from Prover (corrections_frame t.commitment.corrections)

    d : List (Side × ℕ)
    d = bytes_from Verifier (challenge_frame t.challenge)

    e : List (Side × ℕ)
    e = bytes_from Prover (sums_frame t.sums)

    f : List (Side × ℕ)
    f = bytes_from Prover (openings_frame t.openings)

    g : List (Side × ℕ)
    g = bytes_from Verifier (verdict_frame t.code t.number)

-- all frames, one after another
pub log_spelled : (t : Transcript) (turns : List (List ℕ × List ℕ)) (hello : Hello) (grant : Grant) (asks replies : List (Side × ℕ)) (challenge code number : ℕ)
    → asks ++ replies ≡ [] ++ turn_bytes turns
    → turn_bytes ((hello_frame hello, grant_frame grant) ∷ turns) ≡ turn_bytes (setup_turns t.commitment.setup)
    → challenge ≡ t.challenge → code ≡ t.code → number ≡ t.number
    → bytes_from Prover (hello_frame hello) ++ bytes_from Verifier (grant_frame grant) ++ asks ++ replies
    ++ bytes_from Prover (corrections_frame t.commitment.corrections) ++ bytes_from Verifier (challenge_frame challenge)
    ++ bytes_from Prover (sums_frame t.sums) ++ bytes_from Prover (openings_frame t.openings)
    ++ bytes_from Verifier (verdict_frame code number)
    ≡ spelling t
log_spelled t turns hello grant asks replies challenge code number noted setup c o n =
    spelled t l2 l3 l4 l5 l6 _ (setup_noted hello grant asks replies turns noted ∙ setup) refl (ap (λ k. l3 ++ bytes_from Verifier (challenge_frame k)) c) refl refl
    (λ i. l6 ++ bytes_from Verifier (verdict_frame (o i) (n i)))
  where
    l2 : List (Side × ℕ)
    l2 = bytes_from Prover (hello_frame hello) ++ bytes_from Verifier (grant_frame grant) ++ asks ++ replies

    l3 : List (Side × ℕ)
    l3 = l2 ++ bytes_from Prover (corrections_frame t.commitment.corrections)

    l4 : List (Side × ℕ)
    l4 = l3 ++ bytes_from Verifier (challenge_frame challenge)

    l5 : List (Side × ℕ)
    l5 = l4 ++ bytes_from Prover (sums_frame t.sums)

    l6 : List (Side × ℕ)
    l6 = l5 ++ bytes_from Prover (openings_frame t.openings)

-- what stands before the verdict
abbrev pub before_verdict : Transcript → List (Side × ℕ)
before_verdict t =
    turn_bytes (setup_turns t.commitment.setup)
    ++ (turn_bytes ((corrections_frame t.commitment.corrections, challenge_frame t.challenge) ∷ [])
    ++ bytes_from Prover (sums_frame t.sums ++ openings_frame t.openings))

-- the verdict is the last frame of the log
pub ends_with_verdict : (t : Transcript) → spelling t ≡ before_verdict t ++ bytes_from Verifier (verdict_frame t.code t.number)
ends_with_verdict t =
    flat_map-append turn_of (setup_turns t.commitment.setup) ((corrections_frame t.commitment.corrections, challenge_frame t.challenge) ∷ last ∷ [])
    ∙ ap (λ l. turn_bytes (setup_turns t.commitment.setup) ++ l)
    (flat_map-append turn_of ((corrections_frame t.commitment.corrections, challenge_frame t.challenge) ∷ []) (last ∷ [])
    ∙ ap (λ l. middle ++ l) (append-nil (said ++ verdict)) ∙ sym (append_assoc middle said verdict))
    ∙ sym (append_assoc (turn_bytes (setup_turns t.commitment.setup)) (middle ++ said) verdict)
  where
    turn_of : List ℕ × List ℕ → List (Side × ℕ)
    turn_of turn = bytes_from Prover turn.0 ++ bytes_from Verifier turn.1

    last : List ℕ × List ℕ
    last = (sums_frame t.sums ++ openings_frame t.openings, verdict_frame t.code t.number)

    middle : List (Side × ℕ)
    middle = turn_bytes ((corrections_frame t.commitment.corrections, challenge_frame t.challenge) ∷ [])

    said : List (Side × ℕ)
    said = bytes_from Prover (sums_frame t.sums ++ openings_frame t.openings)

    verdict : List (Side × ℕ)
    verdict = bytes_from Verifier (verdict_frame t.code t.number)
