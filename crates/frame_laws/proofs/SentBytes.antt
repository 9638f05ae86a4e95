-- The bytes of a log side by side.
use Rattle.std.proofs.Common.{◌≡◌, ℕ, List, [], ◌∷◌, ◌++◌, map, flat_map, filter, refl, ap, sym, ◌∙◌, append_assoc, append-nil}
use Rattle.std.proofs.lemmas.List.{map-append}
use Rattle.std.proofs.lemmas.Grind.{flat_map-append}
use Rattle.std.proofs.lemmas.List.Elements.{filter-append}
use Rattle.zk_model.specs.Transcript.{Transcript, bytes_from, turn_bytes, sent_by, same_side, setup_turns, session_turns, corrections_frame, challenge_frame, sums_frame, openings_frame, verdict_frame}
use Rattle.zk_model.specs.declared.Side.{Side}
use Rattle.zk_model.specs.declared.Side.TheVariants.{Prover, Verifier}

-- what one side sent of two logs
pub sent_by-append : (side : Side) (xs ys : List (Side × ℕ)) → sent_by side (xs ++ ys) ≡ sent_by side xs ++ sent_by side ys
sent_by-append side xs ys =
    ap (map (λ entry. entry.1)) (filter-append (λ entry. same_side side entry.0) xs ys)
    ∙ map-append (λ entry. entry.1) (filter (λ entry. same_side side entry.0) xs) (filter (λ entry. same_side side entry.0) ys)

-- its own bytes are sent, and none of the other's
pub own_bytes : (side : Side) (bytes : List ℕ) → sent_by side (bytes_from side bytes) ≡ bytes
own_bytes side [] = refl
own_bytes Prover (byte ∷ bytes) = ap (λ l. byte ∷ l) (own_bytes Prover bytes)
own_bytes Verifier (byte ∷ bytes) = ap (λ l. byte ∷ l) (own_bytes Verifier bytes)

pub none_of_verifier : (bytes : List ℕ) → sent_by Prover (bytes_from Verifier bytes) ≡ []
none_of_verifier [] = refl
none_of_verifier (byte ∷ bytes) = none_of_verifier bytes

pub none_of_prover : (bytes : List ℕ) → sent_by Verifier (bytes_from Prover bytes) ≡ []
none_of_prover [] = refl
none_of_prover (byte ∷ bytes) = none_of_prover bytes

-- the prover's bytes are what it says turn by turn
pub sent_by-prover : (turns : List (List ℕ × List ℕ)) → sent_by Prover (turn_bytes turns) ≡ flat_map (λ turn. turn.0) turns
sent_by-prover [] = refl
sent_by-prover (turn ∷ turns) =
    sent_by-append Prover (bytes_from Prover turn.0 ++ bytes_from Verifier turn.1) (turn_bytes turns)
    ∙ (λ i. (sent_by-append Prover (bytes_from Prover turn.0) (bytes_from Verifier turn.1)
    ∙ (λ j. own_bytes Prover turn.0 j ++ none_of_verifier turn.1 j) ∙ append-nil turn.0) i ++ sent_by-prover turns i)

-- and the verifier's are what it answers
pub sent_by-verifier : (turns : List (List ℕ × List ℕ)) → sent_by Verifier (turn_bytes turns) ≡ flat_map (λ turn. turn.1) turns
sent_by-verifier [] = refl
sent_by-verifier (turn ∷ turns) =
    sent_by-append Verifier (bytes_from Prover turn.0 ++ bytes_from Verifier turn.1) (turn_bytes turns)
    ∙ (λ i. (sent_by-append Verifier (bytes_from Prover turn.0) (bytes_from Verifier turn.1)
    ∙ (λ j. none_of_prover turn.0 j ++ own_bytes Verifier turn.1 j)) i ++ sent_by-verifier turns i)

-- the grant and the replies, the challenge, and the verdict
pub verifier_answers : (t : Transcript) → flat_map (λ turn. turn.1) (session_turns t)
    ≡ flat_map (λ turn. turn.1) (setup_turns t.commitment.setup) ++ challenge_frame t.challenge ++ verdict_frame t.code t.number
verifier_answers t =
    flat_map-append (λ turn. turn.1) (setup_turns t.commitment.setup)
    ((corrections_frame t.commitment.corrections, challenge_frame t.challenge) ∷ (sums_frame t.sums ++ openings_frame t.openings, verdict_frame t.code t.number) ∷ [])
    ∙ ap (λ l. flat_map (λ turn. turn.1) (setup_turns t.commitment.setup) ++ (challenge_frame t.challenge ++ l)) (append-nil (verdict_frame t.code t.number))
    ∙ sym (append_assoc (flat_map (λ turn. turn.1) (setup_turns t.commitment.setup)) (challenge_frame t.challenge) (verdict_frame t.code t.number))
