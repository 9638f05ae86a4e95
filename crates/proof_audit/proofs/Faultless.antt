-- Frames that are faultless, one more of them, and the bytes that they spell.
use Rattle.std.proofs.Common.{◌≡◌, ℕ, ◌⊎◌, inl, inr, List, [], ◌∷◌, ◌++◌, map, flat_map, refl, sym, ◌∙◌, ap, subst, append_assoc, append-nil}
use Rattle.std.proofs.lemmas.List.{map-append}
use Rattle.std.proofs.lemmas.List.Concat.{flat_map-append}
use Rattle.std.proofs.lemmas.Simd.{map-map}
use Rattle.std.proofs.lemmas.List.{map-id}
use Rattle.zk_model.specs.Transcript.{TreeAsk, TreeReply, Round, Transcript, bytes_from, turn_bytes, session_turns, spelling, ask_frame, reply_frame, hello_frame, grant_frame, corrections_frame, challenge_frame, sums_frame, openings_frame, verdict_frame}
use Rattle.zk_model.specs.Frames.{Frame, asks, replies, corrections, challenge, sums, openings, verdict, frame_spelling}
use Rattle.zk_model.specs.ServedVerifier.{VerifierTask}
use Rattle.zk_model.specs.Audit.{round_frames, session_frames, frames_spelling, bytes_in, IsRight, AreFaultless}
use Rattle.zk_model.specs.declared.Side.{Side}
use Rattle.zk_model.specs.declared.Side.TheVariants.{Prover, Verifier}

-- ---- one frame more

-- a place in a list with one item more: the last, or one before
abbrev StandsIn : List Frame → Frame → List Frame → Frame → Type 0
StandsIn frames last before frame = ((before ≡ frames) × (frame ≡ last)) ⊎ ((mid : List Frame) × (frames ≡ before ++ frame ∷ mid))

where_it_stands : (frames : List Frame) (last : Frame) (before : List Frame) (frame : Frame) (behind : List Frame)
    → frames ++ last ∷ [] ≡ before ++ frame ∷ behind → StandsIn frames last before frame
where_it_stands [] last [] frame behind e = inl (refl, cc)
where_it_stands [] last (first ∷ []) frame behind e = cc
where_it_stands [] last (first ∷ second ∷ before) frame behind e = cc
where_it_stands (f ∷ frames) last [] frame behind e = inr (frames, cc)
where_it_stands (f ∷ frames) last (b ∷ before) frame behind e = further (where_it_stands frames last before frame behind cc)
  where
    further : StandsIn frames last before frame → StandsIn (f ∷ frames) last (b ∷ before) frame
    further (inl (same, is)) = inl (cc, is)
    further (inr (mid, same)) = inr (mid, cc)

-- none is faultless
pub none_faultless : (task : VerifierTask) → AreFaultless task []
none_faultless task [] frame behind e = cc
none_faultless task (first ∷ before) frame behind e = cc

-- and one more that is right
pub more_faultless : (task : VerifierTask) (frames : List Frame) (last : Frame) → AreFaultless task frames → IsRight task frames last
    → AreFaultless task (frames ++ last ∷ [])
more_faultless task frames last faultless right before frame behind e = by_place (where_it_stands frames last before frame behind e)
  where
    by_place : StandsIn frames last before frame → IsRight task before frame
    by_place (inl (same, is)) = subst (λ (q : List Frame × Frame). IsRight task q.0 q.1) (λ i. (sym same i, sym is i)) right
    by_place (inr (mid, stands)) = faultless before frame mid stands

-- ---- bytes

-- frames and one more
pub more_spelled : (frames : List Frame) (last : Frame) → frames_spelling (frames ++ last ∷ []) ≡ frames_spelling frames ++ frame_spelling last
more_spelled frames last =
    flat_map-append frame_spelling frames (last ∷ []) ∙ ap (λ (l : List ℕ). frames_spelling frames ++ l) (append-nil (frame_spelling last))

-- bytes, whoever sent them
own_bytes : (side : Side) (bytes : List ℕ) → bytes_in (bytes_from side bytes) ≡ bytes
own_bytes side bytes = map-map (λ (entry : Side × ℕ). entry.1) (λ (byte : ℕ). (side, byte)) bytes ∙ map-id bytes

turns_spelled : (turns : List (List ℕ × List ℕ)) → bytes_in (turn_bytes turns) ≡ flat_map (λ turn. turn.0 ++ turn.1) turns
turns_spelled [] = refl
turns_spelled (turn ∷ turns) =
    map-append (λ (entry : Side × ℕ). entry.1) (bytes_from Prover turn.0 ++ bytes_from Verifier turn.1) (turn_bytes turns)
    ∙ (λ i. (map-append (λ (entry : Side × ℕ). entry.1) (bytes_from Prover turn.0) (bytes_from Verifier turn.1)
    ∙ (λ j. own_bytes Prover turn.0 j ++ own_bytes Verifier turn.1 j)) i ++ turns_spelled turns i)

-- those of rounds
asks_spelled : (asked : List (List TreeAsk)) → frames_spelling (map asks asked) ≡ flat_map ask_frame asked
asks_spelled [] = refl
asks_spelled (trees ∷ asked) = ap (λ (l : List ℕ). ask_frame trees ++ l) (asks_spelled asked)

replies_spelled : (said : List (List TreeReply)) → frames_spelling (map replies said) ≡ flat_map reply_frame said
replies_spelled [] = refl
replies_spelled (trees ∷ said) = ap (λ (l : List ℕ). reply_frame trees ++ l) (replies_spelled said)

round_turn : Round → List ℕ × List ℕ
round_turn round = (flat_map ask_frame round.asks, flat_map reply_frame round.replies)

rounds_spelled : (rounds : List Round) → frames_spelling (flat_map round_frames rounds) ≡ flat_map (λ turn. turn.0 ++ turn.1) (map round_turn rounds)
unfolding round_turn
rounds_spelled [] = refl
rounds_spelled (round ∷ rounds) =
    flat_map-append frame_spelling (round_frames round) (flat_map round_frames rounds)
    ∙ (λ i. (flat_map-append frame_spelling (map asks round.asks) (map replies round.replies)
    ∙ (λ j. asks_spelled round.asks j ++ replies_spelled round.replies j)) i ++ rounds_spelled rounds i)

-- parts one after another
regrouped : (c e s o v : List ℕ) → (c ++ e) ++ (((s ++ o) ++ v) ++ []) ≡ c ++ (e ++ (s ++ (o ++ (v ++ []))))
regrouped c e s o v = simp append_assoc

-- the frames behind the setup
last_spelled : (t : Transcript) → flat_map (λ (turn : List ℕ × List ℕ). turn.0 ++ turn.1) ((corrections_frame t.commitment.corrections, challenge_frame t.challenge)
    ∷ (sums_frame t.sums ++ openings_frame t.openings, verdict_frame t.code t.number) ∷ [])
    ≡ frames_spelling (corrections t.commitment.corrections ∷ challenge t.challenge ∷ sums t.sums ∷ openings t.openings ∷ verdict t.code t.number ∷ [])
last_spelled t = regrouped (corrections_frame t.commitment.corrections) (challenge_frame t.challenge) (sums_frame t.sums) (openings_frame t.openings)
    (verdict_frame t.code t.number)

-- the frames of a session spell its log
pub session_spelled : (t : Transcript) → frames_spelling (session_frames t) ≡ bytes_in (spelling t)
unfolding round_turn
session_spelled t = sym (turns_spelled (session_turns t)
    ∙ ap (λ (l : List ℕ). (hello_frame t.commitment.setup.hello ++ grant_frame t.commitment.setup.grant) ++ l) behind
    ∙ append_assoc (hello_frame t.commitment.setup.hello) (grant_frame t.commitment.setup.grant) _)
  where
    rounds : List Round
    rounds = t.commitment.setup.rounds

    turns : List (List ℕ × List ℕ)
    turns = (corrections_frame t.commitment.corrections, challenge_frame t.challenge)
        ∷ (sums_frame t.sums ++ openings_frame t.openings, verdict_frame t.code t.number) ∷ []

    last : List Frame
    last = corrections t.commitment.corrections ∷ challenge t.challenge ∷ sums t.sums ∷ openings t.openings ∷ verdict t.code t.number ∷ []

    behind : flat_map (λ (turn : List ℕ × List ℕ). turn.0 ++ turn.1) (map round_turn rounds ++ turns) ≡ frames_spelling (flat_map round_frames rounds ++ last)
    behind = flat_map-append (λ (turn : List ℕ × List ℕ). turn.0 ++ turn.1) (map round_turn rounds) turns
        ∙ (λ i. sym (rounds_spelled rounds) i ++ last_spelled t i)
        ∙ sym (flat_map-append frame_spelling (flat_map round_frames rounds) last)
