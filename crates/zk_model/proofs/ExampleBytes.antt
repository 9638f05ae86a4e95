-- Frames at worked examples, by computation.
use Rattle.std.proofs.Common.{◌≡◌, true, [], ◌∷◌, flat_map, refl, replicate, length, take}
use Rattle.std.specs.Prelude.{Some, None}
use Rattle.zk_model.specs.Transcript.{Hello, Transcript, hello_frame, ask_frame, reply_frame, challenge_frame, corrections_frame, spelling, setup_turns, session_turns, turn_bytes}

challenge_of_two : challenge_frame 2 ≡ 6 ∷ 8 ∷ 0 ∷ 0 ∷ 0 ∷ 2 ∷ 0 ∷ 0 ∷ 0 ∷ 0 ∷ 0 ∷ 0 ∷ 0 ∷ []
challenge_of_two = refl

no_corrections : corrections_frame [] ≡ 5 ∷ 0 ∷ 0 ∷ 0 ∷ 0 ∷ []
no_corrections = refl

-- an ask and a reply of one tree of height 1
ask_length : length (ask_frame (record { flips = true ∷ []; base_correction = 3 } ∷ [])) ≡ 14
ask_length = refl

reply_length : length (reply_frame (record { messages = record { left = replicate 16 0; right = replicate 16 0 } ∷ []; leaf_offset = 3 } ∷ [])) ≡ 45
reply_length = refl

-- a hello with a digest of public bits has 134 bytes, 129 of them after its head
long_hello : Hello
long_hello = record { id = replicate 32 1; circuit = replicate 32 2; outputs = replicate 32 3; version = 2; public = Some (replicate 32 4) }

long_head : take 6 (hello_frame long_hello) ≡ 1 ∷ 129 ∷ 0 ∷ 0 ∷ 0 ∷ 1 ∷ []
unfolding long_hello
long_head = refl

long_length : length (hello_frame long_hello) ≡ 134
unfolding long_hello
long_length = refl

-- a session of the one AND in kind direct
and_session : Transcript
and_session = record {
  commitment = record {
    setup = record {
      hello = record { id = replicate 32 1; circuit = replicate 32 2; outputs = replicate 32 3; version = 1; public = None };
      grant = record { start = 0; count = 1; section_length = 1048576 };
      rounds = [];
    };
    corrections = 4 ∷ 5 ∷ 6 ∷ [];
  };
  challenge = 7;
  sums = (8, 9) ∷ [];
  openings = 10 ∷ [];
  code = 0;
  number = 0;
}

-- 102 bytes of hello, 21 of grant; then 29 of corrections; then challenge, sums, opening and verdict
and_lengths : length (turn_bytes (setup_turns and_session.commitment.setup)) ∷ length (corrections_frame and_session.commitment.corrections) ∷ length (spelling and_session) ∷ [] ≡ 123 ∷ 29 ∷ 209 ∷ []
unfolding and_session
and_lengths = refl

-- of the 209 bytes the prover says 165, and the verifier 44
and_sides : length (flat_map (λ turn. turn.0) (session_turns and_session)) ∷ length (flat_map (λ turn. turn.1) (session_turns and_session)) ∷ [] ≡ 165 ∷ 44 ∷ []
unfolding and_session
and_sides = refl
