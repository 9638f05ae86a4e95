-- Transcripts with the same frames are one.
use Rattle.std.proofs.Common.{◌≡◌, ℕ, List, [], ◌∷◌, ◌++◌, map, flat_map, length, refl, sym, ◌∙◌, ap, subst, arith, append-nil}
use Rattle.std.specs.Prelude.{All}
use Rattle.std.proofs.lemmas.List.{length-map}
use Rattle.zk_model.specs.Files.{rounds_of}
use Rattle.zk_model.specs.Program.{Program}
use Rattle.zk_model.specs.Transcript.{Hello, Grant, TreeAsk, TreeReply, Round, Transcript, IsRound, IsTranscript}
use Rattle.zk_model.specs.Frames.{Frame, hello, grant, asks, replies, corrections, challenge, sums, openings, verdict}
use Rattle.zk_model.specs.Audit.{round_frames, session_frames}
use Rattle.zk_model.specs.declared.Kind.{Kind}
use Rattle.zk_model.specs.declared.Kind.TheVariants.{Direct, Extended}
use Rattle.zk_model.specs.declared.Params.{Params}
use Rattle.proof_audit.proofs.Places.{places_of_rounds, rounds_sized}

-- parts of the same lengths
parts : {A : Type 0} (xs ys ms ns : List A) → length xs ≡ length ys → xs ++ ms ≡ ys ++ ns → (xs ≡ ys) × (ms ≡ ns)
parts [] [] ms ns counted same = (refl, same)
parts [] (y ∷ ys) ms ns counted same = absurd (omega (arith, counted))
parts (x ∷ xs) [] ms ns counted same = absurd (omega (arith, counted))
parts (x ∷ xs) (y ∷ ys) ms ns counted same = further (parts xs ys ms ns (omega (arith, counted)) cc)
  where
    further : (xs ≡ ys) × (ms ≡ ns) → (x ∷ xs ≡ y ∷ ys) × (ms ≡ ns)
    further (front, behind) = (cc, behind)

asks_one : (some others : List (List TreeAsk)) → map asks some ≡ map asks others → some ≡ others
asks_one [] [] same = refl
asks_one [] (o ∷ others) same = absurd (omega (arith, ap length same))
asks_one (s ∷ some) [] same = absurd (omega (arith, ap length same))
asks_one (s ∷ some) (o ∷ others) same = let behind = asks_one some others cc in cc

replies_one : (some others : List (List TreeReply)) → map replies some ≡ map replies others → some ≡ others
replies_one [] [] same = refl
replies_one [] (o ∷ others) same = absurd (omega (arith, ap length same))
replies_one (s ∷ some) [] same = absurd (omega (arith, ap length same))
replies_one (s ∷ some) (o ∷ others) same = let behind = replies_one some others cc in cc

-- a round
round_one : (params : Params) (given : Grant) (some other : Round) → IsRound params given some → IsRound params given other
    → round_frames some ≡ round_frames other → some ≡ other
round_one params given some other is also same =
    let apart = parts (map asks some.asks) (map asks other.asks) (map replies some.replies) (map replies other.replies)
    (length-map some.asks asks ∙ is.asks.0 ∙ sym also.asks.0 ∙ sym (length-map other.asks asks)) same in
    λ i. record { asks = asks_one some.asks other.asks apart.0 i; replies = replies_one some.replies other.replies apart.1 i }

-- all rounds
rounds_one : (kind : Kind) (params : Params) (given : Grant) (some others : List Round) → length some ≡ rounds_of kind → length others ≡ rounds_of kind
    → All (IsRound params given) some → All (IsRound params given) others
    → flat_map round_frames some ≡ flat_map round_frames others → some ≡ others
rounds_one Direct params given [] [] counted other_counted all other_all same = refl
rounds_one Direct params given (s ∷ some) others counted other_counted all other_all same = absurd (omega (arith, counted))
rounds_one Direct params given [] (o ∷ others) counted other_counted all other_all same = absurd (omega (arith, other_counted))
rounds_one Extended params given [] others counted other_counted all other_all same = absurd (omega (arith, counted))
rounds_one Extended params given (s ∷ next ∷ some) others counted other_counted all other_all same = absurd (omega (arith, counted))
rounds_one Extended params given (s ∷ []) [] counted other_counted all other_all same = absurd (omega (arith, other_counted))
rounds_one Extended params given (s ∷ []) (o ∷ next ∷ others) counted other_counted all other_all same = absurd (omega (arith, other_counted))
rounds_one Extended params given (s ∷ []) (o ∷ []) counted other_counted all other_all same =
    ap (λ round. round ∷ []) (round_one params given s o (all 0 s (omega arith)) (other_all 0 o (omega arith))
    (sym (append-nil (round_frames s)) ∙ same ∙ append-nil (round_frames o)))

-- the frames in front, and those behind the rounds
hello_one : (a b : Hello) (xs ys : List Frame) → hello a ∷ xs ≡ hello b ∷ ys → (a ≡ b) × (xs ≡ ys)
hello_one a b xs ys same = (cc, cc)

grant_one : (a b : Grant) (xs ys : List Frame) → grant a ∷ xs ≡ grant b ∷ ys → (a ≡ b) × (xs ≡ ys)
grant_one a b xs ys same = (cc, cc)

corrections_one : (a b : List ℕ) (xs ys : List Frame) → corrections a ∷ xs ≡ corrections b ∷ ys → (a ≡ b) × (xs ≡ ys)
corrections_one a b xs ys same = (cc, cc)

challenge_one : (a b : ℕ) (xs ys : List Frame) → challenge a ∷ xs ≡ challenge b ∷ ys → (a ≡ b) × (xs ≡ ys)
challenge_one a b xs ys same = (cc, cc)

sums_one : (a b : List (ℕ × ℕ)) (xs ys : List Frame) → sums a ∷ xs ≡ sums b ∷ ys → (a ≡ b) × (xs ≡ ys)
sums_one a b xs ys same = (cc, cc)

openings_one : (a b : List ℕ) (xs ys : List Frame) → openings a ∷ xs ≡ openings b ∷ ys → (a ≡ b) × (xs ≡ ys)
openings_one a b xs ys same = (cc, cc)

code_one : (a b c d : ℕ) → verdict a c ∷ [] ≡ verdict b d ∷ [] → (a ≡ b) × (c ≡ d)
code_one a b c d same = (cc, cc)

last_one : (t u : Transcript)
    → corrections t.commitment.corrections ∷ challenge t.challenge ∷ sums t.sums ∷ openings t.openings ∷ verdict t.code t.number ∷ []
    ≡ corrections u.commitment.corrections ∷ challenge u.challenge ∷ sums u.sums ∷ openings u.openings ∷ verdict u.code u.number ∷ []
    → (t.commitment.corrections ≡ u.commitment.corrections) × (t.challenge ≡ u.challenge) × (t.sums ≡ u.sums) × (t.openings ≡ u.openings)
    × (t.code ≡ u.code) × (t.number ≡ u.number)
last_one t u same =
    let a = corrections_one t.commitment.corrections u.commitment.corrections
    (challenge t.challenge ∷ sums t.sums ∷ openings t.openings ∷ verdict t.code t.number ∷ [])
    (challenge u.challenge ∷ sums u.sums ∷ openings u.openings ∷ verdict u.code u.number ∷ []) same in
    let b = challenge_one t.challenge u.challenge (sums t.sums ∷ openings t.openings ∷ verdict t.code t.number ∷ [])
    (sums u.sums ∷ openings u.openings ∷ verdict u.code u.number ∷ []) a.1 in
    let c = sums_one t.sums u.sums (openings t.openings ∷ verdict t.code t.number ∷ []) (openings u.openings ∷ verdict u.code u.number ∷ []) b.1 in
    let d = openings_one t.openings u.openings (verdict t.code t.number ∷ []) (verdict u.code u.number ∷ []) c.1 in
    let e = code_one t.code u.code t.number u.number d.1 in
    (a.0, b.0, c.0, d.0, e.0, e.1)

pub one_transcript : (params : Params) (program : Program) (t u : Transcript) → IsTranscript params program t → IsTranscript params program u
    → session_frames t ≡ session_frames u → t ≡ u
one_transcript params program t u is also same =
    let last = λ (v : Transcript). corrections v.commitment.corrections ∷ challenge v.challenge ∷ sums v.sums ∷ openings v.openings
    ∷ verdict v.code v.number ∷ [] in
    let rounds_of_it = λ (v : Transcript). flat_map round_frames v.commitment.setup.rounds in
    let first = hello_one t.commitment.setup.hello u.commitment.setup.hello (grant t.commitment.setup.grant ∷ rounds_of_it t ++ last t)
    (grant u.commitment.setup.grant ∷ rounds_of_it u ++ last u) same in
    let second = grant_one t.commitment.setup.grant u.commitment.setup.grant (rounds_of_it t ++ last t) (rounds_of_it u ++ last u) first.1 in
    let counted = rounds_sized params.kind params t.commitment.setup.grant t.commitment.setup.rounds is.commitment.setup.round_count
    is.commitment.setup.rounds
    ∙ ap (λ given. length (places_of_rounds params.kind params given)) second.0
    ∙ sym (rounds_sized params.kind params u.commitment.setup.grant u.commitment.setup.rounds also.commitment.setup.round_count
    also.commitment.setup.rounds) in
    let apart = parts (rounds_of_it t) (rounds_of_it u) (last t) (last u) counted second.1 in
    let behind = last_one t u apart.1 in
    let rounds = rounds_one params.kind params t.commitment.setup.grant t.commitment.setup.rounds u.commitment.setup.rounds
    is.commitment.setup.round_count also.commitment.setup.round_count is.commitment.setup.rounds
    (subst (λ given. All (IsRound params given) u.commitment.setup.rounds) (sym second.0) also.commitment.setup.rounds) apart.0 in
    λ i. record {
      commitment = record {
        setup = record { hello = first.0 i; grant = second.0 i; rounds = rounds i };
        corrections = behind.0 i;
      };
      challenge = behind.1 i;
      sums = behind.2 i;
      openings = behind.3 i;
      code = behind.4 i;
      number = behind.5 i;
    }
