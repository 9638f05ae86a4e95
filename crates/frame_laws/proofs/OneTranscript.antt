-- A log is the spelling of one transcript at most: frame by frame, the bytes determine the values that they spell and
-- the bytes that come after them.
use Rattle.std.proofs.Common.{◌≡◌, ℕ, List, [], ◌∷◌, ◌++◌, map, flat_map, drop, get_or, refl, sym, ◌∙◌, ap, subst, append_assoc}
use Rattle.std.specs.Prelude.{All}
use Rattle.std.proofs.lemmas.List.{map-append}
use Rattle.frame_laws.proofs.Codes.{IsCode, regroup, word32_code, element_code, many_code, frame_code}
use Rattle.frame_laws.proofs.FrameCodes.{hello_code, grant_code, round_bytes, round_code, elements_code, sums_code}
use Rattle.frame_laws.specs.Transcripts.{OneTranscript}
use Rattle.zk_model.specs.Field.{IsElement}
use Rattle.zk_model.specs.Bytes.{element_bytes}
use Rattle.zk_model.specs.Program.{Program, section_count}
use Rattle.zk_model.specs.Files.{AreParams}
use Rattle.zk_model.specs.Transcript.{Grant, Round, Setup, Commitment, Transcript, hello_frame, grant_frame, ask_frame, reply_frame, corrections_frame, challenge_frame, sums_frame, openings_frame, verdict_frame, bytes_from, turn_bytes, setup_turns, session_turns, commitment_bytes, spelling, IsRound, IsCommitment}
use Rattle.zk_model.specs.declared.FrameKind.TheVariants as kind
use Rattle.zk_model.specs.declared.Params.{Params}
use Rattle.zk_model.specs.declared.Side.{Side}
use Rattle.zk_model.specs.declared.Side.TheVariants.{Prover, Verifier}

-- ---- the bytes of a log, without their sides

-- what is said and what is answered in a turn
abbrev both_bytes : List ℕ × List ℕ → List ℕ
both_bytes both = both.0 ++ both.1

-- the bytes alone
abbrev pub without_sides : List (Side × ℕ) → List ℕ
without_sides log = map (λ entry. entry.1) log

bytes_without_side : (side : Side) (bytes : List ℕ) → without_sides (bytes_from side bytes) ≡ bytes
bytes_without_side side [] = refl
bytes_without_side side (byte ∷ bytes) = ap (λ l. byte ∷ l) (bytes_without_side side bytes)

turns_without_sides : (turns : List (List ℕ × List ℕ)) → without_sides (turn_bytes turns) ≡ flat_map both_bytes turns
turns_without_sides [] = refl
turns_without_sides (turn ∷ turns) =
    let said = bytes_from Prover turn.0 in
    let answered = bytes_from Verifier turn.1 in
    map-append (λ entry. entry.1) (said ++ answered) (turn_bytes turns)
    ∙ ap (λ l. l ++ without_sides (turn_bytes turns)) (map-append (λ entry. entry.1) said answered)
    ∙ (λ i. (bytes_without_side Prover turn.0 i ++ bytes_without_side Verifier turn.1 i) ++ turns_without_sides turns i)

-- rounds as turns, and other turns after them
rounds_first : (rounds : List Round) (turns : List (List ℕ × List ℕ))
    → flat_map both_bytes (map (λ (round : Round). (flat_map ask_frame round.asks, flat_map reply_frame round.replies)) rounds ++ turns)
    ≡ flat_map round_bytes rounds ++ flat_map both_bytes turns
rounds_first [] turns = refl
rounds_first (round ∷ rounds) turns =
    ap (λ l. round_bytes round ++ l) (rounds_first rounds turns)
    ∙ sym (append_assoc (round_bytes round) (flat_map round_bytes rounds) (flat_map both_bytes turns))

-- the bytes of a commitment: the hello, the grant, the rounds and the corrections
abbrev fixed_bytes : Commitment → List ℕ
fixed_bytes commitment =
    (hello_frame commitment.setup.hello ++ grant_frame commitment.setup.grant)
    ++ (flat_map round_bytes commitment.setup.rounds ++ corrections_frame commitment.corrections)

-- the frames after them
abbrev last_bytes : Transcript → List ℕ
last_bytes t = challenge_frame t.challenge ++ (((sums_frame t.sums ++ openings_frame t.openings) ++ verdict_frame t.code t.number) ++ [])

-- four lists one after another, put otherwise
regrouped : (a b c d : List ℕ) → a ++ (b ++ ((c ++ d))) ≡ (a ++ (b ++ c)) ++ d
regrouped a b c d = ap (λ l. a ++ l) (sym (append_assoc b c d)) ∙ sym (append_assoc a (b ++ c) d)

-- the bytes of a session are those of its commitment, and then the others
session_without_sides : (t : Transcript) → without_sides (spelling t) ≡ fixed_bytes t.commitment ++ last_bytes t
session_without_sides t =
    let setup = t.commitment.setup in
    let front = hello_frame setup.hello ++ grant_frame setup.grant in
    let rounds = flat_map round_bytes setup.rounds in
    let corrections = corrections_frame t.commitment.corrections in
    let challenge = challenge_frame t.challenge in
    let end = ((sums_frame t.sums ++ openings_frame t.openings) ++ verdict_frame t.code t.number) ++ [] in
    turns_without_sides (session_turns t)
    ∙ ap (λ l. front ++ l)
    (rounds_first setup.rounds
    ((corrections_frame t.commitment.corrections, challenge_frame t.challenge)
    ∷ (sums_frame t.sums ++ openings_frame t.openings, verdict_frame t.code t.number) ∷ []))
    ∙ ap (λ l. front ++ (rounds ++ l)) (append_assoc corrections challenge end)
    ∙ regrouped front rounds corrections (challenge ++ end)

-- and so are those of a log up to the challenge
commitment_without_sides : (commitment : Commitment) → without_sides (commitment_bytes commitment) ≡ fixed_bytes commitment
commitment_without_sides commitment =
    let setup = commitment.setup in
    let front = hello_frame setup.hello ++ grant_frame setup.grant in
    let corrections = corrections_frame commitment.corrections in
    map-append (λ entry. entry.1) (turn_bytes (setup_turns setup)) (bytes_from Prover corrections)
    ∙ (λ i. turns_without_sides (setup_turns setup) i ++ bytes_without_side Prover corrections i)
    ∙ append_assoc front (flat_map both_bytes (rounds_turns setup)) corrections
    ∙ ap (λ l. front ++ (l ++ corrections)) (rounds_alone setup.rounds)
  where
    rounds_turns : Setup → List (List ℕ × List ℕ)
    rounds_turns setup = map (λ (round : Round). (flat_map ask_frame round.asks, flat_map reply_frame round.replies)) setup.rounds

    rounds_alone : (rounds : List Round)
        → flat_map both_bytes (map (λ (round : Round). (flat_map ask_frame round.asks, flat_map reply_frame round.replies)) rounds)
        ≡ flat_map round_bytes rounds
    rounds_alone [] = refl
    rounds_alone (round ∷ rounds) = ap (λ l. round_bytes round ++ l) (rounds_alone rounds)

-- ---- the commitment

-- The bytes of a commitment tell the commitment, and where the bytes after it begin.
commitment_code : (params : Params) (program : Program) → AreParams params → IsCode fixed_bytes (IsCommitment params program)
commitment_code params program are x y ps qs left right same =
    let xs = x.setup in
    let ys = y.setup in
    let rounds_x = flat_map round_bytes xs.rounds in
    let rounds_y = flat_map round_bytes ys.rounds in
    let after_x = (rounds_x ++ corrections_frame x.corrections) ++ ps in
    let after_y = (rounds_y ++ corrections_frame y.corrections) ++ qs in
    let apart = regroup (hello_frame xs.hello ++ grant_frame xs.grant) (rounds_x ++ corrections_frame x.corrections) ps
    (hello_frame ys.hello ++ grant_frame ys.grant) (rounds_y ++ corrections_frame y.corrections) qs same in
    let hello = hello_code xs.hello ys.hello (grant_frame xs.grant ++ after_x) (grant_frame ys.grant ++ after_y)
    left.setup.hello right.setup.hello
    (regroup (hello_frame xs.hello) (grant_frame xs.grant) after_x (hello_frame ys.hello) (grant_frame ys.grant) after_y apart) in
    let grant = grant_code params program are xs.grant ys.grant after_x after_y left.setup.grant right.setup.grant hello.1 in
    let rounds = many_code round_bytes (IsRound params ys.grant) _ (round_code params ys.grant) xs.rounds ys.rounds
    (corrections_frame x.corrections ++ ps) (corrections_frame y.corrections ++ qs)
    (left.setup.round_count, subst (λ (g : Grant). All (IsRound params g) xs.rounds) grant.0 left.setup.rounds)
    (right.setup.round_count, right.setup.rounds)
    (regroup rounds_x (corrections_frame x.corrections) ps rounds_y (corrections_frame y.corrections) qs grant.1) in
    let corrections = elements_code kind.Corrections program.givens x.corrections y.corrections ps qs
    (left.count, left.elements) (right.count, right.elements) rounds.1 in (
      λ i. record { setup = record { hello = hello.0 i; grant = grant.0 i; rounds = rounds.0 i }; corrections = corrections.0 i },
      corrections.1,
    )

-- logs that agree before the challenge have one commitment
pub one_commitment : (params : Params) (program : Program) (commitment : Commitment) (t : Transcript) (rest : List (Side × ℕ))
    → AreParams params → IsCommitment params program commitment → IsCommitment params program t.commitment
    → spelling t ≡ commitment_bytes commitment ++ rest → commitment ≡ t.commitment
one_commitment params program commitment t rest are is also same =
    (commitment_code params program are commitment t.commitment (without_sides rest) (last_bytes t) is also
    (sym (ap (λ l. l ++ without_sides rest) (commitment_without_sides commitment))
    ∙ sym (map-append (λ entry. entry.1) (commitment_bytes commitment) rest)
    ∙ sym (ap without_sides same)
    ∙ session_without_sides t)).0

-- ---- the whole session

-- a log is the spelling of one transcript at most
pub one_transcript : OneTranscript
one_transcript params program t u are is also same =
    let bytes : fixed_bytes t.commitment ++ last_bytes t ≡ fixed_bytes u.commitment ++ last_bytes u =
    sym (session_without_sides t) ∙ ap without_sides same ∙ session_without_sides u in
    let commitment = commitment_code params program are t.commitment u.commitment (last_bytes t) (last_bytes u) is.commitment also.commitment bytes in
    let verdict_t = verdict_frame t.code t.number ++ [] in
    let verdict_u = verdict_frame u.code u.number ++ [] in
    let end_t = ((sums_frame t.sums ++ openings_frame t.openings) ++ verdict_frame t.code t.number) ++ [] in
    let end_u = ((sums_frame u.sums ++ openings_frame u.openings) ++ verdict_frame u.code u.number) ++ [] in
    let challenge : (t.challenge ≡ u.challenge) × (end_t ≡ end_u) =
    frame_code element_bytes IsElement kind.Challenge element_code t.challenge u.challenge end_t end_u is.challenge also.challenge commitment.1 in
    let apart : (sums_frame t.sums ++ openings_frame t.openings) ++ verdict_t ≡ (sums_frame u.sums ++ openings_frame u.openings) ++ verdict_u =
    regroup (sums_frame t.sums ++ openings_frame t.openings) (verdict_frame t.code t.number) []
    (sums_frame u.sums ++ openings_frame u.openings) (verdict_frame u.code u.number) [] challenge.1 in
    let count : section_count program t.commitment.setup.grant.section_length ≡ section_count program u.commitment.setup.grant.section_length =
    ap (λ (c : Commitment). section_count program c.setup.grant.section_length) commitment.0 in
    let sums : (t.sums ≡ u.sums) × (openings_frame t.openings ++ verdict_t ≡ openings_frame u.openings ++ verdict_u) =
    sums_code (section_count program u.commitment.setup.grant.section_length) t.sums u.sums
    (openings_frame t.openings ++ verdict_t) (openings_frame u.openings ++ verdict_u)
    (is.sum_count ∙ count, is.sums) (also.sum_count, also.sums)
    (regroup (sums_frame t.sums) (openings_frame t.openings) verdict_t (sums_frame u.sums) (openings_frame u.openings) verdict_u apart) in
    let openings : (t.openings ≡ u.openings) × (verdict_t ≡ verdict_u) =
    elements_code kind.Openings _ t.openings u.openings verdict_t verdict_u
    (is.opening_count, is.openings) (also.opening_count, also.openings) sums.1 in
    let code : t.code ≡ u.code = ap (λ l. get_or l 5 0) openings.1 in
    let number : (t.number ≡ u.number) × ([] ≡ []) =
    word32_code t.number u.number [] [] is.number also.number (ap (drop 6) openings.1) in
    λ i. record {
      commitment = commitment.0 i;
      challenge = challenge.0 i;
      sums = sums.0 i;
      openings = openings.0 i;
      code = code i;
      number = number.0 i;
    }
