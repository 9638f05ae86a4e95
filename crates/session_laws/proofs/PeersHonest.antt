-- What the bytes of an honest prover make of a log that a verifier serves.
use Rattle.std.proofs.Common.{◌≡◌, ℕ, zero, suc, ◌+◌, ◌<◌, ◌≤◌, List, [], ◌∷◌, ◌++◌, map, take, length, get_or, refl, sym, ◌∙◌, ap, subst, arith, append_assoc, append-nil, length-append}
use Rattle.std.proofs.lemmas.List.{length-map, take_all, take_at, get_or-take, get_or_at}
use Rattle.session_laws.specs.Peers.{HasWitness, IsServedTurns, IsHonestUpTo, HonestTurn, HonestTurnEnds, HonestWhole, HonestWholeIsAccepted, said_in}
use Rattle.session_laws.proofs.Turns.{said, answered, sizes, same_said, same_answered, same_turns, no_more_turns, said_more, answered_more, fewer_answered, same_length_in, cut_said, cut_answered}
use Rattle.session_laws.proofs.Sizes.{round_turns, count_is, same_sizes, all_answered}
use Rattle.session_laws.proofs.Greetings.{greeting_is}
use Rattle.session_laws.proofs.Honest.{honest_as}
use Rattle.session_laws.proofs.Followed.{AreEnds, IsLed, IsFollowed, first_answer, followed, granted_session}
use Rattle.zk_laws.specs.Completeness.{AreCounterparts}
use Rattle.frame_laws.proofs.Codes.{element_code, frame_code, same_front}
use Rattle.zk_laws.proofs.HonestIsAccepted.{honest_session_is_accepted}
use Rattle.frame_laws.proofs.OneTranscript.{one_transcript}
use Rattle.frame_laws.proofs.SentBytes.{sent_by-prover, sent_by-verifier}
use Rattle.zk_model.specs.Field.{IsElement}
use Rattle.zk_model.specs.Bytes.{element_bytes}
use Rattle.zk_model.specs.Program.{Program}
use Rattle.zk_model.specs.Statement.{Statement, IsStatement}
use Rattle.zk_model.specs.Files.{VerifierFile, AreParams, rounds_of}
use Rattle.zk_model.specs.Transcript.{Transcript, IsTranscript, hello_frame, corrections_frame, challenge_frame, sums_frame, openings_frame, verdict_frame, setup_turns, session_turns, turn_bytes, sent_by}
use Rattle.zk_model.specs.HonestProver.{ProverTask, IsHonest, SentAfter, AreHonestBytes}
use Rattle.zk_model.specs.ServedVerifier.{VerifierTask, RepliesAre}
use Rattle.zk_model.specs.declared.FrameKind.TheVariants as kind
use Rattle.zk_model.specs.declared.Params.{Params}
use Rattle.zk_model.specs.declared.Side.{Side}
use Rattle.zk_model.specs.declared.Side.TheVariants.{Prover, Verifier}

-- ---- over one statement

pub ends_of : (prover : ProverTask) (verifier : VerifierTask) → AreCounterparts prover verifier → IsStatement verifier.statement
    → HasWitness prover → AreEnds prover verifier.file
ends_of prover verifier both stated witness = record {
  prover_file = both.prover_file;
  verifier_file = both.verifier_file;
  params = both.dealt.params;
  stated = subst IsStatement (sym both.statement) stated;
  witness = witness;
}

pub led_of : (prover : ProverTask) (verifier : VerifierTask) (t : Transcript) → AreCounterparts prover verifier
    → IsTranscript verifier.file.params verifier.statement.program t
    → RepliesAre verifier.file t.commitment.setup → IsLed prover verifier.file t
led_of prover verifier t both is replies = record {
  transcript = subst (λ (params : Params). IsTranscript params prover.statement.program t) (sym both.dealt.params)
      (subst (λ (statement : Statement). IsTranscript verifier.file.params statement.program t) (sym both.statement) is);
  replies = replies;
}

-- ---- the challenge

-- how many turns the setup has
pub setup_count : (params : Params) (program : Program) (t : Transcript) → IsTranscript params program t
    → length (setup_turns t.commitment.setup) ≡ rounds_of params.kind + 1
setup_count params program t is =
    let mapped : length (round_turns t.commitment.setup.rounds) ≡ length t.commitment.setup.rounds = length-map t.commitment.setup.rounds _ in
    let count = is.commitment.setup.round_count in
    omega (arith, mapped, count)

-- the turn after the setup holds the challenge
challenge_turn : (t : Transcript) (n p : ℕ) → length (setup_turns t.commitment.setup) ≡ p → p < n
    → (get_or (take n (session_turns t)) p ([], [])).1 ≡ challenge_frame t.challenge
challenge_turn t n p long below =
    ap (λ turn. turn.1) (get_or-take n (session_turns t) p ([], []) below
    ∙ get_or_at (setup_turns t.commitment.setup) (corrections_frame t.commitment.corrections, challenge_frame t.challenge)
    ((sums_frame t.sums ++ openings_frame t.openings, verdict_frame t.code t.number) ∷ []) ([], []) p long)

-- so it is the same where the turns are
pub same_challenge : (params : Params) (program : Program) (t u : Transcript) (n : ℕ) → IsTranscript params program t → IsTranscript params program u
    → take n (session_turns u) ≡ take n (session_turns t) → length (setup_turns t.commitment.setup) < n
    → u.challenge ≡ t.challenge
same_challenge params program t u n is also same below =
    (frame_code element_bytes IsElement kind.Challenge element_code u.challenge t.challenge [] [] also.challenge is.challenge
    (ap (λ l. l ++ []) (sym (challenge_turn u n (length (setup_turns t.commitment.setup))
    (setup_count params program u also ∙ sym (setup_count params program t is)) below)
    ∙ ap (λ (turns : List (List ℕ × List ℕ)). (get_or turns (length (setup_turns t.commitment.setup)) ([], [])).1) same
    ∙ challenge_turn t n (length (setup_turns t.commitment.setup)) refl below))).0

-- ---- a log that ends in a turn of the prover

-- the answer of an honest prover to n turns: what it says in them and in the next
pub turn_said : (prover : ProverTask) (verifier : VerifierFile) (t : Transcript) (n : ℕ) (received honest rest more : List ℕ)
    → AreEnds prover verifier → IsLed prover verifier t → n < length (session_turns t)
    → received ≡ answered (take n (session_turns t)) → AreHonestBytes prover received honest
    → honest ≡ (said (take n (session_turns t)) ++ rest) ++ more
    → (u : Transcript) × IsHonestUpTo prover t n u × (said_in u n ≡ rest ++ more)
turn_said prover verifier t zero received honest rest more ends led below came bytes sent = (
  some.0,
  record { transcript = some.1; honest = some.2; same = refl; grant = some.3; challenge = λ less. absurd (omega (arith, less)) },
  ap hello_frame some.2.hello
      ∙ sym (first_answer prover honest bytes.turns (subst (λ (l : List ℕ). SentAfter prover l bytes.turns honest) came bytes.answer))
      ∙ sent,
)
  where
    some : (u : Transcript) × IsTranscript prover.file.params prover.statement.program u × IsHonest prover u
        × (u.commitment.setup.grant ≡ t.commitment.setup.grant)
    some = granted_session prover verifier t ends led.transcript
turn_said prover verifier t (suc n) received honest rest more ends led below came bytes sent = (
  answer.u,
  record {
    transcript = answer.transcript;
    honest = answer.honest;
    same = same;
    grant = answer.grant;
    challenge = same_challenge prover.file.params prover.statement.program t answer.u (suc n) led.transcript answer.transcript same;
  },
  both_said.1,
)
  where
    answer : IsFollowed prover t n received honest
    answer = followed prover verifier t n received honest rest [] more ends led
        (record { within = below; received_is = came ∙ sym (append-nil (answered (take (suc n) (session_turns t)))); honest_is = sent }) bytes

    us : List (List ℕ × List ℕ)
    us = session_turns answer.u

    sized : sizes (session_turns answer.u) ≡ sizes (session_turns t)
    sized = same_sizes prover.file.params prover.statement.program answer.u t answer.transcript led.transcript
        (answer.honest.hello ∙ sym (greeting_is prover t n received honest (rest ++ more) ends.prover_file ends.stated led.transcript bytes
        (sent ∙ append_assoc (said (take (suc n) (session_turns t))) rest more))) answer.grant

    no_more : suc answer.before ≤ suc n
    no_more = no_more_turns (suc answer.before) (suc n) us (session_turns t) sized
        (all_answered prover.file.params prover.statement.program answer.u answer.transcript)
        (let within = answer.within in omega (arith, within))
        (let whole = ap length (sym answer.begun.1 ∙ came) in
        let parts = length-append (answered (take (suc answer.before) us)) answer.begun.0 in
        omega (arith, whole, parts))

    count : answer.before ≡ n
    count = let most = answer.most in omega (arith, no_more, most)

    both_answered : (map (λ turn. turn.1) (take (suc n) (session_turns answer.u)) ≡ map (λ turn. turn.1) (take (suc n) (session_turns t)))
        × (answer.begun.0 ≡ [])
    both_answered = same_answered (suc n) us (session_turns t) answer.begun.0 [] sized
        (ap (λ k. answered (take (suc k) us) ++ answer.begun.0) (sym count) ∙ sym answer.begun.1 ∙ came
        ∙ sym (append-nil (answered (take (suc n) (session_turns t)))))

    both_said : (map (λ turn. turn.0) (take (suc n) (session_turns answer.u)) ≡ map (λ turn. turn.0) (take (suc n) (session_turns t)))
        × (said_in answer.u (suc n) ≡ rest ++ more)
    both_said = same_said (suc n) us (session_turns t) (said_in answer.u (suc n)) (rest ++ more) sized
        (sym (said_more (suc n) us (let within = answer.within in let left = count_is prover.file.params prover.statement.program answer.u answer.transcript in
        let right = count_is prover.file.params prover.statement.program t led.transcript in omega (arith, left, right, below)))
        ∙ ap (λ k. said (take (suc (suc k)) us)) (sym count) ∙ sym answer.sent_is ∙ sent
        ∙ append_assoc (said (take (suc n) (session_turns t))) rest more)

    same : take (suc n) (session_turns answer.u) ≡ take (suc n) (session_turns t)
    same = same_turns (take (suc n) us) (take (suc n) (session_turns t)) both_said.0 both_answered.0

-- what came and what was sent in such a log
pub came_in : (verifier : VerifierTask) (t : Transcript) (n : ℕ) (rest : List ℕ) (log : List (Side × ℕ)) → IsServedTurns verifier t n rest log
    → sent_by Verifier log ≡ answered (take n (session_turns t))
came_in verifier t n rest log served = ap (sent_by Verifier) served.bytes ∙ cut_answered (take n (session_turns t)) rest

pub sent_in : (verifier : VerifierTask) (t : Transcript) (n : ℕ) (rest : List ℕ) (log : List (Side × ℕ)) → IsServedTurns verifier t n rest log
    → sent_by Prover log ≡ said (take n (session_turns t)) ++ rest
sent_in verifier t n rest log served = ap (sent_by Prover) served.bytes ∙ cut_said (take n (session_turns t)) rest

pub honest_turn : HonestTurn
honest_turn prover verifier t n rest log both witness served from =
    let found = turn_said prover verifier.file t n (sent_by Verifier log) from.0 rest from.2.0
    (ends_of prover verifier both served.stated witness) (led_of prover verifier t both served.transcript served.replies)
    served.more (came_in verifier t n rest log served) from.1
    (from.2.1 ∙ ap (λ l. l ++ from.2.0) (sent_in verifier t n rest log served)) in
    (found.0, found.1, (from.2.0, found.2))

pub honest_turn_ends : HonestTurnEnds
honest_turn_ends prover verifier t n rest log both witness served ended =
    let found = turn_said prover verifier.file t n (sent_by Verifier log) (sent_by Prover log) rest []
    (ends_of prover verifier both served.stated witness) (led_of prover verifier t both served.transcript served.replies)
    served.more (came_in verifier t n rest log served) ended
    (sent_in verifier t n rest log served ∙ sym (append-nil (said (take n (session_turns t)) ++ rest))) in
    (found.0, found.1, sym (found.2 ∙ append-nil rest))

-- ---- a whole log

-- all turns but the last
abbrev pub turns_before : Transcript → List (List ℕ × List ℕ)
turns_before t = setup_turns t.commitment.setup ++ (corrections_frame t.commitment.corrections, challenge_frame t.challenge) ∷ []

-- and the last
pub last_apart : (t : Transcript) → session_turns t ≡ turns_before t ++ (sums_frame t.sums ++ openings_frame t.openings, verdict_frame t.code t.number) ∷ []
last_apart t = sym (append_assoc (setup_turns t.commitment.setup) ((corrections_frame t.commitment.corrections, challenge_frame t.challenge) ∷ [])
    ((sums_frame t.sums ++ openings_frame t.openings, verdict_frame t.code t.number) ∷ []))

pub before_count : (params : Params) (program : Program) (t : Transcript) → IsTranscript params program t
    → length (turns_before t) ≡ suc (rounds_of params.kind + 1)
before_count params program t is =
    let count = setup_count params program t is in
    length-append (setup_turns t.commitment.setup) ((corrections_frame t.commitment.corrections, challenge_frame t.challenge) ∷ [])
    ∙ omega (arith, count)

pub before_is : (params : Params) (program : Program) (t : Transcript) → IsTranscript params program t
    → take (suc (rounds_of params.kind + 1)) (session_turns t) ≡ turns_before t
before_is params program t is =
    ap (take (suc (rounds_of params.kind + 1))) (last_apart t)
    ∙ take_at (turns_before t) ((sums_frame t.sums ++ openings_frame t.openings, verdict_frame t.code t.number) ∷ [])
    (suc (rounds_of params.kind + 1)) (before_count params program t is)

pub last_is : (params : Params) (program : Program) (t : Transcript) → IsTranscript params program t
    → said_in t (suc (rounds_of params.kind + 1)) ≡ sums_frame t.sums ++ openings_frame t.openings
last_is params program t is =
    ap (λ (turns : List (List ℕ × List ℕ)). (get_or turns (suc (rounds_of params.kind + 1)) ([], [])).0) (last_apart t)
    ∙ ap (λ turn. turn.0) (get_or_at (turns_before t) (sums_frame t.sums ++ openings_frame t.openings, verdict_frame t.code t.number) [] ([], [])
    (suc (rounds_of params.kind + 1)) (before_count params program t is))

-- sessions that are the same but for the verdict
pub same_but_verdict : (params : Params) (program : Program) (t u : Transcript) → IsTranscript params program t → IsTranscript params program u
    → AreParams params
    → take (suc (rounds_of params.kind + 1)) (session_turns u) ≡ take (suc (rounds_of params.kind + 1)) (session_turns t)
    → said_in u (suc (rounds_of params.kind + 1)) ≡ said_in t (suc (rounds_of params.kind + 1))
    → record t { code = u.code; number = u.number } ≡ u
same_but_verdict params program t u is also are same same_last =
    one_transcript params program (record t { code = u.code; number = u.number }) u are
    (record { commitment = is.commitment; challenge = is.challenge; sum_count = is.sum_count; sums = is.sums; opening_count = is.opening_count; openings = is.openings; code = also.code; number = also.number })
    also
    (ap turn_bytes (last_apart (record t { code = u.code; number = u.number })
    ∙ (λ i. before i ++ (last i, verdict_frame u.code u.number) ∷ [])
    ∙ sym (last_apart u)))
  where
    before : turns_before t ≡ turns_before u
    before = sym (before_is params program t is) ∙ sym same ∙ before_is params program u also

    last : sums_frame t.sums ++ openings_frame t.openings ≡ sums_frame u.sums ++ openings_frame u.openings
    last = sym (last_is params program t is) ∙ sym same_last ∙ last_is params program u also

-- the verdict does not decide whether the prover is honest
pub honest_with : (prover : ProverTask) (t : Transcript) (code number : ℕ) → IsHonest prover t
    → IsHonest prover (record t { code = code; number = number })
honest_with prover t code number honest = honest_as prover t t.challenge code number t.sums t.openings honest honest.sums honest.openings

pub honest_before : (prover : ProverTask) (t : Transcript) (code number : ℕ) → IsHonest prover (record t { code = code; number = number })
    → IsHonest prover t
honest_before prover t code number = honest_with prover (record t { code = code; number = number }) t.code t.number

pub whole_honest : (prover : ProverTask) (verifier : VerifierFile) (t : Transcript) (honest more : List ℕ)
    → AreEnds prover verifier → IsLed prover verifier t → AreHonestBytes prover (answered (session_turns t)) honest
    → honest ≡ said (session_turns t) ++ more → IsHonest prover t
whole_honest prover verifier t honest more ends led bytes sent =
    honest_before prover t answer.u.code answer.u.number
    (subst (IsHonest prover) (sym (same_but_verdict prover.file.params prover.statement.program t answer.u led.transcript answer.transcript
    ends.prover_file.params same last)) answer.honest)
  where
    n : ℕ
    n = rounds_of prover.file.params.kind + 1

    ts : List (List ℕ × List ℕ)
    ts = session_turns t

    within : suc (rounds_of prover.file.params.kind + 1) < length (session_turns t)
    within = let count = count_is prover.file.params prover.statement.program t led.transcript in omega (arith, count)

    all : take (suc (suc (rounds_of prover.file.params.kind + 1))) (session_turns t) ≡ session_turns t
    all = let count = count_is prover.file.params prover.statement.program t led.transcript in
        take_all (suc (suc n)) (session_turns t) (omega (arith, count))

    answers : answered (session_turns t) ≡ answered (take (suc n) (session_turns t)) ++ (get_or (session_turns t) (suc n) ([], [])).1
    answers = ap (λ turns. answered turns) (sym all) ∙ answered_more (suc n) ts within

    says : said (session_turns t) ≡ said (take (suc n) (session_turns t)) ++ said_in t (suc n)
    says = ap (λ turns. said turns) (sym all) ∙ said_more (suc n) ts within

    answer : IsFollowed prover t n (answered (session_turns t)) honest
    answer = followed prover verifier t n (answered ts) honest (said_in t (suc n)) (get_or ts (suc n) ([], [])).1 more ends led
        (record { within = within; received_is = answers; honest_is = sent ∙ ap (λ l. l ++ more) says }) bytes

    us : List (List ℕ × List ℕ)
    us = session_turns answer.u

    sized : sizes (session_turns answer.u) ≡ sizes (session_turns t)
    sized = same_sizes prover.file.params prover.statement.program answer.u t answer.transcript led.transcript
        (answer.honest.hello ∙ sym (greeting_is prover t (suc n) (answered (session_turns t)) honest more ends.prover_file ends.stated led.transcript bytes
        (sent ∙ ap (λ turns. said turns ++ more) (sym all)))) answer.grant

    count : length (session_turns answer.u) ≡ rounds_of prover.file.params.kind + 3
    count = count_is prover.file.params prover.statement.program answer.u answer.transcript

    first : (rest : List ℕ) × (answered (take (suc answer.before) us) ≡ answered (take (suc n) us) ++ rest)
    first = fewer_answered (suc n) (suc answer.before) us (let most = answer.most in omega (arith, most))

    both_answered : (map (λ turn. turn.1) (take (suc n) us) ≡ map (λ turn. turn.1) (take (suc n) ts))
        × (first.0 ++ answer.begun.0 ≡ (get_or ts (suc n) ([], [])).1)
    both_answered = same_answered (suc n) us ts (first.0 ++ answer.begun.0) (get_or ts (suc n) ([], [])).1 sized
        (sym (append_assoc (answered (take (suc n) us)) first.0 answer.begun.0)
        ∙ ap (λ l. l ++ answer.begun.0) (sym first.1) ∙ sym answer.begun.1 ∙ answers)

    whole : honest ≡ said (take (suc (suc n)) us)
    whole = answer.sent_is
        ∙ ap (λ turns. said turns) (take_all (suc (suc answer.before)) us (let most = answer.most in omega (arith, count, most))
        ∙ sym (take_all (suc (suc n)) us (omega (arith, count))))

    both_said : (map (λ turn. turn.0) (take (suc n) us) ≡ map (λ turn. turn.0) (take (suc n) ts))
        × (said_in answer.u (suc n) ≡ said_in t (suc n) ++ more)
    both_said = same_said (suc n) us ts (said_in answer.u (suc n)) (said_in t (suc n) ++ more) sized
        (sym (said_more (suc n) us (omega (arith, count))) ∙ sym whole ∙ sent ∙ ap (λ l. l ++ more) says
        ∙ append_assoc (said (take (suc n) ts)) (said_in t (suc n)) more)

    same : take (suc n) us ≡ take (suc n) ts
    same = same_turns (take (suc n) us) (take (suc n) ts) both_said.0 both_answered.0

    last : said_in answer.u (suc n) ≡ said_in t (suc n)
    last = (same_front (said_in answer.u (suc n)) (said_in t (suc n)) [] more (same_length_in (suc n) us ts sized)
        (append-nil (said_in answer.u (suc n)) ∙ both_said.1)).0

pub honest_whole : HonestWhole
honest_whole prover verifier t verdict log both witness served from =
    whole_honest prover verifier.file t from.0 from.2.0 (ends_of prover verifier both served.in_order.stated witness)
    (led_of prover verifier t both served.in_order.transcript served.replies)
    (subst (λ (l : List ℕ). AreHonestBytes prover l from.0) (ap (sent_by Verifier) served.in_order.bytes ∙ sent_by-verifier (session_turns t)) from.1)
    (from.2.1 ∙ ap (λ l. l ++ from.2.0) (ap (sent_by Prover) served.in_order.bytes ∙ sent_by-prover (session_turns t)))

pub honest_whole_is_accepted : HonestWholeIsAccepted
honest_whole_is_accepted prover verifier t verdict log both witness claims served from =
    let honest = honest_whole prover verifier t verdict log both witness served from in
    (honest_session_is_accepted prover verifier t verdict log both honest (claims honest.wires honest.given honest.witness) served).0
