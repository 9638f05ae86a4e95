-- What an honest prover sent when a verifier's turns had come: it followed each of them.
use Rattle.std.proofs.Common.{◌≡◌, ℕ, zero, suc, ◌+◌, ◌<◌, ◌≤◌, List, [], ◌∷◌, ◌++◌, flat_map, take, length, refl, sym, ◌∙◌, ap, subst, arith, append_assoc, append-nil}
use Rattle.std.specs.Prelude.{All}
use Rattle.std.specs.List.{AllByRecursion}
use Rattle.std.proofs.lemmas.List.{length-map}
use Rattle.std.proofs.lemmas.List.Elements.{recursion_from_All, All-from_recursion}
use Rattle.session_laws.specs.Peers.{HasWitness}
use Rattle.session_laws.proofs.Turns.{said, answered}
use Rattle.session_laws.proofs.Sizes.{round_turns, asks_length, count_is}
use Rattle.session_laws.proofs.Greetings.{greeting_is}
use Rattle.session_laws.proofs.Cut.{one_grant}
use Rattle.session_laws.proofs.Honest.{AsksAre, IsMade, HasHonestSetup, honest_session_exists, honest_setup_exists}
use Rattle.frame_laws.proofs.Codes.{same_front}
use Rattle.frame_laws.proofs.FrameCodes.{hello_code, round_code}
use Rattle.zk_model.specs.Statement.{IsStatement}
use Rattle.zk_model.specs.Files.{VerifierFile, IsProverFile, IsVerifierFile, rounds_of}
use Rattle.zk_model.specs.Transcript.{Grant, TreeAsk, Round, Transcript, IsRound, IsTranscript, BeginsWith, wanted_hello, hello_frame, grant_frame, ask_frame, reply_frame, corrections_frame, challenge_frame, sums_frame, openings_frame, verdict_frame, setup_turns, session_turns}
use Rattle.zk_model.specs.HonestProver.{ProverTask, IsHonest, SentAfter, AreHonestBytes, round_asks}
use Rattle.zk_model.specs.ServedVerifier.{RepliesAre}
use Rattle.zk_model.specs.declared.Kind.{Kind}
use Rattle.zk_model.specs.declared.Kind.TheVariants.{Direct, Extended}
use Rattle.zk_model.specs.declared.Params.{Params}

-- ---- answers

-- an honest prover's answer to as many turns as came, one at least
pub record IsAnswer (prover : ProverTask) (received sent : List ℕ) (turns : ℕ) : Type 0 where
  pub before : ℕ
  pub count : turns ≡ suc before
  pub u : Transcript
  pub transcript : IsTranscript prover.file.params prover.statement.program u
  pub honest : IsHonest prover u
  pub within : before < length (session_turns u)
  pub begun : BeginsWith received (answered (take (suc before) (session_turns u)))
  pub sent_is : sent ≡ said (take (suc (suc before)) (session_turns u))

-- where one turn came
some_answer : (prover : ProverTask) (received sent : List ℕ) (turns : ℕ) → 1 ≤ turns → SentAfter prover received turns sent
    → IsAnswer prover received sent turns
some_answer prover received sent zero some after = absurd (omega (arith, some))
some_answer prover received sent (suc n) some after = record {
  before = n;
  count = refl;
  u = after.0;
  transcript = after.1;
  honest = after.2;
  within = after.3;
  begun = after.4;
  sent_is = after.5;
}

-- where nothing came, it sent its hello
pub first_answer : (prover : ProverTask) (sent : List ℕ) (turns : ℕ) → SentAfter prover [] turns sent
    → sent ≡ hello_frame (wanted_hello prover.file.id prover.statement)
first_answer prover sent zero after = after
first_answer prover sent (suc n) after = let whole = ap length after.4.1 in absurd (omega (arith, whole))

-- the two turns after the setup
abbrev pub last_two : Transcript → List (List ℕ × List ℕ)
last_two t =
    (corrections_frame t.commitment.corrections, challenge_frame t.challenge)
    ∷ (sums_frame t.sums ++ openings_frame t.openings, verdict_frame t.code t.number)
    ∷ []

-- ---- asks

-- asks are told by their bytes
pub same_asks : (params : Params) (grant : Grant) (q r : Round) (xs ys : List ℕ) → IsRound params grant q → IsRound params grant r
    → flat_map ask_frame q.asks ++ xs ≡ flat_map ask_frame r.asks ++ ys → q.asks ≡ r.asks
same_asks params grant q r xs ys left right same =
    ap (λ (round : Round). round.asks)
    (round_code params grant (record { asks = q.asks; replies = r.replies }) r [] []
    (record { asks = left.asks; replies = right.replies }) right
    (ap (λ l. (l ++ flat_map reply_frame r.replies) ++ [])
    (same_front (flat_map ask_frame q.asks) (flat_map ask_frame r.asks) xs ys
    (asks_length params grant q left ∙ sym (asks_length params grant r right)) same).0)).0

-- one round at most
pub one_round : (kind : Kind) → rounds_of kind ≤ 1
one_round Direct = omega arith
one_round Extended = omega arith

-- where what is said in the turns after the first begins alike, the asks of one session are those of the other
asks_follow : (params : Params) (grant : Grant) (asks : List (List TreeAsk)) (qs rs : List Round) (xs ys : List (List ℕ × List ℕ)) (m n : ℕ) (more : List ℕ)
    → length qs ≡ length rs → length rs ≤ 1 → AllByRecursion (IsRound params grant) qs → AllByRecursion (IsRound params grant) rs
    → said (take (suc m) (round_turns qs ++ xs)) ≡ said (take (suc n) (round_turns rs ++ ys)) ++ more
    → AllByRecursion (λ round. round.asks ≡ asks) qs → AllByRecursion (λ round. round.asks ≡ asks) rs
asks_follow params grant asks qs [] xs ys m n more many few left right same are = tt
asks_follow params grant asks [] (r ∷ rs) xs ys m n more many few left right same are = absurd (omega (arith, many))
asks_follow params grant asks (q ∷ qs) (r ∷ s ∷ rs) xs ys m n more many few left right same are = absurd (omega (arith, few))
asks_follow params grant asks (q ∷ qs) (r ∷ []) xs ys m n more many few left right same are = (
  sym (same_asks params grant q r (said (take m (round_turns qs ++ xs))) (said (take n (round_turns [] ++ ys)) ++ more) left.0 right.0
      (same ∙ append_assoc (flat_map ask_frame r.asks) (said (take n (round_turns [] ++ ys))) more)) ∙ are.0,
  tt,
)

-- ---- answers of one setup and challenge

-- they are the same before the last turn, whatever the prover says
same_answers : (n : ℕ) (turns : List (List ℕ × List ℕ)) (c d challenge s r v w : List ℕ) → n ≤ length turns + 1
    → answered (take n (turns ++ (c, challenge) ∷ (s, v) ∷ [])) ≡ answered (take n (turns ++ (d, challenge) ∷ (r, w) ∷ []))
same_answers zero turns c d challenge s r v w within = refl
same_answers (suc zero) [] c d challenge s r v w within = refl
same_answers (suc (suc n)) [] c d challenge s r v w within = absurd (omega (arith, within))
same_answers (suc n) (turn ∷ turns) c d challenge s r v w within =
    ap (λ l. turn.1 ++ l) (same_answers n turns c d challenge s r v w (omega (arith, within)))

-- the answers of a session with this setup and challenge
answers_of : (t u : Transcript) (n : ℕ) → u.commitment.setup ≡ t.commitment.setup → u.challenge ≡ t.challenge
    → n ≤ length (setup_turns t.commitment.setup) + 1
    → answered (take n (session_turns u)) ≡ answered (take n (session_turns t))
answers_of t u n setup challenge within =
    (λ i. answered (take n (setup_turns (setup i) ++ (corrections_frame u.commitment.corrections, challenge_frame (challenge i))
    ∷ (sums_frame u.sums ++ openings_frame u.openings, verdict_frame u.code u.number) ∷ [])))
    ∙ same_answers n (setup_turns t.commitment.setup) (corrections_frame u.commitment.corrections) (corrections_frame t.commitment.corrections)
    (challenge_frame t.challenge) (sums_frame u.sums ++ openings_frame u.openings) (sums_frame t.sums ++ openings_frame t.openings)
    (verdict_frame u.code u.number) (verdict_frame t.code t.number) within

-- ---- both ends

-- what both ends have, over one statement
pub record AreEnds (prover : ProverTask) (verifier : VerifierFile) : Type 0 where
  pub prover_file : IsProverFile prover.file
  pub verifier_file : IsVerifierFile verifier
  pub params : prover.file.params ≡ verifier.params
  pub stated : IsStatement prover.statement
  pub witness : HasWitness prover

-- a session that the verifier leads
pub record IsLed (prover : ProverTask) (verifier : VerifierFile) (t : Transcript) : Type 0 where
  pub transcript : IsTranscript prover.file.params prover.statement.program t
  pub replies : RepliesAre verifier t.commitment.setup

-- an honest session with the grant of t
pub granted_session : (prover : ProverTask) (verifier : VerifierFile) (t : Transcript) → AreEnds prover verifier
    → IsTranscript prover.file.params prover.statement.program t
    → (u : Transcript) × IsTranscript prover.file.params prover.statement.program u × IsHonest prover u
    × (u.commitment.setup.grant ≡ t.commitment.setup.grant)
granted_session prover verifier t ends is = (made.t, made.transcript, made.honest, ap (λ setup. setup.grant) made.setup_is ∙ found.granted)
  where
    found : HasHonestSetup prover verifier t.commitment.setup.grant
    found = honest_setup_exists prover verifier t.commitment.setup.grant ends.prover_file ends.stated ends.verifier_file ends.params
        is.commitment.setup.grant

    made : IsMade prover found.setup 0 0 0 ends.witness.wires ends.witness.given
    made = honest_session_exists prover found.setup 0 0 0 ends.witness.wires ends.witness.given ends.prover_file ends.stated
        ends.witness.witness found.is found.hello found.asks (omega arith) (omega arith) (omega arith)

-- ---- the turns that came

-- what came begins with the answers of turns of t, and what was sent with what is said in them
pub record IsHeard (t : Transcript) (n : ℕ) (received honest rest extra more : List ℕ) : Type 0 where
  pub within : suc n < length (session_turns t)
  pub received_is : received ≡ answered (take (suc n) (session_turns t)) ++ extra
  pub honest_is : honest ≡ (said (take (suc n) (session_turns t)) ++ rest) ++ more

-- a grant that came is answered
one_turn : (prover : ProverTask) (verifier : VerifierFile) (t : Transcript) (n : ℕ) (received honest rest extra more : List ℕ)
    → AreEnds prover verifier → IsTranscript prover.file.params prover.statement.program t
    → IsHeard t n received honest rest extra more → (bytes : AreHonestBytes prover received honest) → 1 ≤ bytes.turns
one_turn prover verifier t n received honest rest extra more ends is heard bytes =
    bytes.most 1 (said (take 2 (session_turns u))) (u, some.1, some.2, omega arith, (later ++ extra, begun), refl)
  where
    some : (u : Transcript) × IsTranscript prover.file.params prover.statement.program u × IsHonest prover u
        × (u.commitment.setup.grant ≡ t.commitment.setup.grant)
    some = granted_session prover verifier t ends is

    u : Transcript
    u = some.0

    later : List ℕ
    later = answered (take n (round_turns t.commitment.setup.rounds ++ (corrections_frame t.commitment.corrections, challenge_frame t.challenge)
        ∷ (sums_frame t.sums ++ openings_frame t.openings, verdict_frame t.code t.number) ∷ []))

    begun : received ≡ (grant_frame some.0.commitment.setup.grant ++ []) ++ (later ++ extra)
    begun = heard.received_is
        ∙ append_assoc (grant_frame t.commitment.setup.grant) later extra
        ∙ ap (λ l. l ++ (later ++ extra)) (ap grant_frame (sym some.3) ∙ sym (append-nil (grant_frame some.0.commitment.setup.grant)))

-- the prover's asks before its corrections are those of an honest prover
asks_are : (prover : ProverTask) (t u : Transcript) (m n : ℕ) (honest rest more : List ℕ)
    → IsTranscript prover.file.params prover.statement.program t → IsTranscript prover.file.params prover.statement.program u
    → IsHonest prover u → u.commitment.setup.grant ≡ t.commitment.setup.grant
    → honest ≡ said (take (suc (suc m)) (session_turns u))
    → honest ≡ (said (take (suc (suc n)) (session_turns t)) ++ rest) ++ more
    → AsksAre prover.file t.commitment.setup
asks_are prover t u m n honest rest more is also honestly same left right =
    All-from_recursion (λ round. round.asks ≡ round_asks prover.file t.commitment.setup.grant) t.commitment.setup.rounds
    (asks_follow prover.file.params t.commitment.setup.grant (round_asks prover.file t.commitment.setup.grant)
    u.commitment.setup.rounds t.commitment.setup.rounds (last_two u) (last_two t) m n (rest ++ more)
    (also.commitment.setup.round_count ∙ sym is.commitment.setup.round_count)
    (let few = one_round prover.file.params.kind in let count = is.commitment.setup.round_count in omega (arith, few, count))
    (recursion_from_All (IsRound prover.file.params t.commitment.setup.grant) u.commitment.setup.rounds
    (subst (λ (grant : Grant). All (IsRound prover.file.params grant) u.commitment.setup.rounds) same also.commitment.setup.rounds))
    (recursion_from_All (IsRound prover.file.params t.commitment.setup.grant) t.commitment.setup.rounds is.commitment.setup.rounds)
    front
    (recursion_from_All (λ round. round.asks ≡ round_asks prover.file t.commitment.setup.grant) u.commitment.setup.rounds
    (subst (λ (grant : Grant). All (λ round. round.asks ≡ round_asks prover.file grant) u.commitment.setup.rounds) same honestly.asks)))
  where
    first : List ℕ
    first = hello_frame t.commitment.setup.hello

    later : List ℕ
    later = said (take (suc n) (round_turns t.commitment.setup.rounds ++ last_two t))

    front : said (take (suc m) (round_turns u.commitment.setup.rounds ++ last_two u))
        ≡ said (take (suc n) (round_turns t.commitment.setup.rounds ++ last_two t)) ++ (rest ++ more)
    front = (hello_code u.commitment.setup.hello t.commitment.setup.hello
        (said (take (suc m) (round_turns u.commitment.setup.rounds ++ last_two u))) (later ++ (rest ++ more))
        also.commitment.setup.hello is.commitment.setup.hello
        (sym left ∙ right ∙ append_assoc (first ++ later) rest more ∙ append_assoc first later (rest ++ more))).1

-- what an honest prover answered when n turns and more bytes had come: n turns at least
pub record IsFollowed (prover : ProverTask) (t : Transcript) (n : ℕ) (received sent : List ℕ) : Type 0 where
  pub before : ℕ
  pub most : n ≤ before
  pub u : Transcript
  pub transcript : IsTranscript prover.file.params prover.statement.program u
  pub honest : IsHonest prover u
  pub grant : u.commitment.setup.grant ≡ t.commitment.setup.grant
  pub within : before < length (session_turns u)
  pub begun : BeginsWith received (answered (take (suc before) (session_turns u)))
  pub sent_is : sent ≡ said (take (suc (suc before)) (session_turns u))

-- the answer is at least to the turns of t that came
enough_turns : (prover : ProverTask) (verifier : VerifierFile) (t : Transcript) (n : ℕ) (received honest rest extra more : List ℕ)
    → AreEnds prover verifier → IsLed prover verifier t → IsHeard t n received honest rest extra more
    → (bytes : AreHonestBytes prover received honest)
    → (answer : IsAnswer prover received honest bytes.turns)
    → answer.u.commitment.setup.grant ≡ t.commitment.setup.grant → suc n ≤ bytes.turns
enough_turns prover verifier t zero received honest rest extra more ends led heard bytes answer same =
    let count = answer.count in omega (arith, count)
enough_turns prover verifier t (suc n) received honest rest extra more ends led heard bytes answer same =
    bytes.most (suc (suc n)) (said (take (suc (suc (suc n))) (session_turns made.t)))
    (made.t, made.transcript, made.honest, inside, (extra, begun), refl)
  where
    asks : AsksAre prover.file t.commitment.setup
    asks = asks_are prover t answer.u answer.before n honest rest more led.transcript answer.transcript answer.honest same
        answer.sent_is heard.honest_is

    greeting : t.commitment.setup.hello ≡ wanted_hello prover.file.id prover.statement
    greeting = greeting_is prover t (suc n) received honest (rest ++ more) ends.prover_file ends.stated led.transcript bytes
        (heard.honest_is ∙ append_assoc (said (take (suc (suc n)) (session_turns t))) rest more)

    made : IsMade prover t.commitment.setup t.challenge 0 0 ends.witness.wires ends.witness.given
    made = honest_session_exists prover t.commitment.setup t.challenge 0 0 ends.witness.wires ends.witness.given ends.prover_file
        ends.stated ends.witness.witness led.transcript.commitment.setup greeting asks led.transcript.challenge (omega arith) (omega arith)

    inside : suc n < length (session_turns made.t)
    inside =
        let left = count_is prover.file.params prover.statement.program made.t made.transcript in
        let right = count_is prover.file.params prover.statement.program t led.transcript in
        let within = heard.within in
        omega (arith, left, right, within)

    short : suc (suc n) ≤ length (setup_turns t.commitment.setup) + 1
    short =
        let mapped : length (round_turns t.commitment.setup.rounds) ≡ length t.commitment.setup.rounds = length-map t.commitment.setup.rounds _ in
        let count = led.transcript.commitment.setup.round_count in
        let whole = count_is prover.file.params prover.statement.program t led.transcript in
        let within = heard.within in
        omega (arith, mapped, count, whole, within)

    begun : received ≡ answered (take (suc (suc n)) (session_turns made.t)) ++ extra
    begun = heard.received_is
        ∙ ap (λ l. l ++ extra) (sym (answers_of t made.t (suc (suc n)) made.setup_is made.challenge_is short))

pub followed : (prover : ProverTask) (verifier : VerifierFile) (t : Transcript) (n : ℕ) (received honest rest extra more : List ℕ)
    → AreEnds prover verifier → IsLed prover verifier t → IsHeard t n received honest rest extra more
    → AreHonestBytes prover received honest → IsFollowed prover t n received honest
followed prover verifier t n received honest rest extra more ends led heard bytes = record {
  before = answer.before;
  most = let enough = enough_turns prover verifier t n received honest rest extra more ends led heard bytes answer same in
      let count = answer.count in omega (arith, enough, count);
  u = answer.u;
  transcript = answer.transcript;
  honest = answer.honest;
  within = answer.within;
  grant = same;
  begun = answer.begun;
  sent_is = answer.sent_is;
}
  where
    answer : IsAnswer prover received honest bytes.turns
    answer = some_answer prover received honest bytes.turns
        (one_turn prover verifier t n received honest rest extra more ends led.transcript heard bytes) bytes.answer

    same : answer.u.commitment.setup.grant ≡ t.commitment.setup.grant
    same = one_grant prover.file.params prover.statement.program answer.u t answer.before n answer.begun.0 extra ends.prover_file.params
        answer.transcript led.transcript (sym answer.begun.1 ∙ heard.received_is)
