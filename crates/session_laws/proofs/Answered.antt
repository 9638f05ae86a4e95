-- What an honest verifier's bytes make of the log of an honest prover.
use Rattle.std.proofs.Common.{◌≡◌, ℕ, zero, suc, ◌+◌, ◌<◌, ◌≤◌, ⊎_elim, List, [], ◌∷◌, ◌++◌, map, take, length, refl, sym, ◌∙◌, ap, subst, arith, append_assoc, append-nil, length-append}
use Rattle.std.proofs.lemmas.Bool.{cases_eq}
use Rattle.std.proofs.lemmas.List.{take_all}
use Rattle.session_laws.specs.Peers.{HasWitness, said_in}
use Rattle.session_laws.specs.Sessions.{BeginsHonestly, IsCutInAnswer, HonestAnswer, HonestVerdict}
use Rattle.session_laws.proofs.Turns.{said, answered, sizes, same_said, same_answered, same_turns, no_more_turns, no_more_said, said_more, answered_more, fewer_said, fewer_answered, same_length_in}
use Rattle.session_laws.proofs.Sizes.{count_is, same_sizes, all_answered, all_said}
use Rattle.session_laws.proofs.Greetings.{later_turns, one_greeting}
use Rattle.session_laws.proofs.Cut.{one_grant}
use Rattle.session_laws.proofs.Followed.{granted_session}
use Rattle.session_laws.proofs.Completed.{AreBoth, task_of, counterparts}
use Rattle.session_laws.proofs.MetTurns.{Agree, answered_in, served_transcript_is}
use Rattle.session_laws.proofs.Prefixes.{answer_said, answer_answered}
use Rattle.session_laws.proofs.SessionsMeet.{both_of, as_long, in_met_turn, in_met_answer}
use Rattle.frame_laws.proofs.Codes.{same_front}
use Rattle.zk_laws.proofs.HonestIsAccepted.{honest_session_is_accepted}
use Rattle.frame_laws.proofs.OneTranscript.{one_transcript}
use Rattle.frame_laws.proofs.SentBytes.{sent_by-prover, sent_by-verifier}
use Rattle.zk_model.specs.Statement.{Statement, IsStatement}
use Rattle.zk_model.specs.Files.{VerifierFile, rounds_of}
use Rattle.zk_model.specs.Transcript.{Grant, Transcript, IsTranscript, hello_frame, bytes_from, turn_bytes, session_turns, spelling, sent_by}
use Rattle.zk_model.specs.HonestProver.{ProverTask, IsHonest}
use Rattle.zk_model.specs.ServedVerifier.{IsServed}
use Rattle.zk_model.specs.BothEnds.{IsHonestSession}
use Rattle.zk_model.specs.Peers.{IsFromHonestVerifier}
use Rattle.zk_model.specs.declared.Side.{Side}
use Rattle.zk_model.specs.declared.Side.TheVariants.{Prover, Verifier}
use Rattle.zk_model.specs.declared.Verdict.{Verdict}
use Rattle.zk_model.specs.declared.Verdict.TheVariants.{Accepted}

-- ---- turns that came to a verifier

-- A verifier that serves w heard m turns, which are what the prover said in t or a beginning of it; the bytes of its
-- answers are those to the first turns of t, and then others.
record IsHeardBy (prover : ProverTask) (file : VerifierFile) (t w : Transcript) (m n : ℕ) (more_said rest more : List ℕ) : Type 0 where
  mine : IsTranscript prover.file.params prover.statement.program t
  honest : IsHonest prover t
  verdict : Verdict
  served : IsServed (task_of prover file) w verdict (spelling w)
  theirs : IsTranscript prover.file.params prover.statement.program w
  below : n < length (session_turns t)
  within : m ≤ length (session_turns w)
  heard : said (take n (session_turns t)) ++ said_in t n ≡ said (take m (session_turns w)) ++ more_said
  answers : answered (take m (session_turns w)) ≡ answered (take n (session_turns t)) ++ (rest ++ more)

-- a turn came to it where one was answered
some_heard : (prover : ProverTask) (file : VerifierFile) (t w : Transcript) (m n : ℕ) (more_said rest more : List ℕ)
    → IsHeardBy prover file t w m (suc n) more_said rest more → 1 ≤ m
some_heard prover file t w zero n more_said rest more is = let whole = ap length is.answers in absurd (omega (arith, whole))
some_heard prover file t w (suc m) n more_said rest more is = omega arith

-- then both have one grant
heard_grant : (prover : ProverTask) (file : VerifierFile) (t w : Transcript) (m n : ℕ) (more_said rest more : List ℕ) → AreBoth prover file
    → IsHeardBy prover file t w m (suc n) more_said rest more → t.commitment.setup.grant ≡ w.commitment.setup.grant
heard_grant prover file t w zero n more_said rest more both is =
    let some = some_heard prover file t w zero n more_said rest more is in absurd (omega (arith, some))
heard_grant prover file t w (suc m) n more_said rest more both is =
    one_grant prover.file.params prover.statement.program t w n m (rest ++ more) [] both.ends.prover_file.params is.mine is.theirs
    (sym is.answers ∙ sym (append-nil (answered (take (suc m) (session_turns w)))))

-- and one hello
heard_greeting : (prover : ProverTask) (file : VerifierFile) (t w : Transcript) (m n : ℕ) (more_said rest more : List ℕ)
    → IsHeardBy prover file t w m (suc n) more_said rest more → t.commitment.setup.hello ≡ w.commitment.setup.hello
heard_greeting prover file t w zero n more_said rest more is =
    let some = some_heard prover file t w zero n more_said rest more is in absurd (omega (arith, some))
heard_greeting prover file t w (suc m) n more_said rest more is =
    one_greeting prover.file.params prover.statement.program t w n m (said_in t (suc n)) more_said is.mine is.theirs is.heard

-- it heard the turns that it answered, and one more at most
record Heard (prover : ProverTask) (t w : Transcript) (m n : ℕ) (more_said rest more : List ℕ) : Type 0 where
  grant : t.commitment.setup.grant ≡ w.commitment.setup.grant
  sized : sizes (session_turns t) ≡ sizes (session_turns w)
  least : n ≤ m
  most : m ≤ suc n
  same : take n (session_turns t) ≡ take n (session_turns w)

heard_turns : (prover : ProverTask) (file : VerifierFile) (t w : Transcript) (m n : ℕ) (more_said rest more : List ℕ) → AreBoth prover file
    → IsHeardBy prover file t w m (suc n) more_said rest more → Heard prover t w m (suc n) more_said rest more
heard_turns prover file t w m n more_said rest more both is = record {
  grant = grant;
  sized = sized;
  least = least;
  most = no_more_said m (suc (suc n)) ws ts (sym sized) (all_said prover.file.params prover.statement.program w is.theirs) is.within
      (let whole = ap length (said_more (suc n) ts is.below ∙ is.heard) in
      let parts = length-append (said (take m ws)) more_said in
      omega (arith, whole, parts));
  same = same_turns (take (suc n) ts) (take (suc n) ws) both_said.0 both_answered.0;
}
  where
    ts : List (List ℕ × List ℕ)
    ts = session_turns t

    ws : List (List ℕ × List ℕ)
    ws = session_turns w

    grant : t.commitment.setup.grant ≡ w.commitment.setup.grant
    grant = heard_grant prover file t w m n more_said rest more both is

    sized : sizes (session_turns t) ≡ sizes (session_turns w)
    sized = same_sizes prover.file.params prover.statement.program t w is.mine is.theirs (heard_greeting prover file t w m n more_said rest more is) grant

    least : suc n ≤ m
    least = no_more_turns (suc n) m ts ws sized (all_answered prover.file.params prover.statement.program t is.mine)
        (let below = is.below in omega (arith, below))
        (let whole = ap length is.answers in
        let parts = length-append (answered (take (suc n) ts)) (rest ++ more) in
        omega (arith, whole, parts))

    more_answered : (later : List ℕ) × (answered (take m (session_turns w)) ≡ answered (take (suc n) (session_turns w)) ++ later)
    more_answered = fewer_answered (suc n) m ws least

    said_later : (later : List ℕ) × (said (take m (session_turns w)) ≡ said (take (suc n) (session_turns w)) ++ later)
    said_later = fewer_said (suc n) m ws least

    both_answered : (map (λ turn. turn.1) (take (suc n) (session_turns t)) ≡ map (λ turn. turn.1) (take (suc n) (session_turns w)))
        × (rest ++ more ≡ more_answered.0)
    both_answered = same_answered (suc n) ts ws (rest ++ more) more_answered.0 sized (sym is.answers ∙ more_answered.1)

    both_said : (map (λ turn. turn.0) (take (suc n) (session_turns t)) ≡ map (λ turn. turn.0) (take (suc n) (session_turns w)))
        × (said_in t (suc n) ≡ said_later.0 ++ more_said)
    both_said = same_said (suc n) ts ws (said_in t (suc n)) (said_later.0 ++ more_said) sized
        (is.heard ∙ ap (λ l. l ++ more_said) said_later.1 ∙ append_assoc (said (take (suc n) ws)) said_later.0 more_said)

-- both ends have the same first turns
heard_agree : (prover : ProverTask) (file : VerifierFile) (t w : Transcript) (m n : ℕ) (more_said rest more : List ℕ)
    → IsHeardBy prover file t w m n more_said rest more → Heard prover t w m n more_said rest more → Agree prover file t w n
heard_agree prover file t w m n more_said rest more is heard =
    record { transcript = is.mine; honest = is.honest; verdict = is.verdict; served = is.served; grant = heard.grant; below = is.below; same = heard.same }

-- ---- a log that ends in an answer

-- no byte of the answer: the log ends with the prover's turn
ends_with_turn : (prover : ProverTask) (file : VerifierFile) (t w : Transcript) (n : ℕ) (rest more : List ℕ) (log : List (Side × ℕ))
    → AreBoth prover file → Agree prover file t w n → [] ≡ rest ++ more
    → log ≡ turn_bytes (take n (session_turns t)) ++ (bytes_from Prover (said_in t n) ++ bytes_from Verifier rest)
    → BeginsHonestly prover (task_of prover file) w.commitment.setup.grant log
ends_with_turn prover file t w n [] more log both agree none bytes =
    in_met_turn prover file t w n (said_in t n) [] log both agree (sym (append-nil (said_in t n)))
    (bytes ∙ ap (λ l. turn_bytes (take n (session_turns t)) ++ l) (append-nil (bytes_from Prover (said_in t n))))
ends_with_turn prover file t w n (byte ∷ rest) more log both agree none bytes = let whole = ap length none in absurd (omega (arith, whole))

-- it heard no more turns than it answered
ends_unheard : (prover : ProverTask) (file : VerifierFile) (t w : Transcript) (m n : ℕ) (more_said rest more : List ℕ) (log : List (Side × ℕ))
    → AreBoth prover file → IsHeardBy prover file t w m n more_said rest more → Heard prover t w m n more_said rest more → m ≡ n
    → log ≡ turn_bytes (take n (session_turns t)) ++ (bytes_from Prover (said_in t n) ++ bytes_from Verifier rest)
    → BeginsHonestly prover (task_of prover file) w.commitment.setup.grant log
ends_unheard prover file t w m n more_said rest more log both is heard e bytes =
    ends_with_turn prover file t w n rest more log both (heard_agree prover file t w m n more_said rest more is heard)
    (same_answered n (session_turns w) (session_turns t) [] (rest ++ more) (sym heard.sized)
    (append-nil (answered (take n (session_turns w))) ∙ ap (λ k. answered (take k (session_turns w))) (sym e) ∙ is.answers)).1
    bytes

-- it heard the next turn too
ends_heard : (prover : ProverTask) (file : VerifierFile) (t w : Transcript) (m n : ℕ) (more_said rest more : List ℕ) (log : List (Side × ℕ))
    → AreBoth prover file → IsHeardBy prover file t w m n more_said rest more → Heard prover t w m n more_said rest more → m ≡ suc n
    → log ≡ turn_bytes (take n (session_turns t)) ++ (bytes_from Prover (said_in t n) ++ bytes_from Verifier rest)
    → BeginsHonestly prover (task_of prover file) w.commitment.setup.grant log
ends_heard prover file t w m n more_said rest more log both is heard e bytes =
    in_met_answer prover file t w n rest more log both (heard_agree prover file t w m n more_said rest more is heard)
    (same_front (said_in t n) (said_in w n) [] more_said (same_length_in n ts ws heard.sized) (append-nil (said_in t n) ∙ both_said.1)).0
    (same_answered n ws ts (answered_in w n) (rest ++ more) (sym heard.sized)
    (sym (answered_more n ws below) ∙ ap (λ k. answered (take k ws)) (sym e) ∙ is.answers)).1
    bytes
  where
    ts : List (List ℕ × List ℕ)
    ts = session_turns t

    ws : List (List ℕ × List ℕ)
    ws = session_turns w

    below : n < length (session_turns w)
    below = as_long prover t w n is.mine is.theirs is.below

    both_said : (map (λ turn. turn.0) (take n (session_turns t)) ≡ map (λ turn. turn.0) (take n (session_turns w)))
        × (said_in t n ≡ said_in w n ++ more_said)
    both_said = same_said n ts ws (said_in t n) (said_in w n ++ more_said) heard.sized
        (is.heard ∙ ap (λ k. said (take k ws) ++ more_said) e ∙ ap (λ l. l ++ more_said) (said_more n ws below)
        ∙ append_assoc (said (take n ws)) (said_in w n) more_said)

-- after some turns
after_turns : (prover : ProverTask) (file : VerifierFile) (t w : Transcript) (m n : ℕ) (more_said rest more : List ℕ) (log : List (Side × ℕ))
    → AreBoth prover file → IsHeardBy prover file t w m (suc n) more_said rest more
    → log ≡ turn_bytes (take (suc n) (session_turns t)) ++ (bytes_from Prover (said_in t (suc n)) ++ bytes_from Verifier rest)
    → BeginsHonestly prover (task_of prover file) w.commitment.setup.grant log
after_turns prover file t w m n more_said rest more log both is bytes = ⊎_elim
    (λ e. ends_unheard prover file t w m (suc n) more_said rest more log both is heard e bytes)
    (λ ne. ends_heard prover file t w m (suc n) more_said rest more log both is heard (one_more ne) bytes)
    (cases_eq m (suc n))
  where
    heard : Heard prover t w m (suc n) more_said rest more
    heard = heard_turns prover file t w m n more_said rest more both is

    one_more : (m ≡ suc n → ⊥) → m ≡ suc (suc n)
    one_more ne = let least = heard.least in let most = heard.most in omega (arith, least, most, ne)

-- before any turn
at_first : (prover : ProverTask) (file : VerifierFile) (t w : Transcript) (m : ℕ) (more_said rest more : List ℕ) (log : List (Side × ℕ))
    → AreBoth prover file → IsHeardBy prover file t w m 0 more_said rest more
    → log ≡ turn_bytes (take 0 (session_turns t)) ++ (bytes_from Prover (said_in t 0) ++ bytes_from Verifier rest)
    → BeginsHonestly prover (task_of prover file) w.commitment.setup.grant log
at_first prover file t w m more_said rest more log both is bytes = by_turns m is.heard is.within is.answers
  where
    some : (u : Transcript) × IsTranscript prover.file.params prover.statement.program u × IsHonest prover u
        × (u.commitment.setup.grant ≡ w.commitment.setup.grant)
    some = granted_session prover file w both.ends is.theirs

    agree : Agree prover file some.0 w 0
    agree = record {
      transcript = some.1;
      honest = some.2;
      verdict = is.verdict;
      served = is.served;
      grant = some.3;
      below = omega arith;
      same = refl;
    }

    -- whatever the grant, the prover says hello
    hello : said_in t 0 ≡ said_in some.0 0
    hello = ap hello_frame (is.honest.hello ∙ sym some.2.hello)

    spelled : log ≡ turn_bytes (take 0 (session_turns some.0)) ++ (bytes_from Prover (said_in some.0 0) ++ bytes_from Verifier rest)
    spelled = bytes ∙ ap (λ l. [] ++ (bytes_from Prover l ++ bytes_from Verifier rest)) hello

    -- which is that of a verifier that heard it
    greeting : (m : ℕ) → said_in t 0 ≡ said (take (suc m) (session_turns w)) ++ more_said
        → t.commitment.setup.hello ≡ w.commitment.setup.hello
    greeting m heard = one_greeting prover.file.params prover.statement.program t w 0 m [] more_said is.mine is.theirs
        (append-nil (hello_frame t.commitment.setup.hello ++ []) ∙ append-nil (hello_frame t.commitment.setup.hello) ∙ heard)

    few : (m : ℕ) → said_in t 0 ≡ said (take (suc m) (session_turns w)) ++ more_said → suc m ≤ length (session_turns w) → suc m ≤ 1
    few m heard within = no_more_said (suc m) 1 (session_turns w) (session_turns w) refl
        (all_said prover.file.params prover.statement.program w is.theirs) within
        (let whole = ap length heard in
        let parts = length-append (said (take (suc m) (session_turns w))) more_said in
        let same = ap (λ hello. length (hello_frame hello)) (greeting m heard) in
        let one = length-append (hello_frame w.commitment.setup.hello) [] in
        omega (arith, whole, parts, same, one))

    by_turns : (m : ℕ) → said_in t 0 ≡ said (take m (session_turns w)) ++ more_said → m ≤ length (session_turns w)
        → answered (take m (session_turns w)) ≡ [] ++ (rest ++ more) → BeginsHonestly prover (task_of prover file) w.commitment.setup.grant log
    by_turns zero heard within none = ends_with_turn prover file some.0 w 0 rest more log both agree none spelled
    by_turns (suc zero) heard within answers = in_met_answer prover file some.0 w 0 rest more log both agree
        (ap hello_frame (some.2.hello ∙ sym is.honest.hello ∙ greeting 0 heard))
        (sym (append-nil (answered_in w 0)) ∙ answers) spelled
    by_turns (suc (suc m)) heard within answers = let most = few (suc m) heard within in absurd (omega (arith, most))

-- wherever it ends
cut_in_answer : (prover : ProverTask) (file : VerifierFile) (t w : Transcript) (m n : ℕ) (more_said rest more : List ℕ) (log : List (Side × ℕ))
    → AreBoth prover file → IsHeardBy prover file t w m n more_said rest more
    → log ≡ turn_bytes (take n (session_turns t)) ++ (bytes_from Prover (said_in t n) ++ bytes_from Verifier rest)
    → (grant : Grant) × BeginsHonestly prover (task_of prover file) grant log × (1 ≤ n → grant ≡ t.commitment.setup.grant)
cut_in_answer prover file t w m zero more_said rest more log both is bytes = (
  w.commitment.setup.grant,
  at_first prover file t w m more_said rest more log both is bytes,
  λ some. absurd (omega (arith, some)),
)
cut_in_answer prover file t w m (suc n) more_said rest more log both is bytes = (
  w.commitment.setup.grant,
  after_turns prover file t w m n more_said rest more log both is bytes,
  λ some. sym (heard_grant prover file t w m n more_said rest more both is),
)

-- over one statement
answered_log : (prover : ProverTask) (file : VerifierFile) (t : Transcript) (n : ℕ) (rest : List ℕ) (log : List (Side × ℕ))
    → AreBoth prover file → IsCutInAnswer prover t n rest log → IsFromHonestVerifier (task_of prover file) log
    → (grant : Grant) × BeginsHonestly prover (task_of prover file) grant log × (1 ≤ n → grant ≡ t.commitment.setup.grant)
answered_log prover file t n rest log both cut from =
    cut_in_answer prover file t from.t from.turns n from.heard.0 rest from.begun.0 log both
    (record {
      mine = cut.transcript;
      honest = cut.honest;
      verdict = from.verdict;
      served = from.served;
      theirs = served_transcript_is prover file from.t from.verdict (spelling from.t) both from.served;
      below = cut.more;
      within = from.within;
      heard = sym (answer_said (take n (session_turns t)) (said_in t n) rest) ∙ sym (ap (sent_by Prover) cut.bytes) ∙ from.heard.1;
      answers = from.begun.1
          ∙ ap (λ l. l ++ from.begun.0) (ap (sent_by Verifier) cut.bytes ∙ answer_answered (take n (session_turns t)) (said_in t n) rest)
          ∙ append_assoc (answered (take n (session_turns t))) rest from.begun.0;
    })
    cut.bytes

-- an honest prover has a witness
witness_of : (prover : ProverTask) (t : Transcript) → IsHonest prover t → HasWitness prover
witness_of prover t honest = record { wires = honest.wires; given = honest.given; witness = honest.witness }

pub honest_answer : HonestAnswer
honest_answer prover verifier t n rest log both claims cut from =
    subst (λ (statement : Statement). IsFromHonestVerifier (record { file = verifier.file; statement = statement }) log
    → (grant : Grant) × BeginsHonestly prover (record { file = verifier.file; statement = statement }) grant log
    × (1 ≤ n → grant ≡ t.commitment.setup.grant))
    both.statement
    (λ from. answered_log prover verifier.file t n rest log
    (both_of prover verifier both (subst IsStatement both.statement from.served.in_order.stated) (witness_of prover t cut.honest) claims) cut from)
    from

-- ---- a whole log

-- a verifier that answered all turns of t served t
served_it : (prover : ProverTask) (file : VerifierFile) (t w : Transcript) (verdict : Verdict) (m : ℕ) (more_said more : List ℕ)
    → AreBoth prover file → IsTranscript prover.file.params prover.statement.program t
    → IsServed (task_of prover file) w verdict (spelling w) → m ≤ length (session_turns w)
    → said (session_turns t) ≡ said (take m (session_turns w)) ++ more_said
    → answered (take m (session_turns w)) ≡ answered (session_turns t) ++ more → w ≡ t
served_it prover file t w verdict zero more_said more both is served within heard answers =
    let whole = ap length answers in absurd (omega (arith, whole))
served_it prover file t w verdict (suc m) more_said more both is served within heard answers =
    one_transcript prover.file.params prover.statement.program w t both.ends.prover_file.params theirs is
    (ap turn_bytes (same_turns ws ts
    (ap (map (λ turn. turn.0)) (sym all_w) ∙ both_said.0 ∙ ap (map (λ turn. turn.0)) all_t)
    (ap (map (λ turn. turn.1)) (sym all_w) ∙ both_answered.0 ∙ ap (map (λ turn. turn.1)) all_t)))
  where
    ts : List (List ℕ × List ℕ)
    ts = session_turns t

    ws : List (List ℕ × List ℕ)
    ws = session_turns w

    n : ℕ
    n = length (session_turns t)

    theirs : IsTranscript prover.file.params prover.statement.program w
    theirs = served_transcript_is prover file w verdict (spelling w) both served

    all_t : take (length (session_turns t)) (session_turns t) ≡ session_turns t
    all_t = take_all n ts (omega arith)

    count : length (session_turns w) ≡ length (session_turns t)
    count = count_is prover.file.params prover.statement.program w theirs ∙ sym (count_is prover.file.params prover.statement.program t is)

    all_w : take (length (session_turns t)) (session_turns w) ≡ session_turns w
    all_w = take_all n ws (omega (arith, count))

    grant : t.commitment.setup.grant ≡ w.commitment.setup.grant
    grant = one_grant prover.file.params prover.statement.program t w (rounds_of prover.file.params.kind + 2) m more [] both.ends.prover_file.params is theirs
        (ap (λ turns. answered turns ++ more)
        (take_all (suc (rounds_of prover.file.params.kind + 2)) ts
        (let whole = count_is prover.file.params prover.statement.program t is in omega (arith, whole)))
        ∙ sym answers ∙ sym (append-nil (answered (take (suc m) ws))))

    greeting : t.commitment.setup.hello ≡ w.commitment.setup.hello
    greeting = one_greeting prover.file.params prover.statement.program t w (length (later_turns t)) m [] more_said is theirs
        (append-nil (said (take (suc (length (later_turns t))) ts)) ∙ ap (λ turns. said turns) all_t ∙ heard)

    sized : sizes (session_turns w) ≡ sizes (session_turns t)
    sized = same_sizes prover.file.params prover.statement.program w t theirs is (sym greeting) (sym grant)

    least : length (session_turns t) ≤ suc m
    least = no_more_turns n (suc m) ts ws (sym sized) (all_answered prover.file.params prover.statement.program t is) (omega arith)
        (let whole = ap length answers in
        let parts = length-append (answered ts) more in
        let all = ap (λ turns. length (answered turns)) all_t in
        omega (arith, whole, parts, all))

    all_heard : take (suc m) (session_turns w) ≡ take (length (session_turns t)) (session_turns w)
    all_heard = take_all (suc m) ws (omega (arith, count, least)) ∙ sym all_w

    both_answered : (map (λ turn. turn.1) (take (length (session_turns t)) (session_turns w)) ≡ map (λ turn. turn.1) (take (length (session_turns t)) (session_turns t)))
        × ([] ≡ more)
    both_answered = same_answered n ws ts [] more sized
        (append-nil (answered (take n ws)) ∙ ap (λ turns. answered turns) (sym all_heard) ∙ answers
        ∙ ap (λ turns. answered turns ++ more) (sym all_t))

    both_said : (map (λ turn. turn.0) (take (length (session_turns t)) (session_turns w)) ≡ map (λ turn. turn.0) (take (length (session_turns t)) (session_turns t)))
        × (more_said ≡ [])
    both_said = same_said n ws ts more_said [] sized
        (ap (λ turns. said turns ++ more_said) (sym all_heard) ∙ sym heard ∙ ap (λ turns. said turns) (sym all_t)
        ∙ sym (append-nil (said (take n ts))))

answered_whole : (prover : ProverTask) (file : VerifierFile) (t : Transcript) (log : List (Side × ℕ)) → AreBoth prover file
    → IsTranscript prover.file.params prover.statement.program t → IsHonest prover t → log ≡ spelling t
    → IsFromHonestVerifier (task_of prover file) log
    → IsHonestSession prover (task_of prover file) t.commitment.setup.grant t Accepted log
answered_whole prover file t log both is honest bytes from =
    subst (λ (log : List (Side × ℕ)). IsHonestSession prover (task_of prover file) t.commitment.setup.grant t Accepted log) (sym bytes)
    (subst (λ (verdict : Verdict). IsHonestSession prover (task_of prover file) t.commitment.setup.grant t verdict (spelling t)) judged.0 judged.1)
  where
    same : from.t ≡ t
    same = served_it prover file t from.t from.verdict from.turns from.heard.0 from.begun.0 both is from.served from.within
        (sym (sent_by-prover (session_turns t)) ∙ sym (ap (sent_by Prover) bytes) ∙ from.heard.1)
        (from.begun.1 ∙ ap (λ l. l ++ from.begun.0) (ap (sent_by Verifier) bytes ∙ sent_by-verifier (session_turns t)))

    served : IsServed (task_of prover file) t from.verdict (spelling t)
    served = subst (λ (w : Transcript). IsServed (task_of prover file) w from.verdict (spelling w)) same from.served

    judged : (from.verdict ≡ Accepted) × IsHonestSession prover (task_of prover file) t.commitment.setup.grant t from.verdict (spelling t)
    judged = honest_session_is_accepted prover (task_of prover file) t from.verdict (spelling t) (counterparts prover file both) honest
        (both.claims honest.wires honest.given honest.witness) served

pub honest_verdict : HonestVerdict
honest_verdict prover verifier t log both claims is honest bytes from =
    subst (λ (statement : Statement). IsFromHonestVerifier (record { file = verifier.file; statement = statement }) log
    → IsHonestSession prover (record { file = verifier.file; statement = statement }) t.commitment.setup.grant t Accepted log)
    both.statement
    (λ from. answered_whole prover verifier.file t log
    (both_of prover verifier both (subst IsStatement both.statement from.served.in_order.stated) (witness_of prover t honest) claims) is honest bytes from)
    from
