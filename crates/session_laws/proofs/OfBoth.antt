-- In a beginning of the log of an honest session each end sent its part.
use Rattle.std.proofs.Common.{◌≡◌, ℕ, zero, suc, ◌<◌, ◌≤◌, ⊎_elim, inl, List, [], ◌∷◌, ◌++◌, take, length, refl, sym, ◌∙◌, ap, subst, arith, append_assoc, append-nil, length-append}
use Rattle.std.proofs.lemmas.Bool.{cases_lt}
use Rattle.std.proofs.lemmas.List.{take_all}
use Rattle.session_laws.specs.Peers.{said_in}
use Rattle.session_laws.specs.Sessions.{HonestLogIsOfBoth}
use Rattle.session_laws.proofs.Turns.{said, answered, sizes, as_many, as_long_answered, no_more_turns, said_more, answered_more, fewer_said, fewer_answered, cut_said, cut_answered}
use Rattle.session_laws.proofs.Sizes.{same_sizes, all_answered}
use Rattle.session_laws.proofs.Cut.{one_grant}
use Rattle.session_laws.proofs.PeersHonest.{led_of}
use Rattle.session_laws.proofs.MetTurns.{answered_in}
use Rattle.session_laws.proofs.Prefixes.{EndsIn, at_end, in_turn, in_answer, where_it_ends, answer_said, answer_answered}
use Rattle.frame_laws.proofs.SentBytes.{sent_by-prover, sent_by-verifier}
use Rattle.zk_model.specs.Files.{AreParams}
use Rattle.zk_model.specs.Transcript.{Transcript, IsTranscript, BeginsWith, hello_frame, bytes_from, turn_bytes, session_turns, spelling, sent_by}
use Rattle.zk_model.specs.HonestProver.{ProverTask, IsHonest, SentAfter, AreHonestBytes}
use Rattle.zk_model.specs.ServedVerifier.{VerifierTask, IsServed}
use Rattle.zk_model.specs.Peers.{IsFromHonestProver, IsFromHonestVerifier}
use Rattle.zk_model.specs.declared.Side.{Side}
use Rattle.zk_model.specs.declared.Side.TheVariants.{Prover, Verifier}
use Rattle.zk_model.specs.declared.Verdict.{Verdict}
use Rattle.zk_model.specs.declared.Verdict.TheVariants.{Accepted}

-- ---- the prover

-- the answers of n turns of t came whole, and those of no more
record AreWhole (t : Transcript) (n : ℕ) (received extra : List ℕ) : Type 0 where
  within : n ≤ length (session_turns t)
  came : received ≡ answered (take n (session_turns t)) ++ extra
  most : (m : ℕ) → m ≤ length (session_turns t) → length (answered (take m (session_turns t))) ≤ length received → m ≤ n

-- turns of another session that came are no more, where one came
no_more : (prover : ProverTask) (t u : Transcript) (m n : ℕ) (received extra : List ℕ) → AreParams prover.file.params
    → IsTranscript prover.file.params prover.statement.program t → IsTranscript prover.file.params prover.statement.program u
    → t.commitment.setup.hello ≡ u.commitment.setup.hello → AreWhole t n received extra → m < length (session_turns u)
    → BeginsWith received (answered (take (suc m) (session_turns u))) → suc m ≤ n
no_more prover t u m zero received extra are is also greeting whole within begins =
    let all = ap length begins.1 in
    let least = whole.most 1 (omega arith) (omega (arith, all)) in
    absurd (omega (arith, least))
no_more prover t u m (suc n) received extra are is also greeting whole within begins =
    whole.most (suc m) (omega (arith, within, count))
    (let all = ap length begins.1 in
    let parts = length-append (answered (take (suc m) (session_turns u))) begins.0 in
    let long = as_long_answered (suc m) (session_turns t) (session_turns u) sized in
    omega (arith, all, parts, long))
  where
    sized : sizes (session_turns t) ≡ sizes (session_turns u)
    sized = same_sizes prover.file.params prover.statement.program t u is also greeting
        (one_grant prover.file.params prover.statement.program t u n m extra begins.0 are is also (sym whole.came ∙ begins.1))

    count : length (session_turns t) ≡ length (session_turns u)
    count = as_many (session_turns t) (session_turns u) sized

-- so what is said in one turn more is what an honest prover sends
sent_after : (prover : ProverTask) (t : Transcript) (n : ℕ) (received extra : List ℕ)
    → IsTranscript prover.file.params prover.statement.program t → IsHonest prover t → AreWhole t n received extra
    → SentAfter prover received n (said (take (suc n) (session_turns t)))
sent_after prover t zero received extra is honest whole =
    append-nil (hello_frame t.commitment.setup.hello) ∙ ap hello_frame honest.hello
sent_after prover t (suc n) received extra is honest whole =
    (t, is, honest, (let within = whole.within in omega (arith, within)), (extra, whole.came), refl)

honest_bytes_at : (prover : ProverTask) (t : Transcript) (n : ℕ) (received extra : List ℕ) → AreParams prover.file.params
    → IsTranscript prover.file.params prover.statement.program t → IsHonest prover t → AreWhole t n received extra
    → AreHonestBytes prover received (said (take (suc n) (session_turns t)))
honest_bytes_at prover t n received extra are is honest whole = record {
  turns = n;
  answer = sent_after prover t n received extra is honest whole;
  most = at_most;
}
  where
    at_most : (more : ℕ) (other : List ℕ) → SentAfter prover received more other → more ≤ n
    at_most zero other after = omega arith
    at_most (suc m) other after = no_more prover t after.0 m n received extra are is after.1 (honest.hello ∙ sym after.2.hello) whole after.3 after.4

-- after whole turns
whole_turns : (prover : ProverTask) (t : Transcript) (n : ℕ) (received : List ℕ) → IsTranscript prover.file.params prover.statement.program t
    → n ≤ length (session_turns t) → received ≡ answered (take n (session_turns t)) → AreWhole t n received []
whole_turns prover t n received is within came = record {
  within = within;
  came = came ∙ sym (append-nil (answered (take n (session_turns t))));
  most = λ m inside short. no_more_turns m n (session_turns t) (session_turns t) refl
      (all_answered prover.file.params prover.statement.program t is) inside
      (let long = ap length came in omega (arith, short, long));
}

-- after a part of an answer
part_of_answer : (t : Transcript) (n : ℕ) (received rest : List ℕ) (byte : ℕ) (more : List ℕ) → n < length (session_turns t)
    → received ≡ answered (take n (session_turns t)) ++ rest → answered_in t n ≡ rest ++ byte ∷ more → AreWhole t n received rest
part_of_answer t n received rest byte more below came same = record {
  within = omega (arith, below);
  came = came;
  most = λ m inside short. ⊎_elim (λ over. absurd (too_long m over short)) (λ under. under) (cases_lt n m);
}
  where
    too_long : (m : ℕ) → n < m → length (answered (take m (session_turns t))) ≤ length received → ⊥
    too_long m over short =
        let later = fewer_answered (suc n) m (session_turns t) (omega (arith, over)) in
        let whole = ap length later.1 in
        let parts = length-append (answered (take (suc n) (session_turns t))) later.0 in
        let next = ap length (answered_more n (session_turns t) below) in
        let pieces = length-append (answered (take n (session_turns t))) (answered_in t n) in
        let answer = ap length same in
        let ends = length-append rest (byte ∷ more) in
        let all = ap length came in
        let sum = length-append (answered (take n (session_turns t))) rest in
        omega (arith, short, whole, parts, next, pieces, answer, ends, all, sum)

-- what was said in n turns and in the next is a beginning of one turn more
next_turn : (t : Transcript) (n : ℕ) (rest more : List ℕ) → n < length (session_turns t) → said_in t n ≡ rest ++ more
    → BeginsWith (said (take (suc n) (session_turns t))) (said (take n (session_turns t)) ++ rest)
next_turn t n rest more below same = (
  more,
  said_more n (session_turns t) below ∙ ap (λ l. said (take n (session_turns t)) ++ l) same
      ∙ sym (append_assoc (said (take n (session_turns t))) rest more),
)

-- and so they are of two turns more
turn_after : (t : Transcript) (n : ℕ) → n < length (session_turns t)
    → BeginsWith (said (take (suc (suc n)) (session_turns t))) (said (take n (session_turns t)) ++ said_in t n)
turn_after t n below =
    let later = fewer_said (suc n) (suc (suc n)) (session_turns t) (omega arith) in
    (later.0, later.1 ∙ ap (λ l. l ++ later.0) (said_more n (session_turns t) below))

-- in an answer, whole or not
prover_in_answer : (prover : ProverTask) (t : Transcript) (n : ℕ) (rest more : List ℕ) (log : List (Side × ℕ)) → AreParams prover.file.params
    → IsTranscript prover.file.params prover.statement.program t → IsHonest prover t → n < length (session_turns t)
    → answered_in t n ≡ rest ++ more
    → log ≡ turn_bytes (take n (session_turns t)) ++ (bytes_from Prover (said_in t n) ++ bytes_from Verifier rest)
    → IsFromHonestProver prover log
prover_in_answer prover t n rest [] log are is honest below same bytes = (
  said (take (suc (suc n)) (session_turns t)),
  honest_bytes_at prover t (suc n) (sent_by Verifier log) [] are is honest
      (whole_turns prover t (suc n) (sent_by Verifier log) is (omega (arith, below))
      (ap (sent_by Verifier) bytes ∙ answer_answered (take n (session_turns t)) (said_in t n) rest
      ∙ ap (λ l. answered (take n (session_turns t)) ++ l) (sym (append-nil rest) ∙ sym same) ∙ sym (answered_more n (session_turns t) below))),
  subst (BeginsWith (said (take (suc (suc n)) (session_turns t))))
      (sym (ap (sent_by Prover) bytes ∙ answer_said (take n (session_turns t)) (said_in t n) rest)) (turn_after t n below),
)
prover_in_answer prover t n rest (byte ∷ more) log are is honest below same bytes = (
  said (take (suc n) (session_turns t)),
  honest_bytes_at prover t n (sent_by Verifier log) rest are is honest
      (part_of_answer t n (sent_by Verifier log) rest byte more below
      (ap (sent_by Verifier) bytes ∙ answer_answered (take n (session_turns t)) (said_in t n) rest) same),
  subst (BeginsWith (said (take (suc n) (session_turns t))))
      (sym (ap (sent_by Prover) bytes ∙ answer_said (take n (session_turns t)) (said_in t n) rest))
      (next_turn t n (said_in t n) [] below (sym (append-nil (said_in t n)))),
)

from_prover : (prover : ProverTask) (t : Transcript) (log : List (Side × ℕ)) → AreParams prover.file.params
    → IsTranscript prover.file.params prover.statement.program t → IsHonest prover t → EndsIn (session_turns t) log
    → IsFromHonestProver prover log
from_prover prover t log are is honest (at_end bytes) = (
  said (take (suc n) (session_turns t)),
  honest_bytes_at prover t n (sent_by Verifier log) [] are is honest
      (whole_turns prover t n (sent_by Verifier log) is (omega arith)
      (ap (sent_by Verifier) bytes ∙ sent_by-verifier (session_turns t)
      ∙ ap (λ turns. answered turns) (sym (take_all n (session_turns t) (omega arith))))),
  (
    [],
    ap (λ turns. said turns) (take_all (suc n) (session_turns t) (omega arith))
        ∙ sym (ap (sent_by Prover) bytes ∙ sent_by-prover (session_turns t)) ∙ sym (append-nil (sent_by Prover log)),
  ),
)
  where
    n : ℕ
    n = length (session_turns t)
from_prover prover t log are is honest (in_turn n rest more below same bytes) = (
  said (take (suc n) (session_turns t)),
  honest_bytes_at prover t n (sent_by Verifier log) [] are is honest
      (whole_turns prover t n (sent_by Verifier log) is (omega (arith, below))
      (ap (sent_by Verifier) bytes ∙ cut_answered (take n (session_turns t)) rest)),
  subst (BeginsWith (said (take (suc n) (session_turns t))))
      (sym (ap (sent_by Prover) bytes ∙ cut_said (take n (session_turns t)) rest)) (next_turn t n rest more below same),
)
from_prover prover t log are is honest (in_answer n rest more below same bytes) =
    prover_in_answer prover t n rest more log are is honest below same bytes

-- ---- the verifier

from_verifier : (verifier : VerifierTask) (t : Transcript) (verdict : Verdict) (log : List (Side × ℕ))
    → IsServed verifier t verdict (spelling t) → EndsIn (session_turns t) log → IsFromHonestVerifier verifier log
from_verifier verifier t verdict log is (at_end bytes) = record {
  t = t;
  verdict = verdict;
  served = is;
  turns = n;
  within = omega arith;
  heard = (
    [],
    ap (sent_by Prover) bytes ∙ sent_by-prover (session_turns t) ∙ ap (λ turns. said turns) (sym all)
        ∙ sym (append-nil (said (take n (session_turns t)))),
  );
  begun = (
    [],
    ap (λ turns. answered turns) all ∙ sym (ap (sent_by Verifier) bytes ∙ sent_by-verifier (session_turns t))
        ∙ sym (append-nil (sent_by Verifier log)),
  );
}
  where
    n : ℕ
    n = length (session_turns t)

    all : take (length (session_turns t)) (session_turns t) ≡ session_turns t
    all = take_all n (session_turns t) (omega arith)
from_verifier verifier t verdict log is (in_turn n rest more below same bytes) = record {
  t = t;
  verdict = verdict;
  served = is;
  turns = n;
  within = omega (arith, below);
  heard = (rest, ap (sent_by Prover) bytes ∙ cut_said (take n (session_turns t)) rest);
  begun = ([], sym (ap (sent_by Verifier) bytes ∙ cut_answered (take n (session_turns t)) rest) ∙ sym (append-nil (sent_by Verifier log)));
}
from_verifier verifier t verdict log is (in_answer n rest more below same bytes) = record {
  t = t;
  verdict = verdict;
  served = is;
  turns = suc n;
  within = omega (arith, below);
  heard = (
    [],
    ap (sent_by Prover) bytes ∙ answer_said (take n (session_turns t)) (said_in t n) rest
        ∙ sym (said_more n (session_turns t) below) ∙ sym (append-nil (said (take (suc n) (session_turns t)))),
  );
  begun = (
    more,
    answered_more n (session_turns t) below ∙ ap (λ l. answered (take n (session_turns t)) ++ l) same
        ∙ sym (append_assoc (answered (take n (session_turns t))) rest more)
        ∙ ap (λ l. l ++ more) (sym (ap (sent_by Verifier) bytes ∙ answer_answered (take n (session_turns t)) (said_in t n) rest)),
  );
}

pub honest_log_is_of_both : HonestLogIsOfBoth
honest_log_is_of_both prover verifier grant log both begins = record {
  from_prover = from_prover prover begins.t log both.prover_file.params
      (led_of prover verifier begins.t both served.in_order.transcript served.replies).transcript
      begins.session.honest ends;
  from_verifier = from_verifier verifier begins.t Accepted log served ends;
  serves = record { t = begins.t; verdict = Accepted; served = served; granted = begins.session.granted; bytes = inl begins.begun };
}
  where
    served : IsServed verifier begins.t Accepted (spelling begins.t)
    served = begins.session.served

    ends : EndsIn (session_turns begins.t) log
    ends = where_it_ends (session_turns begins.t) log begins.begun.0 begins.begun.1
