-- Logs of which both ends are honest are beginnings of those of honest sessions.
use Rattle.std.proofs.Common.{◌≡◌, ℕ, zero, suc, ◌<◌, ⊎_elim, List, [], ◌++◌, map, take, length, refl, sym, ◌∙◌, ap, subst, arith, append_assoc, append-nil}
use Rattle.session_laws.specs.Peers.{HasWitness, GivesClaims, IsHonestUpTo, said_in}
use Rattle.session_laws.specs.Sessions.{BeginsHonestly, HonestLog}
use Rattle.session_laws.proofs.Turns.{said, answered, sizes, same_said, same_answered, same_turns, said_more, fewer_said, fewer_answered, same_length_in, cut_said, cut_answered}
use Rattle.session_laws.proofs.Sizes.{count_is, same_sizes}
use Rattle.session_laws.proofs.Greetings.{greeting_is}
use Rattle.session_laws.proofs.Followed.{AreEnds, IsLed, IsFollowed, followed, granted_session}
use Rattle.session_laws.proofs.PeersHonest.{ends_of, led_of, turn_said, whole_honest}
use Rattle.session_laws.proofs.Completed.{AreBoth, task_of, counterparts}
use Rattle.session_laws.proofs.MetTurns.{Agree, IsMet, answered_in, met, served_transcript_is}
use Rattle.session_laws.proofs.Prefixes.{EndsIn, at_end, in_turn, in_answer, where_it_ends, begins_in_turn, begins_in_answer, answer_said, answer_answered}
use Rattle.zk_laws.specs.Completeness.{AreCounterparts}
use Rattle.frame_laws.proofs.Codes.{same_front}
use Rattle.zk_laws.proofs.HonestIsAccepted.{honest_session_is_accepted}
use Rattle.frame_laws.proofs.SentBytes.{sent_by-prover, sent_by-verifier}
use Rattle.zk_model.specs.Statement.{Statement, IsStatement}
use Rattle.zk_model.specs.Files.{VerifierFile}
use Rattle.zk_model.specs.Transcript.{Grant, Transcript, IsTranscript, BeginsWith, hello_frame, bytes_from, turn_bytes, session_turns, spelling, sent_by}
use Rattle.zk_model.specs.HonestProver.{ProverTask, IsHonest, AreHonestBytes}
use Rattle.zk_model.specs.ServedVerifier.{VerifierTask, IsServed, ServesWith}
use Rattle.zk_model.specs.BothEnds.{IsHonestSession}
use Rattle.zk_model.specs.Peers.{IsFromHonestProver}
use Rattle.zk_model.specs.declared.Side.{Side}
use Rattle.zk_model.specs.declared.Side.TheVariants.{Prover, Verifier}
use Rattle.zk_model.specs.declared.Verdict.{Verdict}
use Rattle.zk_model.specs.declared.Verdict.TheVariants.{Accepted}

-- ---- over one statement

pub both_of : (prover : ProverTask) (verifier : VerifierTask) → AreCounterparts prover verifier → IsStatement verifier.statement
    → HasWitness prover → GivesClaims prover → AreBoth prover verifier.file
both_of prover verifier both stated witness claims =
    record { ends = ends_of prover verifier both stated witness; dealt = both.dealt; claims = claims }

led : (prover : ProverTask) (file : VerifierFile) (t : Transcript) (verdict : Verdict) (log : List (Side × ℕ)) → AreBoth prover file
    → IsServed (task_of prover file) t verdict log → IsLed prover file t
led prover file t verdict log both served =
    led_of prover (task_of prover file) t (counterparts prover file both) served.in_order.transcript served.replies

-- ---- a log that ends in a turn of the prover

-- sessions that meet in n turns have more
met_below : (prover : ProverTask) (file : VerifierFile) (u w : Transcript) (n : ℕ) → AreBoth prover file → Agree prover file u w n
    → (found : IsMet prover file u w n) → n < length (session_turns found.s)
met_below prover file u w n both agree found =
    let left = count_is prover.file.params prover.statement.program found.s
    (served_transcript_is prover file found.s Accepted (spelling found.s) both found.session.served) in
    let right = count_is prover.file.params prover.statement.program u agree.transcript in
    let under = agree.below in
    omega (arith, left, right, under)

-- turns that meet, and a part of the next
pub in_met_turn : (prover : ProverTask) (file : VerifierFile) (u w : Transcript) (n : ℕ) (rest more : List ℕ) (log : List (Side × ℕ))
    → AreBoth prover file → Agree prover file u w n → said_in u n ≡ rest ++ more
    → log ≡ turn_bytes (take n (session_turns u)) ++ bytes_from Prover rest
    → BeginsHonestly prover (task_of prover file) w.commitment.setup.grant log
in_met_turn prover file u w n rest more log both agree says bytes = record {
  t = found.s;
  session = found.session;
  begun = subst (BeginsWith (spelling found.s))
      (ap (λ turns. turn_bytes turns ++ bytes_from Prover rest) found.same ∙ sym bytes)
      (begins_in_turn (session_turns found.s) n rest more (met_below prover file u w n both agree found) (found.says ∙ says));
}
  where
    found : IsMet prover file u w n
    found = met prover file u w n both agree

-- turns that meet, the next, and a part of the answer to it
pub in_met_answer : (prover : ProverTask) (file : VerifierFile) (u w : Transcript) (n : ℕ) (rest more : List ℕ) (log : List (Side × ℕ))
    → AreBoth prover file → Agree prover file u w n → said_in u n ≡ said_in w n → answered_in w n ≡ rest ++ more
    → log ≡ turn_bytes (take n (session_turns u)) ++ (bytes_from Prover (said_in u n) ++ bytes_from Verifier rest)
    → BeginsHonestly prover (task_of prover file) w.commitment.setup.grant log
in_met_answer prover file u w n rest more log both agree same answers bytes = record {
  t = found.s;
  session = found.session;
  begun = subst (BeginsWith (spelling found.s))
      ((λ i. turn_bytes (found.same i) ++ (bytes_from Prover (found.says i) ++ bytes_from Verifier rest)) ∙ sym bytes)
      (begins_in_answer (session_turns found.s) n rest more (met_below prover file u w n both agree found) (found.answers same ∙ answers));
}
  where
    found : IsMet prover file u w n
    found = met prover file u w n both agree

-- ---- what a verifier serves

-- as many turns in all sessions
pub as_long : (prover : ProverTask) (t u : Transcript) (n : ℕ) → IsTranscript prover.file.params prover.statement.program t
    → IsTranscript prover.file.params prover.statement.program u → n < length (session_turns t) → n < length (session_turns u)
as_long prover t u n is also below =
    let left = count_is prover.file.params prover.statement.program t is in
    let right = count_is prover.file.params prover.statement.program u also in
    omega (arith, left, right, below)

-- a log that ends in a turn of the prover
served_turn : (prover : ProverTask) (file : VerifierFile) (t : Transcript) (verdict : Verdict) (n : ℕ) (rest : List ℕ) (log : List (Side × ℕ))
    → AreBoth prover file → IsServed (task_of prover file) t verdict (spelling t) → n < length (session_turns t)
    → log ≡ turn_bytes (take n (session_turns t)) ++ bytes_from Prover rest → IsFromHonestProver prover log
    → BeginsHonestly prover (task_of prover file) t.commitment.setup.grant log
served_turn prover file t verdict n rest log both served below bytes from =
    in_met_turn prover file found.0 t n rest from.2.0 log both
    (record {
      transcript = found.1.transcript;
      honest = found.1.honest;
      verdict = verdict;
      served = served;
      grant = found.1.grant;
      below = as_long prover t found.0 n leads.transcript found.1.transcript below;
      same = found.1.same;
    })
    found.2 (bytes ∙ ap (λ turns. turn_bytes turns ++ bytes_from Prover rest) (sym found.1.same))
  where
    leads : IsLed prover file t
    leads = led prover file t verdict (spelling t) both served

    found : (u : Transcript) × IsHonestUpTo prover t n u × (said_in u n ≡ rest ++ from.2.0)
    found = turn_said prover file t n (sent_by Verifier log) from.0 rest from.2.0 both.ends leads below
        (ap (sent_by Verifier) bytes ∙ cut_answered (take n (session_turns t)) rest) from.1
        (from.2.1 ∙ ap (λ l. l ++ from.2.0) (ap (sent_by Prover) bytes ∙ cut_said (take n (session_turns t)) rest))

-- what an honest prover says in a turn that is whole
record SaysTurn (prover : ProverTask) (t : Transcript) (n : ℕ) : Type 0 where
  u : Transcript
  transcript : IsTranscript prover.file.params prover.statement.program u
  honest : IsHonest prover u
  grant : u.commitment.setup.grant ≡ t.commitment.setup.grant
  same : take n (session_turns u) ≡ take n (session_turns t)
  says : said_in u n ≡ said_in t n

says_turn : (prover : ProverTask) (file : VerifierFile) (t : Transcript) (n : ℕ) (received honest rest more : List ℕ)
    → AreEnds prover file → IsLed prover file t → n < length (session_turns t)
    → received ≡ answered (take n (session_turns t)) ++ rest → AreHonestBytes prover received honest
    → honest ≡ (said (take n (session_turns t)) ++ said_in t n) ++ more → SaysTurn prover t n
says_turn prover file t zero received honest rest more ends leads below came bytes sent = record {
  u = some.0;
  transcript = some.1;
  honest = some.2;
  grant = some.3;
  same = refl;
  says = ap hello_frame (some.2.hello ∙ sym (greeting_is prover t 0 received honest more ends.prover_file ends.stated leads.transcript bytes
      (sent ∙ ap (λ l. l ++ more) (sym (append-nil (hello_frame t.commitment.setup.hello))))));
}
  where
    some : (u : Transcript) × IsTranscript prover.file.params prover.statement.program u × IsHonest prover u
        × (u.commitment.setup.grant ≡ t.commitment.setup.grant)
    some = granted_session prover file t ends leads.transcript
says_turn prover file t (suc n) received honest rest more ends leads below came bytes sent = record {
  u = answer.u;
  transcript = answer.transcript;
  honest = answer.honest;
  grant = answer.grant;
  same = same_turns (take (suc n) us) (take (suc n) ts) both_said.0 both_answered.0;
  says = (same_front (said_in answer.u (suc n)) (said_in t (suc n)) more_said.0 more (same_length_in (suc n) us ts sized) both_said.1).0;
}
  where
    answer : IsFollowed prover t n received honest
    answer = followed prover file t n received honest (said_in t (suc n)) rest more ends leads
        (record { within = below; received_is = came; honest_is = sent }) bytes

    us : List (List ℕ × List ℕ)
    us = session_turns answer.u

    ts : List (List ℕ × List ℕ)
    ts = session_turns t

    sized : sizes (session_turns answer.u) ≡ sizes (session_turns t)
    sized = same_sizes prover.file.params prover.statement.program answer.u t answer.transcript leads.transcript
        (answer.honest.hello ∙ sym (greeting_is prover t n received honest (said_in t (suc n) ++ more) ends.prover_file ends.stated leads.transcript bytes
        (sent ∙ append_assoc (said (take (suc n) (session_turns t))) (said_in t (suc n)) more))) answer.grant

    more_answered : (rest : List ℕ) × (answered (take (suc answer.before) (session_turns answer.u)) ≡ answered (take (suc n) (session_turns answer.u)) ++ rest)
    more_answered = fewer_answered (suc n) (suc answer.before) us (let most = answer.most in omega (arith, most))

    more_said : (rest : List ℕ) × (said (take (suc (suc answer.before)) (session_turns answer.u)) ≡ said (take (suc (suc n)) (session_turns answer.u)) ++ rest)
    more_said = fewer_said (suc (suc n)) (suc (suc answer.before)) us (let most = answer.most in omega (arith, most))

    both_answered : (map (λ turn. turn.1) (take (suc n) (session_turns answer.u)) ≡ map (λ turn. turn.1) (take (suc n) (session_turns t)))
        × (more_answered.0 ++ answer.begun.0 ≡ rest)
    both_answered = same_answered (suc n) us ts (more_answered.0 ++ answer.begun.0) rest sized
        (sym (append_assoc (answered (take (suc n) us)) more_answered.0 answer.begun.0)
        ∙ ap (λ l. l ++ answer.begun.0) (sym more_answered.1) ∙ sym answer.begun.1 ∙ came)

    both_said : (map (λ turn. turn.0) (take (suc n) (session_turns answer.u)) ≡ map (λ turn. turn.0) (take (suc n) (session_turns t)))
        × (said_in answer.u (suc n) ++ more_said.0 ≡ said_in t (suc n) ++ more)
    both_said = same_said (suc n) us ts (said_in answer.u (suc n) ++ more_said.0) (said_in t (suc n) ++ more) sized
        (sym (append_assoc (said (take (suc n) us)) (said_in answer.u (suc n)) more_said.0)
        ∙ ap (λ l. l ++ more_said.0) (sym (said_more (suc n) us (as_long prover t answer.u (suc n) leads.transcript answer.transcript below)))
        ∙ sym more_said.1 ∙ sym answer.sent_is ∙ sent
        ∙ append_assoc (said (take (suc n) ts)) (said_in t (suc n)) more)

-- a log that ends in the answer to a turn
served_answer : (prover : ProverTask) (file : VerifierFile) (t : Transcript) (verdict : Verdict) (n : ℕ) (rest more : List ℕ) (log : List (Side × ℕ))
    → AreBoth prover file → IsServed (task_of prover file) t verdict (spelling t) → n < length (session_turns t)
    → answered_in t n ≡ rest ++ more
    → log ≡ turn_bytes (take n (session_turns t)) ++ (bytes_from Prover (said_in t n) ++ bytes_from Verifier rest)
    → IsFromHonestProver prover log → BeginsHonestly prover (task_of prover file) t.commitment.setup.grant log
served_answer prover file t verdict n rest more log both served below answers bytes from =
    in_met_answer prover file found.u t n rest more log both
    (record {
      transcript = found.transcript;
      honest = found.honest;
      verdict = verdict;
      served = served;
      grant = found.grant;
      below = as_long prover t found.u n leads.transcript found.transcript below;
      same = found.same;
    })
    found.says answers
    (bytes ∙ (λ i. turn_bytes (sym found.same i) ++ (bytes_from Prover (sym found.says i) ++ bytes_from Verifier rest)))
  where
    leads : IsLed prover file t
    leads = led prover file t verdict (spelling t) both served

    found : SaysTurn prover t n
    found = says_turn prover file t n (sent_by Verifier log) from.0 rest from.2.0 both.ends leads below
        (ap (sent_by Verifier) bytes ∙ answer_answered (take n (session_turns t)) (said_in t n) rest) from.1
        (from.2.1 ∙ ap (λ l. l ++ from.2.0) (ap (sent_by Prover) bytes ∙ answer_said (take n (session_turns t)) (said_in t n) rest))

-- a whole log
served_whole : (prover : ProverTask) (file : VerifierFile) (t : Transcript) (verdict : Verdict) (log : List (Side × ℕ))
    → AreBoth prover file → IsServed (task_of prover file) t verdict (spelling t) → log ≡ spelling t → IsFromHonestProver prover log
    → BeginsHonestly prover (task_of prover file) t.commitment.setup.grant log
served_whole prover file t verdict log both served bytes from = record {
  t = t;
  session = subst (λ (verdict : Verdict). IsHonestSession prover (task_of prover file) t.commitment.setup.grant t verdict (spelling t))
      judged.0 judged.1;
  begun = ([], sym bytes ∙ sym (append-nil log));
}
  where
    honest : IsHonest prover t
    honest = whole_honest prover file t from.0 from.2.0 both.ends (led prover file t verdict (spelling t) both served)
        (subst (λ (l : List ℕ). AreHonestBytes prover l from.0) (ap (sent_by Verifier) bytes ∙ sent_by-verifier (session_turns t)) from.1)
        (from.2.1 ∙ ap (λ l. l ++ from.2.0) (ap (sent_by Prover) bytes ∙ sent_by-prover (session_turns t)))

    judged : (verdict ≡ Accepted) × IsHonestSession prover (task_of prover file) t.commitment.setup.grant t verdict (spelling t)
    judged = honest_session_is_accepted prover (task_of prover file) t verdict (spelling t) (counterparts prover file both) honest
        (both.claims honest.wires honest.given honest.witness) served

-- wherever it ends
served_part : (prover : ProverTask) (file : VerifierFile) (t : Transcript) (verdict : Verdict) (log : List (Side × ℕ))
    → AreBoth prover file → IsServed (task_of prover file) t verdict (spelling t) → EndsIn (session_turns t) log
    → IsFromHonestProver prover log → BeginsHonestly prover (task_of prover file) t.commitment.setup.grant log
served_part prover file t verdict log both served (at_end whole) from = served_whole prover file t verdict log both served whole from
served_part prover file t verdict log both served (in_turn n rest more below same bytes) from =
    served_turn prover file t verdict n rest log both served below bytes from
served_part prover file t verdict log both served (in_answer n rest more below same bytes) from =
    served_answer prover file t verdict n rest more log both served below same bytes from

served_log : (prover : ProverTask) (file : VerifierFile) (grant : Grant) (log : List (Side × ℕ)) → AreBoth prover file
    → ServesWith (task_of prover file) grant log → IsFromHonestProver prover log → BeginsHonestly prover (task_of prover file) grant log
served_log prover file grant log both serves from =
    subst (λ (grant : Grant). BeginsHonestly prover (task_of prover file) grant log) serves.granted
    (⊎_elim
    (λ begins. served_part prover file serves.t serves.verdict log both serves.served
    (where_it_ends (session_turns serves.t) log begins.0 begins.1) from)
    (λ cut. served_turn prover file serves.t serves.verdict cut.whole cut.rest log both serves.served cut.more cut.bytes from)
    serves.bytes)

pub honest_log : HonestLog
honest_log prover verifier grant log both witness claims serves from =
    subst (λ (statement : Statement). ServesWith (record { file = verifier.file; statement = statement }) grant log
    → BeginsHonestly prover (record { file = verifier.file; statement = statement }) grant log)
    both.statement
    (λ serves. served_log prover verifier.file grant log
    (both_of prover verifier both (subst IsStatement both.statement serves.served.in_order.stated) witness claims) serves from)
    serves
