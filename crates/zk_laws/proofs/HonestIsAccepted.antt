-- A session of an honest prover and a verifier is accepted, and its log is that of an honest session.
use Rattle.std.proofs.Common.{◌≡◌, ℕ, zero, suc, ◌+◌, ◌≤◌, List, [], ◌++◌, map, flat_map, take, length, length-append, append-nil, refl, sym, ◌∙◌, ap, subst, arith}
use Rattle.std.proofs.lemmas.List.{take_all, length-map}
use Rattle.zk_model.specs.Program.{opened_values}
use Rattle.zk_model.specs.Statement.{Statement}
use Rattle.zk_model.specs.Mac.{AreKeysOf}
use Rattle.zk_model.specs.Files.{VerifierFile, IsProverFile, IsVerifierFile, AreDealt, rounds_of}
use Rattle.zk_model.specs.Transcript.{Transcript, IsTranscript, spelling, sent_by, session_turns, setup_turns, challenge_frame, verdict_frame, ask_frame, reply_frame}
use Rattle.zk_model.specs.Check.{ProductCheck, OpeningCheck, AllSectionsHold, AllOpeningsHold}
use Rattle.zk_model.specs.View.{IsVerdictOf, session_keys, session_products, session_openings}
use Rattle.zk_model.specs.HonestProver.{ProverTask, IsHonest, SentAfter, AreHonestBytes}
use Rattle.zk_model.specs.ServedVerifier.{IsServed}
use Rattle.zk_model.specs.BothEnds.{IsHonestSession}
use Rattle.zk_laws.specs.Completeness.{HonestSessionIsAccepted}
use Rattle.zk_laws.proofs.KeysFit.{keys_fit}
use Rattle.zk_laws.proofs.HonestSession.{honest_session_holds}
use Rattle.zk_laws.proofs.Views.{rounds_are}
use Rattle.frame_laws.proofs.SentBytes.{sent_by-prover, sent_by-verifier, verifier_answers}
use Rattle.zk_model.specs.declared.Params.{Params}
use Rattle.zk_model.specs.declared.Side.{Side}
use Rattle.zk_model.specs.declared.Side.TheVariants.{Prover, Verifier}
use Rattle.zk_model.specs.declared.Verdict.{Verdict}
use Rattle.zk_model.specs.declared.Verdict.TheVariants.{Accepted, RejectedSum, RejectedOpening}

-- a verdict where every section and every opened wire holds is Accepted
accepted_where_all_hold : (products : ProductCheck) (openings : OpeningCheck) (verdict : Verdict)
    → AllSectionsHold products → AllOpeningsHold openings → IsVerdictOf products openings verdict → verdict ≡ Accepted
accepted_where_all_hold products openings Accepted sections opened is = refl
accepted_where_all_hold products openings (RejectedSum s) sections opened is = absurd (is.fails (sections s is.below))
accepted_where_all_hold products openings (RejectedOpening o) sections opened is = absurd (is.1.fails (opened o is.1.below))

-- ---- turns

-- a turn for the hello, one for each round, and two more
turn_count : (t : Transcript) → length (session_turns t) ≡ suc (length t.commitment.setup.rounds + 2)
turn_count t =
    let rounds = t.commitment.setup.rounds in
    let each = map (λ round. (flat_map ask_frame round.asks, flat_map reply_frame round.replies)) rounds in
    ap suc (length-append each _ ∙ ap (λ n. n + 2) (length-map rounds (λ round. (flat_map ask_frame round.asks, flat_map reply_frame round.replies))))

-- as many for every transcript in range
same_count : (task : ProverTask) (t : Transcript) → IsTranscript task.file.params task.statement.program t
    → length (session_turns t) ≡ suc (rounds_of task.file.params.kind + 2)
same_count task t is = turn_count t ∙ ap (λ n. suc (n + 2)) is.commitment.setup.round_count

-- what the prover says in a whole session is what an honest prover sends
honest_bytes_are : (task : ProverTask) (t : Transcript) (log : List (Side × ℕ)) → IsTranscript task.file.params task.statement.program t
    → IsHonest task t → log ≡ spelling t → AreHonestBytes task (sent_by Verifier log) (sent_by Prover log)
honest_bytes_are task t log is honest spelled = record {
  turns = suc (rounds_of task.file.params.kind + 2);
  answer = (t, is, honest, omega (arith, turns), ([], received), sent);
  most = at_most;
}
  where
    last : ℕ
    last = rounds_of task.file.params.kind + 2

    turns : length (session_turns t) ≡ suc (rounds_of task.file.params.kind + 2)
    turns = same_count task t is

    received : sent_by Verifier log ≡ flat_map (λ turn. turn.1) (take (suc last) (session_turns t)) ++ []
    received = ap (sent_by Verifier) spelled ∙ sent_by-verifier (session_turns t)
        ∙ ap (flat_map (λ turn. turn.1)) (sym (take_all (suc last) (session_turns t) (omega (arith, turns))))
        ∙ sym (append-nil (flat_map (λ turn. turn.1) (take (suc last) (session_turns t))))

    sent : sent_by Prover log ≡ flat_map (λ turn. turn.0) (take (suc (suc last)) (session_turns t))
    sent = ap (sent_by Prover) spelled ∙ sent_by-prover (session_turns t)
        ∙ ap (flat_map (λ turn. turn.0)) (sym (take_all (suc (suc last)) (session_turns t) (omega (arith, turns))))

    at_most : (more : ℕ) (other : List ℕ) → SentAfter task (sent_by Verifier log) more other
        → more ≤ suc (rounds_of task.file.params.kind + 2)
    at_most zero other after = omega arith
    at_most (suc n) other after = omega (arith, after.3, same_count task after.0 after.1)

-- ---- the whole session

-- both ends have the prover's statement
over_one_statement : (prover : ProverTask) (file : VerifierFile) (t : Transcript) (verdict : Verdict) (log : List (Side × ℕ))
    → IsProverFile prover.file → IsVerifierFile file → AreDealt prover.file file
    → (honest : IsHonest prover t) → opened_values prover.statement.program honest.wires ≡ prover.statement.claims
    → IsServed (record { file = file; statement = prover.statement }) t verdict log
    → (verdict ≡ Accepted)
    × IsHonestSession prover (record { file = file; statement = prover.statement }) t.commitment.setup.grant t verdict log
over_one_statement prover file t verdict log left right dealt honest say served = (
  accepted_where_all_hold (session_products file prover.statement t served.judged.keys)
      (session_openings file prover.statement t served.judged.keys) verdict hold.0 hold.1 served.judged.judged,
  record {
    served = served;
    granted = refl;
    checks = record { keys = served.judged.keys; carried = served.judged.carried; sections = hold.0; openings = hold.1 };
    honest = honest;
    honest_bytes = honest_bytes_are prover t log transcript honest served.in_order.bytes;
    served_bytes =
        ap (sent_by Verifier) served.in_order.bytes ∙ sent_by-verifier (session_turns t) ∙ verifier_answers t
        ∙ ap (λ coin. flat_map (λ turn. turn.1) (setup_turns t.commitment.setup) ++ challenge_frame coin ++ verdict_frame t.code t.number) served.challenge;
  },
)
  where
    transcript : IsTranscript prover.file.params prover.statement.program t
    transcript = subst (λ (params : Params). IsTranscript params prover.statement.program t) (sym dealt.params) served.in_order.transcript

    fit : AreKeysOf file.key honest.view.pairs (session_keys file t.commitment)
    fit = keys_fit prover.file file t.commitment.setup honest.view.pairs left right dealt
        (rounds_are prover.file.params prover.statement.program t.commitment.setup transcript.commitment.setup) served.replies honest.seen.pairs

    hold : AllSectionsHold (session_products file prover.statement t served.judged.keys)
        × AllOpeningsHold (session_openings file prover.statement t served.judged.keys)
    hold = honest_session_holds file prover t served.judged.keys served.in_order.stated right.key transcript honest say fit served.judged.carried

pub honest_session_is_accepted : HonestSessionIsAccepted
honest_session_is_accepted prover verifier t verdict log both honest say served =
    subst (λ (statement : Statement). IsServed (record { file = verifier.file; statement = statement }) t verdict log
    → (verdict ≡ Accepted)
    × IsHonestSession prover (record { file = verifier.file; statement = statement }) t.commitment.setup.grant t verdict log)
    both.statement
    (over_one_statement prover verifier.file t verdict log both.prover_file both.verifier_file both.dealt honest say) served
