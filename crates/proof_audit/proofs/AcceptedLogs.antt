-- The log of an accepted session is read in one way: as that.
use Rattle.std.proofs.Common.{◌≡◌, ℕ, ◌⊎◌, inl, inr, None, List, [], ◌∷◌, ◌++◌, length, refl, sym, ◌∙◌, ap, subst, arith, append_assoc, append-nil, length-append}
use Rattle.zk_model.specs.Files.{IsVerifierFile}
use Rattle.zk_model.specs.Transcript.{Transcript, IsTranscript, spelling}
use Rattle.zk_model.specs.Frames.{Frame, corrections, challenge, sums, openings, verdict, frame_spelling}
use Rattle.zk_model.specs.ServedVerifier.{VerifierTask}
use Rattle.zk_model.specs.Audit.{setup_frames, session_frames, frames_spelling, place_after, Declines, HasFaultAt, EndsEarly, EndsDeclined, IsReadAs, IsAcceptedLog}
use Rattle.zk_model.specs.declared.Verdict.TheVariants.{Accepted}
use Rattle.proof_audit.proofs.Faultless.{session_spelled}
use Rattle.proof_audit.proofs.OneReading.{Reads, read_as, whole_logs_are_right}
use Rattle.proof_audit.proofs.Places.{frame_some, none_behind}
use Rattle.proof_audit.proofs.ServedFaultless.{served_faultless}
use Rattle.proof_audit.proofs.OneTranscript.{one_transcript}
use Rattle.zk_laws.proofs.OneFinding.{one_finding}
use Rattle.zk_model.specs.Finding.{IsFinding}
use Rattle.zk_model.specs.declared.Params.{Params}
use Rattle.proof_audit.specs.Laws.{AcceptedLogsAreRight, OneAnswer}

-- the last items of equal lists
last_same : {A : Type 0} (xs ys : List A) (x y : A) → xs ++ x ∷ [] ≡ ys ++ y ∷ [] → x ≡ y
last_same [] [] x y same = cc
last_same [] (b ∷ ys) x y same = absurd (omega (arith, ap length same, length-append ys (y ∷ [])))
last_same (a ∷ xs) [] x y same = absurd (omega (arith, ap length same, length-append xs (x ∷ [])))
last_same (a ∷ xs) (b ∷ ys) x y same = last_same xs ys x y cc

none_spelled : (frames : List Frame) → [] ≡ frames_spelling frames → frames ≡ []
none_spelled [] same = refl
none_spelled (frame ∷ frames) same =
    absurd (omega (arith, ap length same, length-append (frame_spelling frame) (frames_spelling frames), frame_some frame))

-- the session is whole
whole_read : (task : VerifierTask) (log : List ℕ) (t : Transcript) → IsVerifierFile task.file → IsAcceptedLog task log t
    → IsReadAs task log (session_frames t) []
whole_read task log t file accepted = record {
  faultless = served_faultless task t Accepted (spelling t) file accepted.served;
  bytes = accepted.bytes ∙ sym (session_spelled t) ∙ sym (append-nil (frames_spelling (session_frames t)));
}

none_after : (task : VerifierTask) (log : List ℕ) (t : Transcript) → IsAcceptedLog task log t
    → place_after task.file.params task.statement (session_frames t) ≡ None
none_after task log t accepted =
    none_behind task.file.params task.statement t.commitment.setup
    (corrections t.commitment.corrections ∷ challenge t.challenge ∷ sums t.sums ∷ openings t.openings ∷ verdict t.code t.number ∷ [])
    accepted.served.in_order.transcript.commitment.setup refl

-- it is not declined
not_declined : (task : VerifierTask) (log : List ℕ) (t : Transcript) → IsVerifierFile task.file → IsAcceptedLog task log t → EndsDeclined task log → ⊥
not_declined task log t file accepted declined =
    subst Declines (sym (last_same (setup_frames t.commitment.setup ++ front) declined.before (verdict t.code t.number) declined.last same)) declined.declined
    accepted.served.judged.said.code
  where
    front : List Frame
    front = corrections t.commitment.corrections ∷ challenge t.challenge ∷ sums t.sums ∷ openings t.openings ∷ []

    reads : Reads (declined.before ++ declined.last ∷ []) (session_frames t) []
    reads = read_as task log (session_frames t) (declined.before ++ declined.last ∷ []) [] (whole_read task log t file accepted)
        (none_after task log t accepted) declined.read

    same : (setup_frames t.commitment.setup ++ front) ++ verdict t.code t.number ∷ [] ≡ declined.before ++ declined.last ∷ []
    same = append_assoc (setup_frames t.commitment.setup) front (verdict t.code t.number ∷ [])
        ∙ reads.1
        ∙ ap (λ fs. (declined.before ++ declined.last ∷ []) ++ fs) (none_spelled reads.0 reads.2)
        ∙ append-nil (declined.before ++ declined.last ∷ [])

pub accepted_logs_are_right : AcceptedLogsAreRight
accepted_logs_are_right task log t file accepted = (whole.0, λ not_accepted. by_end not_accepted)
  where
    whole : ((place : ℕ) → ¬ HasFaultAt task log place) × ¬ EndsEarly task log
    whole = whole_logs_are_right task log (session_frames t) (whole_read task log t file accepted) (none_after task log t accepted)

    by_end : EndsEarly task log ⊎ EndsDeclined task log → ⊥
    by_end (inl early) = whole.1 early
    by_end (inr declined) = not_declined task log t file accepted declined

-- ---- one answer

-- the sessions of one log are one
one_session : (task : VerifierTask) (log : List ℕ) (t u : Transcript) → IsVerifierFile task.file → IsAcceptedLog task log t
    → IsAcceptedLog task log u → t ≡ u
one_session task log t u file accepted also =
    one_transcript task.file.params task.statement.program t u accepted.served.in_order.transcript also.served.in_order.transcript
    (reads.1 ∙ ap (λ fs. session_frames u ++ fs) (none_spelled reads.0 reads.2) ∙ append-nil (session_frames u))
  where
    reads : Reads (session_frames u) (session_frames t) []
    reads = read_as task log (session_frames t) (session_frames u) [] (whole_read task log t file accepted) (none_after task log t accepted)
        (whole_read task log u file also)

pub one_answer : OneAnswer
one_answer claimed prover task log t finding other left right dealt accepted found is =
    one_finding prover task.statement t finding other left accepted.served.in_order.stated
    (subst (λ (params : Params). IsTranscript params task.statement.program t) (sym dealt.params) accepted.served.in_order.transcript)
    (subst (λ u. IsFinding prover task.statement u finding) (one_session task log found.t t right found.accepted accepted) found.found)
    is
