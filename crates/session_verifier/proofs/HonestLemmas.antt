-- What is told and kept of a session, and that one with an honest peer does not stop.
use Rattle.std.proofs.Common.{◌≡◌, inl, inr, ℕ, ◌+◌, ◌≤◌, List, [], ◌++◌, flat_map, take, drop, length, Option, Some, None, Result, Ok, refl, ap, sym, ◌∙◌, subst, arith, append-nil, append_assoc, ◌⊎◌, zero, suc, ◌<◌, ◌∷◌, slice_index_or, length-append, ◌-◌, ◌*◌, get_or, length-take-le}
use Rattle.std.proofs.lemmas.Option.{same_Some}
use Rattle.std.proofs.lemmas.List.{take-append-drop, length-map, get_or_at}
use Rattle.zk_model.specs.Files.{rounds_of}
use Rattle.zk_model.specs.Transcript.{BeginsWith, hello_frame, grant_frame, refuse_frame, bytes_from, turn_bytes, session_turns, spelling, Hello, Grant, Round, Transcript, IsHello, IsRound, IsTranscript, ask_frame, corrections_frame, challenge_frame, sums_frame, openings_frame, setup_turns, sent_by, TreeAsk, Commitment, IsHelloFor, wanted_hello, HasForm, version_of}
use Rattle.zk_model.specs.Frames.{Frame, frame_spelling, hello, asks, corrections, sums, openings, frame_length, Allows, AreAsks, AreElements, AreSums, CanGoOn}
use Rattle.zk_model.specs.ServedVerifier.{IsServed, ServesWith}
use Rattle.zk_model.specs.declared.Side.{Side}
use Rattle.zk_model.specs.declared.Side.TheVariants.{Prover, Verifier}
use Rattle.zk_model.specs.declared.Span.{Span}
use Rattle.zk_port.specs.Logs.{appended}
use Rattle.session_laws.specs.Serving.{ServedSessionExists}
use Rattle.session_laws.specs.Rounds.{RepliesAreInRange}
use Rattle.frame_link.specs.Lines.{LinkSnapshot}
use Rattle.frame_link.proofs.LineLemmas.{none_is_some, front_goes_on, longest, frame_most}
use Rattle.lease_store.specs.declared.grantor.GrantFault.{GrantFault}
use Rattle.session_core.specs.Jobs.{VerifierJob, units_of_job, granted_from, VerifierJobs, AreVerifierJobs, IsFirstFor, IsHelloOf, all_jobs, job_at, noted_job}
use Rattle.session_core.specs.Judgements.{verdict_in}
use Rattle.session_core.specs.Cores.{VerifierStage, VerifierAnswers, awaits_hello, owes_grant, behind_grant, awaits_asks, awaits_corrections, awaits_sums, awaits_openings, has_judged, AreAsksSoFar, verifier_expects}
use Rattle.session_core.specs.declared.judgement.Judgement.{Judgement}
use Rattle.session_verifier.specs.Outcomes.{HasRefusal, grant_code, refusal_of, hello_code, verifier_line_outcome, verifier_fault_outcome, judgement_outcome, grant_outcome}
use Rattle.session_verifier.specs.Stages.{IsHeldJob, IsVerifierLogAt, IsAnswer, IsBehind, IsStopped, ComesThere, RefusesAfter, last_turn, Ending, HasEnding, answer_at, outcome_at, lacks_hello, turns_away, lacks_units, lacks_grant, loses_grant, stops_behind, judges}
use Rattle.session_verifier.specs.Notes.{BeginsRefusal, TellsRightly, IsAllSent, IsTold, BeginsByHello, HasHonestProver, TakesStatement, HasTaken, CompletesForEach, HasHonestCaller}
use Rattle.session_verifier.proofs.StageLemmas.{logs_on, grant_behind, either_kind, behind_direct, behind_extended, turns_append, one_expected, few_of}
use Rattle.session_verifier.proofs.CourseLemmas.{judged_session, hello_bytes, lease_refusal, sends_rightly, accepted_judgement, hello_refusal, sends_behind, serves_judged, begins_within}
use Rattle.session_verifier.specs.declared.note.VerifierOutcome.{VerifierOutcome}
use Rattle.session_verifier.specs.declared.note.VerifierOutcome.TheVariants.{Link, NoMemory, Accepted, PeerEnded, BadFrame}
use Rattle.std.specs.Prelude.{All}
use Rattle.std.proofs.lemmas.List.Elements.{All-take}
use Rattle.zk_model.specs.Program.{section_count}
use Rattle.zk_model.specs.declared.Kind.TheVariants.{Extended}
use Rattle.frame_laws.proofs.Codes.{same_front}
use Rattle.frame_laws.proofs.FrameCodes.{hello_code as one_hello}
use Rattle.frame_laws.proofs.SentBytes.{sent_by-append, own_bytes, none_of_prover}
use Rattle.session_laws.proofs.Turns.{said}
use Rattle.frame_link.proofs.FramesLemmas.{asks_length}
use Rattle.std.proofs.Math.Nat.{mul-le-mul_right}
use Rattle.std.proofs.lemmas.Bool.{cases_order}
use Rattle.zk_model.specs.Check.{AllBelow}
use Rattle.zk_model.specs.Statement.{Statement, IsStatement}
use Rattle.zk_model.specs.Peers.{IsFromHonestProver}
use Rattle.frame_laws.proofs.Hellos.{hello_allowed, wanted_fits, wanted_is_hello}
use Rattle.zk_model.specs.Audit.{hello_place}
use Rattle.zk_model.specs.declared.StatementKind.{StatementKind}
use Rattle.proof_frames.proofs.Decoding.{grows}
use Rattle.proof_frames.proofs.Lengths.{whole_length}
use Rattle.zk_model.specs.HonestProver.{ProverTask, SentAfter, AreHonestBytes}
use Rattle.zk_model.specs.View.{verdict_code}
use Rattle.zk_model.specs.declared.Expect.{Expect}
use Rattle.zk_laws.specs.Completeness.{AreCounterparts}
use Rattle.session_laws.specs.Peers.{IsServedTurns, IsHonestUpTo, HonestTurn, HonestTurnEnds, HonestWholeIsAccepted, said_in}
use Rattle.zk_port.specs.Counts.{Rose}
use Rattle.zk_model.specs.declared.Expect.TheVariants as expect
use Rattle.session_core.specs.Rounds.{round_turns}
use Rattle.session_driver.proofs.Going.{bytes_more}
use Rattle.session_driver.specs.Leaving.{CountsCalls, IsLost, IsSendFault, StopsShort}
use Rattle.frame_link.specs.declared.fault.LineFault.{LineFault}
use Rattle.frame_link.specs.declared.fault.LineFault.TheVariants as line
use Rattle.session_core.specs.declared.fault.VerifierFault.TheVariants as session
use Rattle.session_verifier.proofs.Cuts.{IsKnown, greeting_is_hello, serves_with, IsCutOf, length_corrections, length_sums, length_openings, cut_of_stop, cut_of_log, cut_asks, cut_corrections, cut_sums, cut_openings}
use Rattle.session_pool.specs.Notes.{granted_by}

-- What the link tells after the log: a part of the one answer whose send was refused.

-- ---- a part of an answer

-- what begins with a log and an answer begins with the log and a part of it
part_begins : (whole log : List (Side × ℕ)) (answer : List ℕ) (count : ℕ) → BeginsWith whole (log ++ bytes_from Verifier answer)
    → BeginsWith whole (log ++ bytes_from Verifier (take count answer))
part_begins whole log answer count begun =
    let front = bytes_from Verifier (take count answer) in
    let back = bytes_from Verifier (drop count answer) in
    let parts : bytes_from Verifier answer ≡ front ++ back =
    ap (bytes_from Verifier) (sym (take-append-drop count answer)) ∙ bytes_more Verifier (take count answer) (drop count answer) in (
      back ++ begun.0,
      begun.1 ∙ ap (λ l. (log ++ l) ++ begun.0) parts ∙ ap (λ l. l ++ begun.0) (sym (append_assoc log front back)) ∙ append_assoc (log ++ front) back begun.0,
    )

-- whole turns of a session are its beginning
turns_begin : (turns : List (List ℕ × List ℕ)) (whole : ℕ) (log : List (Side × ℕ)) → log ≡ turn_bytes (take whole turns) ++ [] → BeginsWith (turn_bytes turns) log
turns_begin turns whole log is = (
  turn_bytes (drop whole turns),
  ap turn_bytes (sym (take-append-drop whole turns)) ∙ turns_append (take whole turns) (drop whole turns)
      ∙ ap (λ l. l ++ turn_bytes (drop whole turns)) (sym (is ∙ append-nil (turn_bytes (take whole turns)))),
)

-- a part of the answer to the last of some whole turns
serves_part : (job : VerifierJob) (start whole : ℕ) (log : List (Side × ℕ)) (answer : List ℕ) (count : ℕ)
    → IsCutOf job start whole [] (log ++ bytes_from Verifier answer)
    → ServesWith job.task (granted_from job start) (log ++ bytes_from Verifier (take count answer))
serves_part job start whole log answer count cut =
    serves_with job cut.greeting start cut.rounds cut.d (log ++ bytes_from Verifier (take count answer)) cut.session
    (inl (part_begins (spelling cut.session.t) log answer count (turns_begin (session_turns cut.session.t) whole (log ++ bytes_from Verifier answer) cut.bytes)))

-- a part of the verdict
serves_judged_part : (job : VerifierJob) (start : ℕ) (judgement : Judgement) (log : List (Side × ℕ)) (answer : List ℕ) (count : ℕ) → IsKnown job
    → IsVerifierLogAt job (has_judged start judgement) (log ++ bytes_from Verifier answer)
    → ServesWith job.task (granted_from job start) (log ++ bytes_from Verifier (take count answer))
serves_judged_part job start judgement log answer count known at =
    let span : Span = record { start = start; end = start } in
    let session = judged_session job span (Some span) judgement (log ++ bytes_from Verifier answer) known refl at in
    let all = session.served.in_order.bytes in
    let same : session.span ≡ span = sym (same_Some span session.span session.leased) in
    record {
      t = session.t;
      verdict = verdict_in judgement;
      served = subst (λ l. IsServed job.task session.t (verdict_in judgement) l) all session.served;
      granted = session.grant ∙ ap (λ (s : Span). granted_from job s.start) same;
      bytes = inl (part_begins (spelling session.t) log answer count ([], sym all ∙ sym (append-nil (log ++ bytes_from Verifier answer))));
    }

-- ---- the answer that is due

answered_part : (job : VerifierJob) (start : ℕ) (stage next : VerifierStage) (frame : Frame) (frames : List Frame) (log : List (Side × ℕ)) (answer : List ℕ) (count : ℕ)
    → RepliesAreInRange → ServedSessionExists → IsKnown job → IsBehind start stage → VerifierAnswers job stage frame frames next → 1 ≤ length frames
    → IsVerifierLogAt job next (log ++ bytes_from Verifier answer)
    → ServesWith job.task (granted_from job start) (log ++ bytes_from Verifier (take count answer))
answered_part job start awaits_hello next frame frames log answer count ranges law known starts answers some at = absurd starts
answered_part job start (awaits_asks begun asked) next frame frames log answer count ranges law known starts answers some at = elim answers.2 [
  | inl more ↦ absurd (omega (arith, some, ap length more.1))
  | inr all ↦ subst (λ b. ServesWith job.task (granted_from job b) (log ++ bytes_from Verifier (take count answer))) starts
      (serves_part job begun (1 + rounds_of job.task.file.params.kind) log answer count
      (cut_corrections job begun [] (log ++ bytes_from Verifier answer) law known
      (cut_of_log job (awaits_corrections begun) (log ++ bytes_from Verifier answer) (subst (λ p. IsVerifierLogAt job p (log ++ bytes_from Verifier answer)) all.2 at))))
]
answered_part job start (awaits_corrections begun) next frame frames log answer count ranges law known starts answers some at =
    subst (λ b. ServesWith job.task (granted_from job b) (log ++ bytes_from Verifier (take count answer))) starts
    (serves_part job begun (2 + rounds_of job.task.file.params.kind) log answer count
    (cut_sums job begun answers.0 [] (log ++ bytes_from Verifier answer) law known
    (cut_of_log job (awaits_sums begun answers.0) (log ++ bytes_from Verifier answer) (subst (λ p. IsVerifierLogAt job p (log ++ bytes_from Verifier answer)) answers.3 at))))
answered_part job start (awaits_sums begun d) next frame frames log answer count ranges law known starts answers some at =
    absurd (omega (arith, some, ap length answers.2))
answered_part job start (awaits_openings begun d both) next frame frames log answer count ranges law known starts answers some at =
    subst (λ b. ServesWith job.task (granted_from job b) (log ++ bytes_from Verifier (take count answer))) starts
    (serves_judged_part job begun answers.1 log answer count known (subst (λ p. IsVerifierLogAt job p (log ++ bytes_from Verifier answer)) answers.5 at))
answered_part job start other next frame frames log answer count ranges law known starts answers some at = absurd answers

-- of the grant
granted_part : (job : VerifierJob) (start : ℕ) (log : List (Side × ℕ)) (count : ℕ) → RepliesAreInRange → ServedSessionExists → IsKnown job
    → start + units_of_job job ≤ job.task.file.params.total → IsVerifierLogAt job owes_grant log
    → ServesWith job.task (granted_from job start) (log ++ bytes_from Verifier (take count (grant_frame (granted_from job start))))
granted_part job start log count ranges law known within at =
    let grant : List ℕ = grant_frame (granted_from job start) in
    let behind : IsVerifierLogAt job (behind_grant job start) (log ++ bytes_from Verifier (grant_frame (granted_from job start))) =
    grant_behind job start log within at in
    elim (either_kind job.task.file.params.kind) [
      | inl direct ↦
          let all = log ++ bytes_from Verifier (grant_frame (granted_from job start)) in
          serves_part job start (1 + rounds_of job.task.file.params.kind) log (grant_frame (granted_from job start)) count
          (cut_corrections job start [] all law known (cut_of_log job (awaits_corrections start) all (subst (λ p. IsVerifierLogAt job p all) (behind_direct job start direct) behind)))
      | inr extended ↦
          let all = log ++ bytes_from Verifier (grant_frame (granted_from job start)) in
          serves_part job start 1 log (grant_frame (granted_from job start)) count
          (cut_asks job start [] [] all ranges law known (cut_of_log job (awaits_asks start []) all (subst (λ p. IsVerifierLogAt job p all) (behind_extended job start extended) behind)))
    ]

-- after the log where a session stopped
due_part : (job : VerifierJob) (start : ℕ) (stage : VerifierStage) (log : List (Side × ℕ)) (comes : ComesThere job stage log) (answer : List ℕ) (count : ℕ)
    → RepliesAreInRange → ServedSessionExists → IsKnown job → IsBehind start stage → IsAnswer job stage comes.place comes.rest answer
    → ServesWith job.task (granted_from job start) (log ++ bytes_from Verifier (take count answer))
due_part job start stage log comes answer count ranges law known starts is =
    let held : IsHeldJob job = record { file = known.file; is = known.is } in
    let next = logs_on job stage is.next comes.before comes.place is.frame is.frames ranges held comes.expected is.allowed comes.waited is.answers in
    let whole : (comes.before ++ bytes_from Prover (frame_spelling is.frame)) ++ bytes_from Verifier (flat_map frame_spelling is.frames) ≡ log ++ bytes_from Verifier answer =
    (λ i. (comes.before ++ bytes_from Prover (sym is.came i)) ++ bytes_from Verifier (sym is.answer_is i))
    ∙ ap (λ l. l ++ bytes_from Verifier answer) (sym comes.logged) in
    answered_part job start stage is.next is.frame is.frames log answer count ranges law known starts is.answers is.at_least_one
    (subst (IsVerifierLogAt job is.next) whole next)

-- ---- what is told

-- the log alone
told_whole : (job : VerifierJob) (granted : Option Span) (outcome : VerifierOutcome) (first now : LinkSnapshot) → now.told ≡ appended now.log first.told
    → now.refused_sends ≡ first.refused_sends → TellsRightly job granted outcome now.log → IsTold job granted outcome first now
told_whole job granted outcome first now told unrefused rightly = record {
  part = [];
  told = told ∙ ap (λ l. appended l first.told) (sym (append-nil now.log));
  refused = inl (refl, unrefused);
  rightly = subst (TellsRightly job granted outcome) (sym (append-nil now.log)) rightly;
}

-- and a first part of bytes whose send was refused
told_part : (job : VerifierJob) (granted : Option Span) (outcome : VerifierOutcome) (log : List (Side × ℕ)) (bytes : List ℕ) (first now : LinkSnapshot)
    → (IsAllSent outcome → ⊥) → ((count : ℕ) → TellsRightly job granted outcome (log ++ bytes_from Verifier (take count bytes)))
    → IsLost Verifier log bytes first now → IsTold job granted outcome first now
told_part job granted outcome log bytes first now never rightly lost = record {
  part = take lost.count bytes;
  told = lost.told ∙ ap (λ l. appended (l ++ bytes_from Verifier (take lost.count bytes)) first.told) (sym lost.logged);
  refused = inr (never, lost.refused_sends);
  rightly = subst (λ l. TellsRightly job granted outcome (l ++ bytes_from Verifier (take lost.count bytes))) (sym lost.logged) (rightly lost.count);
}

-- where a refusal is due, it may not have been sent
refuses_never : (outcome : VerifierOutcome) → HasRefusal outcome → IsAllSent outcome → ⊥
refuses_never Link refuses all = all
refuses_never other refuses all = none_is_some (sym all ∙ refuses.1)

-- nor may what a fault kept back
fault_never : (fault : LineFault) → IsSendFault fault → IsAllSent (verifier_line_outcome fault) → ⊥
fault_never line.Link is all = all
fault_never line.NoMemory is all = none_is_some (sym all)
fault_never other is all = is

begins_refusal : (outcome : VerifierOutcome) (code : ℕ) (said : Hello) (part : List ℕ) → IsHello said → refusal_of outcome ≡ Some code
    → BeginsWith (refuse_frame code) part → BeginsRefusal outcome (bytes_from Prover (hello_frame said) ++ bytes_from Verifier part)
begins_refusal outcome code said part is of begun =
    record { rest = hello_frame said; hello = (said, is, refl); code = code; code_is = of; answer = part; begun = begun; bytes = refl }

told_refusal : (job : VerifierJob) (granted : Option Span) (outcome : VerifierOutcome) (code : ℕ) (said : Hello) (first now : LinkSnapshot) → IsHello said
    → refusal_of outcome ≡ Some code → ((log : List (Side × ℕ)) → BeginsRefusal outcome log → TellsRightly job granted outcome log)
    → RefusesAfter said code first now → IsTold job granted outcome first now
told_refusal job granted outcome code said first now is of rightly (inl well) =
    told_whole job granted outcome first now (well.told ∙ ap (λ l. appended l first.told) (sym well.logged)) well.refused_sends
    (rightly now.log (subst (BeginsRefusal outcome) (sym well.logged)
    (begins_refusal outcome code said (refuse_frame code) is of ([], sym (append-nil (refuse_frame code))))))
told_refusal job granted outcome code said first now is of rightly (inr lost) =
    told_part job granted outcome (bytes_from Prover (hello_frame said)) (refuse_frame code) first now (refuses_never outcome (code, of))
    (λ count. rightly (bytes_from Prover (hello_frame said) ++ bytes_from Verifier (take count (refuse_frame code)))
    (begins_refusal outcome code said (take count (refuse_frame code)) is of (drop count (refuse_frame code), sym (take-append-drop count (refuse_frame code))))) lost

-- a session that stopped where it waited
told_stopped : (job : VerifierJob) (granted : Option Span) (stage : VerifierStage) (fault : LineFault) (first now : LinkSnapshot) (stopped : IsStopped job stage fault first now)
    → TellsRightly job granted (verifier_line_outcome fault) now.log
    → ((answer : List ℕ) (count : ℕ) → IsAnswer job stage stopped.place stopped.rest answer
    → TellsRightly job granted (verifier_line_outcome fault) (now.log ++ bytes_from Verifier (take count answer))) → IsTold job granted (verifier_line_outcome fault) first now
told_stopped job granted stage fault first now stopped rightly due = elim stopped.why [
  | inl short ↦ told_whole job granted (verifier_line_outcome fault) first now short.told short.refused_sends rightly
  | inr (inl lacks) ↦ told_whole job granted (verifier_line_outcome fault) first now lacks.3.told lacks.3.refused_sends rightly
  | inr (inr unsent) ↦ told_part job granted (verifier_line_outcome fault) now.log unsent.0 first now
      (fault_never fault unsent.2.fault_is) (λ count. due unsent.0 count unsent.1) unsent.2.lost
]

-- a hello has no answer but a grant
no_answer : (job : VerifierJob) (place : Expect) (rest answer : List ℕ) → IsAnswer job awaits_hello place rest answer → ⊥
no_answer job place rest answer is = absurd (omega (arith, is.at_least_one, ap length is.answers.3))

pub is_told : (job : VerifierJob) (ending : Ending) (first now : LinkSnapshot) → RepliesAreInRange → ServedSessionExists → IsKnown job
    → HasEnding job ending first now → IsTold job (granted_by (answer_at ending)) (outcome_at ending) first now
is_told job (lacks_hello fault) first now ranges law known has =
    told_stopped job None awaits_hello fault first now has (inl (sends_rightly job (lacks_hello fault) first now ranges law known has))
    (λ answer count is. absurd (no_answer job _ _ answer is))
is_told job (turns_away fault) first now ranges law known has =
    told_refusal job None (verifier_fault_outcome fault) (hello_code fault) has.said first now has.is (hello_refusal fault) (λ log begins. inr begins) has.refused
is_told job (lacks_units fault) first now ranges law known has =
    told_refusal job None (grant_outcome fault) (grant_code fault) has.greeting.hello first now (greeting_is_hello job known has.greeting)
    (lease_refusal fault) (λ log begins. inr begins) has.refused
is_told job (lacks_grant span) first now ranges law known has =
    told_refusal job (Some span) NoMemory 4 has.1.greeting.hello first now (greeting_is_hello job known has.1.greeting) refl
    (λ log begins. inr (refl, begins)) has.1.refused
is_told job (loses_grant span fault) first now ranges law known has =
    let hello = bytes_from Prover (hello_frame has.1.greeting.hello) in
    told_part job (Some span) (verifier_line_outcome fault) hello (grant_frame (granted_from job span.start)) first now (fault_never fault has.1.lost.fault_is)
    (λ count. inl (granted_part job span.start hello count ranges law known (begins_within job span has.0)
    (record { greeting = has.1.greeting; bytes = refl }))) has.1.lost.lost
is_told job (stops_behind span fault) first now ranges law known has =
    told_stopped job (Some span) has.1.stage fault first now has.1.stopped (inl (sends_behind job span fault first now ranges law known has.1))
    (λ answer count is. inl (due_part job span.start has.1.stage now.log has.1.stopped.comes answer count ranges law known has.1.behind is))
is_told job (judges span found) first now ranges law known has =
    told_whole job (Some span) (judgement_outcome found) first now has.1.well.told has.1.well.refused_sends
    (inl (serves_judged job span found now.log (judged_session job span (Some span) found now.log known refl has.1.log)))

-- A session with an honest peer does not stop: what came from it begins the frame that is expected, and it ends after it only.

-- ---- bytes of an honest frame

-- the bytes that came begin a frame that is expected, with others after it, and are no less than it where the peer ended
record IsBegun (stage : Expect) (outcome : VerifierOutcome) (rest : List ℕ) : Type 0 where
  frame : Frame
  allowed : Allows stage frame
  more : List ℕ
  begun : BeginsWith (frame_spelling frame ++ more) rest
  whole : (at : ℕ) → outcome ≡ PeerEnded at → length (frame_spelling frame) ≤ length rest
  most : length rest ≤ length (frame_spelling frame)
  sized : frame_length stage rest ≤ length (frame_spelling frame)

-- so the frame can go on after any of them
goes : (stage : Expect) (outcome : VerifierOutcome) (rest : List ℕ) → IsBegun stage outcome rest → (n : ℕ) → n ≤ length rest → CanGoOn stage (take n rest)
goes stage outcome rest is n within =
    front_goes_on stage is.frame rest is.begun.0 is.more n is.allowed is.most (sym is.begun.1) within

-- accepted, or want of memory
abbrev IsComplete : VerifierOutcome → Type 0
IsComplete outcome = (outcome ≡ Accepted) ⊎ (outcome ≡ NoMemory)

-- with such bytes a session stops only for want of memory
short_completes : (place : Expect) (rest : List ℕ) (log : List (Side × ℕ)) (fault : LineFault) (first now : LinkSnapshot)
    → IsBegun place (verifier_line_outcome fault) rest → ¬ Rose first.faults now.faults → StopsShort Verifier log place rest fault first now
    → IsComplete (verifier_line_outcome fault)
short_completes place rest log (line.PeerEnded at) first now is rose short =
    let cut = short.part.cut tt in
    absurd (omega (arith, cut.short, is.whole at refl, is.sized))
short_completes place rest log (line.BadFrame at) first now is rose short =
    let bad = short.cause.1 in
    absurd (bad.ends (goes place (BadFrame at) rest is (short.cause.0 + 1) (omega (arith, bad.within))))
short_completes place rest log line.Link first now is rose short = absurd (rose (short.calls.failed refl))
short_completes place rest log line.NoMemory first now is rose short = inr refl

send_completes : (fault : LineFault) (first now : LinkSnapshot) → IsSendFault fault → CountsCalls fault first now → ¬ Rose first.faults now.faults
    → IsComplete (verifier_line_outcome fault)
send_completes line.Link first now is calls rose = absurd (rose (calls.failed refl))
send_completes line.NoMemory first now is calls rose = inr refl
send_completes other first now is calls rose = absurd is

stop_completes : (job : VerifierJob) (stage : VerifierStage) (fault : LineFault) (first now : LinkSnapshot) (stopped : IsStopped job stage fault first now)
    → IsBegun stopped.place (verifier_line_outcome fault) stopped.rest → ¬ Rose first.faults now.faults → IsComplete (verifier_line_outcome fault)
stop_completes job stage fault first now stopped begun rose = elim stopped.why [
  | inl short ↦ short_completes stopped.place stopped.rest now.log fault first now begun rose short
  | inr (inl lacks) ↦ inr (ap verifier_line_outcome lacks.0)
  | inr (inr unsent) ↦ send_completes fault first now unsent.2.fault_is unsent.2.calls rose
]

-- ---- the hello

-- where no grant came, an honest prover sent its hello
hello_alone : (prover : ProverTask) (received sent : List ℕ) (turns : ℕ) → ¬ (get_or received 0 0 ≡ 2) → SentAfter prover received turns sent
    → sent ≡ hello_frame (wanted_hello prover.file.id prover.statement)
hello_alone prover received sent zero other after = after
hello_alone prover received sent (suc n) other after = absurd (other (ap (λ (l : List ℕ). get_or l 0 0) after.4.1))

-- the hello of the peer is the wanted one
sent_hello : (job : VerifierJob) (prover : ProverTask) (rest sent : List ℕ) (log : List (Side × ℕ)) → AreCounterparts prover job.task
    → log ≡ bytes_from Prover rest → AreHonestBytes prover (sent_by Verifier log) sent
    → sent ≡ hello_frame (wanted_hello job.task.file.id job.task.statement)
sent_hello job prover rest sent log both alone bytes =
    let none : sent_by Verifier log ≡ [] = ap (sent_by Verifier) alone ∙ none_of_prover rest in
    hello_alone prover (sent_by Verifier log) sent bytes.turns
    (subst (λ (l : List ℕ). ¬ (get_or l 0 0 ≡ 2)) (sym none) (λ is. omega (arith, is))) bytes.answer
    ∙ (λ i. hello_frame (wanted_hello (both.dealt.id i) (both.statement i)))

hello_begun : (job : VerifierJob) (prover : ProverTask) (outcome : VerifierOutcome) (rest : List ℕ) (log : List (Side × ℕ))
    → IsStatement job.task.statement
    → HasHonestProver job prover outcome log → log ≡ bytes_from Prover rest → IsBegun (hello_place job.task.statement.kind) outcome rest
hello_begun job prover outcome rest log stated peer alone =
    let wanted = wanted_hello job.task.file.id job.task.statement in
    let is : IsHello wanted = wanted_is_hello job.task.file.id job.task.statement peer.counterparts.verifier_file.id stated in
    let place = hello_place job.task.statement.kind in
    let allowed : Allows place (hello wanted) =
    hello_allowed job.task.statement.kind wanted is (wanted_fits job.task.file.id job.task.statement stated).form in
    let honest = peer.honest in
    let came : sent_by Prover log ≡ rest = ap (sent_by Prover) alone ∙ own_bytes Prover rest in
    let begun : hello_frame wanted ≡ rest ++ honest.2.0 =
    sym (sent_hello job prover rest honest.0 log peer.counterparts alone honest.1) ∙ honest.2.1 ∙ ap (λ l. l ++ honest.2.0) came in
    let whole : length (hello_frame wanted) ≡ frame_length place (hello_frame wanted) =
    whole_length place (hello_frame wanted) (hello wanted) (record { allowed = allowed; spelled = refl }) in
    record {
      frame = hello wanted;
      allowed = allowed;
      more = [];
      begun = (honest.2.0, append-nil (hello_frame wanted) ∙ begun);
      whole = λ n ended. omega (arith, ap length (sym came ∙ sent_hello job prover rest (sent_by Prover log) log peer.counterparts alone (peer.ended n ended)));
      most = omega (arith, ap length begun, length-append rest honest.2.0);
      sized = omega (arith, whole, ap (frame_length place) begun, grows place rest honest.2.0);
    }

-- a session that stops at the hello does so before the whole one of an honest peer of any job
first_completes : (job mine : VerifierJob) (fault : LineFault) (prover : ProverTask) (first now : LinkSnapshot) → IsStatement mine.task.statement
    → mine.task.statement.kind ≡ job.task.statement.kind
    → IsStopped job awaits_hello fault first now → HasHonestProver mine prover (verifier_line_outcome fault) now.log → ¬ Rose first.faults now.faults
    → IsComplete (verifier_line_outcome fault)
first_completes job mine fault prover first now stated same stopped peer rose =
    let begun = hello_begun mine prover (verifier_line_outcome fault) stopped.rest now.log stated peer (hello_bytes job now.log stopped.comes) in
    stop_completes job awaits_hello fault first now stopped
    (subst (λ p. IsBegun p (verifier_line_outcome fault) stopped.rest)
    (ap hello_place same ∙ sym (one_expected (hello_place job.task.statement.kind) stopped.place (Some (hello_place job.task.statement.kind)) refl stopped.expected))
    begun) rose

-- ---- which statement the hello is for

-- whatever came, what an honest prover sends begins with its hello
hello_first : (prover : ProverTask) (received sent : List ℕ) (turns : ℕ) → SentAfter prover received turns sent
    → BeginsWith sent (hello_frame (wanted_hello prover.file.id prover.statement))
hello_first prover received sent zero after = ([], after ∙ sym (append-nil (hello_frame (wanted_hello prover.file.id prover.statement))))
hello_first prover received sent (suc n) after =
    let later : List ℕ = flat_map (λ turn. turn.0) (take (suc n) (drop 1 (session_turns after.0))) in
    (later, after.5 ∙ ap (λ (greeting : Hello). hello_frame greeting ++ later) after.2.hello)

-- so a hello by which the log begins is that of the peer, and is for the statement that it proves
hello_fits : (job : VerifierJob) (prover : ProverTask) (said : Hello) (log : List (Side × ℕ)) → IsStatement job.task.statement
    → AreCounterparts prover job.task → IsFromHonestProver prover log → BeginsByHello said log → IsHelloOf job said
hello_fits job prover said log stated both honest begins =
    let wanted : Hello = wanted_hello prover.file.id prover.statement in
    let stated_too : IsStatement prover.statement = subst IsStatement (sym both.statement) stated in
    let first = hello_first prover (sent_by Verifier log) honest.0 honest.1.turns honest.1.answer in
    let later : List ℕ = sent_by Prover begins.1.0 in
    let came : sent_by Prover log ≡ hello_frame said ++ later =
    ap (sent_by Prover) begins.1.1 ∙ sent_by-append Prover (bytes_from Prover (hello_frame said)) begins.1.0
    ∙ ap (λ l. l ++ later) (own_bytes Prover (hello_frame said)) in
    let same : said ≡ wanted = (one_hello said wanted (later ++ honest.2.0) first.0 begins.0
    (wanted_is_hello prover.file.id prover.statement both.prover_file.id stated_too)
    (sym (append_assoc (hello_frame said) later honest.2.0) ∙ ap (λ l. l ++ honest.2.0) (sym came) ∙ sym honest.2.1 ∙ first.1)).0 in
    subst (IsHelloOf job) (sym same)
    (subst (λ (q : List ℕ × Statement). IsHelloFor q.0 q.1 wanted) (λ i. (both.dealt.id i, both.statement i))
    (wanted_fits prover.file.id prover.statement stated_too))

-- all jobs are about statements of one kind
kind_at : (jobs : VerifierJobs) (n : ℕ) → AreVerifierJobs jobs → n < length (all_jobs jobs)
    → (job_at jobs n).task.statement.kind ≡ jobs.first.task.statement.kind
kind_at jobs zero are within = refl
kind_at jobs (suc n) are within = are.one_kind n jobs.first (omega (arith, within))

kind_noted : (jobs : VerifierJobs) (taken : Option ℕ) (log : List (Side × ℕ)) → AreVerifierJobs jobs → HasTaken jobs taken log
    → (noted_job jobs taken).task.statement.kind ≡ jobs.first.task.statement.kind
kind_noted jobs None log are has = refl
kind_noted jobs (Some n) log are has = kind_at jobs n are has.1.within

-- hellos for one job are for the same others of its kind
fits_alike : (job other : VerifierJob) (one said : Hello) → other.task.statement.kind ≡ job.task.statement.kind → IsHelloOf job one → IsHelloOf job said → IsHelloOf other one → IsHelloOf other said
fits_alike job other one said same is fits also = record {
  id = fits.id ∙ sym is.id ∙ also.id;
  form = subst (λ (kind : StatementKind). HasForm kind said.public) (sym same) fits.form;
  version = fits.version ∙ ap (λ (kind : StatementKind). version_of kind said.public) (sym same);
  circuit = fits.circuit ∙ sym is.circuit ∙ also.circuit;
  outputs = fits.outputs ∙ sym is.outputs ∙ also.outputs;
  public = fits.public ∙ sym is.public ∙ also.public;
}

-- so they are taken for one
one_taken : (jobs : VerifierJobs) (m n : ℕ) (said other : Hello) → AreVerifierJobs jobs → IsFirstFor jobs m said → IsFirstFor jobs n other
    → IsHelloOf (job_at jobs n) said → m ≡ n
one_taken jobs m n said other are taken first fits = elim (cases_order m n) [
  | inl same ↦ same
  | inr (inl less) ↦ absurd (first.first m less (fits_alike (job_at jobs n) (job_at jobs m) said other
      (kind_at jobs m are taken.within ∙ sym (kind_at jobs n are first.within)) fits first.fits taken.fits))
  | inr (inr more) ↦ absurd (taken.first n more fits)
]

-- ---- after the grant

-- a session of an honest prover with a job's grant: as many rounds, elements, sums and MACs as its kind and the statement want
record IsTurn (job : VerifierJob) (start : ℕ) (u : Transcript) : Type 0 where
  count : length u.commitment.setup.rounds ≡ rounds_of job.task.file.params.kind
  rounds : All (IsRound job.task.file.params (granted_from job start)) u.commitment.setup.rounds
  elements : AreElements job.task.statement.program.givens u.commitment.corrections
  pairs : AreSums (section_count job.task.statement.program job.section_length) u.sums
  macs : AreElements (length job.task.statement.program.opened) u.openings

is_turn : (job : VerifierJob) (start : ℕ) (prover : ProverTask) (t : Transcript) (n : ℕ) (u : Transcript) → AreCounterparts prover job.task
    → t.commitment.setup.grant ≡ granted_from job start → IsHonestUpTo prover t n u → IsTurn job start u
is_turn job start prover t n u both grant upto =
    let is : IsTranscript job.task.file.params job.task.statement.program u =
    subst (λ (s : Statement). IsTranscript job.task.file.params s.program u) both.statement
    (subst (λ p. IsTranscript p prover.statement.program u) both.dealt.params upto.transcript) in
    record {
      count = is.commitment.setup.round_count;
      rounds = subst (λ (g : Grant). All (IsRound job.task.file.params g) u.commitment.setup.rounds) (upto.grant ∙ grant) is.commitment.setup.rounds;
      elements = record { counted = is.commitment.count; ranged = is.commitment.elements };
      pairs = record {
        counted = is.sum_count ∙ ap (λ (g : Grant). section_count job.task.statement.program g.section_length) (upto.grant ∙ grant);
        ranged = is.sums;
      };
      macs = record { counted = is.opening_count; ranged = is.openings };
    }

-- how many turns fix its correlations
setup_long : (job : VerifierJob) (start : ℕ) (u : Transcript) → IsTurn job start u → length (setup_turns u.commitment.setup) ≡ 1 + rounds_of job.task.file.params.kind
setup_long job start u is =
    let mapped : length (round_turns u.commitment.setup.rounds) ≡ length u.commitment.setup.rounds = length-map u.commitment.setup.rounds _ in
    omega (arith, mapped, is.count)

-- what it says in the turn after them, and in the last one
second_said : (job : VerifierJob) (start : ℕ) (u : Transcript) → IsTurn job start u
    → said_in u (1 + rounds_of job.task.file.params.kind) ≡ corrections_frame u.commitment.corrections
second_said job start u is =
    ap (λ (turn : List ℕ × List ℕ). turn.0) (get_or_at (setup_turns u.commitment.setup) (corrections_frame u.commitment.corrections, challenge_frame u.challenge)
    (last_turn u.sums u.openings u.code u.number ∷ []) ([], []) (1 + rounds_of job.task.file.params.kind) (setup_long job start u is))

third_said : (job : VerifierJob) (start : ℕ) (u : Transcript) → IsTurn job start u
    → said_in u (2 + rounds_of job.task.file.params.kind) ≡ sums_frame u.sums ++ openings_frame u.openings
third_said job start u is =
    let second : List ℕ × List ℕ = (corrections_frame u.commitment.corrections, challenge_frame u.challenge) in
    let last = last_turn u.sums u.openings u.code u.number in
    ap (λ (l : List (List ℕ × List ℕ)). (slice_index_or l (2 + rounds_of job.task.file.params.kind) ([], [])).0)
    (sym (append_assoc (setup_turns u.commitment.setup) (second ∷ []) (last ∷ [])))
    ∙ ap (λ (turn : List ℕ × List ℕ). turn.0) (get_or_at (setup_turns u.commitment.setup ++ second ∷ []) last [] ([], []) (2 + rounds_of job.task.file.params.kind)
    (omega (arith, setup_long job start u is, length-append (setup_turns u.commitment.setup) (second ∷ []))))

turns_served : (job : VerifierJob) (start whole : ℕ) (rest : List ℕ) (log : List (Side × ℕ)) → IsKnown job → (cut : IsCutOf job start whole rest log)
    → IsServedTurns job.task cut.session.t whole rest log
turns_served job start whole rest log known cut = record {
  stated = known.stated;
  transcript = cut.session.served.in_order.transcript;
  hello = cut.session.served.in_order.hello;
  replies = cut.session.served.replies;
  more = cut.more;
  bytes = cut.bytes;
}

grant_of : (job : VerifierJob) (start whole : ℕ) (rest : List ℕ) (log : List (Side × ℕ)) → (cut : IsCutOf job start whole rest log)
    → cut.session.t.commitment.setup.grant ≡ granted_from job start
grant_of job start whole rest log cut = ap (λ (c : Commitment). c.setup.grant) cut.session.commitment

-- what an honest peer says in a turn that was cut, of which this came
record IsSaid (job : VerifierJob) (start : ℕ) (outcome : VerifierOutcome) (whole : ℕ) (rest : List ℕ) : Type 0 where
  u : Transcript
  is : IsTurn job start u
  begun : BeginsWith (said_in u whole) rest
  ended : (at : ℕ) → outcome ≡ PeerEnded at → (other : Transcript) × IsTurn job start other × (rest ≡ said_in other whole)

honest_said : (job : VerifierJob) (start whole : ℕ) (rest : List ℕ) (prover : ProverTask) (outcome : VerifierOutcome) (log : List (Side × ℕ)) → HonestTurn → HonestTurnEnds
    → IsKnown job → HasHonestProver job prover outcome log → IsCutOf job start whole rest log → IsSaid job start outcome whole rest
honest_said job start whole rest prover outcome log turn ends known peer cut =
    let served = turns_served job start whole rest log known cut in
    let t = cut.session.t in
    let grant = grant_of job start whole rest log cut in
    let now = turn prover job.task t whole rest log peer.counterparts peer.witness served peer.honest in
    record {
      u = now.0;
      is = is_turn job start prover t whole now.0 peer.counterparts grant now.1;
      begun = now.2;
      ended = λ n is.
          let last = ends prover job.task t whole rest log peer.counterparts peer.witness served (peer.ended n is) in
          (last.0, is_turn job start prover t whole last.0 peer.counterparts grant last.1, last.2);
    }

-- ---- among the asks

-- the asks of a session's round
record SaysAsks (job : VerifierJob) (u : Transcript) : Type 0 where
  all : List (List TreeAsk)
  count : length all ≡ units_of_job job
  each : All (AreAsks job.task.file.params.height job.task.file.params.trees) all
  spoken : said_in u 1 ≡ flat_map ask_frame all

asks_of_rounds : (job : VerifierJob) (start : ℕ) (u : Transcript) (rounds : List Round) → u.commitment.setup.rounds ≡ rounds → length rounds ≡ 1
    → All (IsRound job.task.file.params (granted_from job start)) rounds → SaysAsks job u
asks_of_rounds job start u [] are one ranged = absurd (omega (arith, one))
asks_of_rounds job start u (round ∷ rounds) are one ranged =
    let is = (ranged 0 round (omega arith)).asks in
    record {
      all = round.asks;
      count = is.0;
      each = λ k d below. let unit = is.1 k d below in record { counted = unit.0; each = unit.1 };
      spoken = λ i. said_in (record u { commitment = record u.commitment { setup = record u.commitment.setup { rounds = are i } } }) 1;
    }

asks_said : (job : VerifierJob) (start : ℕ) (u : Transcript) → job.task.file.params.kind ≡ Extended → IsTurn job start u → SaysAsks job u
asks_said job start u extended is =
    asks_of_rounds job start u u.commitment.setup.rounds refl (is.count ∙ ap rounds_of extended) is.rounds

-- items before one, the one, and those after it
split_at : {A : Type 0} (f : A → List ℕ) (items : List A) (n : ℕ) (d : A) → n < length items
    → flat_map f items ≡ flat_map f (take n items) ++ (f (slice_index_or items n d) ++ flat_map f (drop (suc n) items))
split_at f [] n d below = absurd (omega (arith, below))
split_at f (item ∷ items) zero d below = refl
split_at f (item ∷ items) (suc n) d below =
    ap (λ l. f item ++ l) (split_at f items n d (omega (arith, below)))
    ∙ sym (append_assoc (f item) (flat_map f (take n items)) (f (slice_index_or items n d) ++ flat_map f (drop (suc n) items)))

-- what is left of all items after some holds one at least
one_left : (a u per r : ℕ) → a < u → a * per + r ≡ u * per → per ≤ r
one_left a u per r less same =
    omega (arith, mul-le-mul_right {m = a + 1} {n = u} per (omega (arith, less)), same)

-- all asks of a round have one length
asks_long : (job : VerifierJob) (u : Transcript) (says : SaysAsks job u)
    → length (said_in u 1) ≡ units_of_job job * (5 + job.task.file.params.trees * (job.task.file.params.height + 8))
asks_long job u says =
    ap length says.spoken ∙ asks_length job.task.file.params.height job.task.file.params.trees says.all says.each
    ∙ ap (λ n. n * (5 + job.task.file.params.trees * (job.task.file.params.height + 8))) says.count

-- What is said in a turn has a frame of this place behind so many bytes; as many came before these, which are no more than the frame, and
-- no less where the peer ended.
frame_begun : (place : Expect) (outcome : VerifierOutcome) (frame : Frame) (front before more rest tail : List ℕ) → Allows place frame
    → frame_length place (frame_spelling frame) ≡ longest place → length front ≡ length before
    → front ++ (frame_spelling frame ++ more) ≡ (before ++ rest) ++ tail → length rest ≤ longest place
    → ((at : ℕ) → outcome ≡ PeerEnded at → longest place ≤ length rest) → IsBegun place outcome rest
frame_begun place outcome frame front before more rest tail allowed fixed as_long said few ends =
    let sized = whole_length place (frame_spelling frame) frame (record { allowed = allowed; spelled = refl }) ∙ fixed in
    record {
      frame = frame;
      allowed = allowed;
      more = more;
      begun = (tail, (same_front front before (frame_spelling frame ++ more) (rest ++ tail) as_long (said ∙ append_assoc before rest tail)).1);
      whole = λ n ended. omega (arith, sized, ends n ended);
      most = omega (arith, sized, few);
      sized = omega (arith, sized, frame_most place rest);
    }

asks_begun : (job : VerifierJob) (start : ℕ) (asked : List (List TreeAsk)) (outcome : VerifierOutcome) (rest : List ℕ) (left : ℕ) → AreAsksSoFar job asked
    → IsSaid job start outcome 1 (flat_map ask_frame asked ++ rest)
    → length rest ≤ longest (expect.Ask job.task.file.params.height job.task.file.params.trees left)
    → IsBegun (expect.Ask job.task.file.params.height job.task.file.params.trees left) outcome rest
asks_begun job start asked outcome rest left so said few =
    let params = job.task.file.params in
    let n : ℕ = length asked in
    let per : ℕ = 5 + params.trees * (params.height + 8) in
    let says : SaysAsks job said.u = asks_said job start said.u so.extended said.is in
    let below : n < length says.all = omega (arith, so.more, says.count) in
    let trees : List TreeAsk = slice_index_or says.all n [] in
    let before : length (flat_map ask_frame asked) ≡ n * per = asks_length params.height params.trees asked so.each in
    let as_many : length (take n says.all) ≡ n = length-take-le n says.all (omega (arith, below)) in
    frame_begun (expect.Ask params.height params.trees left) outcome (asks trees) (flat_map ask_frame (take n says.all)) (flat_map ask_frame asked)
    (flat_map ask_frame (drop (suc n) says.all)) rest said.begun.0 (trees, refl, says.each n [] below) refl
    (asks_length params.height params.trees (take n says.all) (All-take (AreAsks params.height params.trees) n says.all says.each)
    ∙ ap (λ k. k * per) as_many ∙ sym before)
    (sym (split_at ask_frame says.all n [] below) ∙ sym says.spoken ∙ said.begun.1) few
    (λ k ended.
    let last = said.ended k ended in
    let same : n * per + length rest ≡ units_of_job job * per =
    ap (λ l. l + length rest) (sym before) ∙ sym (length-append (flat_map ask_frame asked) rest) ∙ ap length last.2
    ∙ asks_long job last.0 (asks_said job start last.0 so.extended last.1) in
    one_left n (units_of_job job) per (length rest) so.more same)

-- ---- after them

-- how long what is said in each turn is
second_long : (job : VerifierJob) (start : ℕ) (u : Transcript) → IsTurn job start u
    → length (said_in u (1 + rounds_of job.task.file.params.kind)) ≡ 5 + 8 * job.task.statement.program.givens
second_long job start u is =
    ap length (second_said job start u is) ∙ length_corrections u.commitment.corrections ∙ ap (λ n. 5 + 8 * n) is.elements.counted

third_long : (job : VerifierJob) (start : ℕ) (u : Transcript) → IsTurn job start u
    → length (said_in u (2 + rounds_of job.task.file.params.kind))
    ≡ 5 + 16 * section_count job.task.statement.program job.section_length + (5 + 8 * length job.task.statement.program.opened)
third_long job start u is =
    ap length (third_said job start u is) ∙ length-append (sums_frame u.sums) (openings_frame u.openings)
    ∙ (λ i. (length_sums u.sums ∙ ap (λ n. 5 + 16 * n) is.pairs.counted) i + (length_openings u.openings ∙ ap (λ n. 5 + 8 * n) is.macs.counted) i)

corrections_begun : (job : VerifierJob) (start : ℕ) (outcome : VerifierOutcome) (rest : List ℕ)
    → IsSaid job start outcome (1 + rounds_of job.task.file.params.kind) rest
    → length rest ≤ longest (expect.Corrections job.task.statement.program.givens)
    → IsBegun (expect.Corrections job.task.statement.program.givens) outcome rest
corrections_begun job start outcome rest said few =
    let d = said.u.commitment.corrections in
    frame_begun (expect.Corrections job.task.statement.program.givens) outcome (corrections d) [] [] [] rest said.begun.0 (d, refl, said.is.elements) refl refl
    (append-nil (corrections_frame d) ∙ sym (second_said job start said.u said.is) ∙ said.begun.1) few
    (λ n ended. let last = said.ended n ended in omega (arith, ap length last.2, second_long job start last.0 last.1))

sums_begun : (job : VerifierJob) (start : ℕ) (outcome : VerifierOutcome) (rest : List ℕ)
    → IsSaid job start outcome (2 + rounds_of job.task.file.params.kind) rest
    → length rest ≤ longest (expect.Sums (section_count job.task.statement.program job.section_length))
    → IsBegun (expect.Sums (section_count job.task.statement.program job.section_length)) outcome rest
sums_begun job start outcome rest said few =
    let both = said.u.sums in
    frame_begun (expect.Sums (section_count job.task.statement.program job.section_length)) outcome (sums both) [] [] (openings_frame said.u.openings) rest
    said.begun.0 (both, refl, said.is.pairs) refl refl (sym (third_said job start said.u said.is) ∙ said.begun.1) few
    (λ n ended. let last = said.ended n ended in omega (arith, ap length last.2, third_long job start last.0 last.1))

openings_begun : (job : VerifierJob) (start : ℕ) (outcome : VerifierOutcome) (both : List (ℕ × ℕ)) (rest : List ℕ)
    → AreSums (section_count job.task.statement.program job.section_length) both
    → IsSaid job start outcome (2 + rounds_of job.task.file.params.kind) (sums_frame both ++ rest)
    → length rest ≤ longest (expect.Openings (length job.task.statement.program.opened))
    → IsBegun (expect.Openings (length job.task.statement.program.opened)) outcome rest
openings_begun job start outcome both rest pairs said few =
    let macs = said.u.openings in
    let before : length (sums_frame both) ≡ 5 + 16 * section_count job.task.statement.program job.section_length =
    length_sums both ∙ ap (λ k. 5 + 16 * k) pairs.counted in
    frame_begun (expect.Openings (length job.task.statement.program.opened)) outcome (openings macs) (sums_frame said.u.sums) (sums_frame both) [] rest
    said.begun.0 (macs, refl, said.is.macs) refl (length_sums said.u.sums ∙ ap (λ n. 5 + 16 * n) said.is.pairs.counted ∙ sym before)
    (ap (λ l. sums_frame said.u.sums ++ l) (append-nil (openings_frame macs)) ∙ sym (third_said job start said.u said.is) ∙ said.begun.1) few
    (λ n ended.
    let last = said.ended n ended in
    omega (arith, ap length last.2, length-append (sums_frame both) rest, third_long job start last.0 last.1, before))

-- a session that stopped in a turn that was cut, where what came begins the frame that is expected
stopped_completes : (job : VerifierJob) (start : ℕ) (stage : VerifierStage) (place : Expect) (whole : ℕ) (bytes : List ℕ) (prover : ProverTask) (fault : LineFault)
    (first now : LinkSnapshot) → HonestTurn → HonestTurnEnds → IsKnown job → (stopped : IsStopped job stage fault first now)
    → HasHonestProver job prover (verifier_line_outcome fault) now.log → ¬ Rose first.faults now.faults → verifier_expects job stage ≡ Some place
    → IsCutOf job start whole bytes now.log
    → (IsSaid job start (verifier_line_outcome fault) whole bytes → length stopped.rest ≤ longest place → IsBegun place (verifier_line_outcome fault) stopped.rest)
    → IsComplete (verifier_line_outcome fault)
stopped_completes job start stage place whole bytes prover fault first now turn ends known stopped peer rose expects cut begun =
    stop_completes job stage fault first now stopped
    (subst (λ p. IsBegun p (verifier_line_outcome fault) stopped.rest) (one_expected stopped.place place (verifier_expects job stage) stopped.expected expects)
    (begun (honest_said job start whole bytes prover (verifier_line_outcome fault) now.log turn ends known peer cut) (few_of job stage now.log stopped.comes place expects)))
    rose

behind_completes : (job : VerifierJob) (start : ℕ) (stage : VerifierStage) (prover : ProverTask) (fault : LineFault) (first now : LinkSnapshot)
    → RepliesAreInRange → ServedSessionExists → HonestTurn → HonestTurnEnds → IsKnown job → IsBehind start stage
    → IsStopped job stage fault first now → HasHonestProver job prover (verifier_line_outcome fault) now.log → ¬ Rose first.faults now.faults
    → IsComplete (verifier_line_outcome fault)
behind_completes job start (awaits_asks begun asked) prover fault first now ranges law turn ends known starts stopped peer rose =
    stopped_completes job begun (awaits_asks begun asked) _ 1 (flat_map ask_frame asked ++ stopped.rest) prover fault first now turn ends known stopped peer rose refl
    (cut_asks job begun asked stopped.rest now.log ranges law known (cut_of_stop job (awaits_asks begun asked) now.log stopped.comes))
    (asks_begun job begun asked (verifier_line_outcome fault) stopped.rest (units_of_job job - length asked) stopped.waited.0)
behind_completes job start (awaits_corrections begun) prover fault first now ranges law turn ends known starts stopped peer rose =
    stopped_completes job begun (awaits_corrections begun) _ _ stopped.rest prover fault first now turn ends known stopped peer rose refl
    (cut_corrections job begun stopped.rest now.log law known (cut_of_stop job (awaits_corrections begun) now.log stopped.comes))
    (corrections_begun job begun (verifier_line_outcome fault) stopped.rest)
behind_completes job start (awaits_sums begun d) prover fault first now ranges law turn ends known starts stopped peer rose =
    stopped_completes job begun (awaits_sums begun d) _ _ stopped.rest prover fault first now turn ends known stopped peer rose refl
    (cut_sums job begun d stopped.rest now.log law known (cut_of_stop job (awaits_sums begun d) now.log stopped.comes))
    (sums_begun job begun (verifier_line_outcome fault) stopped.rest)
behind_completes job start (awaits_openings begun d both) prover fault first now ranges law turn ends known starts stopped peer rose =
    stopped_completes job begun (awaits_openings begun d both) _ _ (sums_frame both ++ stopped.rest) prover fault first now turn ends known stopped peer rose refl
    (cut_openings job begun d both stopped.rest now.log law known (cut_of_stop job (awaits_openings begun d both) now.log stopped.comes))
    (openings_begun job begun (verifier_line_outcome fault) both stopped.rest stopped.waited.1)
behind_completes job start (has_judged begun judgement) prover fault first now ranges law turn ends known starts stopped peer rose =
    absurd (none_is_some stopped.expected)
behind_completes job start other prover fault first now ranges law turn ends known starts stopped peer rose = absurd starts

-- ---- the whole session

-- the laws of honest peers
pub record AreLaws : Type 0 where
  pub ranges : RepliesAreInRange
  pub exists : ServedSessionExists
  pub turn : HonestTurn
  pub ends : HonestTurnEnds
  pub accepted : HonestWholeIsAccepted

-- where a statement was taken it is the caller's
same_number : (jobs : VerifierJobs) (taken : Option ℕ) (answer : Option (Result Span GrantFault)) (span : Span) (outcome : VerifierOutcome) (prover : ProverTask)
    (log : List (Side × ℕ)) → AreVerifierJobs jobs → AllBelow (length (all_jobs jobs)) (λ n. IsStatement (job_at jobs n).task.statement)
    → TakesStatement jobs taken answer outcome log
    → answer ≡ Some (Ok span) → (caller : HasHonestCaller jobs prover outcome log) → HasHonestProver (noted_job jobs taken) prover outcome log
same_number jobs None answer span outcome prover log are stated takes leased caller = absurd (none_is_some (sym (takes.none refl) ∙ leased))
same_number jobs (Some m) answer span outcome prover log are stated takes leased caller =
    let has = takes.has in
    let same : m ≡ caller.number = one_taken jobs m caller.number has.0 caller.hello are has.1 caller.first
    (hello_fits (job_at jobs caller.number) prover has.0 log (stated caller.number caller.first.within) caller.peer.counterparts caller.peer.honest has.2) in
    subst (λ n. HasHonestProver (job_at jobs n) prover outcome log) (sym same) caller.peer

pub completes : (jobs : VerifierJobs) (taken : Option ℕ) (ending : Ending) (first now : LinkSnapshot) → AreLaws → AreVerifierJobs jobs
    → AllBelow (length (all_jobs jobs)) (λ n. IsStatement (job_at jobs n).task.statement)
    → IsKnown (noted_job jobs taken) → TakesStatement jobs taken (answer_at ending) (outcome_at ending) now.log
    → HasEnding (noted_job jobs taken) ending first now → CompletesForEach jobs (answer_at ending) (outcome_at ending) first now
completes jobs taken (lacks_hello fault) first now laws are stated known takes has prover caller leased rose =
    first_completes (noted_job jobs taken) (job_at jobs caller.number) fault prover first now (stated caller.number caller.first.within)
    (kind_at jobs caller.number are caller.first.within ∙ sym (kind_noted jobs taken now.log are takes.has)) has caller.peer rose
completes jobs taken (turns_away (session.BadHello differs)) first now laws are stated known takes has prover caller leased rose =
    let met = takes.differs differs refl in
    absurd (met.1.1 caller.number caller.first.within
    (hello_fits (job_at jobs caller.number) prover met.1.0 now.log (stated caller.number caller.first.within) caller.peer.counterparts caller.peer.honest met.1.2))
completes jobs taken (turns_away session.NoMemory) first now laws are stated known takes has prover caller leased rose = inr refl
completes jobs taken (lacks_units fault) first now laws are stated known takes has prover caller leased rose = absurd (leased fault refl)
completes jobs taken (lacks_grant span) first now laws are stated known takes has prover caller leased rose = inr refl
completes jobs taken (loses_grant span fault) first now laws are stated known takes has prover caller leased rose =
    send_completes fault first now has.1.lost.fault_is has.1.lost.calls rose
completes jobs taken (stops_behind span fault) first now laws are stated known takes has prover caller leased rose =
    behind_completes (noted_job jobs taken) span.start has.1.stage prover fault first now laws.ranges laws.exists laws.turn laws.ends known has.1.behind
    has.1.stopped (same_number jobs taken (Some (Ok span)) span (verifier_line_outcome fault) prover now.log are stated takes refl caller) rose
completes jobs taken (judges span found) first now laws are stated known takes has prover caller leased rose =
    let peer = same_number jobs taken (Some (Ok span)) span (judgement_outcome found) prover now.log are stated takes refl caller in
    let job = noted_job jobs taken in
    let session = judged_session job span (Some span) found now.log known refl has.1.log in
    let accepted = laws.accepted prover job.task session.t (verdict_in found) now.log peer.counterparts peer.witness peer.claims session.served peer.honest in
    inl (accepted_judgement found (ap verdict_code accepted))
