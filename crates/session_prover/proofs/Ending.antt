-- How a session ends for a prover, wherever it stops.
use Rattle.std.proofs.Common.{◌≡◌, inl, inr, ℕ, ◌≤◌, List, [], ◌++◌, length, Some, None, refl, ap, sym, ◌∙◌, append-nil, arith, ◌⊎◌, zero, suc, ◌∷◌, flat_map, take, drop, subst, append_assoc, length-append}
use Rattle.zk_model.specs.Transcript.{Grant, IsGrant, bytes_from, sent_by, grant_frame, challenge_frame, turn_bytes, reply_frame, corrections_frame, sums_frame, openings_frame, Round, spelling, verdict_frame}
use Rattle.zk_model.specs.Frames.{Frame, grant, refuse, Allows, frame_spelling, corrections, verdict, FitsVerdict}
use Rattle.zk_model.specs.declared.Expect.{Expect}
use Rattle.zk_model.specs.declared.Side.{Side}
use Rattle.zk_model.specs.declared.Side.TheVariants.{Verifier, Prover}
use Rattle.frame_link.specs.Lines.{IsUnfinished, LinkSnapshot, IsCutShort}
use Rattle.frame_link.proofs.LineLemmas.{longest, within_longest}
use Rattle.session_core.specs.Jobs.{ProverJob, Suits}
use Rattle.session_prover.specs.declared.note.ProverOutcome.{ProverOutcome}
use Rattle.session_prover.specs.Outcomes.{prover_line_outcome, prover_fault_outcome, verdict_outcome}
use Rattle.session_prover.specs.Stages.{Claim, ClaimedFor, greeted_log, granted_log, IsProverLogAt, IsLogTaken, replied_log, fixed_log, all_asks, sums_for, openings_for, IsOpenedLog, opened_log, IsSoundJob, IsBehindGrant, IsRejection, AnswersEach}
use Rattle.session_prover.specs.Notes.{AnswersGrantPlace, IsClaimRefused, IsRelated, task_of, IsGrantRead, IsAskedRight, SendsOnceClaimed, IsAnswerDue, IsOutcome, CountsOutcome, SendsHonestly, SendsEach, AnswersVerdict, IsLogged, ReadsVerdict, HasEnded}
use Rattle.session_prover.proofs.Heard.{greeted_heard, granted_sent, turns_at, next_frame, IsUnheard, unread, Hears, read_so, same_stage, greeted_sent, not_heard, has_answered, from_ended, opened_sent, opened_heard, made, made_is, made_honest, finishes, all_sent}
use Rattle.session_prover.proofs.Answering.{suits_is, related_greeting, related_asks, related_replied, related_fixed, related_at, read_is, IsUnder, IsGrantAnswer, grant_answer, spelled_asks, answer_leads, answer_exists, answer_is_honest, read_under, next_of}
use Rattle.std.proofs.lemmas.Grind.{flat_map-append}
use Rattle.std.proofs.lemmas.List.{take-append-drop}
use Rattle.zk_model.specs.Mac.{Pair}
use Rattle.zk_model.specs.Files.{span_pairs}
use Rattle.zk_model.specs.HonestProver.{round_asks, IsWitness, AreHonestBytes}
use Rattle.zk_model.specs.View.{span_of}
use Rattle.session_core.specs.Cores.{ProverStage, awaits_grant, awaits_replies, awaits_challenge, awaits_verdict, Commits, AnswersGrant, ProverAnswers, ProverRefuses, prover_expects, has_ended}
use Rattle.zk_port.specs.Logs.{appended}
use Rattle.frame_link.specs.declared.fault.LineFault.{LineFault}
use Rattle.session_driver.specs.Runs.{Moves}
use Rattle.zk_model.specs.Peers.{IsFromHonestProver, HasEndedHonestly}
use Rattle.zk_port.specs.Counts.{}
use Rattle.session_core.specs.Rounds.{round_turns}
use Rattle.session_core.specs.declared.fault.ProverFault.{ProverFault}
use Rattle.session_prover.specs.declared.note.ProverOutcome.TheVariants.{NoMemory}
use Rattle.session_driver.proofs.Rows.{row_three, row_six, in_turns}
use Rattle.session_laws.proofs.Turns.{answered}
use Rattle.frame_laws.proofs.Hellos.{wanted_fits}
use Rattle.zk_model.specs.Check.{WirePairs}
use Rattle.session_driver.proofs.Going.{came_more, came_same, bytes_more, frame_is_some}
use Rattle.zk_model.specs.declared.Expect.TheVariants as expect
use Rattle.session_prover.specs.declared.note.ProverOutcome.TheVariants as outcome
use Rattle.frame_link.specs.declared.fault.LineFault.TheVariants as fault
use Rattle.frame_link.specs.Lines as lines
use Rattle.session_core.specs.declared.fault.ProverFault.TheVariants as session
use Rattle.session_prover.specs.Notes as notes
use Rattle.session_driver.specs.Leaving.{CountsCalls, GoesWell, IsSent, IsLostBy, IsSendFault, IsShortBy, KeepsBack, Misses, StopsShort, ComesAt}
use Rattle.session_prover.proofs.GrantPlace.{whole_is_finished, answers_unread, answers_claimed}

-- Where a prover's answers stop.

-- ---- the corrections that are sent where an answer is not all sent

-- the first of one frame are none, or it
one_or_none : (frame : Frame) (n : ℕ) → (take n (frame ∷ []) ≡ []) ⊎ (take n (frame ∷ []) ≡ frame ∷ [])
one_or_none frame zero = inl refl
one_or_none frame (suc zero) = inr refl
one_or_none frame (suc (suc n)) = inr refl

none_of_none : {A : Type 0} (n : ℕ) → take {A = A} n [] ≡ []
none_of_none zero = refl
none_of_none (suc n) = refl

-- where corrections answer, none of them are sent, or all
related_commits : (job : ProverJob) (claim : Claim) (given : Grant) (pairs : List Pair) (answer : List Frame) (now : ProverStage) (log : List (Side × ℕ)) (n : ℕ) → IsSoundJob job
    → Commits job given pairs answer now → IsProverLogAt job claim now (log ++ bytes_from Prover (flat_map frame_spelling answer)) → IsRelated job log
    → IsRelated job (log ++ bytes_from Prover (flat_map frame_spelling (take n answer)))
related_commits job claim given pairs answer now log n sound (d, wires, fixed, said, next) at before =
    let whole : IsRelated job ((log ++ bytes_from Prover (flat_map frame_spelling answer)) ++ bytes_from Verifier []) =
    related_at job claim now (log ++ bytes_from Prover (flat_map frame_spelling answer)) [] sound at in
    let c : List Frame = corrections d ∷ [] in
    subst (λ (l : List Frame). IsRelated job (log ++ bytes_from Prover (flat_map frame_spelling (take n l)))) (sym said)
    (elim (one_or_none (corrections d) n) [
      | inl none ↦ subst (λ (l : List Frame). IsRelated job (log ++ bytes_from Prover (flat_map frame_spelling l))) (sym none)
          (subst (IsRelated job) (sym (append-nil log)) before)
      | inr all ↦ subst (λ (l : List Frame). IsRelated job (log ++ bytes_from Prover (flat_map frame_spelling l))) (said ∙ sym all)
          (subst (IsRelated job) (append-nil (log ++ bytes_from Prover (flat_map frame_spelling answer))) whole)
    ])

-- a log after which a frame is to be answered
related_taken : (job : ProverJob) (claim : Claim) (stage : ProverStage) (frame : Frame) (log : List (Side × ℕ)) → IsSoundJob job
    → IsLogTaken job claim stage frame log → IsRelated job log
related_taken job claim awaits_grant frame log sound (given, is, claimed, granted, at) =
    related_greeting job log (ap (sent_by Prover) at ∙ granted_sent job given)
related_taken job claim (awaits_replies given came) frame log sound (trees, is, are, claimed, some, at) =
    related_replied job given (came ++ trees ∷ []) log [] some.extended some.granted (at ∙ sym (append-nil (replied_log job given (came ++ trees ∷ []))))
related_taken job claim (awaits_challenge given pairs wires) frame log sound (element, rounds, d, is, ranged, claimed, fixes, at) =
    related_fixed job given rounds pairs d wires log (bytes_from Verifier (challenge_frame element)) sound fixes at
related_taken job claim other frame log sound taken = absurd taken

-- and the first frames of its answer
pub related_answer : (job : ProverJob) (claim : Claim) (stage : ProverStage) (frame : Frame) (answer : List Frame) (now : ProverStage) (log : List (Side × ℕ)) (n : ℕ) → IsSoundJob job
    → IsLogTaken job claim stage frame log → ProverAnswers job stage frame answer now
    → IsRelated job (log ++ bytes_from Prover (flat_map frame_spelling (take n answer)))
related_answer job claim awaits_grant frame answer now log n sound (given, is, claimed, granted, at) (other, is_too, fits, answers) =
    of_answer (grant_answer job given answer now (let same : other ≡ given = cc in subst (λ g. AnswersGrant job g answer now) same answers))
  where
    part : List ℕ
    part = flat_map frame_spelling (take n answer)

    of_answer : IsGrantAnswer job given answer now → IsRelated job (log ++ bytes_from Prover (flat_map frame_spelling (take n answer)))
    of_answer (inl (direct, commits)) =
        related_commits job claim given (span_pairs job.file (span_of given)) answer now log n sound commits
        (answer_leads job claim awaits_grant frame answer now log sound (given, is, claimed, granted, at) (other, is_too, fits, answers))
        (related_taken job claim awaits_grant frame log sound (given, is, claimed, granted, at))
    of_answer (inr (extended, said, next)) =
        related_asks job given (log ++ bytes_from Prover part) (bytes_from Prover part) part (flat_map frame_spelling (drop n answer)) extended granted
        (ap (λ l. l ++ bytes_from Prover part) at)
        (came_more Verifier log part ∙ ap (λ l. l ++ part) (ap (sent_by Prover) at ∙ granted_sent job given))
        (sym (spelled_asks (round_asks job.file given)) ∙ ap (flat_map frame_spelling) (sym said ∙ sym (take-append-drop n answer))
        ∙ flat_map-append frame_spelling (take n answer) (drop n answer))
related_answer job claim (awaits_replies given came) frame answer now log n sound taken (trees, is, inl (less, said, next)) =
    subst (λ (l : List Frame). IsRelated job (log ++ bytes_from Prover (flat_map frame_spelling l))) (sym (ap (take n) said ∙ none_of_none n))
    (subst (IsRelated job) (sym (append-nil log)) (related_taken job claim (awaits_replies given came) frame log sound taken))
related_answer job claim (awaits_replies given came) frame answer now log n sound taken (trees, is, inr (all, pairs, made, commits)) =
    related_commits job claim given pairs answer now log n sound commits
    (answer_leads job claim (awaits_replies given came) frame answer now log sound taken (trees, is, inr (all, pairs, made, commits)))
    (related_taken job claim (awaits_replies given came) frame log sound taken)
related_answer job claim (awaits_challenge given pairs wires) frame answer now log n sound (element, rounds, d, is, ranged, claimed, fixes, at) answers =
    let v : List (Side × ℕ) = bytes_from Prover (flat_map frame_spelling (take n answer)) in
    related_fixed job given rounds pairs d wires (log ++ v) (bytes_from Verifier (challenge_frame element) ++ v) sound fixes
    (ap (λ l. l ++ v) at ∙ append_assoc (fixed_log job given rounds d) (bytes_from Verifier (challenge_frame element)) v)
related_answer job claim other frame answer now log n sound taken answers = absurd taken

-- ---- where sending stops

-- What is to be sent after a log: what an honest prover sends next; each beginning of it may be sent.
pub record IsDue (job : ProverJob) (claim : Claim) (log : List (Side × ℕ)) (bytes : List ℕ) : Type 0 where
  pub honest : (inputs wires : List ℕ) → IsWitness job.statement inputs wires job.given
      → AreHonestBytes (task_of job inputs) (sent_by Verifier log) (sent_by Prover log ++ bytes)
  pub asked : (more : List (Side × ℕ)) → IsAskedRight job claim (log ++ more)
  pub claimed : (more rest : List ℕ) → bytes ≡ more ++ rest → SendsOnceClaimed job claim (log ++ bytes_from Prover more)
  pub answers : (outcome : ProverOutcome) → AnswersGrantPlace job claim outcome log

-- counts of a line's fault
counts_line : (f : LineFault) (first now : LinkSnapshot) → CountsCalls f first now → CountsOutcome (prover_line_outcome f) first.faults now.faults
counts_line fault.Link first now calls = record { later = calls.later; unfailed = λ no. absurd (no refl) }
counts_line other first now calls = record { later = calls.later; unfailed = λ no. calls.unfailed tt }

-- how many frames an answer has at the least whose send fails so
abbrev pub least_for : LineFault → ℕ
least_for fault.Link = 1
least_for other = 0

pub some_for : (f : LineFault) (count : ℕ) → 1 ≤ count → least_for f ≤ count
some_for fault.Link count some = some
some_for other count some = omega arith

-- what was due after the log was not sent
abbrev pub KeepsDue : List ℕ → LineFault → LinkSnapshot → LinkSnapshot → Type 0
KeepsDue bytes f first now = KeepsBack None Prover now.log bytes f first now

-- behind this log
pub kept_log : (log : List (Side × ℕ)) (bytes : List ℕ) (f : LineFault) (first now : LinkSnapshot) → KeepsBack None Prover log bytes f first now → now.log ≡ log
kept_log log bytes f first now (inl lacks) = lacks.1.logged
kept_log log bytes f first now (inr lost) = lost.logged

pub keeps_due : (log : List (Side × ℕ)) (bytes : List ℕ) (f : LineFault) (first now : LinkSnapshot) → KeepsBack None Prover log bytes f first now
    → KeepsDue bytes f first now
keeps_due log bytes f first now kept = subst (λ l. KeepsBack None Prover l bytes f first now) (sym (kept_log log bytes f first now kept)) kept

module _ (job : ProverJob) (claim : Claim) (first : LinkSnapshot) (bytes : List ℕ) (f : LineFault) (now : LinkSnapshot) (due : IsDue job claim now.log bytes) where
  from_due : (inputs wires : List ℕ) → IsWitness job.statement inputs wires job.given → (more rest : List ℕ) → bytes ≡ more ++ rest
      → IsFromHonestProver (task_of job inputs) (now.log ++ bytes_from Prover more)
  from_due inputs wires witness more rest is = (
    sent_by Prover now.log ++ bytes,
    subst (λ l. AreHonestBytes (task_of job inputs) l (sent_by Prover now.log ++ bytes)) (sym (came_same Prover now.log more)) (due.honest inputs wires witness),
    (rest, ap (λ l. sent_by Prover now.log ++ l) is ∙ sym (append_assoc (sent_by Prover now.log) more rest) ∙ ap (λ l. l ++ rest) (sym (came_more Verifier now.log more))),
  )

  from_log : (inputs wires : List ℕ) → IsWitness job.statement inputs wires job.given → IsFromHonestProver (task_of job inputs) now.log
  from_log inputs wires witness = subst (λ l. IsFromHonestProver (task_of job inputs) l) (append-nil now.log) (from_due inputs wires witness [] bytes refl)

  at_fault : (g : LineFault) → IsSendFault g → SendsHonestly job now.log (prover_line_outcome g) × notes.IsFault (prover_line_outcome g)
  at_fault fault.Link is = (from_log, tt)
  at_fault fault.NoMemory is = (from_log, tt)
  at_fault other is = absurd is

  fault_of : KeepsDue bytes f first now → IsSendFault f
  fault_of (inl lacks) = subst IsSendFault (sym lacks.0) tt
  fault_of (inr lost) = lost.fault_is

  lost_so : (g : LineFault) → IsAnswerDue job claim (least_for g) now.log → IsLostBy g Prover now.log bytes first now
      → IsOutcome job claim now.log first now (prover_line_outcome g)
  lost_so fault.Link owed lost = (lost.calls.failed refl, inr (owed, lost.sends, lost.refused_sends))
  lost_so fault.NoMemory owed lost = inr (inl owed)
  lost_so other owed lost = absurd lost.fault_is

  caused : IsAnswerDue job claim (least_for f) now.log → KeepsDue bytes f first now → IsOutcome job claim now.log first now (prover_line_outcome f)
  caused owed (inl lacks) = subst (λ g. IsOutcome job claim now.log first now (prover_line_outcome g)) (sym lacks.0)
      (inr (inl (subst (λ g. IsAnswerDue job claim (least_for g) now.log) lacks.0 owed)))
  caused owed (inr lost) = lost_so f owed lost

  sent_each : KeepsDue bytes f first now → SendsEach (prover_line_outcome f) now.log first now
  sent_each (inl lacks) = inl (lacks.1.sends, lacks.1.refused_sends)
  sent_each (inr lost) = inr ((at_fault f lost.fault_is).1, lost.sends, lost.refused_sends)

  counts_calls : KeepsDue bytes f first now → CountsOutcome (prover_line_outcome f) first.faults now.faults
  counts_calls (inl lacks) = record { later = omega (arith, lacks.1.faults); unfailed = λ _. lacks.1.faults }
  counts_calls (inr lost) = counts_line f first now lost.calls

  told : KeepsDue bytes f first now → IsLogged job claim (prover_line_outcome f) now.log first now
  told (inl lacks) = record {
    part = [];
    told = lacks.1.told ∙ ap (λ l. appended l first.told) (sym (append-nil now.log));
    refused = inl (refl, lacks.1.refused_sends);
    honest = λ inputs wires witness. from_due inputs wires witness [] bytes refl;
    claimed = due.claimed [] bytes refl;
  }
  told (inr lost) =
      let part = take lost.count bytes in
      let rest = drop lost.count bytes in
      let whole = sym (take-append-drop lost.count bytes) in
      record {
        part = part;
        told = lost.told;
        refused = inr ((at_fault f lost.fault_is).1, lost.refused_sends);
        honest = λ inputs wires witness. from_due inputs wires witness part rest whole;
        claimed = due.claimed part rest whole;
      }

  pub stops_sending : IsAnswerDue job claim (least_for f) now.log → KeepsDue bytes f first now → IsRelated job now.log → IsUnheard job now.log
      → HasEnded job claim first (prover_line_outcome f) now
  stops_sending owed kept related unheard = record {
    outcome_is = caused owed kept;
    asked = subst (λ l. IsAskedRight job claim l) (append-nil now.log) (due.asked []);
    honest = (at_fault f (fault_of kept)).0;
    claimed = subst (λ l. SendsOnceClaimed job claim l) (append-nil now.log) (due.claimed [] bytes refl);
    related = related;
    answers = due.answers (prover_line_outcome f);
    verdict = unread job (prover_line_outcome f) now.log unheard;
    sends = sent_each kept;
    logged = told kept;
    count = counts_calls kept;
  }

-- ---- answers over a line

-- the grant that an answer stands on
under_by : (job : ProverJob) (claim : Claim) (given : Grant) (more log : List (Side × ℕ)) → ClaimedFor claim given
    → IsGrant job.file.params job.statement.program given → log ≡ granted_log job given ++ more → IsUnder job claim log
under_by job claim given more log claimed granted logged =
    record { given = given; claimed = claimed; granted = granted; more = more; logged = logged }

under : (job : ProverJob) (claim : Claim) (stage : ProverStage) (frame : Frame) (log : List (Side × ℕ)) → IsLogTaken job claim stage frame log
    → IsUnder job claim log
under job claim awaits_grant frame log (given, is, claimed, granted, at) =
    under_by job claim given [] log claimed granted (at ∙ sym (append-nil (granted_log job given)))
under job claim (awaits_replies given came) frame log (trees, is, are, claimed, some, at) =
    let a = bytes_from Prover (all_asks job given) in
    let r = bytes_from Verifier (flat_map reply_frame (came ++ trees ∷ [])) in
    under_by job claim given (a ++ r) log claimed some.granted (at ∙ append_assoc (granted_log job given) a r)
under job claim (awaits_challenge given pairs wires) frame log (element, rounds, d, is, ranged, claimed, fixes, at) =
    let r = turn_bytes (round_turns rounds) in
    let c = bytes_from Prover (corrections_frame d) in
    let b = bytes_from Verifier (challenge_frame element) in
    under_by job claim given (r ++ (c ++ b)) log claimed fixes.granted (at ∙ row_three (granted_log job given) r c b)
under job claim other frame log taken = absurd taken

-- an answer is due
answer_due : (job : ProverJob) (claim : Claim) (stage : ProverStage) (frame : Frame) (answer : List Frame) (now : ProverStage) (log : List (Side × ℕ))
    → IsSoundJob job → IsLogTaken job claim stage frame log → ProverAnswers job stage frame answer now
    → IsDue job claim log (flat_map frame_spelling answer)
answer_due job claim stage frame answer now log sound taken answers = record {
  honest = λ inputs wires witness. answer_is_honest job claim stage frame answer now log inputs wires sound taken answers witness;
  asked = λ more. inr (u.given, read more, inl u.claimed);
  claimed = λ more rest is. inr (u.given, read (bytes_from Prover more), u.claimed);
  answers = λ outcome. answers_claimed job claim u.given outcome log sound u.claimed u.granted (u.more, u.logged);
}
  where
    u : IsUnder job claim log
    u = under job claim stage frame log taken

    read : (more : List (Side × ℕ)) → IsGrantRead job (log ++ more) u.given
    read more = read_is job u.given (log ++ more) (u.more ++ more) u.granted
        (ap (λ l. l ++ more) u.logged ∙ append_assoc (granted_log job u.given) u.more more)

-- where a frame is to be answered, what comes after it was not heard
pub taken_unheard : (job : ProverJob) (claim : Claim) (stage : ProverStage) (frame : Frame) (log : List (Side × ℕ)) → IsSoundJob job
    → IsLogTaken job claim stage frame log → IsUnheard job log
taken_unheard job claim stage frame log sound taken =
    let found = answer_exists job claim stage frame log sound taken in
    let bytes : List ℕ = flat_map frame_spelling found.0 in
    let at = answer_leads job claim stage frame found.0 found.1 log sound taken found.2 in
    let next = next_of job claim stage frame found.0 found.1 log taken found.2 in
    record {
      turn = turns_at job found.1;
      unheard = λ heard.
          let coming = next_frame job claim found.1 next.awaited (log ++ bytes_from Prover bytes) [] [] sound at next.expected
          (subst (λ l. Hears (task_of job []) l (turns_at job found.1))
          (sym (append-nil (sent_by Verifier (log ++ bytes_from Prover bytes)) ∙ came_same Prover log bytes)) heard) in
          omega (arith, frame_is_some coming.frame, ap length coming.begun, length-append (frame_spelling coming.frame) coming.tail);
    }

-- an answer is not sent
pub stops_answering : (job : ProverJob) (claim : Claim) (first : LinkSnapshot) (stage : ProverStage) (frame : Frame) (answer : List Frame) (next : ProverStage) (f : LineFault)
    (now : LinkSnapshot) → IsSoundJob job → IsLogTaken job claim stage frame now.log → ProverAnswers job stage frame answer next → least_for f ≤ length answer
    → KeepsDue (flat_map frame_spelling answer) f first now → HasEnded job claim first (prover_line_outcome f) now
stops_answering job claim first stage frame answer next f now sound taken answers some kept =
    stops_sending job claim first (flat_map frame_spelling answer) f now
    (answer_due job claim stage frame answer next now.log sound taken answers)
    (inr (record { stage = stage; frame = frame; taken = taken; answer = answer; next = next; answers = answers; some = some })) kept
    (subst (IsRelated job) (append-nil now.log) (related_answer job claim stage frame answer next now.log 0 sound taken answers))
    (taken_unheard job claim stage frame now.log sound taken)

-- no answer is found
pub stops_unanswered : (job : ProverJob) (claim : Claim) (first : LinkSnapshot) (stage : ProverStage) (frame : Frame) (now : LinkSnapshot)
    → IsSoundJob job → IsLogTaken job claim stage frame now.log → AnswersEach first now → HasEnded job claim first NoMemory now
stops_unanswered job claim first stage frame now sound taken well =
    let found = answer_exists job claim stage frame now.log sound taken in
    stops_answering job claim first stage frame found.0 found.1 fault.NoMemory now sound taken found.2 (omega arith) (inl (refl, well))

-- the prover refuses to answer: only for want of memory
pub refuses_nothing : (job : ProverJob) (claim : Claim) (first : LinkSnapshot) (stage : ProverStage) (frame : Frame) (f : ProverFault) (line : LinkSnapshot)
    → IsSoundJob job → IsLogTaken job claim stage frame line.log → AnswersEach first line → ProverRefuses job stage frame f
    → HasEnded job claim first (prover_fault_outcome f) line
refuses_nothing job claim first stage frame session.BadGrant line sound taken well (given, there, is, unsuited) =
    absurd (elsewhere stage frame taken is unsuited)
  where
    elsewhere : (stage : ProverStage) (frame : Frame) → IsLogTaken job claim stage frame line.log → frame ≡ grant given
        → (Suits job.file.params job.statement.program given → ⊥) → ⊥
    elsewhere awaits_grant frame (other, is_too, claimed, granted, at) is unsuited =
        let same : other ≡ given = cc in
        unsuited (suits_is job.file.params job.statement.program given (subst (IsGrant job.file.params job.statement.program) same granted))
    elsewhere (awaits_replies other came) frame (trees, is_too, are, claimed, some, at) is unsuited = cc
    elsewhere (awaits_challenge other pairs wires) frame (element, rounds, d, is_too, ranged, claimed, fixes, at) is unsuited = cc
    elsewhere other frame taken is unsuited = taken
refuses_nothing job claim first stage frame (session.PeerRefused code) line sound taken well (there, is) = absurd (elsewhere stage frame taken is)
  where
    elsewhere : (stage : ProverStage) (frame : Frame) → IsLogTaken job claim stage frame line.log → frame ≡ refuse code → ⊥
    elsewhere awaits_grant frame (given, is_too, claimed, granted, at) is = cc
    elsewhere (awaits_replies other came) frame (trees, is_too, are, claimed, some, at) is = cc
    elsewhere (awaits_challenge other pairs wires) frame (element, rounds, d, is_too, ranged, claimed, fixes, at) is = cc
    elsewhere other frame taken is = taken
refuses_nothing job claim first stage frame session.NoMemory line sound taken well refused = stops_unanswered job claim first stage frame line sound taken well

-- Why a session ends where it does.

-- ---- the claim

-- the grant that a log stands on where the prover waits after it
under_at : (job : ProverJob) (claim : Claim) (stage : ProverStage) (before more : List (Side × ℕ)) → IsBehindGrant stage → IsProverLogAt job claim stage before
    → IsUnder job claim (before ++ more)
under_at job claim (awaits_replies given came) before more behind (claimed, some, at) =
    let a = bytes_from Prover (all_asks job given) in
    let r = bytes_from Verifier (flat_map reply_frame came) in
    under_by job claim given (a ++ (r ++ more)) (before ++ more) claimed some.granted
    (ap (λ l. l ++ more) at ∙ row_three (granted_log job given) a r more)
under_at job claim (awaits_challenge given pairs wires) before more behind (rounds, d, claimed, fixes, at) =
    let r = turn_bytes (round_turns rounds) in
    let c = bytes_from Prover (corrections_frame d) in
    under_by job claim given (r ++ (c ++ more)) (before ++ more) claimed fixes.granted
    (ap (λ l. l ++ more) at ∙ row_three (granted_log job given) r c more)
under_at job claim awaits_verdict before more behind opened =
    let r = turn_bytes (round_turns opened.rounds) in
    let c = bytes_from Prover (corrections_frame opened.d) in
    let b = bytes_from Verifier (challenge_frame opened.element) in
    let s = bytes_from Prover (sums_frame (sums_for job opened.given opened.pairs opened.wires opened.element)) in
    let o = bytes_from Prover (openings_frame (openings_for job opened.wires)) in
    under_by job claim opened.given (r ++ (c ++ (b ++ (s ++ (o ++ more))))) (before ++ more) opened.claimed opened.fixes.granted
    (ap (λ l. l ++ more) opened.logged ∙ row_six (granted_log job opened.given) r c b s o more)
under_at job claim other before more behind at = absurd behind

read_at : (job : ProverJob) (claim : Claim) (stage : ProverStage) (before more : List (Side × ℕ)) → IsProverLogAt job claim stage before
    → (claim.answer ≡ None) × (before ≡ greeted_log job) ⊎ IsUnder job claim (before ++ more)
read_at job claim awaits_grant before more at = inl at
read_at job claim has_ended before more at = absurd at
read_at job claim stage before more at = inr (under_at job claim stage before more tt at)

-- where the prover waits, the claimant was asked right
pub asked_at : (job : ProverJob) (claim : Claim) (stage : ProverStage) (before more : List (Side × ℕ)) → IsProverLogAt job claim stage before
    → IsAskedRight job claim (before ++ more)
asked_at job claim stage before more at = elim (read_at job claim stage before more at) [
  | inl none ↦ inl none.0
  | inr u ↦ inr (u.given, read_under job claim (before ++ more) u, inl u.claimed)
]

-- and nothing is sent past the greeting unless it claimed
pub once_claimed : (job : ProverJob) (claim : Claim) (stage : ProverStage) (before : List (Side × ℕ)) (rest : List ℕ) → IsProverLogAt job claim stage before
    → SendsOnceClaimed job claim (before ++ bytes_from Verifier rest)
once_claimed job claim stage before rest at = elim (read_at job claim stage before (bytes_from Verifier rest) at) [
  | inl none ↦ inl (
    [],
    sym (append-nil (sent_by Prover (before ++ bytes_from Verifier rest))
        ∙ came_same Verifier before rest ∙ ap (sent_by Prover) none.1 ∙ greeted_sent job),
  )
  | inr u ↦ inr (u.given, read_under job claim (before ++ bytes_from Verifier rest) u, u.claimed)
]

-- what is in the grant's place is answered, where the prover waits after it
pub answers_behind_claim : (job : ProverJob) (claim : Claim) (stage : ProverStage) (before more : List (Side × ℕ)) (outcome : ProverOutcome)
    → IsSoundJob job → IsBehindGrant stage → IsProverLogAt job claim stage before → AnswersGrantPlace job claim outcome (before ++ more)
answers_behind_claim job claim stage before more outcome sound behind at =
    let u = under_at job claim stage before more behind at in
    answers_claimed job claim u.given outcome (before ++ more) sound u.claimed u.granted (u.more, u.logged)

-- what is in the grant's place is answered: no whole frame is there yet, or its units were claimed
pub answers_at : (job : ProverJob) (claim : Claim) (stage : ProverStage) (awaited : Expect) (before : List (Side × ℕ)) (bytes : List ℕ) (outcome : ProverOutcome)
    → IsSoundJob job → IsProverLogAt job claim stage before → prover_expects job stage ≡ Some awaited → IsUnfinished awaited bytes
    → AnswersGrantPlace job claim outcome (before ++ bytes_from Verifier bytes)
answers_at job claim awaits_grant awaited before bytes outcome sound at expected unfinished =
    answers_unread job claim outcome (before ++ bytes_from Verifier bytes) at.0
    (λ frame allowed is. whole_is_finished expect.Grant frame bytes allowed
    (ap (λ l. l ++ bytes) (sym (ap (sent_by Verifier) at.1 ∙ greeted_heard job)) ∙ sym (came_more Prover before bytes) ∙ is)
    (subst (λ (e : Expect). IsUnfinished e bytes) (same_stage expect.Grant awaited expected) unfinished))
answers_at job claim has_ended awaited before bytes outcome sound at expected unfinished = absurd at
answers_at job claim stage awaited before bytes outcome sound at expected unfinished =
    answers_behind_claim job claim stage before (bytes_from Verifier bytes) outcome sound tt at

-- ---- what the link tells

-- a session of which nothing is told beside its log
ends_sent : (job : ProverJob) (claim : Claim) (first : LinkSnapshot) (outcome : ProverOutcome) (line : LinkSnapshot)
    → IsSent Prover line.log first line → CountsOutcome outcome first.faults line.faults
    → IsOutcome job claim line.log first line outcome → IsAskedRight job claim line.log
    → SendsOnceClaimed job claim line.log → IsRelated job line.log → AnswersGrantPlace job claim outcome line.log
    → AnswersVerdict job outcome line.log → SendsHonestly job line.log outcome
    → ((inputs wires : List ℕ) → IsWitness job.statement inputs wires job.given → IsFromHonestProver (task_of job inputs) line.log)
    → HasEnded job claim first outcome line
ends_sent job claim first outcome line sent count is asked claimed related answers answered honest from = record {
  outcome_is = is;
  asked = asked;
  honest = honest;
  claimed = claimed;
  related = related;
  answers = answers;
  verdict = answered;
  sends = inl (sent.sends, sent.refused_sends);
  logged = record {
    part = [];
    told = sent.told ∙ ap (λ l. appended l first.told) (sym none);
    refused = inl (refl, sent.refused_sends);
    honest = λ inputs wires witness. subst (λ l. IsFromHonestProver (task_of job inputs) l) (sym none) (from inputs wires witness);
    claimed = subst (λ l. SendsOnceClaimed job claim l) (sym none) claimed;
  };
  count = count;
}
  where
    none : line.log ++ bytes_from Prover [] ≡ line.log
    none = append-nil line.log

-- and that goes well up to its end
pub ends_well : (job : ProverJob) (claim : Claim) (first : LinkSnapshot) (outcome : ProverOutcome) (line : LinkSnapshot) → AnswersEach first line
    → IsOutcome job claim line.log first line outcome → IsAskedRight job claim line.log
    → SendsOnceClaimed job claim line.log → IsRelated job line.log → AnswersGrantPlace job claim outcome line.log
    → AnswersVerdict job outcome line.log → SendsHonestly job line.log outcome
    → ((inputs wires : List ℕ) → IsWitness job.statement inputs wires job.given → IsFromHonestProver (task_of job inputs) line.log)
    → HasEnded job claim first outcome line
ends_well job claim first outcome line well =
    ends_sent job claim first outcome line well.sent (record { later = omega (arith, well.faults); unfailed = λ _. well.faults })

-- ---- a frame came, or none

-- where a prover waited
pub record Comes (job : ProverJob) (claim : Claim) (first : LinkSnapshot) (stage : ProverStage) (frame : Frame) (now : LinkSnapshot) : Type 0 where
  pub before : List (Side × ℕ)
  pub waited : IsProverLogAt job claim stage before
  pub logged : now.log ≡ before ++ bytes_from Verifier (frame_spelling frame)
  pub well : AnswersEach first now

-- what passed goes well
pub well_of : (log : List (Side × ℕ)) (first now : LinkSnapshot) → GoesWell Prover log first now → AnswersEach first now
well_of log first now well = subst (λ l. GoesWell Prover l first now) (sym well.logged) well

-- a frame has come
pub comes : (job : ProverJob) (claim : Claim) (stage : ProverStage) (frame : Frame) (log : List (Side × ℕ)) (first now : LinkSnapshot)
    → IsProverLogAt job claim stage log → GoesWell Prover (log ++ bytes_from Verifier (frame_spelling frame)) first now → Comes job claim first stage frame now
comes job claim stage frame log first now at well =
    record { before = log; waited = at; logged = well.logged; well = well_of (log ++ bytes_from Verifier (frame_spelling frame)) first now well }

-- what was sent is for an honest prover, whatever the fault
sent_line : (f : LineFault) (job : ProverJob) (log : List (Side × ℕ))
    → ((inputs wires : List ℕ) → IsWitness job.statement inputs wires job.given → HasEndedHonestly (task_of job inputs) log)
    → SendsHonestly job log (prover_line_outcome f)
sent_line fault.Link job log ended inputs wires witness = from_ended job inputs log (ended inputs wires witness)
sent_line fault.NoMemory job log ended inputs wires witness = from_ended job inputs log (ended inputs wires witness)
sent_line other job log ended inputs wires witness = ended inputs wires witness

-- none has come
pub stops_taking : {S F : Type 0} (moves : Moves S F) (job : ProverJob) (claim : Claim) (stage : ProverStage) (log : List (Side × ℕ)) (mid other : S) (f : LineFault)
    (first now : LinkSnapshot) → IsSoundJob job → IsProverLogAt job claim stage log → moves.expects mid ≡ prover_expects job stage
    → Misses moves Prover log mid other f first now → HasEnded job claim first (prover_line_outcome f) now
stops_taking moves job claim stage log mid other f first now sound at same misses =
    ends_sent job claim first (prover_line_outcome f) now sent (counts_line f first now short.calls) (by_fault f short.cause short.calls short.part.cut)
    (subst (λ l. IsAskedRight job claim l) (sym logged) (asked_at job claim stage log (bytes_from Verifier rest) at))
    (subst (λ l. SendsOnceClaimed job claim l) (sym logged) (once_claimed job claim stage log rest at))
    (subst (IsRelated job) (sym logged) (related_at job claim stage log rest sound at))
    (subst (AnswersGrantPlace job claim (prover_line_outcome f)) (sym logged)
    (answers_at job claim stage misses.place log rest (prover_line_outcome f) sound at expected short.part.unfinished))
    (unread job (prover_line_outcome f) now.log (record {
      turn = turns_at job stage;
      unheard = λ heard. not_heard job claim stage misses.place log rest [] sound at expected within short.part.unfinished
          (subst (λ l. Hears (task_of job []) l (turns_at job stage)) (ap (sent_by Verifier) logged ∙ came_more Prover log rest) heard);
    }))
    (sent_line f job now.log ended) (λ inputs wires witness. from_ended job inputs now.log (ended inputs wires witness))
  where
    rest : List ℕ
    rest = misses.rest

    short : StopsShort Prover (log ++ bytes_from Verifier misses.rest) misses.place misses.rest f first now
    short = misses.short

    logged : now.log ≡ log ++ bytes_from Verifier misses.rest
    logged = misses.short.logged

    expected : prover_expects job stage ≡ Some misses.place
    expected = sym same ∙ misses.expected

    within : length misses.rest ≤ longest misses.place
    within = within_longest misses.place misses.rest misses.short.part.few

    sent : IsSent Prover now.log first now
    sent = subst (λ l. IsSent Prover l first now) (sym misses.short.logged) misses.short.sent

    ended : (inputs wires : List ℕ) → IsWitness job.statement inputs wires job.given → HasEndedHonestly (task_of job inputs) now.log
    ended inputs wires witness = subst (λ l. HasEndedHonestly (task_of job inputs) l) (sym misses.short.logged)
        (has_answered job claim stage misses.place log misses.rest inputs wires sound at (sym same ∙ misses.expected)
        (within_longest misses.place misses.rest misses.short.part.few) misses.short.part.unfinished witness)

    comes_so : ComesAt (IsProverLogAt job claim) (prover_expects job) Verifier stage now.log
    comes_so = record {
      before = log;
      waited = at;
      place = misses.place;
      expected = sym same ∙ misses.expected;
      rest = misses.rest;
      few = misses.short.part.few;
      logged = misses.short.logged;
    }

    by_fault : (f : LineFault) → IsShortBy Verifier misses.place misses.rest f now → CountsCalls f first now
        → (lines.IsNoBadByte f → IsCutShort misses.place misses.rest) → IsOutcome job claim now.log first now (prover_line_outcome f)
    by_fault (fault.PeerEnded place_at) cause calls cut =
        let begun = cut tt in
        (record { stage = stage; comes = comes_so; cause = (begun.goes_on, begun.short) }, cause.0, cause.1, cause.2)
    by_fault (fault.BadFrame place_at) cause calls cut = (cause.0, record { stage = stage; comes = comes_so; cause = (cause.1, cause.2) })
    by_fault fault.Link cause calls cut = (calls.failed refl, inl (record { stage = stage; comes = comes_so; cause = cut tt }, sent.sends, sent.refused_sends))
    by_fault fault.NoMemory cause calls cut = inl (record { stage = stage; comes = comes_so; cause = cut tt })

-- ---- a verdict has come

-- the log of a whole session is what its transcript spells
spelled : (job : ProverJob) (given : Grant) (rounds : List Round) (pairs : List Pair) (d : List ℕ) (wires : WirePairs) (element code number : ℕ)
    → opened_log job given rounds pairs d wires element ++ bytes_from Verifier (verdict_frame code number)
    ≡ spelling (made job given rounds pairs d wires element code number)
spelled job given rounds pairs d wires element code number =
    let s : List ℕ = sums_frame (sums_for job given pairs wires element) in
    let o : List ℕ = openings_frame (openings_for job wires) in
    in_turns (granted_log job given) (turn_bytes (round_turns rounds)) (bytes_from Prover (corrections_frame d)) (bytes_from Verifier (challenge_frame element))
    (bytes_from Prover s) (bytes_from Prover o) (bytes_from Verifier (verdict_frame code number))
    ∙ ap (λ l. granted_log job given ++ (turn_bytes (round_turns rounds)
    ++ ((bytes_from Prover (corrections_frame d) ++ bytes_from Verifier (challenge_frame element)) ++ ((l ++ bytes_from Verifier (verdict_frame code number)) ++ []))))
    (sym (bytes_more Prover s o))
    ∙ ap (λ l. granted_log job given ++ l) (sym (flat_map-append (λ turn. bytes_from Prover turn.0 ++ bytes_from Verifier turn.1) (round_turns rounds)
    ((corrections_frame d, challenge_frame element) ∷ (s ++ o, verdict_frame code number) ∷ [])))

-- a session whose verdict was read has ended as it says
ends_verdict : (job : ProverJob) (claim : Claim) (first : LinkSnapshot) (frame : Frame) (code number : ℕ) (line : LinkSnapshot) → IsSoundJob job
    → Comes job claim first awaits_verdict frame line → Allows expect.Verdict frame → frame ≡ verdict code number
    → HasEnded job claim first (verdict_outcome code number) line
ends_verdict job claim first frame code number line sound come allowed is =
    ends_well job claim first result line come.well (caused code reads)
    (subst (λ l. IsAskedRight job claim l) (sym come.logged) (asked_at job claim awaits_verdict come.before (bytes_from Verifier (frame_spelling frame)) opened))
    (subst (λ l. SendsOnceClaimed job claim l) (sym come.logged) (once_claimed job claim awaits_verdict come.before (frame_spelling frame) opened))
    (subst (IsRelated job) (sym come.logged) (related_at job claim awaits_verdict come.before (frame_spelling frame) sound opened))
    (subst (AnswersGrantPlace job claim result) (sym come.logged)
    (answers_behind_claim job claim awaits_verdict come.before (bytes_from Verifier (frame_spelling frame)) result sound tt opened))
    (read_so job result line.log code number sound reads refl) (honest code)
    (λ inputs wires witness. from_ended job inputs line.log (ended inputs wires witness))
  where
    result : ProverOutcome
    result = verdict_outcome code number

    opened : IsOpenedLog job claim come.before
    opened = come.waited

    fits : FitsVerdict code number
    fits =
        let (some, other, is_too, ranged) = allowed in
        let codes : some ≡ code = cc in
        let numbers : other ≡ number = cc in
        subst (λ (q : ℕ × ℕ). FitsVerdict q.0 q.1) (λ i. (codes i, numbers i)) ranged

    before : List (Side × ℕ)
    before = opened_log job opened.given opened.rounds opened.pairs opened.d opened.wires opened.element

    logged : line.log ≡ before ++ bytes_from Verifier (verdict_frame code number)
    logged = come.logged ∙ (λ i. opened.logged i ++ bytes_from Verifier (frame_spelling (is i)))

    heard : sent_by Verifier line.log ≡
        ((grant_frame opened.given ++ answered (round_turns opened.rounds)) ++ challenge_frame opened.element) ++ verdict_frame code number
    heard = ap (sent_by Verifier) logged ∙ came_more Prover before (verdict_frame code number)
        ∙ ap (λ l. l ++ verdict_frame code number) (opened_heard job opened.given opened.rounds opened.pairs opened.d opened.wires opened.element)

    sent : sent_by Prover line.log ≡ all_sent job opened.given opened.rounds opened.pairs opened.d opened.wires opened.element
    sent = ap (sent_by Prover) logged ∙ came_same Verifier before (verdict_frame code number)
        ∙ opened_sent job opened.given opened.rounds opened.pairs opened.d opened.wires opened.element

    reads : ReadsVerdict job line.log code number
    reads = record {
      t = made job opened.given opened.rounds opened.pairs opened.d opened.wires opened.element code number;
      in_order = record {
        stated = sound.stated;
        hello = wanted_fits job.file.id job.statement sound.stated;
        transcript = made_is job opened.given opened.rounds opened.pairs opened.d opened.wires opened.element code number sound opened.fixes opened.is fits.said fits.numbered;
        bytes = logged ∙ spelled job opened.given opened.rounds opened.pairs opened.d opened.wires opened.element code number;
      };
      greeted = refl;
      honest = λ inputs wires witness. made_honest job opened.given opened.rounds opened.pairs opened.d opened.wires opened.element code number inputs wires opened.fixes witness;
      code_is = refl;
      number_is = refl;
    }

    ended : (inputs wires : List ℕ) → IsWitness job.statement inputs wires job.given → HasEndedHonestly (task_of job inputs) line.log
    ended inputs wires witness = subst (λ (q : List ℕ × List ℕ). AreHonestBytes (task_of job inputs) q.0 q.1) (λ i. (sym heard i, sym sent i))
        (finishes job opened.given opened.rounds opened.pairs opened.d opened.wires opened.element code number inputs wires sound opened.fixes opened.is fits.said fits.numbered witness)

    caused : (c : ℕ) → ReadsVerdict job line.log c number → IsOutcome job claim line.log first line (verdict_outcome c number)
    caused zero read = (number, read)
    caused (suc c) read = (omega arith, read)

    honest : (c : ℕ) → SendsHonestly job line.log (verdict_outcome c number)
    honest zero = ended
    honest (suc c) = ended

-- that every check holds
pub ends_accepted : (job : ProverJob) (claim : Claim) (first : LinkSnapshot) (frame : Frame) (number : ℕ) (line : LinkSnapshot) → IsSoundJob job
    → Comes job claim first awaits_verdict frame line → Allows expect.Verdict frame → frame ≡ verdict 0 number → HasEnded job claim first outcome.Accepted line
ends_accepted job claim first frame number line = ends_verdict job claim first frame 0 number line

-- or that one does not
pub ends_rejected : (job : ProverJob) (claim : Claim) (first : LinkSnapshot) (frame : Frame) (result : ProverOutcome) (line : LinkSnapshot) → IsSoundJob job
    → Comes job claim first awaits_verdict frame line → Allows expect.Verdict frame → IsRejection frame result → HasEnded job claim first result line
ends_rejected job claim first frame (outcome.Rejected zero number) line sound come allowed (some, is) = absurd (omega (arith, some))
ends_rejected job claim first frame (outcome.Rejected (suc code) number) line sound come allowed (some, is) =
    ends_verdict job claim first frame (suc code) number line sound come allowed is
ends_rejected job claim first frame other line sound come allowed is = absurd is
