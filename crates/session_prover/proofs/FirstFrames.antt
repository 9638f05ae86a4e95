-- How a session ends for a prover with its greeting, or with what comes in the grant's place.
use Rattle.std.proofs.Common.{◌≡◌, inl, inr, ℕ, ◌+◌, ◌≤◌, List, [], ◌++◌, length, Some, None, refl, ap, sym, ◌∙◌, append-nil, arith, flat_map, subst, Ok}
use Rattle.frame_laws.proofs.SentBytes.{own_bytes}
use Rattle.zk_model.specs.Transcript.{Grant, IsGrant, bytes_from, sent_by, grant_frame, refuse_frame}
use Rattle.zk_model.specs.Frames.{Frame, grant, refuse, Allows, frame_spelling, FitsGrant, FitsRefusal}
use Rattle.zk_model.specs.declared.Side.TheVariants.{Verifier, Prover}
use Rattle.claim_store.specs.declared.ClaimFault.{ClaimFault}
use Rattle.frame_link.specs.Lines.{LinkSnapshot}
use Rattle.frame_link.proofs.LineLemmas.{none_is_some}
use Rattle.session_core.specs.Jobs.{ProverJob, Suits}
use Rattle.session_prover.specs.declared.note.ProverOutcome.{ProverOutcome}
use Rattle.session_prover.specs.Outcomes.{claim_outcome, prover_line_outcome}
use Rattle.session_prover.specs.Stages.{Claim, greeted_log, granted_log, IsLogTaken, RefusedFor, greeting, IsSoundJob, IsNoGrant, AnswersEach}
use Rattle.session_prover.specs.Notes.{AnswersGrantPlace, IsRelated, task_of, IsOutcome, SendsHonestly, HasEnded}
use Rattle.session_prover.proofs.Heard.{greeted_heard, granted_heard, granted_sent, IsUnheard, unread, Hears, greeted_sent, from_ended, honest_bytes, one_grant}
use Rattle.session_prover.proofs.Answering.{suits_is, related_greeting, answer_exists, answer_is_honest, related_part}
use Rattle.zk_model.specs.HonestProver.{IsWitness, AreHonestBytes, ProverTask}
use Rattle.zk_model.specs.View.{span_of}
use Rattle.session_core.specs.Cores.{awaits_grant}
use Rattle.frame_link.specs.declared.fault.LineFault.{LineFault}
use Rattle.zk_model.specs.Peers.{IsFromHonestProver, HasEndedHonestly}
use Rattle.zk_port.specs.Counts.{}
use Rattle.session_prover.specs.declared.note.ProverOutcome.TheVariants.{NoMemory}
use Rattle.std.proofs.lemmas.Bool.{cases_lt}
use Rattle.session_driver.proofs.Going.{came_more, came_same, frame_is_some}
use Rattle.zk_model.specs.declared.Expect.TheVariants as expect
use Rattle.session_prover.specs.declared.note.ProverOutcome.TheVariants as outcome
use Rattle.claim_store.specs.declared.ClaimFault.TheVariants as refusal
use Rattle.session_prover.proofs.GrantPlace.{answers_frame, answers_unread}
use Rattle.session_prover.proofs.Ending.{IsDue, KeepsDue, stops_sending, taken_unheard, ends_well, Comes}

-- ---- the greeting

-- an honest prover sends nothing but the greeting, where no grant that fits was heard
greets : (job : ProverJob) (inputs received : List ℕ) → (Hears (task_of job inputs) received 0 → ⊥)
    → AreHonestBytes (task_of job inputs) received (greeting job)
greets job inputs received unheard = honest_bytes (task_of job inputs) received (greeting job) 0 refl unheard

-- nothing was heard
no_bytes : (task : ProverTask) → Hears task [] 0 → ⊥
no_bytes task heard = absurd (omega (arith, ap length heard.begun))

-- the greeting is due
greeting_due : (job : ProverJob) (claim : Claim) → IsSoundJob job → claim.answer ≡ None → IsDue job claim [] (greeting job)
greeting_due job claim sound unasked = record {
  honest = λ inputs wires witness. greets job inputs [] (no_bytes (task_of job inputs));
  asked = λ more. inl unasked;
  claimed = λ more rest is. inl (rest, is ∙ ap (λ l. l ++ rest) (sym (own_bytes Prover more)));
  answers = λ result. answers_unread job claim result [] unasked
      (λ frame allowed none. absurd (omega (arith, frame_is_some frame, ap length none)));
}

-- it is not sent
pub stops_greeting : (job : ProverJob) (claim : Claim) (first : LinkSnapshot) (f : LineFault) (now : LinkSnapshot) → IsSoundJob job → claim.answer ≡ None
    → now.log ≡ [] → KeepsDue (greeting job) f first now → HasEnded job claim first (prover_line_outcome f) now
stops_greeting job claim first f now sound unasked none kept =
    stops_sending job claim first (greeting job) f now
    (subst (λ l. IsDue job claim l (greeting job)) (sym none) (greeting_due job claim sound unasked)) (inl (unasked, none)) kept
    (subst (IsRelated job) (sym none) (related_part job [] (greeting job) refl))
    (subst (IsUnheard job) (sym none) (record { turn = 0; unheard = no_bytes (task_of job []) }))

-- ---- what comes

-- what came in the grant's place is no grant that fits: the greeting alone was sent, and is what an honest prover sends
ends_unmet : (job : ProverJob) (claim : Claim) (first : LinkSnapshot) (result : ProverOutcome) (bytes : List ℕ) (new : LinkSnapshot) → AnswersEach first new
    → claim.answer ≡ None → new.log ≡ greeted_log job ++ bytes_from Verifier bytes
    → ((inputs : List ℕ) → Hears (task_of job inputs) bytes 0 → ⊥)
    → (((inputs wires : List ℕ) → IsWitness job.statement inputs wires job.given
    → HasEndedHonestly (task_of job inputs) new.log × (sent_by Prover new.log ≡ greeting job)) → SendsHonestly job new.log result)
    → AnswersGrantPlace job claim result new.log → IsOutcome job claim new.log first new result
    → HasEnded job claim first result new
ends_unmet job claim first result bytes new well unasked logged unmet honest answers is =
    ends_well job claim first result new well is (inl unasked) (inl ([], sym (append-nil (sent_by Prover new.log) ∙ sent)))
    (related_greeting job new.log sent)
    answers
    (unread job result new.log (record { turn = 0; unheard = λ h. unmet [] (subst (λ l. Hears (task_of job []) l 0) heard h) }))
    (honest (λ inputs wires witness. (ended inputs, sent))) (λ inputs wires witness. from_ended job inputs new.log (ended inputs))
  where
    sent : sent_by Prover new.log ≡ greeting job
    sent = ap (sent_by Prover) logged ∙ came_same Verifier (greeted_log job) bytes ∙ greeted_sent job

    heard : sent_by Verifier new.log ≡ bytes
    heard = ap (sent_by Verifier) logged ∙ came_more Prover (greeted_log job) bytes ∙ ap (λ l. l ++ bytes) (greeted_heard job)

    ended : (inputs : List ℕ) → HasEndedHonestly (task_of job inputs) new.log
    ended inputs = subst (λ (q : List ℕ × List ℕ). AreHonestBytes (task_of job inputs) q.0 q.1) (λ i. (sym heard i, sym sent i))
        (greets job inputs bytes (unmet inputs))

-- a grant has come
pub record IsGrantTaken (job : ProverJob) (first : LinkSnapshot) (given : Grant) (now : LinkSnapshot) : Type 0 where
  pub fits : FitsGrant given
  pub log : now.log ≡ granted_log job given
  pub well : AnswersEach first now

pub grant_taken : (job : ProverJob) (claim : Claim) (first : LinkSnapshot) (frame : Frame) (given : Grant) (new : LinkSnapshot) → Comes job claim first awaits_grant frame new
    → Allows expect.Grant frame → frame ≡ grant given → IsGrantTaken job first given new
grant_taken job claim first frame given new come allowed is = record {
  fits = fits allowed;
  log = come.logged ∙ (λ i. come.waited.1 i ++ bytes_from Verifier (frame_spelling (is i)));
  well = come.well;
}
  where
    fits : Allows expect.Grant frame → FitsGrant given
    fits (inl (other, is_too, ranged)) = let same : other ≡ given = cc in subst FitsGrant same ranged
    fits (inr (code, is_too, ranged)) = absurd (cc)

-- no grant that suits has come
pub ends_ungranted : (job : ProverJob) (claim : Claim) (first : LinkSnapshot) (frame : Frame) (result : ProverOutcome) (new : LinkSnapshot) → IsSoundJob job
    → Comes job claim first awaits_grant frame new → Allows expect.Grant frame → IsNoGrant job frame result → HasEnded job claim first result new
ends_ungranted job claim first frame outcome.BadGrant new sound come allowed (given, is, unsuited) =
    let taken : IsGrantTaken job first given new = grant_taken job claim first frame given new come allowed is in
    ends_unmet job claim first outcome.BadGrant (grant_frame given) new come.well come.waited.0 taken.log
    (λ inputs heard. unsuited (suits_is job.file.params job.statement.program given
    (one_grant (task_of job inputs) given sound.file.params.total taken.fits heard)))
    (λ both. both) (answers_frame job claim (grant given) new.log (inl (given, refl, taken.fits)) taken.log outcome.BadGrant
    (λ fault asked. absurd (none_is_some (sym come.waited.0 ∙ asked))) (λ _ _ _. refl) (λ code same. absurd (cc))
    (λ other same suits. absurd (unsuited (let one : other ≡ given = cc in subst (Suits job.file.params job.statement.program) one suits))))
    (given, taken.fits, unsuited, taken.log)
ends_ungranted job claim first frame (outcome.PeerRefused code) new sound come allowed is =
    ends_unmet job claim first (outcome.PeerRefused code) (refuse_frame code) new come.well come.waited.0 logged
    (λ inputs heard. absurd (omega (arith, ap length heard.begun)))
    (λ both. both) (answers_frame job claim (refuse code) new.log (inr (code, refl, fits allowed)) logged (outcome.PeerRefused code)
    (λ fault asked. absurd (none_is_some (sym come.waited.0 ∙ asked))) (λ given same _. absurd (cc))
    (λ other same. let one : code ≡ other = cc in ap outcome.PeerRefused one) (λ given same _. absurd (cc))) (fits allowed, logged)
  where
    logged : new.log ≡ greeted_log job ++ bytes_from Verifier (refuse_frame code)
    logged = come.logged ∙ (λ i. come.waited.1 i ++ bytes_from Verifier (frame_spelling (is i)))

    fits : Allows expect.Grant frame → FitsRefusal code
    fits (inl (given, is_too, ranged)) = absurd (cc)
    fits (inr (other, is_too, ranged)) = let same : other ≡ code = cc in subst FitsRefusal same ranged
ends_ungranted job claim first frame other new sound come allowed is = absurd is

-- ---- the claim

-- a grant that suits and lies in the file fits
pub granted_is : (job : ProverJob) (given : Grant) → Suits job.file.params job.statement.program given
    → given.start + given.count ≤ job.file.params.total → IsGrant job.file.params job.statement.program given
granted_is job given suits within = record {
  section_some = suits.section_some;
  section_most = suits.section_most;
  count = suits.count;
  count_most = suits.count_most;
  within = within;
}

-- the claimant has refused
pub ends_unclaimed : (job : ProverJob) (claim : Claim) (first : LinkSnapshot) (given : Grant) (f : ClaimFault) (line : LinkSnapshot) → IsSoundJob job
    → Suits job.file.params job.statement.program given → IsGrantTaken job first given line → RefusedFor claim given f
    → HasEnded job claim first (claim_outcome f) line
ends_unclaimed job claim first given f line sound suits taken refused =
    ends_well job claim first (claim_outcome f) line taken.well (caused f refused)
    (inr (given, record { suits = suits; begun = ([], taken.log ∙ sym (append-nil (granted_log job given))) }, inr (f, refused)))
    (inl ([], sym (append-nil (sent_by Prover line.log) ∙ sent))) (related_greeting job line.log sent)
    (answers_frame job claim (grant given) line.log (inl (given, refl, taken.fits)) taken.log (claim_outcome f)
    (λ other answer.
    let is = refused.answer in
    let same : f ≡ other = cc in
    (ap claim_outcome same, (given, suits, record { asked = refused.asked; answer = answer }, taken.log)))
    (λ other same unsuited. let one : given ≡ other = cc in absurd (unsuited (subst (Suits job.file.params job.statement.program) one suits)))
    (λ code same. absurd (cc)) (λ other same _ none. none_is_some (sym none ∙ refused.answer)))
    (unread job (claim_outcome f) line.log by_range.0) (honest f) by_range.1
  where
    sent : sent_by Prover line.log ≡ greeting job
    sent = ap (sent_by Prover) taken.log ∙ granted_sent job given

    heard : sent_by Verifier line.log ≡ grant_frame given
    heard = ap (sent_by Verifier) taken.log ∙ granted_heard job given

    -- a session is not over with its grant, and an honest prover would answer it where it lies in the file
    by_range : IsUnheard job line.log
        × ((inputs wires : List ℕ) → IsWitness job.statement inputs wires job.given → IsFromHonestProver (task_of job inputs) line.log)
    by_range = elim (cases_lt job.file.params.total (given.start + given.count)) [
      | inl over ↦
          let past = λ (inputs : List ℕ) (h : Hears (task_of job inputs) (grant_frame given) 0).
          let none : ⊥ = omega (arith, (one_grant (task_of job inputs) given sound.file.params.total taken.fits h).within, over) in none in (
            record { turn = 0; unheard = λ h. past [] (subst (λ l. Hears (task_of job []) l 0) heard h) },
            λ inputs wires witness. (
              greeting job,
              subst (λ l. AreHonestBytes (task_of job inputs) l (greeting job)) (sym heard) (greets job inputs (grant_frame given) (past inputs)),
              ([], sym (append-nil (sent_by Prover line.log) ∙ sent)),
            ),
          )
      | inr within ↦
          let other : Claim = record { asked = Some (given.start, given.count); answer = Some (Ok (span_of given)) } in
          let taken_by : IsLogTaken job other awaits_grant (grant given) line.log =
          (given, refl, record { asked = refl; answer = refl }, granted_is job given suits within, taken.log) in
          let found = answer_exists job other awaits_grant (grant given) line.log sound taken_by in (
            taken_unheard job other awaits_grant (grant given) line.log sound taken_by,
            λ inputs wires witness. (
              sent_by Prover line.log ++ flat_map frame_spelling found.0,
              answer_is_honest job other awaits_grant (grant given) found.0 found.1 line.log inputs wires sound taken_by found.2 witness,
              (flat_map frame_spelling found.0, refl),
            ),
          )
    ]

    caused : (f : ClaimFault) → RefusedFor claim given f → IsOutcome job claim line.log
        first line (claim_outcome f)
    caused refusal.NoMemory refused = inr (inr (given, suits, refused, taken.log))
    caused other refused = (given, suits, refused, taken.log)

    honest : (f : ClaimFault) → SendsHonestly job line.log (claim_outcome f)
    honest refusal.NoMemory inputs wires witness = by_range.1 inputs wires witness
    honest other inputs wires witness = (by_range.1 inputs wires witness, sent)
