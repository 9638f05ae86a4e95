-- From a run of a verifier's end to the course of its session.
use Rattle.std.proofs.Common.{◌≡◌, ◌⊎◌, ℕ, ◌<◌, length, List, [], ◌∷◌, ◌++◌, flat_map, inl, inr, Option, Some, None, IfSome, Result, Ok, Err, MatchOption, refl, ap, sym, ◌∙◌, subst, arith, append-nil, append_assoc, ◌≤◌}
use Rattle.std.proofs.lemmas.Option.{same_Some}
use Rattle.std.specs.Prelude.{IsSome}
use Rattle.frame_laws.proofs.Hellos.{allowed_hello}
use Rattle.zk_model.specs.Audit.{hello_place}
use Rattle.zk_model.specs.declared.StatementKind.{StatementKind}
use Rattle.zk_model.specs.Transcript.{grant_frame, bytes_from, Hello, IsHello, HasForm, hello_frame, refuse_frame}
use Rattle.zk_model.specs.Frames.{Frame, grant, frame_spelling, Allows, hello}
use Rattle.zk_model.specs.declared.Expect.{Expect}
use Rattle.zk_model.specs.declared.Side.{Side}
use Rattle.zk_model.specs.declared.Side.TheVariants.{Prover, Verifier}
use Rattle.zk_model.specs.declared.Span.{Span}
use Rattle.frame_link.specs.declared.fault.LineFault.{LineFault}
use Rattle.frame_link.specs.declared.fault.LineFault.TheVariants as fault
use Rattle.frame_link.proofs.LineLemmas.{none_is_some}
use Rattle.lease_store.specs.declared.grantor.GrantFault.{GrantFault}
use Rattle.session_core.specs.declared.fault.VerifierFault.{VerifierFault}
use Rattle.session_core.specs.declared.fault.VerifierFault.TheVariants as session
use Rattle.session_core.specs.declared.judgement.Judgement.{Judgement}
use Rattle.session_core.specs.Jobs.{VerifierJob, VerifierJobs, IsForNone, TakesHello, all_jobs, noted_job, units_of_job, granted_from, IsHelloOf}
use Rattle.session_core.specs.Cores.{VerifierStage, awaits_hello, owes_grant, behind_grant, has_judged, judgement_at, verifier_expects, VerifierRefuses, DiffersFirst}
use Rattle.session_core.specs.declared.fault.HelloDiffers.{HelloDiffers}
use Rattle.session_core.specs.declared.fault.HelloDiffers.TheVariants as hello_differs
use Rattle.session_core.specs.declared.judgement.Judgement.TheVariants as judged
use Rattle.lease_store.specs.declared.LeaseFault.TheVariants as no_lease
use Rattle.lease_store.specs.declared.grantor.GrantFault.TheVariants as no_grant
use Rattle.session_driver.specs.Runs.{Turn, said, whole_log, IsTurn, Goes}
use Rattle.session_driver.specs.declared.drive.Outcome.{Outcome}
use Rattle.session_driver.specs.declared.drive.Outcome.TheVariants.{Done, Refused, Cut}
use Rattle.session_driver.proofs.Going.{whole_more, goes_keeps}
use Rattle.session_laws.specs.Rounds.{RepliesAreInRange}
use Rattle.session_verifier.specs.Outcomes.{grant_code, verifier_line_outcome, hello_code, judgement_outcome, grant_outcome, verifier_fault_outcome}
use Rattle.session_verifier.specs.Serving.{Grants, Leases, Served, Met, Greeted, GrantsUnits, VerifierAnswersBehind, ServingAnswers, ServingRefuses, RefusesHello, VerifierRefusesBehind, RefusesLease, LacksGrantFrame, IsToldAs, lack_code_at, served, serves}
use Rattle.session_verifier.specs.Stages.{IsBehind, Greets, IsVerifierLogAt, IsStopped, IsRefusedGrant, IsCourse, RefusesAfter, Ending, HasEnding, answer_at, outcome_at, lacks_hello, turns_away, lacks_units, lacks_grant, loses_grant, stops_behind, judges, AreUnits}
use Rattle.session_verifier.specs.Notes.{HasTaken, BeginsByHello, TakesStatement}
use Rattle.session_verifier.specs.declared.note.VerifierOutcome.{VerifierOutcome}
use Rattle.session_verifier.specs.declared.note.VerifierOutcome.TheVariants.{BadHello, NoMemory}
use Rattle.session_verifier.proofs.CourseLemmas.{begins_before}
use Rattle.session_verifier.proofs.StageLemmas.{one_answer, logs_on, grant_behind, grant_begins, stays_behind, judged_of, hello_in, stops_without, stops_unsent, stops_lacking}
use Rattle.session_driver.specs.Leaving.{Finishes, GoesWell, Halts, IsLostBy, KeepsAnswer, KeepsBack, PartyLeaves, Misses, TriesCode, TurnsDown}
use Rattle.frame_link.specs.Lines.{LinkSnapshot}
use Rattle.session_pool.specs.Notes.{granted_by}

-- ---- where it waits after so many turns

-- units were leased, from here on
pub record IsLeased {R : Type 0} (grants : Grants R) (old : R) (job : VerifierJob) (span : Span) (stage : VerifierStage) (grantor : R) : Type 0 where
  pub behind : IsBehind span.start stage
  pub are : AreUnits job span
  pub leased : Leases grants (units_of_job job) (Ok span) old grantor

-- none were asked for yet where the hello is awaited; else they were leased
abbrev pub IsLeaseAt : {R : Type 0} → Grants R → R → VerifierJob → Option Span → VerifierStage → R → Type 0
IsLeaseAt grants old job granted stage grantor =
    ((stage ≡ awaits_hello) × (granted ≡ None) × (grantor ≡ old))
    ⊎ ((span : Span) × (granted ≡ Some span) × IsLeased grants old job span stage grantor)

-- what is logged then, and what was leased
pub record IsAt {R : Type 0} (grants : Grants R) (old : R) (job : VerifierJob) (stage : VerifierStage) (granted : Option Span) (grantor : R) (before : List Turn) : Type 0 where
  pub log : IsVerifierLogAt job stage (whole_log Verifier [] before)
  pub lease : IsLeaseAt grants old job granted stage grantor

-- so it is with a verifier's end, whose job is that of the statement that it took
pub record IsStanding {R : Type 0} (jobs : VerifierJobs) (grants : Grants R) (old : R) (now : Served R) (before : List Turn) : Type 0 where
  pub jobs_are : now.jobs ≡ jobs
  pub job : now.core.job ≡ noted_job jobs now.taken
  pub taken : HasTaken jobs now.taken (whole_log Verifier [] before)
  pub untaken : now.taken ≡ None → now.granted ≡ None
  pub at : IsAt grants old now.core.job now.core.stage now.granted now.grantor before

-- a hello that was taken for this begins the log
taken_by : (jobs : VerifierJobs) (taken : Option ℕ) (said : Hello) (log : List (Side × ℕ)) → TakesHello jobs said taken → BeginsByHello said log
    → HasTaken jobs taken log
taken_by jobs None said log takes begins = tt
taken_by jobs (Some n) said log takes begins = (said, takes, begins)

-- and a longer one
taken_on : (jobs : VerifierJobs) (taken : Option ℕ) (log more : List (Side × ℕ)) → HasTaken jobs taken log → HasTaken jobs taken (log ++ more)
taken_on jobs None log more has = tt
taken_on jobs (Some n) log more has =
    (has.0, has.1, (has.2.0, begins_before log more (log ++ more) (bytes_from Prover (hello_frame has.0)) refl has.2.1))

-- where the hello is awaited, they were not
unleased : {R : Type 0} (grants : Grants R) (old : R) (job : VerifierJob) (granted : Option Span) (stage : VerifierStage) (grantor : R) → stage ≡ awaits_hello
    → IsLeaseAt grants old job granted stage grantor → (granted ≡ None) × (grantor ≡ old)
unleased grants old job granted stage grantor waits (inl none) = (none.1, none.2)
unleased grants old job granted stage grantor waits (inr some) = absurd (subst (IsBehind some.0.start) waits some.2.behind)

-- where these were granted, they were leased
leased_as : {R : Type 0} (grants : Grants R) (old : R) (job : VerifierJob) (granted : Option Span) (span : Span) (stage : VerifierStage) (grantor : R)
    → granted ≡ Some span → IsLeaseAt grants old job granted stage grantor → IsLeased grants old job span stage grantor
leased_as grants old job granted span stage grantor is (inl none) = absurd (none_is_some (sym none.1 ∙ is))
leased_as grants old job granted span stage grantor is (inr some) =
    subst (λ s. IsLeased grants old job s stage grantor) (same_Some some.0 span (sym some.1 ∙ is)) some.2

-- a hello for the statement is logged
hello_logged : (job : VerifierJob) (log : List (Side × ℕ)) (frame : Frame) → log ≡ [] → Greets job frame
    → IsVerifierLogAt job owes_grant (log ++ bytes_from Prover (frame_spelling frame))
hello_logged job log frame none greets =
    record { greeting = greets.greeting; bytes = λ i. none i ++ bytes_from Prover (frame_spelling (greets.is i)) }

-- a hello that came is what the log begins by
begun : {R : Type 0} (jobs : VerifierJobs) (old new : Served R) (frame : Frame) (log more : List (Side × ℕ)) → log ≡ [] → (met : Met jobs old frame new)
    → BeginsByHello met.hello ((log ++ bytes_from Prover (frame_spelling frame)) ++ more)
begun jobs old new frame log more none met = (met.ranged, (more, λ i. (none i ++ bytes_from Prover (frame_spelling (met.is i))) ++ more))

module _ {R : Type 0} (jobs : VerifierJobs) (grants : Grants R) (old : R) (law : RepliesAreInRange) where
  grant_on : (s t : Served R) (before : List Turn) (turn : Turn) → IsAt grants old s.core.job s.core.stage s.granted s.grantor before
      → GrantsUnits jobs grants s turn.frame turn.answer t
      → IsAt grants old t.core.job t.core.stage t.granted t.grantor (before ++ turn ∷ [])
  grant_on s t before turn at grants_units =
      let job = t.core.job in
      let waits = grants_units.greeted.met.waits in
      let start = grants_units.span.start in
      let front = whole_log Verifier [] before ++ bytes_from Prover (frame_spelling turn.frame) in
      let told : said Verifier turn.answer ≡ bytes_from Verifier (grant_frame (granted_from job start)) =
      ap (said Verifier) grants_units.answer_is ∙ one_answer (grant (granted_from job start)) in
      let same = (unleased grants old s.core.job s.granted s.core.stage s.grantor waits at.lease).1 in
      let none : whole_log Verifier [] before ≡ [] = subst (λ p. IsVerifierLogAt s.core.job p (whole_log Verifier [] before)) waits at.log in
      subst (λ p. IsAt grants old job p t.granted t.grantor (before ++ turn ∷ [])) (sym grants_units.stage) (record {
        log = subst (IsVerifierLogAt job (behind_grant job start)) (ap (λ l. front ++ l) (sym told) ∙ whole_more Verifier [] before turn)
            (grant_behind job start front (omega (arith, grants_units.are.units, grants_units.are.within))
            (hello_logged job (whole_log Verifier [] before) turn.frame none grants_units.greeted.greets));
        lease = inr (
          grants_units.span,
          grants_units.granted,
          record {
            behind = grant_begins job start;
            are = grants_units.are;
            leased = subst (λ r. Leases grants (units_of_job job) (Ok grants_units.span) r t.grantor) same grants_units.leased;
          },
        );
      })

  answer_on : (s t : Served R) (before : List Turn) (turn : Turn) (place : Expect)
      → verifier_expects s.core.job s.core.stage ≡ Some place → Allows place turn.frame
      → IsAt grants old s.core.job s.core.stage s.granted s.grantor before → VerifierAnswersBehind s turn.frame turn.answer t
      → IsAt grants old t.core.job t.core.stage t.granted t.grantor (before ++ turn ∷ [])
  answer_on s t before turn place expected allowed at by =
      let job = s.core.job in
      let leased = leased_as grants old job s.granted by.span s.core.stage s.grantor by.behind at.lease in
      let stays : IsLeased grants old job by.span t.core.stage s.grantor = record {
        behind = (stays_behind job by.span.start s.core.stage t.core.stage turn.frame turn.answer leased.behind by.answers).0;
        are = leased.are;
        leased = leased.leased;
      } in
      subst (λ (q : VerifierJob × R). IsAt grants old q.0 t.core.stage t.granted q.1 (before ++ turn ∷ []))
      (λ i. (sym by.job i, sym by.grantor i)) (record {
        log = subst (IsVerifierLogAt job t.core.stage) (whole_more Verifier [] before turn)
            (logs_on job s.core.stage t.core.stage (whole_log Verifier [] before) place turn.frame turn.answer law by.held expected allowed at.log by.answers);
        lease = inr (by.span, by.granted ∙ by.behind, stays);
      })

  turn_on : (s : Served R) (before : List Turn) (turn : Turn) (t : Served R) → IsStanding jobs grants old s before
      → IsTurn (serves grants) s turn t → IsStanding jobs grants old t (before ++ turn ∷ [])
  turn_on s before turn t stands is = elim (subst (λ j. ServingAnswers j grants s turn.frame turn.answer t) stands.jobs_are is.answered.1) [
    | inl by ↦
        let met = by.greeted.met in
        let none : whole_log Verifier [] before ≡ [] = subst (λ p. IsVerifierLogAt s.core.job p (whole_log Verifier [] before)) met.waits stands.at.log in
        record {
          jobs_are = is.answered.0 ∙ stands.jobs_are;
          job = met.job;
          taken = subst (HasTaken jobs t.taken) (whole_more Verifier [] before turn)
              (taken_by jobs t.taken met.hello ((whole_log Verifier [] before ++ bytes_from Prover (frame_spelling turn.frame)) ++ said Verifier turn.answer)
              met.takes (begun jobs s t turn.frame (whole_log Verifier [] before) (said Verifier turn.answer) none met));
          untaken = λ none. absurd (none_is_some (sym none ∙ by.greeted.taken));
          at = grant_on s t before turn stands.at by;
        }
    | inr by ↦ record {
      jobs_are = is.answered.0 ∙ stands.jobs_are;
      job = by.job ∙ stands.job ∙ ap (noted_job jobs) (sym by.taken);
      taken = subst (λ (q : Option ℕ × List (Side × ℕ)). HasTaken jobs q.0 q.1)
          (λ i. (
            sym by.taken i,
            (sym (append_assoc (whole_log Verifier [] before) (bytes_from Prover (frame_spelling turn.frame)) (said Verifier turn.answer))
                ∙ whole_more Verifier [] before turn) i,
          ))
          (taken_on jobs s.taken (whole_log Verifier [] before) (bytes_from Prover (frame_spelling turn.frame) ++ said Verifier turn.answer) stands.taken);
      untaken = λ none. by.granted ∙ stands.untaken (sym by.taken ∙ none);
      at = answer_on s t before turn is.place is.expected is.allowed stands.at by;
    }
  ]

  stands : (mid : Served R) (turns : List Turn)
      → Goes (serves grants) (served jobs (record { job = jobs.first; stage = awaits_hello }) None None old) turns mid → IsStanding jobs grants old mid turns
  stands mid turns went =
      goes_keeps (serves grants) (IsStanding jobs grants old) turn_on (served jobs (record { job = jobs.first; stage = awaits_hello }) None None old) mid turns
      (record {
        jobs_are = refl;
        job = refl;
        taken = tt;
        untaken = λ none. refl;
        at = record { log = refl; lease = inl (refl, refl, refl) };
      }) went

-- ---- where it stops

no_lack_behind : (start : ℕ) (stage : VerifierStage) → IsBehind start stage → lack_code_at stage ≡ None
no_lack_behind start awaits_hello behind = absurd behind
no_lack_behind start other behind = refl

-- ---- what was leased

-- where units were not asked for, the one who leases them is as it was; else it was asked once
abbrev pub IsLeaseTold : {R : Type 0} → Grants R → ℕ → R → R → Type 0
IsLeaseTold grants count old new =
    ((new ≡ old) × (grants.answer new ≡ None)) ⊎ ((answer : Result Span GrantFault) × Leases grants count answer old new)

pub lease_total : {R : Type 0} (grants : Grants R) (count : ℕ) (old new : R) → IsLeaseTold grants count old new → grants.total new ≡ grants.total old
lease_total grants count old new (inl none) = ap grants.total none.0
lease_total grants count old new (inr some) = some.1.total

pub lease_asked : {R : Type 0} (grants : Grants R) (count : ℕ) (old new : R) → IsLeaseTold grants count old new
    → IfSome (grants.answer new) (λ _. grants.asked new ≡ Some count)
lease_asked grants count old new (inl none) = subst (λ a. IfSome a (λ _. grants.asked new ≡ Some count)) (sym none.1) tt
lease_asked grants count old new (inr some) = subst (λ a. IfSome a (λ _. grants.asked new ≡ Some count)) (sym some.1.told) some.1.asked

pub lease_moved : {R : Type 0} (grants : Grants R) (count : ℕ) (old new : R) → IsLeaseTold grants count old new
    → MatchOption (grants.answer new) (new ≡ old) (λ answer. grants.moves old count answer new)
lease_moved grants count old new (inl none) = subst (λ a. MatchOption a (new ≡ old) (λ answer. grants.moves old count answer new)) (sym none.1) none.0
lease_moved grants count old new (inr some) = subst (λ a. MatchOption a (new ≡ old) (λ answer. grants.moves old count answer new)) (sym some.1.told) some.1.moves

lease_at : {R : Type 0} (grants : Grants R) (old : R) → grants.answer old ≡ None → (job : VerifierJob) (granted : Option Span) (stage : VerifierStage) (grantor : R)
    → IsLeaseAt grants old job granted stage grantor → IsLeaseTold grants (units_of_job job) old grantor
lease_at grants old once job granted stage grantor (inl none) = inl (none.2, ap grants.answer none.2 ∙ once)
lease_at grants old once job granted stage grantor (inr some) = inr (Ok some.0, some.2.leased)

-- where nothing is expected it has judged
judged_at : {R : Type 0} (grants : Grants R) (old : R) (job : VerifierJob) (granted : Option Span) (stage : VerifierStage) (grantor : R)
    → IsLeaseAt grants old job granted stage grantor → verifier_expects job stage ≡ None
    → (span : Span) × (granted ≡ Some span) × ((judgement : Judgement) × (stage ≡ has_judged span.start judgement))
judged_at grants old job granted stage grantor (inl lease) none = absurd (none_is_some (sym none ∙ ap (verifier_expects job) lease.0))
judged_at grants old job granted stage grantor (inr some) none = (some.0, some.1, judged_of job some.0.start stage some.2.behind none)

-- ---- what is taken

-- the log goes on behind what came, whether a refusal was tried then or an answer was kept back
tried_adds : (code : Option ℕ) (log : List (Side × ℕ)) (first now : LinkSnapshot) → TriesCode Verifier log code first now
    → (more : List (Side × ℕ)) × (now.log ≡ log ++ more)
tried_adds None log first now well = ([], well.logged ∙ sym (append-nil log))
tried_adds (Some code) log first now (inl well) = (bytes_from Verifier (refuse_frame code), well.logged)
tried_adds (Some code) log first now (inr lost) = ([], lost.logged ∙ sym (append-nil log))

-- a hello at its place has a form of the kind
form_of : (kind : StatementKind) (said : Hello) (frame : Frame) → frame ≡ hello said → Allows (hello_place kind) frame → HasForm kind said.public
form_of kind said frame is placed =
    let has = allowed_hello kind frame placed in
    subst (λ (h : Hello). HasForm kind h.public) (ap (hello_in said) (sym has.1 ∙ is)) has.3

-- ---- which statement a hello is taken for

-- one that a core meets is taken for some
pub taken_number : (jobs : VerifierJobs) (taken : Option ℕ) (said : Hello) (frame : Frame) → TakesHello jobs said taken → frame ≡ hello said
    → Greets (noted_job jobs taken) frame → (n : ℕ) × (taken ≡ Some n)
taken_number jobs None said frame takes is greets =
    let one : greets.greeting.hello ≡ said = ap (hello_in said) (sym greets.is ∙ is) in
    absurd (takes 0 (omega arith) (subst (IsHelloOf jobs.first) one greets.greeting.fits))
taken_number jobs (Some n) said frame takes is greets = (n, refl)

-- so it is greeted
pub greeted_by : {R : Type 0} (jobs : VerifierJobs) (old new : Served R) (frame : Frame) {met : VerifierJob} → old.core.stage ≡ awaits_hello
    → ((said : Hello) × (frame ≡ hello said) × IsHello said × TakesHello jobs said new.taken) → Allows (hello_place met.task.statement.kind) frame
    → new.core.job ≡ noted_job jobs new.taken
    → new.core.job ≡ met
    → Greets met frame → Greeted jobs old frame new
greeted_by jobs old new frame waits takes placed job same greets =
    let ours : Greets new.core.job frame = subst (λ j. Greets j frame) (sym same) greets in
    let number = taken_number jobs new.taken takes.0 frame takes.3 takes.1 (subst (λ j. Greets j frame) job ours) in
    record {
      met = record { waits = waits; hello = takes.0; is = takes.1; ranged = takes.2; takes = takes.3; job = job; placed = subst (λ (j : VerifierJob). Allows (hello_place j.task.statement.kind) frame) (sym same) placed };
      greets = ours;
      number = number.0;
      taken = number.1;
    }

pub leases_for : {R : Type 0} (grants : Grants R) (count : ℕ) (asked job : VerifierJob) (answer : Result Span GrantFault) (old new : R)
    → count ≡ units_of_job asked → asked ≡ job → Leases grants count answer old new → Leases grants (units_of_job job) answer old new
leases_for grants count asked job answer old new is same leased =
    subst (λ n. Leases grants n answer old new) (is ∙ ap units_of_job same) leased

-- a statement that was taken is one of the verifier's
pub taken_within : (jobs : VerifierJobs) (taken : Option ℕ) (log : List (Side × ℕ)) → HasTaken jobs taken log
    → IfSome taken (λ n. n < length (all_jobs jobs))
taken_within jobs None log has = tt
taken_within jobs (Some n) log has = has.1.within

-- ---- a hello that differs

lease_no_hello : (fault : GrantFault) (differs : HelloDiffers) → ¬ (grant_outcome fault ≡ BadHello differs)
lease_no_hello (no_grant.Lease (no_lease.Exhausted at count total)) differs is = cc
lease_no_hello (no_grant.Lease no_lease.Device) differs is = cc
lease_no_hello (no_grant.Lease (no_lease.Broken first)) differs is = cc
lease_no_hello no_grant.NoMemory differs is = cc
lease_no_hello (no_grant.NoBlock wants) differs is = cc
lease_no_hello no_grant.Broker differs is = cc

memory_no_hello : (differs : HelloDiffers) → ¬ (NoMemory ≡ BadHello differs)
memory_no_hello differs is = cc

judgement_no_hello : (judgement : Judgement) (differs : HelloDiffers) → ¬ (judgement_outcome judgement ≡ BadHello differs)
judgement_no_hello judged.Accepted differs is = cc
judgement_no_hello (judged.RejectedSum section left right) differs is = cc
judgement_no_hello (judged.RejectedOpening output left right) differs is = cc

line_no_hello : (broke : LineFault) (differs : HelloDiffers) → ¬ (verifier_line_outcome broke ≡ BadHello differs)
line_no_hello (fault.PeerEnded at) differs is = cc
line_no_hello (fault.BadFrame place) differs is = cc
line_no_hello fault.Link differs is = cc
line_no_hello fault.NoMemory differs is = cc

-- after the grant no hello is refused, and a frame only for want of memory
only_memory : (job : VerifierJob) (stage : VerifierStage) (frame : Frame) (fault : VerifierFault) → VerifierRefuses job stage frame fault
    → ¬ (stage ≡ awaits_hello) → verifier_fault_outcome fault ≡ NoMemory
only_memory job stage frame (session.BadHello other) refuses behind = absurd (behind refuses.1)
only_memory job stage frame session.NoMemory refuses behind = refl

-- a hello that differs from that of a job is none for it
differs_not_fits : (job : VerifierJob) (said : Hello) (differs : HelloDiffers)
    → DiffersFirst job.task.file.id job.task.statement said differs → ¬ IsHelloOf job said
differs_not_fits job said (hello_differs.Id want got) by fits = by.2 (by.0 ∙ sym fits.id ∙ sym by.1)
differs_not_fits job said (hello_differs.Version want got) by fits = by.3 (by.1 ∙ sym fits.version ∙ sym by.2)
differs_not_fits job said (hello_differs.Statement want got) by fits =
    by.4 (by.2 ∙ (λ i. record { circuit = sym fits.circuit i; outputs = sym fits.outputs i; public = sym fits.public i }) ∙ sym by.3)

-- so it was taken for none
for_none : (jobs : VerifierJobs) (job : VerifierJob) (taken : Option ℕ) (said : Hello) (frame : Frame) (fault : VerifierFault) (differs : HelloDiffers)
    → TakesHello jobs said taken → job ≡ noted_job jobs taken → frame ≡ hello said → VerifierRefuses job awaits_hello frame fault
    → verifier_fault_outcome fault ≡ BadHello differs → (taken ≡ None) × IsForNone jobs said
for_none jobs job taken said frame session.NoMemory differs takes job_is is refuses named = absurd (memory_no_hello differs named)
for_none jobs job None said frame (session.BadHello other) differs takes job_is is refuses named = (refl, takes)
for_none jobs job (Some n) said frame (session.BadHello other) differs takes job_is is refuses named =
    let one : said ≡ refuses.0 = ap (hello_in said) (sym is ∙ refuses.2) in
    absurd (differs_not_fits job refuses.0 other refuses.3
    (subst (λ (q : VerifierJob × Hello). IsHelloOf q.0 q.1) (λ i. (sym job_is i, one i)) takes.fits))

-- ---- what is noted in the end

module _ {R : Type 0} (jobs : VerifierJobs) (grants : Grants R) (old : R) (once : grants.answer old ≡ None) (law : RepliesAreInRange)
    (new : Served R) (outcome : Outcome VerifierOutcome) (first now : LinkSnapshot)
    (left : PartyLeaves (serves grants) [] Verifier (served jobs (record { job = jobs.first; stage = awaits_hello }) None None old) new outcome first now) where
  abbrev mid : Served R
  mid = left.mid

  abbrev passed : List (Side × ℕ)
  passed = whole_log Verifier [] left.turns

  stood : IsStanding jobs grants old mid left.turns
  stood = stands jobs grants old law mid left.turns left.went

  abbrev IsCourseOf : VerifierJob → VerifierOutcome → Type 0
  IsCourseOf job told = IsCourse job (grants.answer new.grantor) new.granted told first now

  -- which statement was taken, which units were asked for, and the course of the session
  pub record IsNoted (told : VerifierOutcome) : Type 0 where
    pub statement : TakesStatement jobs new.taken (grants.answer new.grantor) told now.log
    pub lease : IsLeaseTold grants (units_of_job (noted_job jobs new.taken)) old new.grantor
    pub course : IsCourseOf (noted_job jobs new.taken) told

  -- ---- where no hello was taken

  -- what it took, and whom it asked, is as it was
  still_noted : (told : VerifierOutcome) (more : List (Side × ℕ)) → new.taken ≡ mid.taken → new.grantor ≡ mid.grantor → now.log ≡ passed ++ more
      → ((differs : HelloDiffers) → ¬ (told ≡ BadHello differs)) → IsCourseOf mid.core.job told → IsNoted told
  still_noted told more taken grantor log unlike course = record {
    statement = record {
      has = subst (λ (q : Option ℕ × List (Side × ℕ)). HasTaken jobs q.0 q.1) (λ i. (sym taken i, sym log i))
          (taken_on jobs mid.taken passed more stood.taken);
      none = λ none. elim stood.at.lease [
        | inl lease ↦ ap grants.answer (grantor ∙ lease.2) ∙ once
        | inr some ↦ absurd (none_is_some (sym (stood.untaken (sym taken ∙ none)) ∙ some.1))
      ];
      differs = λ differs is. absurd (unlike differs is);
    };
    lease = subst (λ (q : VerifierJob × R). IsLeaseTold grants (units_of_job q.0) old q.1) (λ i. (noted i, sym grantor i))
        (lease_at grants old once mid.core.job mid.granted mid.core.stage mid.grantor stood.at.lease);
    course = subst (λ j. IsCourseOf j told) noted course;
  }
    where
      noted : mid.core.job ≡ noted_job jobs new.taken
      noted = stood.job ∙ ap (noted_job jobs) (sym taken)

  -- after the grant
  module _ (span : Span) (behind : mid.granted ≡ Some span) (grantor : new.grantor ≡ mid.grantor) (granted : new.granted ≡ mid.granted) where
    leased : IsLeased grants old mid.core.job span mid.core.stage mid.grantor
    leased = leased_as grants old mid.core.job mid.granted span mid.core.stage mid.grantor behind stood.at.lease

    stopped_so : (broke : LineFault) → IsStopped mid.core.job mid.core.stage broke first now → IsCourseOf mid.core.job (verifier_line_outcome broke)
    stopped_so broke stop = record {
      ending = stops_behind span broke;
      answer_is = ap grants.answer grantor ∙ leased.leased.told;
      granted_is = granted ∙ behind;
      outcome_is = refl;
      has = (leased.are, record { stage = mid.core.stage; behind = leased.behind; stopped = stop });
    }

  over : (told : VerifierOutcome) → IsToldAs new.core.stage Done told → Finishes (serves grants) Verifier passed mid new first now → IsNoted told
  over told told_is is =
      let grantor = ap (λ (s : Served R). s.grantor) is.same in
      let judged = judged_at grants old mid.core.job mid.granted mid.core.stage mid.grantor stood.at.lease
      (sym (ap (λ (s : Served R). verifier_expects s.core.job s.core.stage) is.same) ∙ is.expected) in
      let judgement = judged.2.0 in
      let leased = leased_as grants old mid.core.job mid.granted judged.0 mid.core.stage mid.grantor judged.1 stood.at.lease in
      let found : told_is.0 ≡ judgement = same_Some told_is.0 judgement
      (sym told_is.1 ∙ ap (λ (s : Served R). judgement_at s.core.stage) is.same ∙ ap judgement_at judged.2.1) in
      still_noted told [] (ap (λ (s : Served R). s.taken) is.same) grantor (is.well.logged ∙ sym (append-nil passed))
      (λ differs named. judgement_no_hello told_is.0 differs (sym told_is.2 ∙ named))
      (record {
        ending = judges judged.0 judgement;
        answer_is = ap grants.answer grantor ∙ leased.leased.told;
        granted_is = ap (λ (s : Served R). s.granted) is.same ∙ judged.1;
        outcome_is = told_is.2 ∙ ap judgement_outcome found;
        has = (
          leased.are,
          record {
            log = subst (λ (q : VerifierStage × List (Side × ℕ)). IsVerifierLogAt mid.core.job q.0 q.1) (λ i. (judged.2.1 i, sym is.well.logged i)) stood.at.log;
            well = subst (λ l. GoesWell Verifier l first now) (sym is.well.logged) is.well;
          },
        );
      })

  missed : (broke : LineFault) → Misses (serves grants) Verifier passed mid new broke first now → IsNoted (verifier_line_outcome broke)
  missed broke misses =
      let grantor = ap (λ (s : Served R). s.grantor) misses.same in
      let granted = ap (λ (s : Served R). s.granted) misses.same in
      let stop = stops_without (serves grants) mid.core.job mid.core.stage passed mid new broke first now refl stood.at.log misses in
      still_noted (verifier_line_outcome broke) (bytes_from Prover misses.rest) (ap (λ (s : Served R). s.taken) misses.same) grantor misses.short.logged
      (line_no_hello broke) (elim stood.at.lease [
        | inl none ↦ record {
          ending = lacks_hello broke;
          answer_is = ap grants.answer (grantor ∙ none.2) ∙ once;
          granted_is = granted ∙ none.1;
          outcome_is = refl;
          has = subst (λ p. IsStopped mid.core.job p broke first now) none.0 stop;
        }
        | inr some ↦ stopped_so some.0 some.1 grantor granted broke stop
      ])

  -- a frame came after the grant
  module _ (place : Expect) (frame : Frame) (expected : verifier_expects mid.core.job mid.core.stage ≡ Some place) (allowed : Allows place frame) where
    abbrev heard : List (Side × ℕ)
    heard = passed ++ bytes_from Prover (frame_spelling frame)

    lacks_behind : (span : Span) (behind : mid.granted ≡ Some span) → new.grantor ≡ mid.grantor → new.granted ≡ mid.granted → new.taken ≡ mid.taken
        → GoesWell Verifier heard first now → IsNoted NoMemory
    lacks_behind span behind grantor granted taken well =
        still_noted NoMemory (bytes_from Prover (frame_spelling frame)) taken grantor well.logged (line_no_hello fault.NoMemory)
        (stopped_so span behind grantor granted fault.NoMemory
        (stops_lacking mid.core.job span.start mid.core.stage place frame passed first now (leased span behind grantor granted).behind
        expected allowed stood.at.log well))

    refused_behind : (told : VerifierOutcome) (code : Option ℕ) → VerifierRefusesBehind mid frame told code new → TriesCode Verifier heard code first now
        → IsNoted told
    refused_behind told code by tried =
        let behind = (leased by.span by.behind by.grantor by.granted).behind in
        subst IsNoted (sym (by.outcome_is
        ∙ only_memory mid.core.job mid.core.stage frame by.fault by.refuses (λ waits. subst (IsBehind by.span.start) waits behind)))
        (lacks_behind by.span by.behind by.grantor by.granted by.taken (subst (λ c. TriesCode Verifier heard c first now) by.code_is tried))

    unanswered_behind : (answer : List Frame) (broke : LineFault) → VerifierAnswersBehind mid frame answer new → 1 ≤ length answer
        → KeepsBack (lack_code_at mid.core.stage) Verifier heard (flat_map frame_spelling answer) broke first now → IsNoted (verifier_line_outcome broke)
    unanswered_behind answer broke by some (inl lacks) =
        subst (λ f. IsNoted (verifier_line_outcome f)) (sym lacks.0)
        (lacks_behind by.span by.behind by.grantor by.granted by.taken
        (subst (λ c. TriesCode Verifier heard c first now)
        (no_lack_behind by.span.start mid.core.stage (leased by.span by.behind by.grantor by.granted).behind) lacks.1))
    unanswered_behind answer broke by some (inr lost) =
        still_noted (verifier_line_outcome broke) (bytes_from Prover (frame_spelling frame)) by.taken by.grantor lost.logged (line_no_hello broke)
        (stopped_so by.span by.behind by.grantor by.granted broke
        (stops_unsent mid.core.job mid.core.stage new.core.stage place frame answer broke passed first now expected allowed stood.at.log
        by.answers some lost))

  -- ---- where a hello was taken

  module _ (frame : Frame) where
    abbrev came_hello : List (Side × ℕ)
    came_hello = passed ++ bytes_from Prover (frame_spelling frame)

    module _ (met : Met jobs mid frame new) where
      none_leased : (mid.granted ≡ None) × (mid.grantor ≡ old)
      none_leased = unleased grants old mid.core.job mid.granted mid.core.stage mid.grantor met.waits stood.at.lease

      -- it alone came
      hello_heard : came_hello ≡ bytes_from Prover (hello_frame met.hello)
      hello_heard =
          let none : passed ≡ [] = subst (λ p. IsVerifierLogAt mid.core.job p passed) met.waits stood.at.log in
          λ i. none i ++ bytes_from Prover (frame_spelling (met.is i))

      -- and was refused
      refused_after : (code : Option ℕ) (number : ℕ) → code ≡ Some number
          → TriesCode Verifier came_hello code first now → RefusesAfter met.hello number first now
      refused_after code number is tried =
          subst (λ (q : List (Side × ℕ) × Option ℕ). TriesCode Verifier q.0 q.1 first now) (λ i. (hello_heard i, is i)) tried

      met_noted : (told : VerifierOutcome) → (more : List (Side × ℕ)) × (now.log ≡ came_hello ++ more)
          → IsLeaseTold grants (units_of_job new.core.job) old new.grantor
          → (new.taken ≡ None → grants.answer new.grantor ≡ None)
          → ((differs : HelloDiffers) → told ≡ BadHello differs → (new.taken ≡ None) × IsForNone jobs met.hello) → IsCourseOf new.core.job told
          → IsNoted told
      met_noted told adds lease none unlike course =
          let begins : BeginsByHello met.hello now.log = (met.ranged, (adds.0, adds.1 ∙ ap (λ l. l ++ adds.0) hello_heard)) in
          record {
            statement = record {
              has = taken_by jobs new.taken met.hello now.log met.takes begins;
              none = none;
              differs = λ differs is. let for_none = unlike differs is in (for_none.0, (met.hello, for_none.1, begins));
            };
            lease = subst (λ j. IsLeaseTold grants (units_of_job j) old new.grantor) met.job lease;
            course = subst (λ j. IsCourseOf j told) met.job course;
          }

    module _ (greeted : Greeted jobs mid frame new) where
      -- a hello for the statement is the one that was met
      same_hello : greeted.greets.greeting.hello ≡ greeted.met.hello
      same_hello = ap (hello_in greeted.met.hello) (sym greeted.greets.is ∙ greeted.met.is)

      -- units were asked for
      asked_noted : (told : VerifierOutcome) (answer : Result Span GrantFault)
          → (more : List (Side × ℕ)) × (now.log ≡ came_hello ++ more)
          → Leases grants (units_of_job new.core.job) answer mid.grantor new.grantor → ((differs : HelloDiffers) → ¬ (told ≡ BadHello differs))
          → IsCourseOf new.core.job told → IsNoted told
      asked_noted told answer adds leases unlike course =
          met_noted greeted.met told adds
          (inr (answer, subst (λ r. Leases grants (units_of_job new.core.job) answer r new.grantor) (none_leased greeted.met).1 leases))
          (λ none. absurd (none_is_some (sym none ∙ greeted.taken))) (λ differs is. absurd (unlike differs is)) course

      -- a refusal was tried after the hello
      refused_grant : (code : Option ℕ) (number : ℕ) → code ≡ Some number
          → TriesCode Verifier came_hello code first now → IsRefusedGrant new.core.job number first now
      refused_grant code number is tried = record {
        greeting = greeted.greets.greeting;
        refused = subst (λ h. RefusesAfter h number first now) (sym same_hello) (refused_after greeted.met code number is tried);
      }

      -- units were leased, but the grant did not go out
      lacks_noted : (told : VerifierOutcome) (span : Span)
          → (more : List (Side × ℕ)) × (now.log ≡ came_hello ++ more)
          → Leases grants (units_of_job new.core.job) (Ok span) mid.grantor new.grantor → new.granted ≡ Some span → (are : AreUnits new.core.job span)
          → ((differs : HelloDiffers) → ¬ (told ≡ BadHello differs))
          → (ending : Ending) → answer_at ending ≡ Some (Ok span) → told ≡ outcome_at ending → HasEnding new.core.job ending first now → IsNoted told
      lacks_noted told span adds leases granted are unlike ending leased is has = asked_noted told (Ok span) adds leases unlike (record {
        ending = ending;
        answer_is = leases.told ∙ sym leased;
        granted_is = granted ∙ ap granted_by (sym leased);
        outcome_is = is;
        has = has;
      })

    hello_noted : (told : VerifierOutcome) (code : Option ℕ) → RefusesHello jobs mid frame told code new
        → TriesCode Verifier came_hello code first now → IsNoted told
    hello_noted told code by tried =
        let none = none_leased by.met in
        let unasked = ap grants.answer (by.grantor ∙ none.1) ∙ once in
        met_noted by.met told (tried_adds code came_hello first now tried)
        (inl (by.grantor ∙ none.1, unasked)) (λ _. unasked)
        (λ differs is. for_none jobs new.core.job new.taken by.met.hello frame by.fault differs by.met.takes by.met.job by.met.is by.refuses
        (sym by.outcome_is ∙ is))
        (record {
          ending = turns_away by.fault;
          answer_is = unasked;
          granted_is = by.granted ∙ none.0;
          outcome_is = by.outcome_is;
          has = record {
            said = by.met.hello;
            is = by.met.ranged;
            form = form_of new.core.job.task.statement.kind by.met.hello frame by.met.is by.met.placed;
            cause = subst (λ f. VerifierRefuses new.core.job awaits_hello f by.fault) by.met.is by.refuses;
            refused = refused_after by.met code (hello_code by.fault) by.code_is tried;
          };
        })

    lease_noted : (told : VerifierOutcome) (code : Option ℕ) → RefusesLease jobs grants mid frame told code new
        → TriesCode Verifier came_hello code first now → IsNoted told
    lease_noted told code by tried =
        asked_noted by.greeted told (Err by.fault) (tried_adds code came_hello first now tried) by.leased
        (λ differs is. lease_no_hello by.fault differs (sym by.outcome_is ∙ is))
        (record {
          ending = lacks_units by.fault;
          answer_is = by.leased.told;
          granted_is = by.granted ∙ (none_leased by.greeted.met).0;
          outcome_is = by.outcome_is;
          has = refused_grant by.greeted code (grant_code by.fault) by.code_is tried;
        })

    lacking_noted : (told : VerifierOutcome) (code : Option ℕ) → LacksGrantFrame jobs grants mid frame told code new
        → TriesCode Verifier came_hello code first now → IsNoted told
    lacking_noted told code by tried =
        lacks_noted by.greeted told by.span (tried_adds code came_hello first now tried) by.leased by.granted
        by.are (λ differs is. memory_no_hello differs (sym by.outcome_is ∙ is))
        (lacks_grant by.span) refl by.outcome_is (by.are, refused_grant by.greeted code 4 by.code_is tried)

    unsent_noted : (answer : List Frame) (broke : LineFault) → GrantsUnits jobs grants mid frame answer new
        → KeepsBack (lack_code_at mid.core.stage) Verifier came_hello (flat_map frame_spelling answer) broke first now
        → IsNoted (verifier_line_outcome broke)
    unsent_noted answer broke by (inl lacks) =
        lacks_noted by.greeted (verifier_line_outcome broke) by.span (tried_adds (lack_code_at mid.core.stage) came_hello first now lacks.1) by.leased by.granted by.are
        (line_no_hello broke) (lacks_grant by.span) refl (ap verifier_line_outcome lacks.0)
        (by.are, refused_grant by.greeted (lack_code_at mid.core.stage) 4 (ap lack_code_at by.greeted.met.waits) lacks.1)
    unsent_noted answer broke by (inr lost) =
        let spelled = grant_frame (granted_from new.core.job by.span.start) in
        lacks_noted by.greeted (verifier_line_outcome broke) by.span ([], lost.logged ∙ sym (append-nil came_hello)) by.leased by.granted by.are
        (line_no_hello broke) (loses_grant by.span broke) refl refl (
          by.are,
          record {
            greeting = by.greeted.greets.greeting;
            lost = subst (λ (q : List (Side × ℕ) × List ℕ). IsLostBy broke Verifier q.0 q.1 first now)
                (λ i. (
                  (hello_heard by.greeted.met ∙ ap (λ h. bytes_from Prover (hello_frame h)) (sym (same_hello by.greeted))) i,
                  (ap (flat_map frame_spelling) by.answer_is ∙ append-nil spelled) i,
                )) lost;
          },
        )

  -- ---- all together

  pub noted : (told : VerifierOutcome) → IsToldAs new.core.stage outcome told → IsNoted told
  noted told told_is = by_outcome outcome told_is left.halts
    where
      refused : (fault : VerifierOutcome) → TurnsDown (serves grants) Verifier passed mid new fault first now → IsNoted fault
      refused fault stop = elim (subst (λ j. ServingRefuses j grants mid stop.frame fault stop.code new) stood.jobs_are stop.refused.1) [
        | inl by ↦ hello_noted stop.frame fault stop.code by stop.tried
        | inr (inl by) ↦ lease_noted stop.frame fault stop.code by stop.tried
        | inr (inr (inl by)) ↦ lacking_noted stop.frame fault stop.code by stop.tried
        | inr (inr (inr by)) ↦ refused_behind stop.place stop.frame stop.expected stop.allowed fault stop.code by stop.tried
      ]

      unanswered : (broke : LineFault) → KeepsAnswer (serves grants) Verifier passed mid new broke first now → IsNoted (verifier_line_outcome broke)
      unanswered broke stop = elim (subst (λ j. ServingAnswers j grants mid stop.turn.frame stop.turn.answer new) stood.jobs_are stop.is.answered.1) [
        | inl by ↦ unsent_noted stop.turn.frame stop.turn.answer broke by stop.kept
        | inr by ↦ unanswered_behind stop.is.place stop.turn.frame stop.is.expected stop.is.allowed stop.turn.answer broke by stop.some stop.kept
      ]

      by_outcome : (o : Outcome VerifierOutcome) → IsToldAs new.core.stage o told → Halts (serves grants) [] Verifier left.turns mid new o first now
          → IsNoted told
      by_outcome Done told_is is = over told told_is is
      by_outcome (Refused fault) told_is stop = subst IsNoted (sym told_is) (refused fault stop)
      by_outcome (Cut broke) told_is (inl misses) = subst IsNoted (sym told_is) (missed broke misses)
      by_outcome (Cut broke) told_is (inr (inl stop)) = subst IsNoted (sym told_is) (unanswered broke stop)
      by_outcome (Cut broke) told_is (inr (inr stop)) = absurd (omega (arith, stop.some))

  pub done_judged : outcome ≡ Done → IsSome (judgement_at new.core.stage)
  done_judged is =
      let over_so : Finishes (serves grants) Verifier passed mid new first now =
      subst (λ o. Halts (serves grants) [] Verifier left.turns mid new o first now) is left.halts in
      let at : IsStanding jobs grants old new left.turns = subst (λ s. IsStanding jobs grants old s left.turns) (sym over_so.same) stood in
      let judged = judged_at grants old new.core.job new.granted new.core.stage new.grantor at.at.lease over_so.expected in
      subst (λ p. IsSome (judgement_at p)) (sym judged.2.1) refl
