-- What the course of a session says of its note, and of the keys.
use Rattle.std.proofs.Common.{◌≡◌, ◌⊎◌, inl, inr, ℕ, ◌+◌, ◌^◌, ◌≤◌, ◌<◌, List, [], ◌∷◌, ◌++◌, flat_map, length, Option, Some, None, Result, Ok, Err, refl, ap, sym, ◌∙◌, subst, arith, append-nil, append_assoc, IfSome, take, replicate, slice_index_or, length-append, zero, suc}
use Rattle.std.proofs.lemmas.Option.{same_Some}
use Rattle.zk_model.specs.Field.{IsElement, from_word}
use Rattle.zk_model.specs.Program.{section_count}
use Rattle.zk_model.specs.Files.{rounds_of}
use Rattle.frame_laws.proofs.Hellos.{fitting_is_hello, hello_allowed, hello_longest, longest_hello, longest_fits, longest_length}
use Rattle.zk_model.specs.Transcript.{Grant, Transcript, IsGrant, IsHello, HasForm, BeginsWith, hello_frame, sums_frame, openings_frame, verdict_frame, refuse_frame, bytes_from, turn_bytes, sent_by, spelling, Round, Setup, IsSetup, corrections_frame, session_turns, Hello, IsRound, IsTranscript, reply_frame, challenge_frame, setup_turns}
use Rattle.zk_model.specs.Statement.{IsStatement}
use Rattle.zk_model.specs.Audit.{hello_place}
use Rattle.zk_model.specs.declared.StatementKind.{StatementKind}
use Rattle.zk_model.specs.declared.StatementKind.TheVariants.{Boolean, Arithmetic}
use Rattle.zk_model.specs.Frames.{hello}
use Rattle.frame_laws.proofs.SentBytes.{none_of_prover, sent_by-verifier, sent_by-append, sent_by-prover}
use Rattle.frame_link.proofs.LineLemmas.{none_is_some, longest, within_longest, whole_within}
use Rattle.zk_model.specs.View.{ChecksHold, verdict_number, verdict_code}
use Rattle.zk_model.specs.ServedVerifier.{challenge_coin, IsServed, IsAccepted, ServesWith, RepliesAre, round_replies}
use Rattle.zk_model.specs.declared.Side.{Side}
use Rattle.zk_model.specs.declared.Side.TheVariants.{Prover, Verifier}
use Rattle.zk_model.specs.declared.Span.{Span}
use Rattle.zk_laws.specs.Extraction.{Extraction}
use Rattle.lease_store.specs.declared.grantor.GrantFault.{GrantFault}
use Rattle.session_core.specs.Jobs.{VerifierJob, units_of_job, granted_from, VerifierJobs, noted_job}
use Rattle.session_core.specs.Rounds.{round_turns}
use Rattle.session_core.specs.Judgements.{IsJudgement, session_transcript, verdict_in}
use Rattle.session_core.specs.Cores.{has_judged, VerifierStage, awaits_hello, awaits_asks, awaits_corrections, awaits_sums, awaits_openings, DiffersFirst}
use Rattle.session_core.specs.declared.judgement.Judgement.{Judgement}
use Rattle.session_core.proofs.Enough.{parts_within}
use Rattle.session_core.proofs.Served.{AreRanged, served_is}
use Rattle.frame_link.specs.Lines.{LinkSnapshot, IsWithinFrame, counted_times}
use Rattle.session_verifier.specs.Outcomes.{HasRefusal, grant_outcome, grant_code, judgement_outcome, refusal_of, grant_fault, hello_code, verifier_line_outcome, verifier_fault_outcome}
use Rattle.session_verifier.specs.Stages.{Greeting, IsGreeted, IsBehind, IsStopped, IsVerifierLogAt, IsRefusedGrant, IsGrantUnsent, IsJudgedLog, first_turn, second_turn, ComesThere, IsTurnedAway, RefusesAfter, IsTurnsLog, last_turn, Ending, HasEnding, answer_at, outcome_at, lacks_hello, turns_away, lacks_units, lacks_grant, loses_grant, stops_behind, judges, AreUnits, VerifierStopsBehind}
use Rattle.session_pool.specs.Notes.{granted_by}
use Rattle.session_verifier.specs.Notes.{IsJudgedSession, JudgesRightly, IsShown, HasJudged, RefusesNoLease, EndsBecause, LeasesBehindHello, CountsFaults, HasTaken, VerifierCompletes, CompletesForEach, IsUngranted, SendsRightly, AcceptsExactly, KeepsKeys, AnswersLease}
use Rattle.session_verifier.specs.declared.note.VerifierOutcome.{VerifierOutcome}
use Rattle.session_verifier.specs.declared.note.VerifierOutcome.TheVariants.{Accepted, RejectedSum, RejectedOpening, PeerEnded, BadFrame, Exhausted, Device, Broken, NoBlock, Broker, Link, NoMemory}
use Rattle.session_driver.proofs.Going.{came_more, answers_heard}
use Rattle.session_driver.proofs.Rows.{row_three, nested}
use Rattle.std.proofs.lemmas.List.{nil_from_length}
use Rattle.session_laws.specs.Serving.{ServedSessionExists}
use Rattle.session_laws.specs.Cuts.{CutIsNotAccepted, VerdictIsSaid}
use Rattle.session_laws.specs.Rounds.{RepliesAreInRange}
use Rattle.session_laws.proofs.Cut.{greeted, greeted_is}
use Rattle.session_verifier.proofs.StageLemmas.{some_rounds, within_of, hello_in, either_kind}
use Rattle.frame_link.proofs.FramesLemmas.{some_replies}
use Rattle.lease_store.specs.declared.LeaseFault.TheVariants as lease
use Rattle.lease_store.specs.declared.grantor.GrantFault.TheVariants as grant
use Rattle.session_core.specs.declared.judgement.Judgement.TheVariants as judged
use Rattle.session_driver.specs.Leaving.{CountsCalls}
use Rattle.frame_link.specs.declared.fault.LineFault.{LineFault}
use Rattle.frame_link.specs.declared.fault.LineFault.TheVariants as line
use Rattle.session_core.specs.declared.fault.VerifierFault.{VerifierFault}
use Rattle.session_core.specs.declared.fault.VerifierFault.TheVariants as session
use Rattle.std.specs.Prelude.{All}
use Rattle.std.proofs.lemmas.List.Elements.{All-nil, All-cons}
use Rattle.zk_model.specs.declared.Kind.TheVariants.{Direct, Extended}
use Rattle.zk_model.specs.declared.Params.{Params}
use Rattle.zk_laws.specs.Keys.{KeysFit}
use Rattle.zk_laws.specs.SeenPairs.{AreRounds}
use Rattle.session_laws.proofs.Turns.{said, answered, cut_said, cut_answered}
use Rattle.session_driver.proofs.Rounds.{BeginAlike, first_of, round_of, same_rounds, only, turns_of, setup_turns_of}
use Rattle.session_verifier.proofs.Cuts.{IsKnown, grant_is, greeting_is_hello, zeros, goes_further, turns_are, serves_with, cut_in_turn, cut_at_stop}

-- What the course of a session says of its note.

-- a lease that was refused is the outcome
pub answers_lease : (ending : Ending) → AnswersLease (answer_at ending) (outcome_at ending)
answers_lease (lacks_units refused) fault same = ap grant_outcome (cc)
answers_lease other fault same = cc

-- ---- which outcomes are judgements

abbrev judged_in : VerifierOutcome → Option Judgement
judged_in Accepted = Some judged.Accepted
judged_in (RejectedSum section left right) = Some (judged.RejectedSum section left right)
judged_in (RejectedOpening output left right) = Some (judged.RejectedOpening output left right)
judged_in other = None

judged_some : (judgement : Judgement) → judged_in (judgement_outcome judgement) ≡ Some judgement
judged_some judged.Accepted = refl
judged_some (judged.RejectedSum section left right) = refl
judged_some (judged.RejectedOpening output left right) = refl

pub one_judgement : (some other : Judgement) → judgement_outcome some ≡ judgement_outcome other → some ≡ other
one_judgement some other same = same_Some some other (sym (judged_some some) ∙ ap judged_in same ∙ judged_some other)

clash : {P : Type 0} (outcome : VerifierOutcome) (judgement : Judgement) → outcome ≡ judgement_outcome judgement → judged_in outcome ≡ None → P
clash outcome judgement is none = absurd (none_is_some (sym none ∙ ap judged_in is ∙ judged_some judgement))

lease_none : (fault : GrantFault) → judged_in (grant_outcome fault) ≡ None
lease_none (grant.Lease (lease.Exhausted at count total)) = refl
lease_none (grant.Lease lease.Device) = refl
lease_none (grant.Lease (lease.Broken at)) = refl
lease_none grant.NoMemory = refl
lease_none (grant.NoBlock wants) = refl
lease_none grant.Broker = refl

line_none : (fault : LineFault) → judged_in (verifier_line_outcome fault) ≡ None
line_none (line.PeerEnded at) = refl
line_none (line.BadFrame at) = refl
line_none line.Link = refl
line_none line.NoMemory = refl

session_none : (fault : VerifierFault) → judged_in (verifier_fault_outcome fault) ≡ None
session_none (session.BadHello differs) = refl
session_none session.NoMemory = refl

-- ---- judged sessions

coin_is_element : (word : ℕ) → IsElement (from_word word)
coin_is_element word = omega arith

number_fits : (job : VerifierJob) (start : ℕ) (t : Transcript) (judgement : Judgement) → IsKnown job
    → IsGrant job.task.file.params job.task.statement.program (granted_from job start)
    → t.commitment.setup.grant ≡ granted_from job start
    → IsJudgement job.task t judgement → verdict_number (verdict_in judgement) < 2 ^ 32
number_fits job start t judged.Accepted known granted same found = omega arith
number_fits job start t (judged.RejectedSum section left right) known granted same found =
    let few = parts_within (length job.task.statement.program.products) job.section_length known.is.section_some in
    let length_is = ap (λ g. section_count job.task.statement.program g.section_length) same in
    omega (arith, found.judged.below, few, length_is, known.products)
number_fits job start t (judged.RejectedOpening output left right) known granted same found =
    omega (arith, found.judged.1.below, known.opened)

pub judged_session : (job : VerifierJob) (span : Span) (granted : Option Span) (judgement : Judgement) (log : List (Side × ℕ)) → IsKnown job → granted ≡ Some span
    → IsJudgedLog job span.start judgement log → IsJudgedSession job granted judgement log
judged_session job span granted judgement log known leased logged =
    let grant = grant_is job span.start known.is logged.within in
    let t : Transcript =
    session_transcript job logged.greeting.hello span.start logged.rounds logged.corrections logged.sums logged.openings (verdict_in judgement) in
    let ranged : AreRanged job span.start logged.corrections logged.sums logged.openings (verdict_in judgement) = record {
      corrections = logged.elements;
      challenge = coin_is_element _;
      sums = logged.pairs;
      openings = logged.macs;
      number = number_fits job span.start t judgement known grant refl logged.judged;
    } in
    record {
      span = span;
      leased = leased;
      t = t;
      grant = refl;
      served = served_is job logged.greeting.hello span.start logged.rounds logged.corrections logged.sums logged.openings judgement log known.stated known.file known.is logged.greeting.fits grant logged.served ranged
          logged.judged (logged.spelled ∙ append-nil (spelling t));
      found = logged.judged;
    }

pub judges_rightly : (job : VerifierJob) (ending : Ending) (first now : LinkSnapshot) → IsKnown job → HasEnding job ending first now
    → JudgesRightly job (granted_by (answer_at ending)) (outcome_at ending) now.log
judges_rightly job (lacks_hello fault) first now known has judgement is = clash (verifier_line_outcome fault) judgement is (line_none fault)
judges_rightly job (turns_away fault) first now known has judgement is = clash (verifier_fault_outcome fault) judgement is (session_none fault)
judges_rightly job (lacks_units fault) first now known has judgement is = clash (grant_outcome fault) judgement is (lease_none fault)
judges_rightly job (lacks_grant span) first now known has judgement is = clash NoMemory judgement is refl
judges_rightly job (loses_grant span fault) first now known has judgement is = clash (verifier_line_outcome fault) judgement is (line_none fault)
judges_rightly job (stops_behind span fault) first now known has judgement is = clash (verifier_line_outcome fault) judgement is (line_none fault)
judges_rightly job (judges span found) first now known has judgement is =
    judged_session job span (Some span) judgement now.log known refl
    (subst (λ j. IsJudgedLog job span.start j now.log) (one_judgement found judgement is) has.1.log)

-- ---- failed calls

-- all bytes are the prover's
pub hello_bytes : (job : VerifierJob) (log : List (Side × ℕ)) → (comes : ComesThere job awaits_hello log) → log ≡ bytes_from Prover comes.rest
hello_bytes job log comes = comes.logged ∙ ap (λ l. l ++ bytes_from Prover comes.rest) comes.waited

not_link : (outcome : VerifierOutcome) → HasRefusal outcome → outcome ≡ Link → ⊥
not_link outcome refuses is = none_is_some (ap refusal_of (sym is) ∙ refuses.1)

counts_well : (outcome : VerifierOutcome) (first now : LinkSnapshot) → now.faults ≡ first.faults → (outcome ≡ Link → ⊥) → CountsFaults outcome first now
counts_well outcome first now same other = record { later = omega (arith, same); failed = λ is. absurd (other is); unfailed = inl same }

counts_line : (fault : LineFault) (first now : LinkSnapshot) → CountsCalls fault first now → CountsFaults (verifier_line_outcome fault) first now
counts_line line.Link first now calls = record { later = calls.later; failed = λ _. calls.failed refl; unfailed = inr (inl refl) }
counts_line (line.PeerEnded at) first now calls = counts_well (PeerEnded at) first now (calls.unfailed tt) (λ is. cc)
counts_line (line.BadFrame at) first now calls = counts_well (BadFrame at) first now (calls.unfailed tt) (λ is. cc)
counts_line line.NoMemory first now calls = counts_well NoMemory first now (calls.unfailed tt) (λ is. cc)

counts_stop : (job : VerifierJob) (stage : VerifierStage) (fault : LineFault) (first now : LinkSnapshot) → IsStopped job stage fault first now
    → CountsFaults (verifier_line_outcome fault) first now
counts_stop job stage fault first now stopped = elim stopped.why [
  | inl short ↦ counts_line fault first now short.calls
  | inr (inl lacks) ↦ subst (λ f. CountsFaults (verifier_line_outcome f) first now) (sym lacks.0) (counts_well NoMemory first now lacks.3.faults (λ is. cc))
  | inr (inr unsent) ↦ counts_line fault first now unsent.2.calls
]

counts_refused : (outcome : VerifierOutcome) (said : Hello) (code : ℕ) (first now : LinkSnapshot) → HasRefusal outcome → RefusesAfter said code first now
    → CountsFaults outcome first now
counts_refused outcome said code first now refuses (inl well) = counts_well outcome first now well.faults (not_link outcome refuses)
counts_refused outcome said code first now refuses (inr lost) = record {
  later = lost.later;
  failed = λ is. absurd (not_link outcome refuses is);
  unfailed = inr (inr (
    refuses,
    ap (sent_by Verifier) lost.logged ∙ none_of_prover (hello_frame said),
    lost.sends ∙ ap (λ (k : ℕ). counted_times (k + 1) first.sends) (answers_heard Verifier [] (hello_frame said)),
    lost.refused_sends,
  ));
}

-- the codes of refusals
pub lease_refusal : (fault : GrantFault) → refusal_of (grant_outcome fault) ≡ Some (grant_code fault)
lease_refusal (grant.Lease (lease.Exhausted at count total)) = refl
lease_refusal (grant.Lease lease.Device) = refl
lease_refusal (grant.Lease (lease.Broken at)) = refl
lease_refusal grant.NoMemory = refl
lease_refusal (grant.NoBlock wants) = refl
lease_refusal grant.Broker = refl

pub hello_refusal : (fault : VerifierFault) → refusal_of (verifier_fault_outcome fault) ≡ Some (hello_code fault)
hello_refusal (session.BadHello differs) = refl
hello_refusal session.NoMemory = refl

pub counts_faults : (job : VerifierJob) (ending : Ending) (first now : LinkSnapshot) → HasEnding job ending first now
    → CountsFaults (outcome_at ending) first now
counts_faults job (lacks_hello fault) first now has = counts_stop job awaits_hello fault first now has
counts_faults job (turns_away fault) first now has =
    counts_refused (verifier_fault_outcome fault) has.said (hello_code fault) first now (hello_code fault, hello_refusal fault) has.refused
counts_faults job (lacks_units fault) first now has =
    counts_refused (grant_outcome fault) has.greeting.hello (grant_code fault) first now (grant_code fault, lease_refusal fault) has.refused
counts_faults job (lacks_grant span) first now has = counts_refused NoMemory has.1.greeting.hello 4 first now (4, refl) has.1.refused
counts_faults job (loses_grant span fault) first now has = counts_line fault first now has.1.lost.calls
counts_faults job (stops_behind span fault) first now has = counts_stop job has.1.stage fault first now has.1.stopped
counts_faults job (judges span found) first now has =
    counts_well (judgement_outcome found) first now has.1.well.faults (λ is. clash Link found (sym is) refl)

-- ---- causes

-- no lease was asked for
unasked : RefusesNoLease None
unasked fault is = none_is_some is

leased_is_not_refused : (span : Span) → RefusesNoLease (Some (Ok span))
leased_is_not_refused span fault is = cc

-- by the fault at which the session stopped
stop_cause : (job : VerifierJob) (answer : Option (Result Span GrantFault)) (stage : VerifierStage) (fault : LineFault) (first now : LinkSnapshot)
    → RefusesNoLease answer → IsStopped job stage fault first now → EndsBecause job answer (verifier_line_outcome fault) first now
stop_cause job answer stage (line.PeerEnded at) first now leased stopped = (stage, stopped)
stop_cause job answer stage (line.BadFrame at) first now leased stopped = (stage, stopped)
stop_cause job answer stage line.Link first now leased stopped = (leased, inl (stage, stopped))
stop_cause job answer stage line.NoMemory first now leased stopped = inl (leased, inl (stage, stopped))

away_cause : (job : VerifierJob) (fault : VerifierFault) (first now : LinkSnapshot) → IsTurnedAway job fault first now
    → EndsBecause job None (verifier_fault_outcome fault) first now
away_cause job (session.BadHello differs) first now away =
    let same : away.cause.0 ≡ away.said = ap (hello_in away.said) (sym away.cause.2) in
    (away.said, away.is, subst (λ h. DiffersFirst job.task.file.id job.task.statement h differs) same away.cause.3, away.refused)
away_cause job session.NoMemory first now away =
    inl (unasked, inr (inl (record { said = away.said; is = away.is; fits = tt; refused = away.refused })))

lease_cause : (job : VerifierJob) (fault : GrantFault) (first now : LinkSnapshot) → IsRefusedGrant job (grant_code fault) first now
    → EndsBecause job (Some (Err fault)) (grant_outcome fault) first now
lease_cause job (grant.Lease (lease.Exhausted at count total)) first now refused = (refl, refused)
lease_cause job (grant.Lease lease.Device) first now refused = (refl, refused)
lease_cause job (grant.Lease (lease.Broken at)) first now refused = (refl, refused)
lease_cause job grant.NoMemory first now refused = inr (refl, refused)
lease_cause job (grant.NoBlock wants) first now refused = (refl, refused)
lease_cause job grant.Broker first now refused = (refl, refused)

judged_cause : (job : VerifierJob) (answer : Option (Result Span GrantFault)) (judgement : Judgement) (first now : LinkSnapshot) → HasJudged job answer judgement first now
    → EndsBecause job answer (judgement_outcome judgement) first now
judged_cause job answer judged.Accepted first now is = is
judged_cause job answer (judged.RejectedSum section left right) first now is = is
judged_cause job answer (judged.RejectedOpening output left right) first now is = is

unsent_cause : (job : VerifierJob) (span : Span) (fault : LineFault) (first now : LinkSnapshot) → IsGrantUnsent job span.start fault first now
    → EndsBecause job (Some (Ok span)) (verifier_line_outcome fault) first now
unsent_cause job span line.Link first now unsent = (leased_is_not_refused span, inr (span, refl, unsent))
unsent_cause job span line.NoMemory first now unsent = inl (leased_is_not_refused span, inr (inr (span, refl, unsent)))
unsent_cause job span other first now unsent = absurd unsent.lost.fault_is

lacking_cause : (job : VerifierJob) (span : Span) (first now : LinkSnapshot) → IsKnown job → IsRefusedGrant job 4 first now
    → EndsBecause job (Some (Ok span)) NoMemory first now
lacking_cause job span first now known is = inl (
  leased_is_not_refused span,
  inr (inl (record {
    said = is.greeting.hello;
    is = greeting_is_hello job known is.greeting;
    fits = is.greeting.fits;
    refused = is.refused;
  })),
)

pub ends_because : (job : VerifierJob) (ending : Ending) (first now : LinkSnapshot) → IsKnown job → HasEnding job ending first now
    → EndsBecause job (answer_at ending) (outcome_at ending) first now
ends_because job (lacks_hello fault) first now known has = stop_cause job None awaits_hello fault first now unasked has
ends_because job (turns_away fault) first now known has = away_cause job fault first now has
ends_because job (lacks_units fault) first now known has = lease_cause job fault first now has
ends_because job (lacks_grant span) first now known has = lacking_cause job span first now known has.1
ends_because job (loses_grant span fault) first now known has = unsent_cause job span fault first now has.1
ends_because job (stops_behind span fault) first now known has =
    stop_cause job (Some (Ok span)) has.1.stage fault first now (leased_is_not_refused span) has.1.stopped
ends_because job (judges span found) first now known has =
    judged_cause job (Some (Ok span)) found first now (record { span = span; leased = refl; judged = has.1 })

-- ---- units are leased after the hello

-- after other bytes a log begins with what it began with
pub begins_before : (log more now front : List (Side × ℕ)) → now ≡ log ++ more → BeginsWith log front → BeginsWith now front
begins_before log more now front is begun = (begun.0 ++ more, is ∙ ap (λ l. l ++ more) begun.1 ∙ append_assoc front begun.0 more)

-- a log begins with a hello for the job's file and statement
abbrev BeginsGreeted : VerifierJob → List (Side × ℕ) → Type 0
BeginsGreeted job log = (greeting : Greeting job) × BeginsWith log (bytes_from Prover (hello_frame greeting.hello))

begins_turns : (job : VerifierJob) (start : ℕ) (turns : List (List ℕ × List ℕ)) (said : List ℕ) (log : List (Side × ℕ)) → IsTurnsLog job start turns said log
    → BeginsGreeted job log
begins_turns job start turns said log at =
    let first = first_turn job at.greeting start in (
      at.greeting,
      (
        bytes_from Verifier first.1 ++ (turn_bytes turns ++ bytes_from Prover said),
        at.spelled ∙ row_three (bytes_from Prover first.0) (bytes_from Verifier first.1) (turn_bytes turns) (bytes_from Prover said),
      ),
    )

begins_at : (job : VerifierJob) (start : ℕ) (stage : VerifierStage) (log : List (Side × ℕ)) → IsBehind start stage → IsVerifierLogAt job stage log
    → BeginsGreeted job log
begins_at job start (awaits_asks begun asked) log starts at = begins_turns job begun _ _ log at.1
begins_at job start (awaits_corrections begun) log starts at = begins_turns job begun _ _ log at.turned
begins_at job start (awaits_sums begun d) log starts at = begins_turns job begun _ _ log at.1.turned
begins_at job start (awaits_openings begun d both) log starts at = begins_turns job begun _ _ log at.2.turned
begins_at job start (has_judged begun judgement) log starts at = begins_turns job begun _ _ log at.fixed.turned
begins_at job start other log starts at = absurd starts

begins_refused : (job : VerifierJob) (code : ℕ) (first now : LinkSnapshot) → IsRefusedGrant job code first now → BeginsGreeted job now.log
begins_refused job code first now is = (
  is.greeting,
  elim is.refused [
    | inl well ↦ (bytes_from Verifier (refuse_frame code), well.logged)
    | inr lost ↦ ([], lost.logged ∙ sym (append-nil (bytes_from Prover (hello_frame is.greeting.hello))))
  ],
)

pub leases_behind : (job : VerifierJob) (ending : Ending) (first now : LinkSnapshot) → HasEnding job ending first now
    → LeasesBehindHello job (answer_at ending) now.log
leases_behind job (lacks_hello fault) first now has = tt
leases_behind job (turns_away fault) first now has = tt
leases_behind job (lacks_units fault) first now has = begins_refused job (grant_code fault) first now has
leases_behind job (lacks_grant span) first now has = begins_refused job 4 first now has.1
leases_behind job (loses_grant span fault) first now has =
    (has.1.greeting, ([], has.1.lost.logged ∙ sym (append-nil (bytes_from Prover (hello_frame has.1.greeting.hello)))))
leases_behind job (stops_behind span fault) first now has =
    let comes = has.1.stopped.comes in
    let begun = begins_at job span.start has.1.stage comes.before has.1.behind comes.waited in
    (begun.0, begins_before comes.before (bytes_from Prover comes.rest) now.log (bytes_from Prover (hello_frame begun.0.hello)) comes.logged begun.1)
leases_behind job (judges span found) first now has = begins_at job span.start (has_judged span.start found) now.log refl has.1.log

-- ---- what an accepted session shows

units_of : (job : VerifierJob) (other span : Span) → Some other ≡ Some span → AreUnits job other → span.end ≡ span.start + units_of_job job
units_of job other span same are = subst (λ (s : Span). s.end ≡ s.start + units_of_job job) (same_Some other span same) are.units

units_leased : (job : VerifierJob) (ending : Ending) (first now : LinkSnapshot) (span : Span) → HasEnding job ending first now
    → granted_by (answer_at ending) ≡ Some span → span.end ≡ span.start + units_of_job job
units_leased job (lacks_hello fault) first now span has leased = absurd (none_is_some leased)
units_leased job (turns_away fault) first now span has leased = absurd (none_is_some leased)
units_leased job (lacks_units fault) first now span has leased = absurd (none_is_some leased)
units_leased job (lacks_grant other) first now span has leased = units_of job other span leased has.0
units_leased job (loses_grant other fault) first now span has leased = units_of job other span leased has.0
units_leased job (stops_behind other fault) first now span has leased = units_of job other span leased has.0
units_leased job (judges other found) first now span has leased = units_of job other span leased has.0

pub is_shown : (job : VerifierJob) (ending : Ending) (first now : LinkSnapshot)
    → IsKnown job → Extraction → HasEnding job ending first now → outcome_at ending ≡ Accepted → IsShown job (granted_by (answer_at ending)) now.log
is_shown job ending first now known extraction has accepted =
    let session = judges_rightly job ending first now known has judged.Accepted accepted in
    let t = session.t in
    let served = session.served in
    let checks : ChecksHold job.task.file job.task.statement t = record {
      keys = served.judged.keys;
      carried = served.judged.carried;
      sections = served.judged.judged.0;
      openings = served.judged.judged.1;
    } in
    record {
      span = session.span;
      leased = session.leased;
      units = units_leased job ending first now session.span has session.leased;
      t = t;
      in_order = served.in_order;
      grant = session.grant;
      challenge = served.challenge ∙ ap (λ (g : Grant). challenge_coin job.task.file g.start) session.grant;
      checks = checks;
      said = served.judged.said;
      extracted = λ prover is dealt. extraction job.task.file job.task.statement t known.file known.stated served.in_order.transcript served.replies checks prover is dealt;
    }

-- ---- what an outcome says of the lease that was asked for

-- a session that ended by the fault of a lease was answered by it
pub refused_by : (job : VerifierJob) (answer : Option (Result Span GrantFault)) (outcome : VerifierOutcome) (first now : LinkSnapshot)
    → EndsBecause job answer outcome first now → IfSome (grant_fault outcome) (λ fault. answer ≡ Some (Err fault))
refused_by job answer (Exhausted at count total) first now because = because.0
refused_by job answer Device first now because = because.0
refused_by job answer (Broken at) first now because = because.0
refused_by job answer (NoBlock wants) first now because = because.0
refused_by job answer Broker first now because = because.0
refused_by job answer other first now because = tt

-- a session that is accepted with an honest prover of whichever statement is so with one of the statement that is noted
pub completes_noted : (jobs : VerifierJobs) (taken : Option ℕ) (answer : Option (Result Span GrantFault)) (outcome : VerifierOutcome)
    (first now : LinkSnapshot)
    → IsStatement jobs.first.task.statement → HasTaken jobs taken now.log → CompletesForEach jobs answer outcome first now → VerifierCompletes (noted_job jobs taken) answer outcome first now
completes_noted jobs None answer outcome first now stated has completes prover peer = completes prover (record {
  number = 0;
  hello = longest_hello jobs.first.task.file.id jobs.first.task.statement;
  first = record {
    within = omega arith;
    fits = longest_fits jobs.first.task.file.id jobs.first.task.statement stated;
    first = λ k below. absurd (omega (arith, below));
  };
  peer = peer;
})
completes_noted jobs (Some n) answer outcome first now stated has completes prover peer =
    completes prover (record { number = n; hello = has.0; first = has.1; peer = peer })

-- ---- what the verifier sends

-- a hello is a frame, with nothing past it
pub hello_within : (kind : StatementKind) (said : Hello) → IsHello said → HasForm kind said.public → IsWithinFrame (hello_place kind) (hello_frame said)
hello_within kind said is form =
    whole_within (hello_place kind) (hello_frame said) (hello said) (record { allowed = hello_allowed kind said is form; spelled = refl })

-- a refusal, or nothing, after the hello
ungranted_alone : (kind : StatementKind) (outcome : VerifierOutcome) (rest : List ℕ) (log : List (Side × ℕ)) → IsWithinFrame (hello_place kind) rest
    → log ≡ bytes_from Prover rest → IsUngranted kind outcome log
ungranted_alone kind outcome rest log few is =
    record { rest = rest; few = few; answer = []; refused = inl refl; bytes = is ∙ sym (append-nil (bytes_from Prover rest)) }

ungranted_refused : (kind : StatementKind) (outcome : VerifierOutcome) (code : ℕ) (said : Hello) (first now : LinkSnapshot) → IsHello said
    → HasForm kind said.public → refusal_of outcome ≡ Some code → RefusesAfter said code first now → IsUngranted kind outcome now.log
ungranted_refused kind outcome code said first now is form of refused = elim refused [
  | inl well ↦ record {
    rest = hello_frame said;
    few = hello_within kind said is form;
    answer = refuse_frame code;
    refused = inr (code, of, refl);
    bytes = well.logged;
  }
  | inr lost ↦ ungranted_alone kind outcome (hello_frame said) now.log (hello_within kind said is form) lost.logged
]

-- before the grant
pub before_grant : (job : VerifierJob) (start : ℕ) (log : List (Side × ℕ)) → RepliesAreInRange → ServedSessionExists → IsKnown job
    → start + units_of_job job ≤ job.task.file.params.total
    → IsGreeted job log → ServesWith job.task (granted_from job start) log
before_grant job start log ranges law known within is =
    let greeting = is.greeting in
    let givens = job.task.statement.program.givens in
    let some = some_rounds job start ranges (record { file = known.file; is = known.is }) within in
    let s = goes_further job greeting start some.0 (replicate givens 0) law known within some.1 (zeros givens) in
    let hello = bytes_from Prover (first_turn job greeting start).0 in
    let grant = bytes_from Verifier (first_turn job greeting start).1 in
    let more = turn_bytes (round_turns some.0 ++ second_turn job start (replicate givens 0) ∷ last_turn s.t.sums s.t.openings s.t.code s.t.number ∷ []) in
    serves_with job greeting start some.0 (replicate givens 0) log s (inl (
      grant ++ more,
      ap turn_bytes (turns_are job greeting start some.0 (replicate givens 0) s) ∙ append_assoc hello grant more ∙ ap (λ l. l ++ (grant ++ more)) (sym is.bytes),
    ))

pub serves_judged : (job : VerifierJob) (span : Span) (judgement : Judgement) (log : List (Side × ℕ)) → IsJudgedSession job (Some span) judgement log
    → ServesWith job.task (granted_from job span.start) log
serves_judged job span judgement log session =
    let same : session.span ≡ span = sym (same_Some span session.span session.leased) in
    record {
      t = session.t;
      verdict = verdict_in judgement;
      served = subst (λ l. IsServed job.task session.t (verdict_in judgement) l) session.served.in_order.bytes session.served;
      granted = session.grant ∙ ap (λ (s : Span). granted_from job s.start) same;
      bytes = inl ([], sym session.served.in_order.bytes ∙ sym (append-nil log));
    }

-- after the hello, a refusal of the grant is logged, or nothing
sends_lacking : (job : VerifierJob) (span : Span) (first now : LinkSnapshot) → RepliesAreInRange → ServedSessionExists → IsKnown job
    → span.start + units_of_job job ≤ job.task.file.params.total → IsRefusedGrant job 4 first now → SendsRightly job (Some span) NoMemory now.log
sends_lacking job span first now ranges law known within is = elim is.refused [
  | inl well ↦ inr (refl, (is.greeting, well.logged))
  | inr lost ↦ inl (before_grant job span.start now.log ranges law known within (record { greeting = is.greeting; bytes = lost.logged }))
]

pub sends_behind : (job : VerifierJob) (span : Span) (fault : LineFault) (first now : LinkSnapshot) → RepliesAreInRange → ServedSessionExists → IsKnown job
    → VerifierStopsBehind job span.start fault first now → ServesWith job.task (granted_from job span.start) now.log
sends_behind job span fault first now ranges law known stops =
    let some = cut_at_stop job span.start fault first now ranges law known stops in
    let cut = some.cut in
    serves_with job cut.greeting span.start cut.rounds cut.d now.log cut.session (inr (cut_in_turn job span.start some.whole some.rest now.log cut))

-- the units lie in the file
pub begins_within : (job : VerifierJob) (span : Span) → AreUnits job span → span.start + units_of_job job ≤ job.task.file.params.total
begins_within job span are = omega (arith, are.units, are.within)

pub sends_rightly : (job : VerifierJob) (ending : Ending) (first now : LinkSnapshot) → RepliesAreInRange → ServedSessionExists → IsKnown job
    → HasEnding job ending first now → SendsRightly job (granted_by (answer_at ending)) (outcome_at ending) now.log
sends_rightly job (lacks_hello fault) first now ranges law known has =
    ungranted_alone job.task.statement.kind (verifier_line_outcome fault) has.rest now.log
    (within_of job awaits_hello now.log has.comes (hello_place job.task.statement.kind) refl) (hello_bytes job now.log has.comes)
sends_rightly job (turns_away fault) first now ranges law known has =
    ungranted_refused job.task.statement.kind (verifier_fault_outcome fault) (hello_code fault) has.said first now has.is has.form (hello_refusal fault) has.refused
sends_rightly job (lacks_units fault) first now ranges law known has =
    ungranted_refused job.task.statement.kind (grant_outcome fault) (grant_code fault) has.greeting.hello first now (greeting_is_hello job known has.greeting)
    has.greeting.fits.form (lease_refusal fault) has.refused
sends_rightly job (lacks_grant span) first now ranges law known has =
    sends_lacking job span first now ranges law known (begins_within job span has.0) has.1
sends_rightly job (loses_grant span fault) first now ranges law known has =
    inl (before_grant job span.start now.log ranges law known (begins_within job span has.0) (record { greeting = has.1.greeting; bytes = has.1.lost.logged }))
sends_rightly job (stops_behind span fault) first now ranges law known has = inl (sends_behind job span fault first now ranges law known has.1)
sends_rightly job (judges span found) first now ranges law known has =
    inl (serves_judged job span found now.log (judged_session job span (Some span) found now.log known refl has.1.log))

-- ---- no cut session is accepted

-- the longest frame of a hello's place is the longest hello
place_longest : (kind : StatementKind) → longest (hello_place kind) ≡ hello_longest kind
place_longest Boolean = refl
place_longest Arithmetic = refl

-- no part of the prover's first turn is accepted, nor of that with the longest hello
first_is_cut : (job : VerifierJob) (log : List (Side × ℕ)) (rest : List ℕ) → CutIsNotAccepted → IsKnown job → log ≡ bytes_from Prover rest
    → IsWithinFrame (hello_place job.task.statement.kind) rest → IsAccepted job.task log → ⊥
first_is_cut job log rest law known is few accepted =
    let most : length rest ≤ longest (hello_place job.task.statement.kind) = within_longest (hello_place job.task.statement.kind) rest few in
    let hello = longest_hello job.task.file.id job.task.statement in
    let greets : IsHello hello = fitting_is_hello job.task.file.id job.task.statement hello known.file.id known.stated
    (longest_fits job.task.file.id job.task.statement known.stated) in
    law job.task (greeted hello accepted.t) log known.file.params
    (greeted_is job.task.file.params job.task.statement.program hello accepted.t greets accepted.in_order.transcript)
    (record {
      whole = 0;
      more = omega arith;
      rest = rest;
      most = omega (arith, most, place_longest job.task.statement.kind, longest_length job.task.file.id job.task.statement known.file.id known.stated);
      bytes = is;
    })
    accepted

-- the verifier's first byte is that of a grant
grant_first : (job : VerifierJob) (log : List (Side × ℕ)) (accepted : IsAccepted job.task log) → slice_index_or (sent_by Verifier log) 0 0 ≡ 2
grant_first job log accepted =
    ap (λ l. slice_index_or (sent_by Verifier l) 0 0) accepted.in_order.bytes
    ∙ ap (λ l. slice_index_or l 0 0) (sent_by-verifier (session_turns accepted.t))

-- an answer to what the prover said first
pub answered_alone : (rest answer : List ℕ) → sent_by Verifier (bytes_from Prover rest ++ bytes_from Verifier answer) ≡ answer
answered_alone rest answer = came_more Prover (bytes_from Prover rest) answer ∙ ap (λ l. l ++ answer) (none_of_prover rest)

-- so no refusal is accepted
refusal_is_cut : (job : VerifierJob) (log : List (Side × ℕ)) (rest : List ℕ) (code : ℕ) → log ≡ bytes_from Prover rest ++ bytes_from Verifier (refuse_frame code)
    → IsAccepted job.task log → ⊥
refusal_is_cut job log rest code is accepted =
    let sent : sent_by Verifier log ≡ refuse_frame code = ap (sent_by Verifier) is ∙ answered_alone rest (refuse_frame code) in
    absurd (omega (arith, ap (λ l. slice_index_or l 0 0) sent, grant_first job log accepted))

ungranted_is_cut : (job : VerifierJob) (outcome : VerifierOutcome) (log : List (Side × ℕ)) → CutIsNotAccepted → IsKnown job → IsUngranted job.task.statement.kind outcome log
    → IsAccepted job.task log → ⊥
ungranted_is_cut job outcome log law known is accepted = elim is.refused [
  | inl none ↦ first_is_cut job log is.rest law known
      (is.bytes ∙ ap (λ l. bytes_from Prover is.rest ++ bytes_from Verifier l) none ∙ append-nil (bytes_from Prover is.rest)) is.few accepted
  | inr refused ↦ refusal_is_cut job log is.rest refused.0
      (is.bytes ∙ ap (λ l. bytes_from Prover is.rest ++ bytes_from Verifier l) refused.2) accepted
]

-- a judgement whose log is accepted accepts
pub accepted_judgement : (judgement : Judgement) → verdict_code (verdict_in judgement) ≡ 0 → judgement_outcome judgement ≡ Accepted
accepted_judgement judged.Accepted code = refl
accepted_judgement other code = absurd (omega (arith, code))

pub accepts_exactly : (job : VerifierJob) (ending : Ending) (first now : LinkSnapshot) → RepliesAreInRange → ServedSessionExists → CutIsNotAccepted → VerdictIsSaid
    → IsKnown job → HasEnding job ending first now → AcceptsExactly job (outcome_at ending) now.log
accepts_exactly job (lacks_hello fault) first now ranges law cut said known has accepted =
    absurd (ungranted_is_cut job (verifier_line_outcome fault) now.log cut known (sends_rightly job (lacks_hello fault) first now ranges law known has) accepted)
accepts_exactly job (turns_away fault) first now ranges law cut said known has accepted =
    absurd (ungranted_is_cut job (verifier_fault_outcome fault) now.log cut known (sends_rightly job (turns_away fault) first now ranges law known has) accepted)
accepts_exactly job (lacks_units fault) first now ranges law cut said known has accepted =
    absurd (ungranted_is_cut job (grant_outcome fault) now.log cut known (sends_rightly job (lacks_units fault) first now ranges law known has) accepted)
accepts_exactly job (lacks_grant span) first now ranges law cut said known has accepted = absurd (ungranted_is_cut job NoMemory now.log cut known
    (ungranted_refused job.task.statement.kind NoMemory 4 has.1.greeting.hello first now (greeting_is_hello job known has.1.greeting) has.1.greeting.fits.form refl
    has.1.refused) accepted)
accepts_exactly job (loses_grant span fault) first now ranges law cut said known has accepted =
    absurd (first_is_cut job now.log (hello_frame has.1.greeting.hello) cut known has.1.lost.logged
    (hello_within job.task.statement.kind has.1.greeting.hello (greeting_is_hello job known has.1.greeting) has.1.greeting.fits.form) accepted)
accepts_exactly job (stops_behind span fault) first now ranges law cut said known has accepted =
    let some = cut_at_stop job span.start fault first now ranges law known has.1 in
    let is = some.cut in
    absurd (cut job.task is.session.t now.log known.file.params is.session.served.in_order.transcript
    (cut_in_turn job span.start some.whole some.rest now.log is) accepted)
accepts_exactly job (judges span found) first now ranges law cut said known has accepted =
    let session = judged_session job span (Some span) found now.log known refl has.1.log in
    let codes = said job.task.file.params job.task.statement.program session.t accepted.t now.log known.file.params
    session.served.in_order.transcript accepted.in_order.transcript session.served.in_order.bytes accepted.in_order.bytes in
    accepted_judgement found (sym session.served.judged.said.code ∙ codes.0 ∙ accepted.said.code)

-- The keys fit the pairs that the prover sees: the replies that a log tells are those of the verifier's file.

-- ---- logs that begin with two turns

-- what a log tells that begins with two turns
two_said : (one two : List ℕ × List ℕ) (more : List (Side × ℕ)) → sent_by Prover (turn_bytes (one ∷ two ∷ []) ++ more) ≡ one.0 ++ (two.0 ++ sent_by Prover more)
two_said one two more =
    sent_by-append Prover (turn_bytes (one ∷ two ∷ [])) more ∙ ap (λ l. l ++ sent_by Prover more) (sent_by-prover (one ∷ two ∷ []))
    ∙ nested one.0 two.0 [] (sent_by Prover more)

two_answered : (one two : List ℕ × List ℕ) (more : List (Side × ℕ))
    → sent_by Verifier (turn_bytes (one ∷ two ∷ []) ++ more) ≡ one.1 ++ (two.1 ++ sent_by Verifier more)
two_answered one two more =
    sent_by-append Verifier (turn_bytes (one ∷ two ∷ [])) more ∙ ap (λ l. l ++ sent_by Verifier more) (sent_by-verifier (one ∷ two ∷ []))
    ∙ nested one.1 two.1 [] (sent_by Verifier more)

-- a beginning of turns
alike_begun : (first second one two : List ℕ × List ℕ) (turns : List (List ℕ × List ℕ)) (log more rest : List (Side × ℕ))
    → log ≡ turn_bytes (one ∷ two ∷ []) ++ more → turn_bytes (first ∷ second ∷ turns) ≡ log ++ rest → BeginAlike first second one two
alike_begun first second one two turns log more rest is begun =
    let all : turn_bytes (first ∷ second ∷ turns) ≡ turn_bytes (one ∷ two ∷ []) ++ (more ++ rest) =
    begun ∙ ap (λ l. l ++ rest) is ∙ append_assoc (turn_bytes (one ∷ two ∷ [])) more rest in
    record {
      said_here = said turns;
      said_there = sent_by Prover (more ++ rest);
      same_said = sym (sent_by-prover (first ∷ second ∷ turns)) ∙ ap (sent_by Prover) all ∙ two_said one two (more ++ rest);
      answered_here = answered turns;
      answered_there = sent_by Verifier (more ++ rest);
      same_answered = sym (sent_by-verifier (first ∷ second ∷ turns)) ∙ ap (sent_by Verifier) all ∙ two_answered one two (more ++ rest);
    }

-- whole turns, and bytes of the prover
alike_cut : (first second one two : List ℕ × List ℕ) (turns : List (List ℕ × List ℕ)) (rest : List ℕ) (log more : List (Side × ℕ))
    → log ≡ turn_bytes (one ∷ two ∷ []) ++ more → log ≡ turn_bytes (first ∷ second ∷ turns) ++ bytes_from Prover rest → BeginAlike first second one two
alike_cut first second one two turns rest log more is cut = record {
  said_here = said turns ++ rest;
  said_there = sent_by Prover more;
  same_said = ap (λ l. first.0 ++ l) (sym (append_assoc second.0 (said turns) rest)) ∙ sym (append_assoc first.0 (second.0 ++ said turns) rest)
      ∙ sym (cut_said (first ∷ second ∷ turns) rest) ∙ ap (sent_by Prover) (sym cut ∙ is) ∙ two_said one two more;
  answered_here = answered turns;
  answered_there = sent_by Verifier more;
  same_answered = sym (cut_answered (first ∷ second ∷ turns) rest) ∙ ap (sent_by Verifier) (sym cut ∙ is) ∙ two_answered one two more;
}

-- two turns are whole at least, where the answers to two are logged
not_before : (turns : List (List ℕ × List ℕ)) (one two : List ℕ × List ℕ) (rest : List ℕ) (log more : List (Side × ℕ))
    → log ≡ turn_bytes (one ∷ two ∷ []) ++ more → log ≡ turn_bytes turns ++ bytes_from Prover rest → length (answered turns) < length one.1 + length two.1 → ⊥
not_before turns one two rest log more is cut few =
    let same : answered turns ≡ one.1 ++ (two.1 ++ sent_by Verifier more) =
    sym (cut_answered turns rest) ∙ ap (sent_by Verifier) (sym cut ∙ is) ∙ two_answered one two more in
    absurd (omega (arith, few, ap length same, length-append one.1 (two.1 ++ sent_by Verifier more), length-append two.1 (sent_by Verifier more)))

alike_in_turn : (first second one two : List ℕ × List ℕ) (turns : List (List ℕ × List ℕ)) (whole : ℕ) (rest : List ℕ) (log more : List (Side × ℕ))
    → log ≡ turn_bytes (one ∷ two ∷ []) ++ more → log ≡ turn_bytes (take whole (first ∷ second ∷ turns)) ++ bytes_from Prover rest
    → length first.1 ≡ length one.1 → 1 ≤ length two.1 → BeginAlike first second one two
alike_in_turn first second one two turns zero rest log more is cut long some =
    absurd (not_before [] one two rest log more is cut (omega (arith, some)))
alike_in_turn first second one two turns (suc zero) rest log more is cut long some =
    absurd (not_before (first ∷ []) one two rest log more is cut (omega (arith, some, long, ap length (append-nil first.1))))
alike_in_turn first second one two turns (suc (suc n)) rest log more is cut long some =
    alike_cut first second one two (take n turns) rest log more is cut

-- ---- the replies that a log tells

-- of a session that the verifier serves
served_alike : (job : VerifierJob) (grant : Grant) (log more : List (Side × ℕ)) (setup : Setup) (round another : Round)
    → IsSetup job.task.file.params job.task.statement.program setup → setup.rounds ≡ another ∷ []
    → log ≡ turn_bytes (setup_turns setup) ++ more → (serves : ServesWith job.task grant log) → serves.t.commitment.setup.rounds ≡ round ∷ []
    → BeginAlike (first_of serves.t.commitment.setup.hello serves.t.commitment.setup.grant) (round_of round) (first_of setup.hello setup.grant) (round_of another)
served_alike job grant log more setup round another is one begins serves only_round =
    let t : Transcript = serves.t in
    let last : List (List ℕ × List ℕ) = (corrections_frame serves.t.commitment.corrections, challenge_frame serves.t.challenge)
    ∷ (sums_frame serves.t.sums ++ openings_frame serves.t.openings, verdict_frame serves.t.code serves.t.number) ∷ [] in
    let logged : log ≡ turn_bytes (first_of setup.hello setup.grant ∷ round_of another ∷ []) ++ more =
    begins ∙ ap (λ l. turn_bytes l ++ more) (setup_turns_of setup another one) in
    let ranged : IsRound job.task.file.params setup.grant another =
    subst (All (IsRound job.task.file.params setup.grant)) one is.rounds 0 another (omega arith) in
    let some : 1 ≤ length (flat_map reply_frame another.replies) = some_replies another.replies (omega (arith, ranged.replies.0, is.grant.count)) in
    elim serves.bytes [
      | inl begun ↦ alike_begun (first_of t.commitment.setup.hello t.commitment.setup.grant) (round_of round) (first_of setup.hello setup.grant)
          (round_of another)
          last log more begun.0 logged (ap turn_bytes (sym (turns_of t round only_round)) ∙ begun.1)
      | inr cut ↦ alike_in_turn (first_of t.commitment.setup.hello t.commitment.setup.grant) (round_of round) (first_of setup.hello setup.grant)
          (round_of another)
          last cut.whole cut.rest log more logged
          (cut.bytes ∙ ap (λ (l : List (List ℕ × List ℕ)). turn_bytes (take cut.whole l) ++ bytes_from Prover cut.rest) (turns_of t round only_round)) refl some
    ]

served_replies : (job : VerifierJob) (grant : Grant) (log : List (Side × ℕ)) (setup : Setup) → IsKnown job → job.task.file.params.kind ≡ Extended
    → IsSetup job.task.file.params job.task.statement.program setup → BeginsWith log (turn_bytes (setup_turns setup)) → ServesWith job.task grant log
    → RepliesAre job.task.file setup
served_replies job grant log setup known extended is begins serves =
    let params = job.task.file.params in
    let t = serves.t in
    let own = t.commitment.setup in
    let transcript : IsTranscript params job.task.statement.program t = serves.served.in_order.transcript in
    let set = transcript.commitment.setup in
    let mine = only own.rounds (set.round_count ∙ ap rounds_of extended) in
    let one = only setup.rounds (is.round_count ∙ ap rounds_of extended) in
    let alike = served_alike job grant log begins.0 setup mine.0 one.0 is one.1 begins.1 serves mine.1 in
    let here : IsRound params own.grant mine.0 = subst (All (IsRound params own.grant)) mine.1 set.rounds 0 mine.0 (omega arith) in
    let there : IsRound params setup.grant one.0 = subst (All (IsRound params setup.grant)) one.1 is.rounds 0 one.0 (omega arith) in
    let same = same_rounds params job.task.statement.program own.hello setup.hello own.grant setup.grant mine.0 one.0 known.file.params
    set.hello is.hello set.grant is.grant here there alike in
    let replied : mine.0.replies ≡ round_replies job.task.file own.grant mine.0.asks =
    subst (All (λ (r : Round). r.replies ≡ round_replies job.task.file own.grant r.asks)) mine.1 serves.served.replies 0 mine.0 (omega arith) in
    let so : one.0.replies ≡ round_replies job.task.file setup.grant one.0.asks =
    sym same.replies ∙ replied ∙ (λ i. round_replies job.task.file (same.grants i) (same.asks i)) in
    subst (All (λ (r : Round). r.replies ≡ round_replies job.task.file setup.grant r.asks)) (sym one.1)
    (All-cons (λ (r : Round). r.replies ≡ round_replies job.task.file setup.grant r.asks) one.0 [] so
    (All-nil (λ (r : Round). r.replies ≡ round_replies job.task.file setup.grant r.asks)))

-- a log without a grant begins with no setup's turns
no_setup : (kind : StatementKind) (outcome : VerifierOutcome) (log : List (Side × ℕ)) (setup : Setup) → IsUngranted kind outcome log → BeginsWith log (turn_bytes (setup_turns setup)) → ⊥
no_setup kind outcome log setup is begins =
    let answers : is.answer ≡ answered (setup_turns setup) ++ sent_by Verifier begins.0 =
    sym (ap (sent_by Verifier) is.bytes ∙ answered_alone is.rest is.answer) ∙ ap (sent_by Verifier) begins.1 ∙ sent_by-append Verifier (turn_bytes (setup_turns setup)) begins.0
    ∙ ap (λ l. l ++ sent_by Verifier begins.0) (sent_by-verifier (setup_turns setup)) in
    let granted : slice_index_or is.answer 0 0 ≡ 2 = ap (λ l. slice_index_or l 0 0) answers in
    elim is.refused [
      | inl none ↦ absurd (omega (arith, ap (λ l. slice_index_or l 0 0) none, granted))
      | inr refused ↦ absurd (omega (arith, ap (λ l. slice_index_or l 0 0) refused.2, granted))
    ]

told_replies : (job : VerifierJob) (granted : Option Span) (outcome : VerifierOutcome) (log : List (Side × ℕ)) (setup : Setup) → IsKnown job
    → SendsRightly job granted outcome log → IsSetup job.task.file.params job.task.statement.program setup → BeginsWith log (turn_bytes (setup_turns setup))
    → job.task.file.params.kind ≡ Extended → RepliesAre job.task.file setup
told_replies job None outcome log setup known sends is begins extended = absurd (no_setup job.task.statement.kind outcome log setup sends begins)
told_replies job (Some span) outcome log setup known (inl sends) is begins extended =
    served_replies job (granted_from job span.start) log setup known extended is begins sends
told_replies job (Some span) outcome log setup known (inr refused) is begins extended = absurd (no_setup job.task.statement.kind NoMemory log setup (record {
  rest = hello_frame refused.1.0.hello;
  few = hello_within job.task.statement.kind refused.1.0.hello (greeting_is_hello job known refused.1.0) refused.1.0.fits.form;
  answer = refuse_frame 4;
  refused = inr (4, refl, refl);
  bytes = refused.1.1;
}) begins)

-- ---- the keys

pub keeps_keys : (job : VerifierJob) (granted : Option Span) (outcome : VerifierOutcome) (log : List (Side × ℕ)) → KeysFit → IsKnown job
    → SendsRightly job granted outcome log → KeepsKeys job log
keeps_keys job granted outcome log law known sends prover setup pairs is dealt set begins seen =
    law prover job.task.file setup pairs is known.file dealt
    (subst (λ (p : Params). AreRounds p setup.grant setup.rounds) (sym dealt.params)
    (record { within = set.grant.within; count = set.round_count; each = set.rounds }))
    (by_kind (either_kind job.task.file.params.kind)) seen
  where
    by_kind : ((job.task.file.params.kind ≡ Direct) ⊎ (job.task.file.params.kind ≡ Extended)) → RepliesAre job.task.file setup
    by_kind (inl direct) = subst (All (λ (r : Round). r.replies ≡ round_replies job.task.file setup.grant r.asks))
        (sym (nil_from_length setup.rounds (set.round_count ∙ ap rounds_of direct)))
        (All-nil (λ (r : Round). r.replies ≡ round_replies job.task.file setup.grant r.asks))
    by_kind (inr extended) = told_replies job granted outcome log setup known sends set begins extended
