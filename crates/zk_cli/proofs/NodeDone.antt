-- What the status of a node's run says; and that all is done where nothing is refused, nothing fails, and all provers are honest, but for want of
-- a block.
use Rattle.std.proofs.Common.{◌≡◌, ◌≢◌, ◌⊎◌, ◌<◌, ◌≤◌, ℕ, zero, suc, Bool, true, false, List, [], ◌∷◌, All, Contains, length, get_or, Option, None, Some, Result, Ok, Err, refl, sym, ap, ◌∙◌, subst, inl, inr, arith}
use Rattle.std.specs.Prelude.{◌==◌, ◌||◌}
use Rattle.std.proofs.lemmas.Bool.Decides.{nat_tests}
use Rattle.std.proofs.lemmas.List.Sorted.{All-permutation}
use Rattle.zk_model.specs.declared.Span.{Span}
use Rattle.zk_port.specs.Changes.{Change}
use Rattle.zk_port.specs.Counts.{Rose}
use Rattle.zk_port.specs.Disks.{DiskState}
use Rattle.zk_port.specs.Doors.{DoorState, after_listen}
use Rattle.zk_port.specs.Files.{Files}
use Rattle.zk_port.specs.Links.{LinkState}
use Rattle.arith_reader.specs.Laws.{TextsAreExact}
use Rattle.bristol_reader.specs.Laws.{OneCircuit}
use Rattle.element_file.specs.Laws.{ElementsAreExact}
use Rattle.lease_journal.specs.declared.fault.StartFault.{StartFault}
use Rattle.lease_journal.specs.declared.fault.StartFault.TheVariants as start
use Rattle.lease_store.specs.declared.grantor.GrantFault.{GrantFault}
use Rattle.lease_store.specs.declared.grantor.GrantFault.TheVariants as grant
use Rattle.lease_store.specs.declared.LeaseFault.TheVariants as lease
use Rattle.claim_store.specs.Causes.{ClaimsStartAgain}
use Rattle.claim_store.specs.Claims.{ClaimState}
use Rattle.claim_store.specs.declared.fault.StoreFault.TheVariants as store
use Rattle.broker_links.specs.declared.note.Try.{Try}
use Rattle.node_grants.specs.Desks.{Desk}
use Rattle.node_grants.specs.Grants.{ports_of}
use Rattle.node_sessions.specs.Causes.{EndsByLink, HaveCauses, IsRefusedAs}
use Rattle.node_sessions.specs.Laws.{ClaimsStay}
use Rattle.session_core.specs.Jobs.{VerifierJobs}
use Rattle.session_verifier.specs.NoteLines.{has_status, outcome_status}
use Rattle.session_verifier.specs.Outcomes.{grant_outcome}
use Rattle.session_verifier.specs.ServiceLogs.{IsLogName}
use Rattle.session_verifier.specs.Sessions.{IsAnsweredNote}
use Rattle.session_verifier.specs.declared.note.SessionNote.{SessionNote}
use Rattle.session_verifier.specs.declared.note.VerifierOutcome.{VerifierOutcome}
use Rattle.session_verifier.specs.declared.note.VerifierOutcome.TheVariants.{Accepted, RejectedSum, RejectedOpening, PeerEnded, BadFrame, BadHello, Exhausted, Device, Broken, NoBlock, Broker, Link, NoMemory}
use Rattle.claim_files.specs.Services.{Service}
use Rattle.file_commands.specs.Effects.{DoorChange, Effects, OnlyAsks, OtherNamesStay}
use Rattle.file_commands.specs.Journals.{HasClaims}
use Rattle.file_commands.proofs.Means.{stop_answers}
use Rattle.zk_cli.specs.NodeServiceRuns.{HasCalmTries, HasNodeFailed, IsNodeDone, IsNodeServable, LeadsNodeFiles, NodePlace, NodeServiceLines, SaysNodeNotes, ServesNode, claims_journal, first_desk}
use Rattle.zk_cli.specs.Runs.{EachNote, told_change}
use Rattle.zk_cli.specs.ServeRuns.{AreServeJobs, IsServeName, IsWithHonestProver, NotesMean, ServiceMeans}
use Rattle.zk_cli.specs.declared.finish.Part.{Part}
use Rattle.zk_cli.specs.declared.finish.Part.TheVariants.{Brokered, Plain, Proved, Rehearsed, RehearsedClaim, RehearsedElements, Served}
use Rattle.zk_cli.proofs.NodeLed.{IsNodeNote, ends_counts, led_notes}
use Rattle.zk_cli.proofs.ServeDone.{IsSoundFor, stands_among, stop_7}
use Rattle.zk_cli.proofs.ServeOutcomes.{either_is, notes_mean, stop_is_high}

-- ---- a journal that failed

-- the journal ended this session
abbrev IsJournals : VerifierOutcome → Type 0
IsJournals outcome = (outcome_status outcome == 5) ≡ true

true_is_false : true ≡ false → ⊥
true_is_false same = cc

marked_one : {B L : Type 0} (tells : L → LinkState) (state : B → DiskState) (jobs : VerifierJobs) (first : Desk B L) (door : DoorState) (last : ClaimState B)
    (note : SessionNote L) → first.claims.fault ≡ 0 → ClaimsStay state first.claims last → (outcome : VerifierOutcome)
    → IsRefusedAs tells state jobs first door last note outcome → IsJournals outcome → Rose (state first.claims.disk).faults (state last.disk).faults
marked_one tells state jobs first door last note whole kept Accepted cause five = absurd (true_is_false (sym five))
marked_one tells state jobs first door last note whole kept (RejectedSum section left right) cause five = absurd (true_is_false (sym five))
marked_one tells state jobs first door last note whole kept (RejectedOpening output left right) cause five = absurd (true_is_false (sym five))
marked_one tells state jobs first door last note whole kept (PeerEnded at) cause five = absurd (true_is_false (sym five))
marked_one tells state jobs first door last note whole kept (BadFrame at) cause five = absurd (true_is_false (sym five))
marked_one tells state jobs first door last note whole kept (BadHello differs) cause five = absurd (true_is_false (sym five))
marked_one tells state jobs first door last note whole kept (Exhausted at count total) cause five = absurd cause
marked_one tells state jobs first door last note whole kept Device cause five = cause.2
marked_one tells state jobs first door last note whole kept (Broken at) cause five = kept.ended whole (λ none. cause.1 (sym cause.0 ∙ none))
marked_one tells state jobs first door last note whole kept (NoBlock wants) cause five = absurd (true_is_false (sym five))
marked_one tells state jobs first door last note whole kept Broker cause five = absurd (true_is_false (sym five))
marked_one tells state jobs first door last note whole kept Link cause five = absurd (true_is_false (sym five))
marked_one tells state jobs first door last note whole kept NoMemory cause five = absurd (true_is_false (sym five))

-- one of these notes has the status
some_has : {L : Type 0} (notes : List (SessionNote L)) (status : ℕ) → has_status notes status ≡ true
    → (note : SessionNote L) × Contains notes note × ((outcome_status note.outcome == status) ≡ true)
some_has [] status same = absurd (true_is_false (sym same))
some_has {L} (note ∷ notes) status same = elim (either_is (outcome_status note.outcome == status) (has_status notes status) same) [
  | inl here ↦ (note, (zero, omega arith, refl), here)
  | inr there ↦ later (some_has notes status there)
]
  where
    later : (found : SessionNote L) × Contains notes found × ((outcome_status found.outcome == status) ≡ true)
        → (found : SessionNote L) × Contains (note ∷ notes) found × ((outcome_status found.outcome == status) ≡ true)
    later (found, (place, within, at), is) = (found, (suc place, omega (arith, within), at), is)

-- what holds of all holds of one of them
of_one : {X : Type 0} (P : X → Type 0) (xs : List X) (x : X) → All P xs → Contains xs x → P x
of_one P xs x all (place, within, at) = subst P at (all place x within)

-- ---- the sessions of a run

module _ {B L : Type 0} (link_tells : L → LinkState) (state : B → DiskState) (service : Service) (place : NodePlace) (notes : List (SessionNote L))
    (journal : Change B) (door : DoorChange) (run : Effects) (says : SaysNodeNotes link_tells state service place notes journal door run) where
  abbrev jobs : VerifierJobs
  jobs = says.leads.jobs

  abbrev first : Desk B L
  first = first_desk service place says.leads.leads.first door

  abbrev last : ClaimState B
  last = says.leads.leads.sessions.last

  causes : All (λ note. IsRefusedAs link_tells state jobs first door.new last note note.outcome) notes
  causes = All-permutation (λ (note : SessionNote L). IsRefusedAs link_tells state jobs first door.new last note note.outcome) says.led notes says.same
      says.leads.leads.sessions.causes

  answered : All (IsNodeNote link_tells jobs) notes
  answered = All-permutation (IsNodeNote link_tells jobs) says.led notes says.same
      (led_notes (ports_of link_tells state place.broker service.options.timeout) jobs (length says.led) first says.leads.leads.sessions.serves.last says.led
      says.leads.leads.sessions.serves.led)

  -- the disk's count rose over the run where it did over the sessions
  rose_over_run : Rose (state says.leads.leads.first.disk).faults (state last.disk).faults → Rose (state journal.old).faults (state journal.new).faults
  rose_over_run rose = subst (λ (p : ℕ × ℕ). Rose p.0 p.1)
      (λ i. (says.leads.leads.opens.still i, ap (λ (d : B). (state d).faults) (sym says.leads.leads.sessions.closed) i)) rose

  marked : has_status notes 5 ≡ true → Rose (state journal.old).faults (state journal.new).faults
  marked five =
      let found = some_has notes 5 five in
      rose_over_run (marked_one link_tells state jobs first door.new last found.0 says.leads.leads.whole says.leads.leads.sessions.kept found.0.outcome
      (of_one (λ (note : SessionNote L). IsRefusedAs link_tells state jobs first door.new last note note.outcome) notes found.0 causes found.1) found.2)

  pub node_notes_mean : NotesMean service notes (told_change state journal) door run
  node_notes_mean =
      let ends = ends_counts (ports_of link_tells state place.broker service.options.timeout) jobs service.options.sessions (length says.led) first
      says.leads.leads.sessions.serves.last door.new says.led says.door_failed says.memory_failed says.leads.leads.sessions.serves.led
      says.leads.leads.sessions.serves.ends in
      notes_mean service notes (told_change state journal) door run says.door_failed says.memory_failed says.says ends.failed ends.calm ends.heard marked

  -- ---- where nothing fails

  abbrev NoteDone : VerifierOutcome → Type 0
  NoteDone outcome = (outcome ≡ Accepted) ⊎ (outcome ≡ NoMemory) ⊎ ((wants : ℕ) × (outcome ≡ NoBlock wants))

  module _ (calm : ¬ Rose (state journal.old).faults (state journal.new).faults) (called : ¬ Rose door.old.connect_faults door.new.connect_faults) where
    refused_done : (note : SessionNote L) → HasCalmTries link_tells note → (fault : GrantFault)
        → IsRefusedAs link_tells state jobs first door.new last note (grant_outcome fault) → NoteDone (grant_outcome fault)
    refused_done note tries (grant.Lease (lease.Exhausted at count total)) cause = absurd cause
    refused_done note tries (grant.Lease lease.Device) cause = absurd (calm (rose_over_run cause.2))
    refused_done note tries (grant.Lease (lease.Broken at)) cause =
        absurd (calm (rose_over_run (says.leads.leads.sessions.kept.ended says.leads.leads.whole (λ none. cause.1 (sym cause.0 ∙ none)))))
    refused_done note tries grant.NoMemory cause = inr (inl refl)
    refused_done note tries (grant.NoBlock wants) cause = inr (inr (wants, refl))
    refused_done note tries grant.Broker (inl rose) = absurd (called rose)
    refused_done note tries grant.Broker (inr ended) =
        let told = ended.told in
        absurd (tries ended.made (stands_among note.tries.items ended.before [] ended.made ended.last) (omega (arith, told)))

    note_done : (note : SessionNote L) → IsNodeNote link_tells jobs note → IsRefusedAs link_tells state jobs first door.new last note note.outcome
        → IsWithHonestProver link_tells run.shelf.old.told service note → HasCalmTries link_tells note → NoteDone note.outcome
    note_done note (answer, is) cause honest tries = by answer refl where
      accepted : ((fault : GrantFault) → answer ≡ Some (Err fault) → ⊥) → NoteDone note.outcome
      accepted unrefused =
          let peer = honest.honest jobs says.leads.served in
          elim (is.complete peer.0 peer.1 unrefused
          (λ rose. honest.calm (subst (λ (n : ℕ). Rose n (link_tells note.link).faults) is.session.fresh.unfailed rose))) [
            | inl all ↦ inl all
            | inr memory ↦ inr (inl memory)
          ]

      by : (a : Option (Result Span GrantFault)) → answer ≡ a → NoteDone note.outcome
      by None same = accepted (λ fault refused. let no = sym same ∙ refused in cc)
      by (Some (Ok span)) same = accepted (λ fault refused. let no = sym same ∙ refused in cc)
      by (Some (Err fault)) same =
          let ended : note.outcome ≡ grant_outcome fault = is.session.refused fault same in
          subst NoteDone (sym ended) (refused_done note tries fault
          (subst (IsRefusedAs link_tells state jobs first door.new last note) ended cause))

    all_done : All (λ note. IsWithHonestProver link_tells run.shelf.old.told service note × HasCalmTries link_tells note) notes
        → All (λ note. NoteDone note.outcome) notes
    all_done honest = λ k default within.
        note_done (get_or notes k default) (answered k default within) (causes k default within) (honest k default within).0 (honest k default within).1

no_status : (status : ℕ) (outcome : VerifierOutcome) → (outcome ≡ Accepted) ⊎ (outcome ≡ NoMemory) ⊎ ((wants : ℕ) × (outcome ≡ NoBlock wants))
    → status ≢ 0 → status ≢ 1 → status ≢ 7 → (outcome_status outcome == status) ≡ true → ⊥
no_status status outcome (inl is) some one other same = grind (arith, nat_tests, is, some, other, same)
no_status status outcome (inr (inl is)) some one other same = grind (arith, nat_tests, is, some, other, same)
no_status status outcome (inr (inr (wants, is))) some one other same = grind (arith, nat_tests, is, one, same)

one_is_block : (outcome : VerifierOutcome) → (outcome ≡ Accepted) ⊎ (outcome ≡ NoMemory) ⊎ ((wants : ℕ) × (outcome ≡ NoBlock wants))
    → (outcome_status outcome == 1) ≡ true → (wants : ℕ) × (outcome ≡ NoBlock wants)
one_is_block outcome (inl is) same = absurd (true_is_false (sym same ∙ ap (λ (o : VerifierOutcome). outcome_status o == 1) is))
one_is_block outcome (inr (inl is)) same = absurd (true_is_false (sym same ∙ ap (λ (o : VerifierOutcome). outcome_status o == 1) is))
one_is_block outcome (inr (inr block)) same = block

notes_done : {B L : Type 0} (link_tells : L → LinkState) (state : B → DiskState) (service : Service) (place : NodePlace)
    (notes : Rattle.std.specs.Prelude.Vec (SessionNote L) Rattle.std.specs.declared.alloc.Global.Global) (journal : Change B) (door : DoorChange) (run : Effects)
    → SaysNodeNotes link_tells state service place notes.items journal door run → ¬ HasNodeFailed service (told_change state journal) door run
    → All (λ note. IsWithHonestProver link_tells run.shelf.old.told service note × HasCalmTries link_tells note) notes.items
    → NotesMean service notes.items (told_change state journal) door run → IsNodeDone (Served notes) run.status
notes_done {B} {L} link_tells state service place notes journal door run says calm honest means = of_means means
  where
    IsDone : SessionNote L → Type 0
    IsDone note = (note.outcome ≡ Accepted) ⊎ (note.outcome ≡ NoMemory) ⊎ ((wants : ℕ) × (note.outcome ≡ NoBlock wants))

    done : All IsDone notes.items
    done = all_done link_tells state service place notes.items journal door run says (λ rose. calm (inr (inl rose))) (λ rose. calm (inr (inr (inr rose)))) honest

    none : (status : ℕ) → status ≢ 0 → status ≢ 1 → status ≢ 7 → has_status notes.items status ≡ true → ⊥
    none status some one seven same =
        let found = some_has notes.items status same in
        no_status status found.0.outcome (of_one IsDone notes.items found.0 done found.1) some one seven found.2

    of_means : NotesMean service notes.items (told_change state journal) door run → IsNodeDone (Served notes) run.status
    of_means (inl (zero_is, accepted)) = inl (zero_is, accepted.each)
    of_means (inr (inl (one, has))) =
        let found = some_has notes.items 1 has in
        inr (inl (one, (found.0, found.1, one_is_block found.0.outcome (of_one IsDone notes.items found.0 done found.1) found.2)))
    of_means (inr (inr (inl (at, inl failed)))) = absurd (calm (inr (inr (inl failed))))
    of_means (inr (inr (inl (at, inr (inl failed))))) = absurd (calm (inl (inl (failed.0, inr failed.1, failed.2))))
    of_means (inr (inr (inl (at, inr (inr (inl failed)))))) = absurd (calm (inl (inr failed)))
    of_means (inr (inr (inl (at, inr (inr (inr some)))))) =
        absurd (none 4 (λ e. absurd (omega (arith, e))) (λ e. absurd (omega (arith, e))) (λ e. absurd (omega (arith, e))) some)
    of_means (inr (inr (inr (inl five)))) = absurd (calm (inr (inl five.1)))
    of_means (inr (inr (inr (inr (inl some))))) =
        absurd (none 6 (λ e. absurd (omega (arith, e))) (λ e. absurd (omega (arith, e))) (λ e. absurd (omega (arith, e))) some.1)
    of_means (inr (inr (inr (inr (inr seven))))) = inr (inr seven)

-- ---- a run

-- no journal of claims is refused where one stands
claims_sound : ClaimsStartAgain → (service : Service) (place : NodePlace) (jobs : VerifierJobs) (disk : DiskState)
    → HasClaims jobs.first.task.file.id jobs.first.task.file.params.total disk.content → IsSoundFor (claims_journal service place) jobs disk
claims_sound law service place jobs disk has fault other cause =
    elim (law jobs.first.task.file.id jobs.first.task.file.params.total has.begin has.slots has.claims has.bytes (store.Journal fault) has.holds has.says
    (cause has.bytes has.known)) [
      | inl device ↦ other (cc)
      | inr memory ↦ cc
    ]

node_means : {B L : Type 0} (link_tells : L → LinkState) (state : B → DiskState) (service : Service) (place : NodePlace) (part : Part L) (journal : Change B)
    (door : DoorChange) (run : Effects) → NodeServiceLines link_tells state service place part journal door run
    → ServiceMeans (claims_journal service place) service part (told_change state journal) door run
node_means link_tells state service place (Served notes) journal door run says = node_notes_mean link_tells state service place notes.items journal door run says
node_means link_tells state service place Plain journal door run says =
    elim (stop_answers says.0.stop run.status run.sink (stop_is_high (claims_journal service place) service run.shelf (told_change state journal) door says.0.stop says.0.cause)
    says.0.prints) [
      | inl e ↦ inl (says.0.stop, says.0.cause, e)
      | inr e ↦ inr e
    ]
node_means link_tells state service place (Rehearsed r) journal door run says = absurd says
node_means link_tells state service place (RehearsedElements r) journal door run says = absurd says
node_means link_tells state service place (Proved note) journal door run says = absurd says
node_means link_tells state service place (RehearsedClaim r) journal door run says = absurd says
node_means link_tells state service place (Brokered notes) journal door run says = absurd says

node_is_done : {B L : Type 0} (link_tells : L → LinkState) (state : B → DiskState) → OneCircuit → TextsAreExact → ElementsAreExact → ClaimsStartAgain
    → (service : Service) (place : NodePlace) (part : Part L) (journal : Change B) (door : DoorChange) (run : Effects)
    → NodeServiceLines link_tells state service place part journal door run → ServiceMeans (claims_journal service place) service part (told_change state journal) door run
    → IsNodeServable run.shelf.old.told (state journal.old) service → ¬ HasNodeFailed service (told_change state journal) door run
    → EachNote part (λ note. IsWithHonestProver link_tells run.shelf.old.told service note × HasCalmTries link_tells note)
    → IsNodeDone part run.status
node_is_done link_tells state one texts exact law service place (Served notes) journal door run says means ready calm honest =
    notes_done link_tells state service place notes journal door run says calm honest means
node_is_done link_tells state one texts exact law service place Plain journal door run says means ready calm honest = elim means [
  | inl stopped ↦ inr (inr (stopped.2 ∙ stop_7 one texts exact (claims_journal service place) service (told_change state journal) door run.shelf ready.files
      (λ jobs served. claims_sound law service place jobs (state journal.old) (ready.journal jobs served))
      (λ name is rose. calm (inl (inl (name, inl is, rose)))) (λ rose. calm (inr (inl rose)))
      (λ rose. calm (inr (inr (inl (inl rose))))) stopped.0 stopped.1))
  | inr seven ↦ inr (inr seven)
]
node_is_done link_tells state one texts exact law service place (Rehearsed r) journal door run says means ready calm honest = absurd says
node_is_done link_tells state one texts exact law service place (RehearsedElements r) journal door run says means ready calm honest = absurd says
node_is_done link_tells state one texts exact law service place (Proved note) journal door run says means ready calm honest = absurd says
node_is_done link_tells state one texts exact law service place (RehearsedClaim r) journal door run says means ready calm honest = absurd says
node_is_done link_tells state one texts exact law service place (Brokered notes) journal door run says means ready calm honest = absurd says

pub serves_node : {B L : Type 0} (link_tells : L → LinkState) (state : B → DiskState) → OneCircuit → TextsAreExact → ElementsAreExact → ClaimsStartAgain
    → (service : Service) (place : NodePlace) (part : Part L) (journal : Change B) (door : DoorChange) (run : Effects)
    → NodeServiceLines link_tells state service place part journal door run
    → OtherNamesStay (IsLogName service.options.logs) run.shelf.old.told run.shelf.new.told
    → OnlyAsks (IsServeName service) run.shelf → ServesNode link_tells state service place part journal door run
serves_node link_tells state one texts exact law service place part journal door run lines others asked =
    let means = node_means link_tells state service place part journal door run lines in record {
      lines = lines;
      means = means;
      done = λ ready calm honest. node_is_done link_tells state one texts exact law service place part journal door run lines means ready calm honest;
      others = others;
      asked = asked;
    }
