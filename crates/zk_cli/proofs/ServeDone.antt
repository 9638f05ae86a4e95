-- Where nothing is refused and nothing fails, and all peers are honest, what was asked for is done.
use Rattle.std.proofs.Common.{◌≡◌, ◌⊎◌, ◌<◌, ◌≤◌, ◌+◌, ◌-◌, ◌*◌, ◌++◌, max, ℕ, suc, Bool, true, List, [], ◌∷◌, All, Contains, length, length-append, get_or, Option, None, Some, Result, Err, IfSome, refl, ap, sym, ◌∙◌, subst, inl, inr, arith}
use Rattle.std.proofs.Math.Seq.{get_or-append_seam}
use Rattle.std.proofs.Math.Nat.{mul-le-mul_right}
use Rattle.std.proofs.lemmas.List.{get_or_past}
use Rattle.std.proofs.lemmas.Bool.{cases_lt}
use Rattle.std.proofs.lemmas.Bool.Decides.{nat_tests}
use Rattle.std.proofs.lemmas.List.Elements.{All-contains}
use Rattle.std.proofs.lemmas.List.Sums.{sum_by-le}
use Rattle.std.specs.List.{sum_by}
use Rattle.std.specs.Prelude.{◌==◌, ◌≢◌}
use Rattle.zk_model.specs.declared.Side.TheVariants.{Verifier}
use Rattle.zk_model.specs.declared.limits.TheConstants.{MAX_UNITS}
use Rattle.zk_port.specs.Counts.{Rose}
use Rattle.zk_port.specs.Disks.{DiskState}
use Rattle.zk_port.specs.Files.{Files}
use Rattle.zk_port.specs.Links.{LinkState}
use Rattle.arith_reader.specs.Laws.{TextsAreExact}
use Rattle.bristol_reader.specs.Laws.{OneCircuit}
use Rattle.element_file.specs.Laws.{ElementsAreExact}
use Rattle.lease_store.specs.Laws.{CeilingsStartAgain}
use Rattle.lease_journal.specs.declared.fault.StartFault.{StartFault}
use Rattle.lease_journal.specs.declared.fault.StartFault.TheVariants as start
use Rattle.lease_store.specs.declared.grantor.GrantFault.{GrantFault}
use Rattle.lease_store.specs.declared.LeaseFault.TheVariants as lease
use Rattle.lease_store.specs.declared.grantor.GrantFault.TheVariants as grant
use Rattle.zk_model.specs.declared.Span.{Span}
use Rattle.session_core.specs.Jobs.{VerifierJob, VerifierJobs, all_jobs, noted_job, units_of_job}
use Rattle.session_pool.specs.Notes.{IsMarked, IsOfStore, IsRefusedAmong}
use Rattle.session_verifier.specs.Notes.{AnswersLease}
use Rattle.session_verifier.specs.Outcomes.{grant_fault}
use Rattle.session_verifier.specs.declared.note.SessionNote.{SessionNote}
use Rattle.session_verifier.specs.declared.note.VerifierOutcome.{VerifierOutcome}
use Rattle.session_verifier.specs.declared.note.VerifierOutcome.TheVariants.{Accepted, NoMemory}
use Rattle.claim_files.specs.NamedClaims.{HasClaimed}
use Rattle.claim_files.specs.Services.{Service}
use Rattle.claim_files.proofs.ClaimCauses.{statement_lacks}
use Rattle.file_commands.specs.Journals.{DiskChange, JournalStop, IsCeilingsFault, LeavesUnits}
use Rattle.session_verifier.specs.NoteLines.{has_status, outcome_status}
use Rattle.file_commands.specs.Effects.{ShelfChange, DoorChange, Effects, NameFailed, OtherNamesStay, OnlyAsks, IsDone}
use Rattle.zk_cli.specs.Runs.{EachNote}
use Rattle.zk_cli.specs.ServeRuns.{TakeFewUnits, IsClaimsName, HasServiceFiles, IsFirstTooLarge, IsLoadedName, LacksClaim, OpenedJournal, StopsOpening, StopsService, LeadsFiles, ServeLines, ceilings_journal, units_of_note}
use Rattle.file_commands.specs.Stops.{ListenStop, stop_status}
use Rattle.zk_cli.specs.ServeRuns.{AreServeJobs, IsServeName, IsServable, HasServeFailed, IsWithHonestProver, NotesMean, ServeMeans, Serves}
use Rattle.session_verifier.specs.ServiceLogs.{IsLogName}
use Rattle.zk_cli.specs.declared.finish.Part.{Part}
use Rattle.zk_cli.specs.declared.finish.Part.TheVariants.{Brokered, Plain, Proved, Rehearsed, RehearsedClaim, RehearsedElements, Served}
use Rattle.file_commands.specs.declared.refusal.Refusal.{Refusal}
use Rattle.file_commands.specs.declared.refusal.Refusal.TheVariants as stop
use Rattle.file_commands.proofs.Causes.{file_7, sound_7}
use Rattle.file_commands.proofs.Journals.{rose_by}
use Rattle.lease_store.proofs.Finding.{one_ceiling}
use Rattle.zk_cli.proofs.LeaseCauses.{not_refused, refusal_is_told}
use Rattle.zk_cli.proofs.ServeOutcomes.{either_is, serve_means}

-- ---- why a run stops: for want of memory alone

-- a claim among others is one of them
pub stands_among : {X : Type 0} (all before behind : List X) (x : X) → all ≡ before ++ x ∷ behind → Contains all x
stands_among all before behind x are =
    subst (λ (xs : List _). Contains xs x) (sym are)
    (length before, (let size = length-append before (x ∷ behind) in omega (arith, size)), get_or-append_seam before x behind x)

lacks_7 : OneCircuit → TextsAreExact → ElementsAreExact → (service : Service) (shelf : ShelfChange) → HasServiceFiles shelf.old.told service
    → ((name : List ℕ) → IsClaimsName service.claims name → ¬ NameFailed name shelf)
    → (why : Refusal) → LacksClaim service.claims shelf why → why ≡ stop.NoMemory
lacks_7 one texts exact service shelf ready calm why lacks =
    let claim = lacks.claim in
    let among = stands_among service.claims lacks.before lacks.behind claim lacks.are in
    statement_lacks one texts exact claim shelf ready.tells (All-contains (HasClaimed shelf.old.told) service.claims claim ready.claims among)
    (λ name is. calm name (claim, among, is)) why lacks.cause

listen_7 : (address : List ℕ) (patience : ℕ) (door : DoorChange) → ¬ Rose door.old.listen_faults door.new.listen_faults → (why : Refusal)
    → ListenStop address patience door why → stop_status why ≡ 7
listen_7 address patience door calm stop.DoorFailed cause = absurd (calm cause.1)
listen_7 address patience door calm stop.NoMemory cause = refl
listen_7 address patience door calm other cause = absurd cause

none_too_large : (jobs : VerifierJobs) (need units : ℕ) → TakeFewUnits jobs → IsFirstTooLarge (all_jobs jobs) (record { need = need; units = units }) → ⊥
none_too_large jobs need units few large =
    let here = All-contains (λ (job : VerifierJob). units_of_job job ≤ MAX_UNITS) (all_jobs jobs) large.job few
    (stands_among (all_jobs jobs) large.before large.behind large.job large.are) in
    let many = large.large.many in
    let same = large.large.units in
    omega (arith, many, same, here)

-- no fault but the device's is one of the content as such a journal of the jobs' file
abbrev pub IsSoundFor : OpenedJournal → VerifierJobs → DiskState → Type 0
IsSoundFor journal jobs disk = (fault : StartFault) → fault ≢ start.Device
    → ¬ journal.HasFault jobs.first.task.file.id jobs.first.task.file.params.total disk fault

opening_7 : (journal : OpenedJournal) (service : Service) (jobs : VerifierJobs) (disk : DiskChange) (door : DoorChange) → TakeFewUnits jobs
    → IsSoundFor journal jobs disk.old → ¬ Rose disk.old.faults disk.new.faults
    → ¬ Rose door.old.listen_faults door.new.listen_faults → (why : Refusal) → StopsOpening journal service jobs disk door why → stop_status why ≡ 7
opening_7 journal service jobs disk door few sound calm quiet (stop.TooLarge need more) cause = absurd (none_too_large jobs need more few cause.0)
opening_7 journal service jobs disk door few sound calm quiet other cause = elim cause.2 [
  | inl stopped ↦ sound_7 (journal.HasFault jobs.first.task.file.id jobs.first.task.file.params.total disk.old) disk sound calm other stopped.0
  | inr unheard ↦ listen_7 service.address service.options.timeout door quiet other unheard
]

pub stop_7 : OneCircuit → TextsAreExact → ElementsAreExact → (journal : OpenedJournal) (service : Service) (disk : DiskChange) (door : DoorChange)
    (shelf : ShelfChange) → HasServiceFiles shelf.old.told service
    → ((jobs : VerifierJobs) → AreServeJobs shelf.old.told service jobs → IsSoundFor journal jobs disk.old)
    → ((name : List ℕ) → IsLoadedName service name → ¬ NameFailed name shelf) → ¬ Rose disk.old.faults disk.new.faults
    → ¬ Rose door.old.listen_faults door.new.listen_faults → (why : Refusal) → StopsService journal service shelf disk door why
    → stop_status why ≡ 7
stop_7 one texts exact journal service disk door shelf ready sound calm still quiet why (inl (inl lacks, unasked, unheard)) =
    ap stop_status (lacks_7 one texts exact service shelf ready (λ name is. calm name (inl is)) why lacks)
stop_7 one texts exact journal service disk door shelf ready sound calm still quiet why (inl (inr lacks, unasked, unheard)) =
    file_7 Verifier service.file shelf ready.tells ready.file (calm service.file (inr refl)) why lacks.1
stop_7 one texts exact journal service disk door shelf ready sound calm still quiet why (inr opening) =
    opening_7 journal service opening.0 disk door (ready.few opening.0 opening.1) (sound opening.0 opening.1) still quiet why opening.2

-- no journal of ceilings is refused where one stands that leaves units
ceilings_sound : CeilingsStartAgain → (service : Service) (jobs : VerifierJobs) (units : ℕ) (disk : DiskState)
    → LeavesUnits jobs.first.task.file.id jobs.first.task.file.params.total units disk.content → IsSoundFor (ceilings_journal service) jobs disk
ceilings_sound law service jobs units disk leaves fault other cause =
    not_refused law jobs.first.task.file.id jobs.first.task.file.params.total leaves.base leaves.bytes fault leaves.says
    (cause leaves.bytes leaves.known) other

-- ---- sessions with honest peers

-- the units of a job are at most those that all are at most
noted_most : (jobs : VerifierJobs) (most : ℕ) → All (λ job. units_of_job job ≤ most) (all_jobs jobs) → (taken : Option ℕ)
    → units_of_job (noted_job jobs taken) ≤ most
noted_most jobs most all None = all 0 jobs.first (omega arith)
noted_most jobs most all (Some n) = elim (cases_lt n (length (all_jobs jobs))) [
  | inl within ↦ all n jobs.first within
  | inr beyond ↦ subst (λ (job : VerifierJob). units_of_job job ≤ most) (sym (get_or_past (all_jobs jobs) n jobs.first beyond)) (all 0 jobs.first (omega arith))
]

-- units are left for one more of so many sessions
one_more : (base taken drawn own most notes sessions total at : ℕ) → taken ≤ notes * most → drawn ≤ most → 1 ≤ notes → notes ≤ sessions
    → at ≤ base + (taken - max drawn own) → base + most * sessions ≤ total → at + drawn ≤ total
one_more base taken drawn own most notes sessions total at all one some few last enough =
    let more : notes * most ≤ sessions * most = mul-le-mul_right most few in
    let once : 1 * most ≤ notes * most = mul-le-mul_right most some in
    grind (arith, all, one, last, enough, more, once)

module _ {L : Type 0} (link_tells : L → LinkState) (service : Service) (notes : List (SessionNote L)) (door_failed memory_failed : Bool)
    (told : Option Files) (disk : DiskChange) (door : DoorChange) (files : LeadsFiles link_tells service notes door_failed memory_failed told disk door)
    (ready : IsServable told disk.old service) (calm : ¬ Rose disk.old.faults disk.new.faults) where
  abbrev jobs : VerifierJobs
  jobs = files.jobs

  abbrev total : ℕ
  total = jobs.first.task.file.params.total

  abbrev most : ℕ
  most = (ready.room jobs files.served).0

  leaves : LeavesUnits jobs.first.task.file.id total (most * service.options.sessions) disk.old.content
  leaves = (ready.room jobs files.served).2

  -- the store began at the ceiling that the journal says
  base_is : files.leads.base ≡ leaves.base
  base_is = one_ceiling jobs.first.task.file.id total files.leads.base leaves.base leaves.bytes
      (files.leads.recovered leaves.bytes leaves.known) leaves.says

  size_most : (note : SessionNote L) → units_of_note jobs note ≤ most
  size_most note = noted_most jobs most (ready.room jobs files.served).1 note.statement

  -- no lease is refused
  unrefused : (note : SessionNote L) (fault : GrantFault) → IsMarked files.leads.mark (Some fault)
      → IsRefusedAmong (units_of_note jobs) files.leads.base total notes note fault → 1 ≤ length notes → ⊥
  unrefused note (grant.Lease (lease.Exhausted at count all)) marked refused some =
      let fits : at + units_of_note jobs refused.drawer ≤ total = one_more leaves.base (sum_by (units_of_note jobs) notes)
      (units_of_note jobs refused.drawer) (units_of_note jobs note) most (length notes) service.options.sessions total at
      (sum_by-le (units_of_note jobs) most notes (λ k d l. size_most (get_or notes k d)))
      (size_most refused.drawer) some files.leads.taken.most
      (subst (λ (n : ℕ). at ≤ n + (sum_by (units_of_note jobs) notes - max (units_of_note jobs refused.drawer) (units_of_note jobs note)))
      base_is refused.refused.0) leaves.enough in
      let beyond = refused.refused.3 in
      omega (arith, fits, beyond)
  unrefused note (grant.Lease lease.Device) marked refused some = calm (rose_by disk.old.faults files.leads.mark disk.new.faults (files.leads.kept.rose marked))
  unrefused note (grant.Lease (lease.Broken first)) marked refused some = calm (rose_by disk.old.faults files.leads.mark disk.new.faults (files.leads.kept.rose marked))
  unrefused note grant.NoMemory marked refused some = marked
  unrefused note (grant.NoBlock wants) marked refused some = marked
  unrefused note grant.Broker marked refused some = marked

  note_done : (place : ℕ) (default : SessionNote L) → place < length notes → IsWithHonestProver link_tells told service (get_or notes place default)
      → ((get_or notes place default).outcome ≡ Accepted) ⊎ ((get_or notes place default).outcome ≡ NoMemory)
  note_done place default within honest =
      let note : SessionNote L = get_or notes place default in
      let is = files.leads.each place default within in
      let session = is.2.session in
      let peer = honest.honest jobs files.served in
      is.2.complete peer.0 peer.1
      (λ fault same. refused_lease note is.0 is.1 session.refused fault same (files.leads.marked place default within) (files.leads.refused place default within))
      (λ rose. honest.calm (subst (λ (n : ℕ). Rose n (link_tells note.link).faults) session.fresh.unfailed rose))
    where
      refused_lease : (note : SessionNote L) (answer : Option (Result Span GrantFault)) → IsOfStore answer → AnswersLease answer note.outcome
          → (fault : GrantFault) → answer ≡ Some (Err fault) → IsMarked files.leads.mark (grant_fault note.outcome)
          → IfSome (grant_fault note.outcome) (IsRefusedAmong (units_of_note jobs) files.leads.base total notes note) → ⊥
      refused_lease note answer of answers fault same marked refused =
          let told_so : grant_fault note.outcome ≡ Some fault = refusal_is_told answer note.outcome fault of answers same in
          unrefused note fault (subst (IsMarked files.leads.mark) told_so marked)
          (subst (λ (o : Option GrantFault). IfSome o (IsRefusedAmong (units_of_note jobs) files.leads.base total notes note)) told_so refused)
          (omega (arith, within))

no_status : (status : ℕ) (outcome : VerifierOutcome) → (outcome ≡ Accepted) ⊎ (outcome ≡ NoMemory) → status ≢ 0 → status ≢ 7
    → (outcome_status outcome == status) ≡ true → ⊥
no_status status outcome (inl is) some other same = grind (arith, nat_tests, is, some, other, same)
no_status status outcome (inr is) some other same = grind (arith, nat_tests, is, some, other, same)

no_status_in : {L : Type 0} (notes : List (SessionNote L)) (status : ℕ)
    → All (λ note. (note.outcome ≡ Accepted) ⊎ (note.outcome ≡ NoMemory)) notes → status ≢ 0 → status ≢ 7 → has_status notes status ≡ true → ⊥
no_status_in [] status done some other same = cc
no_status_in (note ∷ notes) status done some other same = elim (either_is (outcome_status note.outcome == status) (has_status notes status) same) [
  | inl here ↦ no_status status note.outcome (done 0 note (omega arith)) some other here
  | inr there ↦ no_status_in notes status (λ place default within. done (suc place) default (omega (arith, within))) some other there
]

-- ---- the run

notes_done : {L : Type 0} (link_tells : L → LinkState) (service : Service) (notes : List (SessionNote L)) (disk : DiskChange) (door : DoorChange)
    (run : Effects) (door_failed memory_failed : Bool) → IsServable run.shelf.old.told disk.old service
    → LeadsFiles link_tells service notes door_failed memory_failed run.shelf.old.told disk door
    → All (IsWithHonestProver link_tells run.shelf.old.told service) notes
    → ¬ HasServeFailed service disk door run → NotesMean service notes disk door run → IsDone run.status
notes_done {L} link_tells service notes disk door run door_failed memory_failed ready files honest calm means = of_means means
  where
    done : All (λ (note : SessionNote L). (note.outcome ≡ Accepted) ⊎ (note.outcome ≡ NoMemory)) notes
    done = λ place default within.
        note_done link_tells service notes door_failed memory_failed run.shelf.old.told disk door files ready (λ rose. calm (inr (inl rose)))
        place default within (honest place default within)

    none : (other : ℕ) → other ≢ 0 → other ≢ 7 → has_status notes other ≡ true → ⊥
    none other some seven same = no_status_in notes other done some seven same

    of_means : NotesMean service notes disk door run → IsDone run.status
    of_means (inl accepted) = inl accepted.0
    of_means (inr (inl some)) = absurd (none 1 (λ e. absurd (omega (arith, e))) (λ e. absurd (omega (arith, e))) some.1)
    of_means (inr (inr (inl (at, inl failed)))) = absurd (calm (inr (inr failed)))
    of_means (inr (inr (inl (at, inr (inl failed))))) = absurd (calm (inl (inl (failed.0, inr failed.1, failed.2))))
    of_means (inr (inr (inl (at, inr (inr (inl failed)))))) = absurd (calm (inl (inr failed)))
    of_means (inr (inr (inl (at, inr (inr (inr some)))))) =
        absurd (none 4 (λ e. absurd (omega (arith, e))) (λ e. absurd (omega (arith, e))) some)
    of_means (inr (inr (inr (inl five)))) = absurd (calm (inr (inl five.1)))
    of_means (inr (inr (inr (inr (inl some))))) = absurd (none 6 (λ e. absurd (omega (arith, e))) (λ e. absurd (omega (arith, e))) some.1)
    of_means (inr (inr (inr (inr (inr seven))))) = inr seven

serve_is_done : {L : Type 0} (link_tells : L → LinkState) → OneCircuit → TextsAreExact → ElementsAreExact → CeilingsStartAgain → (service : Service) (part : Part L) (disk : DiskChange) (door : DoorChange)
    (run : Effects) → ServeLines link_tells service part disk door run → ServeMeans service part disk door run
    → IsServable run.shelf.old.told disk.old service → ¬ HasServeFailed service disk door run
    → EachNote part (IsWithHonestProver link_tells run.shelf.old.told service) → IsDone run.status
serve_is_done link_tells one texts exact law service (Served notes) disk door run says means ready calm honest =
    notes_done link_tells service notes.items disk door run says.door_failed says.memory_failed ready says.leads honest calm means
serve_is_done link_tells one texts exact law service Plain disk door run says means ready calm honest = elim means [
  | inl stopped ↦ inr (stopped.2 ∙ stop_7 one texts exact (ceilings_journal service) service disk door run.shelf ready.files
      (λ jobs served. ceilings_sound law service jobs _ disk.old (ready.room jobs served).2)
      (λ name is rose. calm (inl (inl (name, inl is, rose)))) (λ rose. calm (inr (inl rose)))
      (λ rose. calm (inr (inr (inl rose)))) stopped.0 stopped.1)
  | inr seven ↦ inr seven
]
serve_is_done link_tells one texts exact law service (Rehearsed r) disk door run says means ready calm honest = absurd says
serve_is_done link_tells one texts exact law service (RehearsedElements r) disk door run says means ready calm honest = absurd says
serve_is_done link_tells one texts exact law service (Proved note) disk door run says means ready calm honest = absurd says
serve_is_done link_tells one texts exact law service (RehearsedClaim r) disk door run says means ready calm honest = absurd says
serve_is_done link_tells one texts exact law service (Brokered notes) disk door run says means ready calm honest = absurd says

pub serves : {L : Type 0} (link_tells : L → LinkState) → OneCircuit → TextsAreExact → ElementsAreExact → CeilingsStartAgain → (service : Service) (part : Part L) (disk : DiskChange) (door : DoorChange)
    (run : Effects) → ServeLines link_tells service part disk door run → OtherNamesStay (IsLogName service.options.logs) run.shelf.old.told run.shelf.new.told
    → OnlyAsks (IsServeName service) run.shelf → Serves link_tells service part disk door run
serves link_tells one texts exact law service part disk door run lines others asked =
    let means = serve_means link_tells service part disk door run lines in record {
      lines = lines;
      means = means;
      done = λ ready calm honest. serve_is_done link_tells one texts exact law service part disk door run lines means ready calm honest;
      others = others;
      asked = asked;
    }
