-- What a verifier that serves composes: its files, its notes, and what it says.
use Rattle.std.proofs.Common.{◌≡◌, ◌≤◌, ◌<◌, ℕ, Bool, List, [], length, All, Contains, Option, Some, None, Result, get_or, refl, sym, ap, ◌∙◌, subst, inl, inr, arith}
use Rattle.std.specs.Prelude.{◌≢◌, slice_get}
use Rattle.std.proofs.lemmas.Bool.{cases_eq}
use Rattle.std.proofs.lemmas.Option.{slice_get-get_or}
use Rattle.std.specs.List.Sorted.{IsNonDecreasingBy}
use Rattle.zk_model.specs.Files.{ProverFile, VerifierFile}
use Rattle.zk_model.specs.Transcript.{Transcript}
use Rattle.sha2.specs.Sha256.{sha256}
use Rattle.zk_laws.specs.Extraction.{IsExtracted}
use Rattle.session_laws.specs.Ariths.{ExtractedShowsElements}
use Rattle.session_laws.specs.Circuits.{ExtractedShowsOutputs}
use Rattle.zk_model.specs.Headline.{ShowsElements, ShowsInputs, ShowsOutputs}
use Rattle.zk_model.specs.Statement.{Statement}
use Rattle.zk_model.specs.declared.Side.{Side}
use Rattle.zk_model.specs.declared.Span.{Span}
use Rattle.element_file.specs.Laws.{ElementsAreExact}
use Rattle.zk_port.specs.Changes.{change}
use Rattle.zk_port.specs.Counts.{Rose}
use Rattle.dealer_files.specs.Faults.{IsFirstFileFault}
use Rattle.zk_port.specs.Files.{Files, StandsLonger}
use Rattle.lease_store.specs.declared.grantor.GrantFault.{GrantFault}
use Rattle.session_core.specs.Jobs.{VerifierJob, VerifierJobs, all_jobs, job_at, noted_job}
use Rattle.session_pool.specs.Notes.{granted_by}
use Rattle.session_verifier.specs.Notes.{IsShown, TakesStatement}
use Rattle.session_verifier.specs.Sessions.{IsVerifierSession}
use Rattle.zk_port.specs.Links.{LinkState}
use Rattle.zk_port.specs.Shelves.{ShelfState}
use Rattle.session_verifier.specs.declared.note.SessionNote.{SessionNote}
use Rattle.session_verifier.specs.declared.note.VerifierOutcome.{VerifierOutcome}
use Rattle.session_verifier.specs.declared.note.VerifierOutcome.TheVariants.{Accepted}
use Rattle.statement_file.specs.Claims.{named_claim}
use Rattle.claim_files.specs.NamedClaims.{AreSatisfying, Claimed, IsClaimName, IsClaimOf, OfBits, OfElements}
use Rattle.claim_files.specs.declared.claim_names.ClaimNames.{ClaimNames}
use Rattle.claim_files.specs.declared.claim_names.ClaimNames.TheVariants as names
use Rattle.claim_files.specs.Services.{Service}
use Rattle.zk_model.specs.declared.limits.TheConstants.{FILE_LIMIT}
use Rattle.file_commands.specs.Effects.{ShelfChange, DoorChange, OnlyLoads, OtherNamesStay, IsName}
use Rattle.file_commands.specs.Journals.{DiskChange}
use Rattle.session_verifier.specs.NoteLines.{start_of}
use Rattle.zk_cli.specs.ServeRuns.{AreServeJobs, IsClaimsName, IsServeJob, IsLoadedName, LeadsFiles}
use Rattle.file_commands.proofs.Asking.{loads_among, loads_both}
use Rattle.file_commands.proofs.Journals.{rose_by}
use Rattle.zk_cli.specs.ServedNotes.{GrantsOnce, IsHeadline, ShowsClaim}
use Rattle.zk_cli.proofs.Pairs.{zip_at, zip_length}
use Rattle.file_commands.specs.Stops.{HasText, FileStop}
use Rattle.file_commands.specs.declared.refusal.Refusal.{Refusal}
use Rattle.file_commands.specs.declared.refusal.Refusal.TheVariants as stop

-- a count that rose since a moment rose since any before
rose_since : (first before now : ℕ) → first ≤ before → Rose before now → Rose first now
rose_since first before now earlier rose = grind (arith, earlier, rose)

-- a file that can't be had of a shelf at a later moment, with the same files, can't be had
pub file_stop_since : (side : Side) (name : List ℕ) (old mid new : ShelfState) → mid.told ≡ old.told → old.faults_of name ≤ mid.faults_of name
    → (why : Refusal) → FileStop side name (change mid new) why → FileStop side name (change old new) why
file_stop_since side name old mid new same earlier (stop.BadFile fault) cause =
    subst (λ (told : Option Files). HasText told name (λ bytes. IsFirstFileFault side bytes fault)) same cause
file_stop_since side name old mid new same earlier stop.ShelfFailed cause =
    rose_since (old.faults_of name) (mid.faults_of name) (new.faults_of name) earlier cause
file_stop_since side name old mid new same earlier (stop.TooLong limit) cause =
    (cause.0, subst (λ (told : Option Files). StandsLonger told name FILE_LIMIT) same cause.1)
file_stop_since side name old mid new same earlier stop.NoMemory cause = tt
file_stop_since side name old mid new same earlier other cause = absurd cause

-- ---- which files are asked for

pub loads_claim : (claims : List ClaimNames) (claim : ClaimNames) (shelf : ShelfChange) → Contains claims claim → OnlyLoads (IsClaimName claim) shelf
    → OnlyLoads (IsClaimsName claims) shelf
loads_claim claims claim shelf among loads =
    loads_among (IsClaimName claim) (IsClaimsName claims) shelf (λ name is. (claim, among, is)) loads

pub loads_claims : (service : Service) (shelf : ShelfChange) → OnlyLoads (IsClaimsName service.claims) shelf → OnlyLoads (IsLoadedName service) shelf
loads_claims service shelf loads = loads_among (IsClaimsName service.claims) (IsLoadedName service) shelf (λ name is. inl is) loads

pub loads_files : (service : Service) (a b c : ShelfState) → OnlyLoads (IsClaimsName service.claims) (change a b)
    → OnlyLoads (IsName service.file) (change b c) → OnlyLoads (IsLoadedName service) (change a c)
loads_files service a b c claims file =
    loads_both (IsLoadedName service) a b c (loads_claims service (change a b) claims)
    (loads_among (IsName service.file) (IsLoadedName service) (change b c) (λ name is. inr is) file)

-- where all files are as they were, so are those of other names
pub others_same : (IsNamed : List ℕ → Type 0) (old new : Option Files) → new ≡ old → OtherNamesStay IsNamed old new
others_same IsNamed None new same = same
others_same IsNamed (Some files) None same = cc
others_same IsNamed (Some files) (Some others) same = λ other not. ap (λ (found : Option Files). file_in found other) same
  where
    file_in : Option Files → List ℕ → Option (List ℕ)
    file_in None name = None
    file_in (Some found) name = found name

-- ---- sessions

-- what extraction shows of a claim
claimed_shows : ExtractedShowsOutputs → ExtractedShowsElements → ElementsAreExact → (told : Option Files) (claim : ClaimNames) (claimed : Claimed)
    (statement : Statement) (prover : ProverFile) (file : VerifierFile) (t : Transcript) → IsClaimOf told claim claimed statement
    → IsExtracted prover file statement t → ShowsInputs (AreSatisfying claimed) prover file.key statement t
claimed_shows law arith exact told (names.Boolean claim) (OfBits circuit public outputs) statement prover file t is extracted =
    let stands = is.2 in
    subst (λ (s : Statement). ShowsOutputs circuit public outputs prover file.key s t) (sym stands.statement_is)
    (law circuit (sha256 stands.text) public outputs prover file t stands.says.well_formed stands.few
    (subst (λ (s : Statement). IsExtracted prover file s t) stands.statement_is extracted))
claimed_shows law arith exact told (names.Arithmetic claim) (OfElements circuit outputs) statement prover file t is extracted =
    subst (λ (s : Statement). ShowsElements circuit outputs prover file.key s t) (sym is.statement_is)
    (arith circuit (sha256 is.text) outputs prover file t is.says.is.well_formed
    (exact is.outputs_file.text outputs is.outputs_file.says).elements_are is.count
    (subst (λ (s : Statement). IsExtracted prover file s t) is.statement_is extracted))
claimed_shows law arith exact told (names.Boolean claim) (OfElements circuit outputs) statement prover file t is extracted = absurd is
claimed_shows law arith exact told (names.Arithmetic claim) (OfBits circuit public outputs) statement prover file t is extracted = absurd is

-- what an accepted session about a claim shows
headline : ExtractedShowsOutputs → ExtractedShowsElements → ElementsAreExact → (told : Option Files) (service : Service) (claim : ClaimNames)
    (claimed : Claimed) (job : VerifierJob) → IsServeJob told service claim claimed job → (granted : Option Span) (log : List (Side × ℕ))
    → IsShown job granted log → IsHeadline told service claim granted log
headline law arith exact told service claim claimed job served granted log shown = record {
  claimed = claimed;
  job = job;
  served = served;
  span = shown.span;
  leased = shown.leased;
  units = shown.units;
  t = shown.t;
  in_order = shown.in_order;
  grant = shown.grant;
  challenge = shown.challenge;
  checks = shown.checks;
  said = shown.said;
  shows = λ prover valid dealt. claimed_shows law arith exact told claim claimed job.task.statement prover job.task.file shown.t served.claim
      (shown.extracted prover valid dealt);
}

-- a note with granted units is about a statement that was taken
ungranted : (granted : Option Span) (span : Span) (answer : Option (Result Span GrantFault)) → granted ≡ granted_by answer → granted ≡ Some span
    → answer ≡ None → ⊥
ungranted granted span answer by leased none =
    let impossible : None ≡ Some span = sym (by ∙ ap granted_by none) ∙ leased in cc

-- the claim of a number, with its job
pub claim_job : (told : Option Files) (service : Service) (jobs : VerifierJobs) → AreServeJobs told service jobs → (n : ℕ) → n < length (all_jobs jobs)
    → (claim : ClaimNames) × (slice_get service.claims n ≡ Some claim) × ((claimed : Claimed) × IsServeJob told service claim claimed (job_at jobs n))
claim_job told service jobs served n within =
    let IsPair : ClaimNames → VerifierJob → Type 0 = λ claim job. (claimed : Claimed) × IsServeJob told service claim claimed job in
    let none : ClaimNames = names.Boolean (named_claim [] [] []) in
    let same : length service.claims ≡ length (all_jobs jobs) = zip_length IsPair service.claims (all_jobs jobs) served.each in
    let inside : n < length service.claims = omega (arith, same, within) in (
      get_or service.claims n none,
      slice_get-get_or service.claims n none inside,
      zip_at IsPair service.claims (all_jobs jobs) served.each n none jobs.first inside,
    )

pub shows_claim : ExtractedShowsOutputs → ExtractedShowsElements → ElementsAreExact → (told : Option Files) (service : Service) (jobs : VerifierJobs) → AreServeJobs told service jobs
    → (answer : Option (Result Span GrantFault)) (taken : Option ℕ) (granted : Option Span) (outcome : VerifierOutcome) (log : List (Side × ℕ)) (link : LinkState)
    → TakesStatement jobs taken answer outcome log → IsVerifierSession (noted_job jobs taken) answer granted outcome log link → outcome ≡ Accepted
    → (n : ℕ) × (taken ≡ Some n) × (claim : ClaimNames) × (slice_get service.claims n ≡ Some claim) × IsHeadline told service claim granted log
shows_claim law arith exact told service jobs served answer None granted outcome log link takes session accepted =
    let shown = session.shown accepted in
    absurd (ungranted granted shown.span answer session.granted_is shown.leased (takes.none refl))
shows_claim law arith exact told service jobs served answer (Some n) granted outcome log link takes session accepted =
    let found = claim_job told service jobs served n takes.has.1.within in
    (n, refl, found.0, found.1, headline law arith exact told service found.0 found.2.0 (job_at jobs n) found.2.1 granted log (session.shown accepted))

-- of each note that is handed back
pub headlines : {L : Type 0} (link_tells : L → LinkState) → ExtractedShowsOutputs → ExtractedShowsElements → ElementsAreExact → (told : Option Files) (service : Service)
    (notes : List (SessionNote L)) (disk : DiskChange) (door : DoorChange) (door_failed memory_failed : Bool)
    → LeadsFiles link_tells service notes door_failed memory_failed told disk door
    → All (λ note. note.outcome ≡ Accepted → ShowsClaim told service note) notes
headlines link_tells law arith exact told service notes disk door door_failed memory_failed files = λ k default within accepted.
    let note = get_or notes k default in
    let is = files.leads.each k default within in
    let shows = shows_claim law arith exact told service files.jobs files.served is.0 note.statement note.granted note.outcome note.log (link_tells note.link)
    is.2.statement is.2.session accepted in
    record { number = shows.0; taken = shows.1; claim = shows.2; named = shows.3; shows = shows.4 }

-- no journal is marked where no call of the disk failed
unmarked : (mark before now : ℕ) → (mark ≢ 0 → Rose before mark × (mark ≤ now)) → ¬ Rose before now → mark ≡ 0
unmarked mark before now rose quiet = elim (cases_eq mark 0) [
  | inl is ↦ is
  | inr not ↦ absurd (quiet (rose_by before mark now (rose not)))
]

-- and of all of them
pub grants_once : {L : Type 0} (link_tells : L → LinkState) (told : Option Files) (service : Service) (notes : List (SessionNote L))
    (disk : DiskChange) (door : DoorChange) (door_failed memory_failed : Bool)
    → LeadsFiles link_tells service notes door_failed memory_failed told disk door
    → IsNonDecreasingBy (λ note. start_of note.granted) notes → GrantsOnce told service notes disk
grants_once link_tells told service notes disk door door_failed memory_failed files ordered = record {
  jobs = files.jobs;
  served = files.served;
  base = files.leads.base;
  recovered = files.leads.recovered;
  few = files.leads.few;
  ordered = ordered;
  apart = files.leads.apart;
  ceiling = files.leads.ceiling;
  grows = files.leads.kept.grows;
  most = files.leads.most;
  spans = files.leads.spans;
  exact = λ quiet. files.leads.kept.exact (unmarked files.leads.mark disk.old.faults disk.new.faults files.leads.kept.rose quiet);
  read = files.leads.kept.read;
  durable = files.leads.kept.durable;
  any_moment = files.leads.kept.any_moment;
}
