-- What an accepted session that was served shows.
use Rattle.std.specs.Prelude.{◌≡◌, ◌⊎◌, ℕ, ◌+◌, ◌≤◌, max, List, [], All, AllPairs, Option, Some, IfSome, IsSomeAnd, slice_get}
use Rattle.std.specs.List.{sum_by}
use Rattle.std.specs.List.Sorted.{IsNonDecreasingBy}
use Rattle.zk_model.specs.Files.{ProverFile, IsProverFile, AreDealt}
use Rattle.zk_model.specs.Headline.{ShowsInputs}
use Rattle.zk_model.specs.ServedVerifier.{challenge_coin}
use Rattle.zk_model.specs.Transcript.{Transcript, IsInOrder}
use Rattle.zk_model.specs.View.{ChecksHold, SaysVerdict}
use Rattle.zk_model.specs.declared.Side.{Side}
use Rattle.zk_model.specs.declared.Span.{Span}
use Rattle.zk_model.specs.declared.Verdict.TheVariants.{Accepted}
use Rattle.zk_port.specs.Changes.{Change}
use Rattle.zk_port.specs.Counts.{Rose}
use Rattle.zk_port.specs.Disks.{DiskState, LeavesOnly}
use Rattle.zk_port.specs.Files.{Files}
use Rattle.session_core.specs.Jobs.{VerifierJob, VerifierJobs, granted_from, units_of_job}
use Rattle.lease_core.specs.Machine.{ceiling_for}
use Rattle.lease_store.specs.Ceilings.{FindsCeiling, SaysCeiling}
use Rattle.claim_store.specs.Claims.{AreDurable, ClaimState, SaysClaims}
use Rattle.node_sessions.specs.Journals.{SaysGrants, TellsContent}
use Rattle.node_sessions.specs.Laws.{ClaimsStay, GrantsClaim, GrantsNoUnitTwice}
use Rattle.session_pool.specs.Notes.{AreGrantsApart, IsBetween}
use Rattle.session_verifier.specs.declared.note.SessionNote.{SessionNote}
use Rattle.session_verifier.specs.declared.note.VerifierOutcome.TheVariants as ended
use Rattle.command_words.specs.BitWords.{Bits}
use Rattle.command_words.specs.Words.{Ask}
use Rattle.command_words.specs.declared.asks.Ask.TheVariants.{Serve as serve, ServeMany as serve_many, ServeArith as serve_arith, ServePoly as serve_poly, ServeNode as serve_node}
use Rattle.claim_files.specs.NamedClaims.{AreSatisfying, Claimed}
use Rattle.claim_files.specs.Services.{Service, service_asked, service_of_arith, service_of_node}
use Rattle.claim_files.specs.declared.claim_names.ClaimNames.{ClaimNames}
use Rattle.file_commands.specs.Journals.{DiskChange}
use Rattle.session_verifier.specs.NoteLines.{start_of}
use Rattle.serve_poly.specs.PolyServices.{GrantsPolyOnce, ShowsConstraints}
use Rattle.zk_cli.specs.ManyRuns.{IsServiceOfMany}
use Rattle.zk_cli.specs.ServeRuns.{TakeFewUnits, AreServeJobs, IsServeJob, units_of_note}
use Rattle.zk_cli.specs.Runs.{OfNotes, told_change}
use Rattle.zk_cli.specs.declared.finish.Part.{Part}

-- The headline, of a claim, what is claimed and the file that a shelf tells under the names of it and of the service (of one that tells
-- nothing, of some circuit and some file). The log of an accepted session is that of a transcript in order for the job, with a grant of the
-- units that were leased; the challenge is the verifier's coin of the first of them; all checks hold, and the verdict says so.
-- For every prover's file that is dealt with the verifier's, the private inputs that this file and its frames fix satisfy what is claimed:
-- bits, beside the public ones, make the circuit give the claimed outputs; elements make the arithmetic circuit give them, and meet its
-- assertions. Or the challenge is a root of a named polynomial that is not zero, of at most the number of products in degree, or the key
-- is one of a named polynomial that is not zero, of degree two at most.
pub record IsHeadline (told : Option Files) (service : Service) (claim : ClaimNames) (granted : Option Span) (log : List (Side × ℕ))
    : Type 0 where
  pub claimed : Claimed
  pub job : VerifierJob
  pub served : IsServeJob told service claim claimed job
  pub span : Span
  pub leased : granted ≡ Some span
  pub units : span.end ≡ span.start + units_of_job job
  pub t : Transcript
  pub in_order : IsInOrder job.task.file.params job.task.file.id job.task.statement t log
  pub grant : t.commitment.setup.grant ≡ granted_from job span.start
  pub challenge : t.challenge ≡ challenge_coin job.task.file span.start
  pub checks : ChecksHold job.task.file job.task.statement t
  pub said : SaysVerdict t Accepted
  pub shows : (prover : ProverFile) → IsProverFile prover → AreDealt prover job.task.file
      → ShowsInputs (AreSatisfying claimed) prover job.task.file.key job.task.statement t

-- an accepted session has the headline of the claim of its note's number
pub record ShowsClaim {L : Type 0} (told : Option Files) (service : Service) (note : SessionNote L) : Type 0 where
  pub number : ℕ
  pub taken : note.statement ≡ Some number
  pub claim : ClaimNames
  pub named : slice_get service.claims number ≡ Some claim
  pub shows : IsHeadline told service claim note.granted note.log

-- The headline's second part, of the claims and the file that a shelf tells, and the journal with which the disk was handed in: the granted
-- spans of this run, in the order of their first units, have no unit in common; each begins at or above the ceiling that the journal said,
-- and ends at or below a ceiling that the content and each image of the disk that comes back say, or a higher one. At any moment of the run
-- a crash leaves what one might have left before it, or says the ceiling that the journal said, or a higher one. So no unit is granted that
-- an earlier run was granted, or a later one will be. That ceiling is the one that the journal said, or at most the one for as many units as all
-- sessions take; and where no call of the disk failed, the content says it exactly. So a run uses up few units that it does not grant.
pub record GrantsOnce {L : Type 0} (told : Option Files) (service : Service) (notes : List (SessionNote L)) (disk : DiskChange)
    : Type 0 where
  pub jobs : VerifierJobs
  pub served : AreServeJobs told service jobs
  pub base : ℕ
  pub recovered : (bytes : List ℕ) → disk.old.content ≡ Some bytes
      → SaysCeiling jobs.first.task.file.id jobs.first.task.file.params.total base bytes
  pub few : TakeFewUnits jobs
  pub ordered : IsNonDecreasingBy (λ note. start_of note.granted) notes
  pub apart : AllPairs (λ one other. AreGrantsApart one.granted other.granted) notes
  pub ceiling : ℕ
  pub grows : base ≤ ceiling
  pub most : ceiling ≤ max base (ceiling_for jobs.first.task.file.params.total (base + sum_by (units_of_note jobs) notes))
  pub spans : All (λ note. IsBetween (units_of_note jobs note) base ceiling note.granted) notes
  pub exact : ¬ Rose disk.old.faults disk.new.faults
      → IfSome disk.new.content (SaysCeiling jobs.first.task.file.id jobs.first.task.file.params.total ceiling)
  pub read : (bytes : List ℕ) → disk.old.content ≡ Some bytes
      → IsSomeAnd disk.new.content (FindsCeiling jobs.first.task.file.id jobs.first.task.file.params.total ceiling bytes)
  pub durable : (bytes : List ℕ) → disk.old.content ≡ Some bytes → (image : List ℕ) → disk.new.images image
      → FindsCeiling jobs.first.task.file.id jobs.first.task.file.params.total ceiling bytes image
  pub any_moment : (bytes : List ℕ) → disk.old.content ≡ Some bytes → LeavesOnly disk.old disk.new
      (λ image. disk.old.images image ⊎ FindsCeiling jobs.first.task.file.id jobs.first.task.file.params.total base bytes image)

-- The same of a node, whose units a broker leases: no two sessions are granted a unit in common, and each granted span has the units of its session
-- and ends within the total. The journal with which the disk was handed in says the claims that the node began with; none of the units that
-- were granted is one of these, and each is claimed when the sessions end. Where no call of the disk failed, the content and each image of the
-- disk that comes back say all claims. Where the disk tells its content, each image of it says what the node began with and each unit
-- that was granted, whatever failed; and so at any moment of the run a crash leaves what one might have left before it, or says the claims that
-- the node began with. So no unit is granted that this node was granted in an earlier run, or will be in a later one.
pub record GrantsClaimedOnce {B L : Type 0} (state : B → DiskState) (told : Option Files) (service : Service) (notes : List (SessionNote L))
    (journal : Change B) : Type 0 where
  pub jobs : VerifierJobs
  pub served : AreServeJobs told service jobs
  pub few : TakeFewUnits jobs
  pub ordered : IsNonDecreasingBy (λ note. start_of note.granted) notes
  pub first : ClaimState B
  pub last : ClaimState B
  pub total : first.total ≡ jobs.first.task.file.params.total
  pub recovered : (bytes : List ℕ) → (state journal.old).content ≡ Some bytes → SaysClaims first.total first.begin first.slots first.claims bytes
  pub once : GrantsNoUnitTwice jobs first.total notes
  pub claimed : GrantsClaim first.claims last.claims notes
  pub kept : ClaimsStay state first last
  pub closed : journal.new ≡ last.disk
  pub exact : ¬ Rose (state journal.old).faults (state journal.new).faults → AreDurable state last
  pub durable : TellsContent state → (image : List ℕ) → (state journal.new).images image → SaysGrants first notes image
  pub any_moment : TellsContent state → LeavesOnly (state journal.old) (state journal.new)
      (λ image. (state journal.old).images image ⊎ SaysGrants {L = L} first [] image)

-- this holds of the sessions that a run hands back, with the service about circuits that was asked for: of the one claim that words name, or of
-- those that a file of statements does
abbrev pub OfServed : {L : Type 0} → Option Files → Ask Bits → Part L → (Service → List (SessionNote L) → Type 0) → Type 0
OfServed told (serve ask) part Holds = OfNotes part (Holds (service_asked ask))
OfServed told (serve_arith ask) part Holds = OfNotes part (Holds (service_of_arith ask))
OfServed told (serve_many ask) part Holds =
    OfNotes part (λ notes. (service : Service) × IsServiceOfMany told ask service × Holds service notes)
OfServed told (serve_node ask) part Holds = OfNotes part (Holds (service_of_node ask))
OfServed told ask part Holds = Unit {0}

-- each accepted session shows its claim, or that constraints are met; and no unit was granted twice
abbrev pub ShowsClaims : {L : Type 0} → Option Files → Ask Bits → Part L → Type 0
ShowsClaims told (serve_poly ask) part =
    OfNotes part (λ notes. All (λ note. note.outcome ≡ ended.Accepted → ShowsConstraints told ask note) notes)
ShowsClaims told ask part =
    OfServed told ask part (λ service notes. All (λ note. note.outcome ≡ ended.Accepted → ShowsClaim told service note) notes)

abbrev pub GrantsOnceIn : {B L : Type 0} → (B → DiskState) → Option Files → Ask Bits → Part L → Change B → Type 0
GrantsOnceIn state told (serve_node ask) part journal = OfNotes part (λ notes. GrantsClaimedOnce state told (service_of_node ask) notes journal)
GrantsOnceIn state told (serve_poly ask) part journal = OfNotes part (λ notes. GrantsPolyOnce told ask notes (told_change state journal))
GrantsOnceIn state told ask part journal = OfServed told ask part (λ service notes. GrantsOnce told service notes (told_change state journal))
