-- What follows of the sessions of a node.
use Rattle.std.specs.Prelude.{◌≡◌, ◌≢◌, ℕ, ◌+◌, ◌<◌, ◌≤◌, List, Bool, true, false, None, Option, IfSome, All, AllPairs}
use Rattle.zk_model.specs.declared.Span.{Span}
use Rattle.zk_port.specs.Counts.{Rose}
use Rattle.zk_port.specs.Disks.{DiskState}
use Rattle.zk_port.specs.Doors.{DoorState}
use Rattle.zk_port.specs.Links.{LinkState}
use Rattle.claim_store.specs.ClaimedRanges.{has_unit, is_claimed}
use Rattle.claim_store.specs.Claims.{ClaimState}
use Rattle.session_core.specs.Jobs.{VerifierJobs}
use Rattle.session_pool.specs.Notes.{AreGrantsApart}
use Rattle.session_verifier.specs.declared.note.SessionNote.{SessionNote}
use Rattle.node_grants.specs.Desks.{Desk}
use Rattle.node_grants.specs.Grants.{Ports, ports_of}
use Rattle.node_sessions.specs.Sessions.{ServesAsNode, size_of}

-- What holds of what is outside, of the jobs, of what the first session began with, of the door and the claims that are left, and of the notes,
-- wherever a node led sessions, which held no block when they began.
abbrev pub AfterServing : {B L : Type 0} → (L → LinkState) → (B → DiskState)
    → (Ports B L → VerifierJobs → Desk B L → DoorState → ClaimState B → List (SessionNote L) → Type 0) → Type 0
AfterServing {B} {L} tells state P =
    (broker : List ℕ) (patience : ℕ) (jobs : VerifierJobs) (sessions : ℕ) (first : Desk B L) (door : DoorState) (claims : ClaimState B)
    (door_failed memory_failed : Bool) (notes : List (SessionNote L)) → first.node.own.block ≡ None
    → ServesAsNode (ports_of tells state broker patience) jobs sessions first door claims door_failed memory_failed notes
    → P (ports_of tells state broker patience) jobs first door claims notes

-- ---- grants

-- a granted span has so many units, of which there are some, and ends at or below the total
abbrev pub IsSized : ℕ → ℕ → Option Span → Type 0
IsSized units total granted = IfSome granted (λ s. (s.start < s.end) × (s.end ≡ s.start + units) × (s.end ≤ total))

-- No two sessions were granted a unit in common; and each was granted as many as it takes, if any, up to the total.
pub record GrantsNoUnitTwice {L : Type 0} (jobs : VerifierJobs) (total : ℕ) (notes : List (SessionNote L)) : Type 0 where
  pub apart : AllPairs (λ m n. AreGrantsApart m.granted n.granted) notes
  pub sized : All (λ note. IsSized (size_of jobs note) total note.granted) notes

abbrev pub SessionsGrantOnce : {B L : Type 0} → (L → LinkState) → (B → DiskState) → Type 0
SessionsGrantOnce tells state = AfterServing tells state (λ ports jobs first door claims notes. GrantsNoUnitTwice jobs first.claims.total notes)

-- each unit of a granted span is one of the later claims, and none of the earlier
abbrev pub IsNewlyClaimed : List Span → List Span → Option Span → Type 0
IsNewlyClaimed earlier later granted = IfSome granted (λ s. (unit : ℕ) → has_unit unit s ≡ true
    → (is_claimed later unit ≡ true) × (is_claimed earlier unit ≡ false))

-- each unit that was granted is claimed, and was not when the sessions began
abbrev pub GrantsClaim : {L : Type 0} → List Span → List Span → List (SessionNote L) → Type 0
GrantsClaim earlier later notes = All (λ note. IsNewlyClaimed earlier later note.granted) notes

abbrev pub GrantedUnitsAreClaimed : {B L : Type 0} → (L → LinkState) → (B → DiskState) → Type 0
GrantedUnitsAreClaimed tells state = AfterServing tells state (λ ports jobs first door claims notes. GrantsClaim first.claims.claims claims.claims notes)

-- Where the claims of later sessions begin with those that earlier ones left, none of the later is granted a unit of an earlier one.
abbrev pub LaterGrantsAreApart : Type 0 → Type 0 → Type 0
LaterGrantsAreApart L M =
    (jobs others : VerifierJobs) (total whole : ℕ) (first left last : List Span) (notes : List (SessionNote L)) (more : List (SessionNote M))
    → GrantsNoUnitTwice jobs total notes → GrantsClaim first left notes → GrantsNoUnitTwice others whole more → GrantsClaim left last more
    → All (λ m. All (λ n. AreGrantsApart m.granted n.granted) more) notes

-- ---- claims

-- Every earlier claim is one of the later; total, place and room of the journal stay, and its disk's count of faults does not fall. A store that
-- a fault of the disk ended is as it was; and one that ended meanwhile was ended by a fault of the disk.
pub record ClaimsStay {B : Type 0} (state : B → DiskState) (old new : ClaimState B) : Type 0 where
  pub kept : (unit : ℕ) → is_claimed old.claims unit ≡ true → is_claimed new.claims unit ≡ true
  pub total : new.total ≡ old.total
  pub begin : new.begin ≡ old.begin
  pub slots : new.slots ≡ old.slots
  pub faults : (state old.disk).faults ≤ (state new.disk).faults
  pub broken : old.fault ≢ 0 → new ≡ old
  pub ended : old.fault ≡ 0 → new.fault ≢ 0 → Rose (state old.disk).faults (state new.disk).faults

abbrev pub ClaimsAreKept : {B L : Type 0} → (L → LinkState) → (B → DiskState) → Type 0
ClaimsAreKept tells state = AfterServing tells state (λ ports jobs first door claims notes. ClaimsStay state first.claims claims)
