-- What a crash leaves of the journal of a node's claims.
use Rattle.std.specs.Prelude.{◌≡◌, ℕ, ◌-◌, ◌^◌, ◌<◌, ◌≤◌, List, ◌++◌, length, true, Some, IfSome, All}
use Rattle.zk_model.specs.declared.Span.{Span}
use Rattle.zk_port.specs.Disks.{DiskState, LeavesOnly}
use Rattle.zk_port.specs.Links.{LinkState}
use Rattle.claim_store.specs.ClaimedRanges.{has_unit, is_claimed}
use Rattle.claim_store.specs.Claims.{AreDurable, ClaimState, SaysClaims}
use Rattle.session_core.specs.Jobs.{VerifierJobs}
use Rattle.session_verifier.specs.declared.note.SessionNote.{SessionNote}
use Rattle.node_grants.specs.Desks.{Desk}
use Rattle.node_grants.specs.Grants.{Ports}
use Rattle.node_sessions.specs.Sessions.{HaveLed}
use Rattle.node_sessions.specs.Laws.{AfterServing}

-- every disk tells its content
abbrev pub TellsContent : {B : Type 0} → (B → DiskState) → Type 0
TellsContent {B} state = (disk : B) → (bytes : List ℕ) × ((state disk).content ≡ Some bytes)

-- These bytes say claims, among which are those of a store, and each unit that these sessions were granted.
pub record SaysGrants {B L : Type 0} (claims : ClaimState B) (notes : List (SessionNote L)) (bytes : List ℕ) : Type 0 where
  pub ranges : List Span
  pub says : SaysClaims claims.total claims.begin claims.slots ranges bytes
  pub kept : (unit : ℕ) → is_claimed claims.claims unit ≡ true → is_claimed ranges unit ≡ true
  pub granted : All (λ note. IfSome note.granted (λ s. (unit : ℕ) → has_unit unit s ≡ true → is_claimed ranges unit ≡ true)) notes

-- Once so many sessions were led, a crash at any moment from the last of their grants on leaves a journal that says all that they were granted.
pub record LeavesGrants {B L : Type 0} (ports : Ports B L) (jobs : VerifierJobs) (first : Desk B L) (last : ClaimState B) (notes : List (SessionNote L))
    (n : ℕ) : Type 0 where
  pub mid : Desk B L
  pub before : List (SessionNote L)
  pub after : List (SessionNote L)
  pub split : notes ≡ before ++ after
  pub count : length before ≡ n
  pub led : HaveLed ports jobs n first mid before
  pub leaves : LeavesOnly (ports.state mid.claims.disk) (ports.state last.disk) (SaysGrants first.claims before)

-- So it is with each number of them, none and all too, where disks tell their content, and the store began whole, with its claims durable.
abbrev pub JournalSaysGrants : {B L : Type 0} → Ports B L → VerifierJobs → Desk B L → ClaimState B → List (SessionNote L) → Type 0
JournalSaysGrants ports jobs first last notes =
    TellsContent ports.state → first.claims.fault ≡ 0 → first.claims.total < 2 ^ 64 - 1 → AreDurable ports.state first.claims
    → (n : ℕ) → n ≤ length notes → LeavesGrants ports jobs first last notes n

abbrev pub JournalsSayGrants : {B L : Type 0} → (L → LinkState) → (B → DiskState) → Type 0
JournalsSayGrants tells state = AfterServing tells state (λ ports jobs first door last notes. JournalSaysGrants ports jobs first last notes)
