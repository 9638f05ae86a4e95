-- What a claim does to a store, as one record.
use Rattle.std.specs.Prelude.{◌≡◌, ℕ, ◌+◌, ◌-◌, ◌*◌, ◌^◌, ◌<◌, ◌≤◌, List, [], ◌∷◌, ◌++◌, Some, IfSome, Result, IfOk, IfErr, OnOk, OnErr}
use Rattle.claim_store.specs.ClaimedRanges.{AreMerged}
use Rattle.lease_journal.specs.Twins.{HoldsTwin}
use Rattle.zk_model.specs.declared.JournalKind.TheVariants as kind
use Rattle.zk_model.specs.declared.Span.{Span}
use Rattle.zk_port.specs.Disks.{DiskState, LeavesOnly}
use Rattle.zk_port.specs.Images.{Only}
use Rattle.lease_core.specs.Spans as spans
use Rattle.lease_journal.specs.Keeps.{ChangesAt, Keeps}
use Rattle.claim_store.specs.Causes.{ClaimCause, IsFree}
use Rattle.claim_store.specs.Claims.{ClaimState, AreDurable, SaysOldOrNewClaims}
use Rattle.claim_store.specs.declared.ClaimFault.{ClaimFault}

-- A store was asked to claim so many units from this one on, and answered so: what it is now, by what it was before. Where it
-- claimed them, they were free, its ranges are those of the others and of them, and a crash leaves them; where not, it says why, and has
-- the claims that it had. Of its disk the areas change at most, which say the one or the other at any moment; the file of the journal stays.
pub record StoreClaims
    {D : Type 0}
    (disk_state : D → DiskState)
    (before : ClaimState D)
    (start count : ℕ)
    (answer : Result Span ClaimFault)
    (now : ClaimState D) : Type 0 where
  pub some : 1 ≤ count
  pub free : OnOk answer (IsFree before start count)
  pub span : IfOk answer (λ s. s ≡ spans.span start (start + count))
  pub claimed : IfOk answer (λ s. AreMerged (before.claims ++ s ∷ []) now.claims)
  pub durable : OnOk answer (before.total < 2 ^ 64 - 1 → AreDurable disk_state now)
  pub only : OnOk answer (Only (disk_state now.disk).content (disk_state now.disk).images)
  pub read : before.fault ≡ 0 → before.total < 2 ^ 64 - 1 → (bytes : List ℕ) → (disk_state before.disk).content ≡ Some bytes
      → IfSome (disk_state now.disk).content (SaysOldOrNewClaims before.total before.begin before.slots before.claims (spans.span start (start + count)))
  pub any_moment : before.fault ≡ 0 → before.total < 2 ^ 64 - 1 → (bytes : List ℕ) → (disk_state before.disk).content ≡ Some bytes
      → LeavesOnly (disk_state before.disk) (disk_state now.disk)
      (SaysOldOrNewClaims before.total before.begin before.slots before.claims (spans.span start (start + count)))
  pub changes : ChangesAt (before.begin + 64) (64 * (before.slots + 1)) (disk_state before.disk) (disk_state now.disk)
  pub holds : (id : List ℕ) (total : ℕ)
      → Keeps (HoldsTwin kind.Claims id total before.begin before.slots) (disk_state before.disk) (disk_state now.disk)
  pub cause : IfErr answer (ClaimCause before start count now
      (disk_state before.disk).faults (disk_state now.disk).faults)
  pub kept : OnErr answer (now.claims ≡ before.claims)
  pub begin : now.begin ≡ before.begin
  pub total : now.total ≡ before.total
  pub slots : now.slots ≡ before.slots
  pub whole : OnOk answer (now.fault ≡ before.fault)
  pub faults : OnOk answer ((disk_state now.disk).faults ≡ (disk_state before.disk).faults)
  pub faults_grow : (disk_state before.disk).faults ≤ (disk_state now.disk).faults
