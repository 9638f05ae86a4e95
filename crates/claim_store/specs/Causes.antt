-- Why a store of claims doesn't start, and why a span is not claimed.
use Rattle.std.specs.Prelude.{◌≡◌, ◌≢◌, ◌⊎◌, ℕ, ◌+◌, ◌<◌, ◌≤◌, List, [], ◌∷◌, ◌++◌, length, Some, None, true, false, Bool, Result, IsErrOf, OnOk}
use Rattle.zk_port.specs.Counts.{Rose}
use Rattle.claim_store.specs.ClaimedRanges.{AreMerged}
use Rattle.lease_journal.specs.Journals.{AreUsed, IsFirstBad, first_bodies}
use Rattle.lease_journal.specs.Twins.{HoldsTwin, IsActive, MayHaveGeneration, area_at, generation_at}
use Rattle.zk_model.specs.declared.Span.{Span}
use Rattle.zk_model.specs.declared.JournalKind.TheVariants.{Claims}
use Rattle.lease_core.specs.Spans.{meets_any, span}
use Rattle.lease_journal.specs.declared.fault.StartFault.TheVariants as start
use Rattle.twin_journal.specs.Starts.{FileCause}
use Rattle.claim_store.specs.declared.ClaimFault.{ClaimFault}
use Rattle.claim_store.specs.declared.ClaimFault.TheVariants.{Broken, OutOfRange, Overlap, Full, Device, NoMemory}
use Rattle.claim_store.specs.declared.fault.StoreFault.{StoreFault}
use Rattle.claim_store.specs.declared.fault.StoreFault.TheVariants as store
use Rattle.claim_store.specs.Claims.{ClaimState, AreClaims, SaysClaims, claim_at, first_claims, first_met, may_follow}

-- The first open slot of the active area whose span has a unit of an earlier one: the journal itself is refused by no other reason, and each
-- open slot has a span up to the total.
pub record IsFirstMeeting (id : List ℕ) (total : ℕ) (bytes : List ℕ) (slot : ℕ) : Type 0 where
  pub begin : ℕ
  pub slots : ℕ
  pub holds : HoldsTwin Claims id total begin slots bytes
  pub second : Bool
  pub active : IsActive begin slots bytes second
  pub used : ℕ
  pub slots_used : AreUsed (area_at begin slots second) slots used bytes
  pub sound : IsFirstBad Claims total (area_at begin slots second) bytes used None
  pub may_have : MayHaveGeneration Claims (first_bodies (area_at begin slots second) used bytes) (generation_at begin slots bytes second)
  pub inside : slot < used
  pub before : AreClaims total (first_claims (area_at begin slots second) slot bytes)
  pub meets : meets_any (claim_at (area_at begin slots second) bytes slot) (first_claims (area_at begin slots second) slot bytes) ≡ true

-- why a store doesn't start on these bytes: the journal's own reasons come first, the test for units in common last
abbrev pub StoreCause : List ℕ → ℕ → List ℕ → StoreFault → Type 0
StoreCause id total bytes store.NoMemory = Unit {0}
StoreCause id total bytes (store.Journal start.Device) = Unit {0}
StoreCause id total bytes (store.Journal (start.Short need got)) = FileCause Claims id total bytes (start.Short need got)
StoreCause id total bytes (store.Journal (start.BadHeader place)) = FileCause Claims id total bytes (start.BadHeader place)
StoreCause id total bytes (store.Journal (start.BadBody slot)) =
    FileCause Claims id total bytes (start.BadBody slot) ⊎ IsFirstMeeting id total bytes slot

-- files of a journal that says claims are refused by no start but where the disk fails or memory runs out
abbrev pub ClaimsStartAgain : Type 0
ClaimsStartAgain =
    (id : List ℕ) (total begin slots : ℕ) (claims : List Span) (bytes : List ℕ) (fault : StoreFault)
    → HoldsTwin Claims id total begin slots bytes → SaysClaims total begin slots claims bytes
    → StoreCause id total bytes fault → (fault ≡ store.Journal start.Device) ⊎ (fault ≡ store.NoMemory)

-- why the slots in use of an area are not read as claims: the first whose span may not stand after those before it
abbrev pub ClaimReadCause : ℕ → ℕ → ℕ → List ℕ → StoreFault → Type 0
ClaimReadCause total at used bytes store.NoMemory = Unit {0}
ClaimReadCause total at used bytes (store.Journal start.Device) = Unit {0}
ClaimReadCause total at used bytes (store.Journal (start.Short need got)) = ⊥
ClaimReadCause total at used bytes (store.Journal (start.BadHeader place)) = ⊥
ClaimReadCause total at used bytes (store.Journal (start.BadBody slot)) =
    (slot < used) × AreClaims total (first_claims at slot bytes)
    × (may_follow total (first_claims at slot bytes) (claim_at at bytes slot) ≡ false)

-- the disk's count doesn't fall, rises where a fault of it is told, and stands still where all is well
pub record HasReadCause {T : Type 0} (before now : ℕ) (result : Result T StoreFault) : Type 0 where
  pub later : before ≤ now
  pub device : IsErrOf result (store.Journal start.Device) → Rose before now
  pub done : OnOk result (now ≡ before)

-- the ranges of these claims and of one span more are more than so many, or not more
pub record AreMore (slots : ℕ) (claims : List Span) (s : Span) : Type 0 where
  pub ranges : List Span
  pub merged : AreMerged (claims ++ s ∷ []) ranges
  pub more : slots < length ranges

pub record AreFewClaims (slots : ℕ) (claims : List Span) (s : Span) : Type 0 where
  pub ranges : List Span
  pub merged : AreMerged (claims ++ s ∷ []) ranges
  pub few : length ranges ≤ slots

-- nothing speaks against these units
pub record IsFree {D : Type 0} (state : ClaimState D) (start count : ℕ) : Type 0 where
  pub whole : state.fault ≡ 0
  pub within : start + count ≤ state.total
  pub apart : first_met (span start (start + count)) state.claims ≡ None
  pub room : (state.used < state.slots) ⊎ AreFewClaims state.slots state.claims (span start (start + count))

-- What speaks against these units, before the disk or memory is asked: the first of these that holds.
abbrev pub IsClaimFaultOf : {D : Type 0} → ClaimState D → ℕ → ℕ → ClaimFault → Type 0
IsClaimFaultOf state start count (Broken first) = (first ≡ state.fault) × (state.fault ≢ 0)
IsClaimFaultOf state start count (OutOfRange total) = (total ≡ state.total) × (state.fault ≡ 0) × (state.total < start + count)
IsClaimFaultOf state start count (Overlap earlier) =
    (state.fault ≡ 0) × (start + count ≤ state.total)
    × (first_met (span start (start + count)) state.claims ≡ Some earlier)
IsClaimFaultOf state start count (Full slots) =
    (slots ≡ state.slots) × (state.fault ≡ 0) × (start + count ≤ state.total)
    × (first_met (span start (start + count)) state.claims ≡ None) × (state.used ≡ state.slots)
    × AreMore state.slots state.claims (span start (start + count))
IsClaimFaultOf state start count Device = ⊥
IsClaimFaultOf state start count NoMemory = ⊥

-- Why these units are not claimed; `new` is the store after the call, and the counts are the disk's before and after it. All but
-- Device leave the store as it was.
abbrev pub ClaimCause : {D : Type 0} → ClaimState D → ℕ → ℕ → ClaimState D → ℕ → ℕ → ClaimFault → Type 0
ClaimCause old start count new before now (Broken first) = IsClaimFaultOf old start count (Broken first) × (new ≡ old)
ClaimCause old start count new before now (OutOfRange total) = IsClaimFaultOf old start count (OutOfRange total) × (new ≡ old)
ClaimCause old start count new before now (Overlap earlier) = IsClaimFaultOf old start count (Overlap earlier) × (new ≡ old)
ClaimCause old start count new before now (Full slots) = IsClaimFaultOf old start count (Full slots) × (new ≡ old)
ClaimCause old start count new before now NoMemory = IsFree old start count × (new ≡ old)
ClaimCause old start count new before now Device =
    IsFree old start count × Rose before now × (new.fault ≡ now) × (0 < new.fault)
