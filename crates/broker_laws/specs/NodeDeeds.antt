-- What a node does, deed by deed, and what its journal keeps meanwhile.
use Rattle.std.specs.Prelude.{◌≡◌, ℕ, ◌≤◌, Bool, true, false, cond, List, [], ◌∷◌, ◌++◌, Option, None, Some, IsSomeAnd, Result, Ok, Err, flat_map}
use Rattle.zk_model.specs.declared.Span.{Span}
use Rattle.zk_model.specs.declared.limits.TheConstants.{MAX_UNITS}
use Rattle.zk_model.specs.declared.messages.Block.{Block}
use Rattle.zk_model.specs.declared.messages.Want.{Want}
use Rattle.zk_port.specs.Disks.{DiskState}
use Rattle.zk_port.specs.Doors.{DoorState}
use Rattle.claim_store.specs.Causes.{IsFree}
use Rattle.claim_store.specs.ClaimedRanges.{AreMerged}
use Rattle.claim_store.specs.Claims.{ClaimState, SaysClaims}
use Rattle.claim_store.specs.declared.ClaimFault.{ClaimFault}
use Rattle.claim_store.specs.declared.ClaimFault.TheVariants.{Broken, OutOfRange, Overlap, Full, Device, NoMemory}
use Rattle.broker_core.specs.Messages.{units_of}
use Rattle.broker_links.specs.declared.note.Try.{Try}
use Rattle.broker_node.specs.NodeStates.{NodeState, starting, takes_own}
use Rattle.node_grants.specs.Desks.{Draws, desk}
use Rattle.node_grants.specs.Grants.{IsTaken, want_of}

-- a node that runs: what it keeps in memory, and its store of claims
pub record NodeRun (B : Type 0) : Type 0 where
  pub node : NodeState
  pub claims : ClaimState B

-- by these
abbrev pub node_run : {B : Type 0} → NodeState → ClaimState B → NodeRun B
node_run node claims = record { node = node; claims = claims }

-- A node, whether it runs or not: the spans that its journal keeps as claimed, and the run, if there is one. What the journal keeps is
-- what the next start reads.
pub record NodeParty (B : Type 0) : Type 0 where
  pub journal : List Span
  pub run : Option (NodeRun B)

-- by these
abbrev pub node_party : {B : Type 0} → List Span → Option (NodeRun B) → NodeParty B
node_party journal run = record { journal = journal; run = run }

-- What a node does: it starts over its journal with this store of claims, whatever it did before; it sends this Want; a Block comes,
-- and it answers so and is then this (where its disk failed, the journal keeps the units or not); it draws so many units, these, and is then
-- this; or it stops within the claim of a Block that came, which its journal keeps or not.
pub data NodeDeed (B : Type 0) : Type 0 where
  starts : ClaimState B → NodeDeed B
  asks : Want → NodeDeed B
  meets : Block → Result Bool ClaimFault → Bool → NodeRun B → NodeDeed B
  draws : ℕ → Span → NodeRun B → NodeDeed B
  stops : Block → Bool → NodeDeed B

-- ---- what a deed says

-- the units more, where they are kept
abbrev pub with_units : Bool → Span → List Span → List Span
with_units kept units journal = cond kept (journal ++ units ∷ []) journal

-- whether the journal keeps the units of a claim that ended so
abbrev pub keeps_units : Result Bool ClaimFault → Bool → Bool
keeps_units (Ok taken) kept = taken
keeps_units (Err Device) kept = kept
keeps_units (Err (Broken first)) kept = false
keeps_units (Err (OutOfRange total)) kept = false
keeps_units (Err (Overlap earlier)) kept = false
keeps_units (Err (Full slots)) kept = false
keeps_units (Err NoMemory) kept = false

-- these bytes say the ranges of what a journal keeps, which begins and has room as this store has it
pub record SaysJournal {B : Type 0} (journal : List Span) (claims : ClaimState B) (bytes : List ℕ) : Type 0 where
  pub ranges : List Span
  pub merged : AreMerged journal ranges
  pub says : SaysClaims claims.total claims.begin claims.slots ranges bytes

-- The node of this number starts on bytes that say what its journal keeps, and the store is what was read of them.
pub record StartsOver {B : Type 0} (total number : ℕ) (claims : ClaimState B) (old new : NodeParty B) : Type 0 where
  pub total_is : claims.total ≡ total
  pub bytes : List ℕ
  pub left : SaysJournal old.journal claims bytes
  pub read : SaysClaims claims.total claims.begin claims.slots claims.claims bytes
  pub becomes : new ≡ node_party old.journal (Some (node_run (starting number) claims))

-- the Want is that of its pending number
abbrev pub IsPendingWant : {B : Type 0} → Want → NodeRun B → Type 0
IsPendingWant want run = (want ≡ want_of run.node want.count) × (1 ≤ want.count) × (want.count ≤ MAX_UNITS)

-- so many units are drawn, at whatever door and after whatever tries
abbrev pub DrawsUnits : {B : Type 0} → ℕ → Span → NodeRun B → NodeRun B → Type 0
DrawsUnits {B} count drawn old new = (1 ≤ count) × (count ≤ MAX_UNITS) × (door : DoorState) × (tries : List (Try (Unit {0})))
    × Draws {B = B} {L = Unit {0}} count drawn (desk old.node old.claims door tries) (desk new.node new.claims door tries)

-- the node takes the Block, and nothing speaks against its units
abbrev pub MayBeClaimed : {B : Type 0} → Block → NodeRun B → Type 0
MayBeClaimed b run = (takes_own run.node b ≡ true) × IsFree run.claims b.start b.count

-- what a deed does to the node of a number, over a file of so many units
abbrev pub IsNodeDeed : {B : Type 0} → (B → DiskState) → ℕ → ℕ → NodeDeed B → NodeParty B → NodeParty B → Type 0
IsNodeDeed state total number (starts claims) old new = StartsOver total number claims old new
IsNodeDeed state total number (asks want) old new = IsSomeAnd old.run (IsPendingWant want) × (new ≡ old)
IsNodeDeed state total number (meets b answer kept now) old new =
    IsSomeAnd old.run (λ run. IsTaken state run.node run.claims b answer now.node now.claims)
    × (new ≡ node_party (with_units (keeps_units answer kept) (units_of b) old.journal) (Some now))
IsNodeDeed state total number (draws count drawn now) old new =
    IsSomeAnd old.run (λ run. DrawsUnits count drawn run now) × (new ≡ node_party old.journal (Some now))
IsNodeDeed state total number (stops b kept) old new =
    IsSomeAnd old.run (MayBeClaimed b) × (new ≡ node_party (with_units kept (units_of b) old.journal) None)

-- deeds one after another
abbrev pub AreNodeDeeds : {B : Type 0} → (B → DiskState) → ℕ → ℕ → List (NodeDeed B) → NodeParty B → NodeParty B → Type 0
AreNodeDeeds state total number [] old new = new ≡ old
AreNodeDeeds {B} state total number (d ∷ deeds) old new =
    (mid : NodeParty B) × IsNodeDeed state total number d old mid × AreNodeDeeds state total number deeds mid new

-- a deed within a run; where the disk failed in its claim, the journal keeps the units, or not
abbrev pub IsWithinRun : {B : Type 0} → Bool → NodeDeed B → Type 0
IsWithinRun kept (starts claims) = ⊥
IsWithinRun kept (asks want) = Unit {0}
IsWithinRun kept (meets b answer keeps now) = keeps ≡ kept
IsWithinRun kept (draws count drawn now) = Unit {0}
IsWithinRun kept (stops b keeps) = ⊥

-- ---- what is sent, what came, and what is drawn

-- the Want that is sent
abbrev pub asked_in : {B : Type 0} → NodeDeed B → List Want
asked_in (starts claims) = []
asked_in (asks want) = want ∷ []
asked_in (meets b answer kept now) = []
asked_in (draws count drawn now) = []
asked_in (stops b kept) = []

-- the Block that came
abbrev pub came_in : {B : Type 0} → NodeDeed B → List Block
came_in (starts claims) = []
came_in (asks want) = []
came_in (meets b answer kept now) = b ∷ []
came_in (draws count drawn now) = []
came_in (stops b kept) = b ∷ []

-- the units that are drawn
abbrev pub drawn_in : {B : Type 0} → NodeDeed B → List Span
drawn_in (starts claims) = []
drawn_in (asks want) = []
drawn_in (meets b answer kept now) = []
drawn_in (draws count drawn now) = drawn ∷ []
drawn_in (stops b kept) = []

-- those of many deeds, in order
abbrev pub all_asked : {B : Type 0} → List (NodeDeed B) → List Want
all_asked deeds = flat_map asked_in deeds

abbrev pub all_came : {B : Type 0} → List (NodeDeed B) → List Block
all_came deeds = flat_map came_in deeds

abbrev pub all_drawn : {B : Type 0} → List (NodeDeed B) → List Span
all_drawn deeds = flat_map drawn_in deeds
