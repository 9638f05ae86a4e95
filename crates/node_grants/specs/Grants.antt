-- How a node is granted units: by its block, or by tries to get another from its broker.
use Rattle.std.specs.Prelude.{◌≡◌, ◌⊎◌, ℕ, ◌-◌, ◌<◌, ◌≤◌, ◌^◌, zero, suc, List, [], ◌∷◌, ◌++◌, Bool, true, Some, Result, Ok, Err, IfErr, OnOk}
use Rattle.zk_model.specs.declared.Span.{Span}
use Rattle.zk_model.specs.declared.JournalKind.TheVariants.{Claims}
use Rattle.zk_model.specs.declared.messages.Block.{Block}
use Rattle.zk_model.specs.declared.messages.Want.{Want}
use Rattle.zk_port.specs.Counts.{Rose}
use Rattle.zk_port.specs.Disks.{DiskState, LeavesOnly}
use Rattle.zk_port.specs.Doors.{DoorState, IsFreshLink, RefusesConnect, after_connect}
use Rattle.zk_port.specs.Links.{LinkState}
use Rattle.lease_journal.specs.Keeps.{Keeps}
use Rattle.lease_journal.specs.Twins.{HoldsTwin}
use Rattle.lease_store.specs.declared.LeaseFault.TheVariants as lease
use Rattle.lease_store.specs.declared.grantor.GrantFault.{GrantFault}
use Rattle.lease_store.specs.declared.grantor.GrantFault.TheVariants as grant
use Rattle.claim_store.specs.Causes.{ClaimCause}
use Rattle.claim_store.specs.Claims.{AreDurable, ClaimState, SaysOldOrNewClaims}
use Rattle.claim_store.specs.declared.ClaimFault.{ClaimFault}
use Rattle.claim_store.specs.declared.ClaimFault.TheVariants.{Broken, OutOfRange, Overlap, Full, Device, NoMemory}
use Rattle.broker_core.specs.Messages.{units_of}
use Rattle.broker_links.specs.Tries.{IsTry}
use Rattle.broker_links.specs.declared.note.Try.{Try}
use Rattle.broker_links.specs.declared.note.TryOutcome.{TryOutcome}
use Rattle.broker_links.specs.declared.note.TryOutcome.TheVariants as outcome
use Rattle.broker_node.specs.NodeStates.{IsTakeOf, NodeState, takes_own}
use Rattle.node_grants.specs.Desks.{Desk, Draws, HasTooFew}
use Rattle.node_grants.specs.declared.seeking.TheConstants.{TRIES}

-- ---- what is outside

-- what links and disks tell of themselves, where the broker listens, and how long a link to it waits
pub record Ports (B L : Type 0) : Type 1 where
  pub tells : L → LinkState
  pub state : B → DiskState
  pub broker : List ℕ
  pub patience : ℕ

-- by these
abbrev pub ports_of : {B L : Type 0} → (L → LinkState) → (B → DiskState) → List ℕ → ℕ → Ports B L
ports_of tells state broker patience = record { tells = tells; state = state; broker = broker; patience = patience }

-- ---- a block that came

-- Taking a Block, and what that does to the journal of claims: what a crash at any moment of it leaves, and what it keeps.
pub record IsTaken {B : Type 0} (state : B → DiskState) (node : NodeState) (claims : ClaimState B) (b : Block)
    (answer : Result Bool ClaimFault) (now : NodeState) (new : ClaimState B) : Type 0 where
  pub taken : IsTakeOf node claims b answer now new
  pub cause : IfErr answer (ClaimCause claims b.start b.count new (state claims.disk).faults (state new.disk).faults)
  pub durable : takes_own node b ≡ true → OnOk answer (claims.total < 2 ^ 64 - 1 → AreDurable state new)
  pub any_moment : takes_own node b ≡ true → claims.fault ≡ 0 → claims.total < 2 ^ 64 - 1 → (bytes : List ℕ)
      → (state claims.disk).content ≡ Some bytes
      → LeavesOnly (state claims.disk) (state new.disk)
      (SaysOldOrNewClaims claims.total claims.begin claims.slots claims.claims (units_of b))
  pub holds : takes_own node b ≡ true → (id : List ℕ) (total : ℕ)
      → Keeps (HoldsTwin Claims id total claims.begin claims.slots) (state claims.disk) (state new.disk)
  pub begin : new.begin ≡ claims.begin
  pub slots : new.slots ≡ claims.slots
  pub faults : OnOk answer ((state new.disk).faults ≡ (state claims.disk).faults)
  pub faults_grow : (state claims.disk).faults ≤ (state new.disk).faults

-- What a taken Block comes to: the grant ends where the journal's disk failed, now or before, or memory is missing, and else goes on.
abbrev pub claim_end : Result Bool ClaimFault → Result (Unit {0}) GrantFault
claim_end (Ok taken) = Ok tt
claim_end (Err (OutOfRange total)) = Ok tt
claim_end (Err (Overlap earlier)) = Ok tt
claim_end (Err (Full slots)) = Ok tt
claim_end (Err Device) = Err (grant.Lease lease.Device)
claim_end (Err (Broken first)) = Err (grant.Lease (lease.Broken first))
claim_end (Err NoMemory) = Err grant.NoMemory

abbrev pub TakesTo : {B : Type 0} → (B → DiskState) → NodeState → ClaimState B → Block → Result (Unit {0}) GrantFault → NodeState → ClaimState B → Type 0
TakesTo state node claims b result now new =
    (answer : Result Bool ClaimFault) × IsTaken state node claims b answer now new × (result ≡ claim_end answer)

-- ---- a try

-- What a try comes to by its outcome. A link that failed ends the grant, and so does want of memory.
abbrev pub ComesTo : {B : Type 0} → (B → DiskState) → TryOutcome → NodeState → ClaimState B → Result (Unit {0}) GrantFault → NodeState → ClaimState B → Type 0
ComesTo state (outcome.Block b) node claims result now new = TakesTo state node claims b result now new
ComesTo state (outcome.Out o) node claims result now new = (now ≡ node) × (new ≡ claims) × (result ≡ Ok tt)
ComesTo state (outcome.PeerEnded at) node claims result now new = (now ≡ node) × (new ≡ claims) × (result ≡ Ok tt)
ComesTo state (outcome.BadFrame place) node claims result now new = (now ≡ node) × (new ≡ claims) × (result ≡ Ok tt)
ComesTo state outcome.Link node claims result now new = (now ≡ node) × (new ≡ claims) × (result ≡ Err grant.Broker)
ComesTo state outcome.NoMemory node claims result now new = (now ≡ node) × (new ≡ claims) × (result ≡ Err grant.NoMemory)

-- the want of a node's pending number
abbrev pub want_of : NodeState → ℕ → Want
want_of node count = record { node = node.node; number = node.own.number; count = count }

-- The broker was called, and gave a link: the try over it is the last of those that are kept.
pub record MakesTry {B L : Type 0} (ports : Ports B L) (count : ℕ) (result : Result (Unit {0}) GrantFault) (old new : Desk B L) : Type 0 where
  pub called : new.door ≡ after_connect ports.broker ports.patience old.door
  pub first : LinkState
  pub fresh : IsFreshLink first
  pub made : Try L
  pub is_try : IsTry (want_of old.node count) first made.outcome made.log (ports.tells made.link)
  pub kept : new.tries ≡ old.tries ++ made ∷ []
  pub comes : ComesTo ports.state made.outcome old.node old.claims result new.node new.claims

-- the door failed, or found no memory
abbrev pub IsCallFault : GrantFault → ℕ → ℕ → Type 0
IsCallFault (grant.Lease fault) before after = ⊥
IsCallFault grant.NoMemory before after = after ≡ before
IsCallFault (grant.NoBlock wants) before after = ⊥
IsCallFault grant.Broker before after = Rose before after

-- The broker was called, and the door gave no link.
pub record LacksLink {B L : Type 0} (ports : Ports B L) (fault : GrantFault) (old new : Desk B L) : Type 0 where
  pub refused : RefusesConnect ports.broker ports.patience old.door new.door
  pub cause : IsCallFault fault old.door.connect_faults new.door.connect_faults
  pub rest : new ≡ record old { door = new.door }

-- What a try comes to. It may find no memory before the broker is called.
abbrev pub IsTryResult : {B L : Type 0} → Ports B L → ℕ → Result (Unit {0}) GrantFault → Desk B L → Desk B L → Type 0
IsTryResult ports count (Ok done) old new = MakesTry ports count (Ok tt) old new
IsTryResult ports count (Err fault) old new =
    MakesTry ports count (Err fault) old new ⊎ LacksLink ports fault old new ⊎ ((fault ≡ grant.NoMemory) × (new ≡ old))

-- ---- a grant

-- so many tries were made, before each of which too few units were left
abbrev pub Tried : {B L : Type 0} → Ports B L → ℕ → ℕ → Desk B L → Desk B L → Type 0
Tried ports count zero old new = new ≡ old
Tried {B} {L} ports count (suc n) old new =
    (mid : Desk B L) × Tried ports count n old mid × HasTooFew count mid × MakesTry ports count (Ok tt) mid new

-- Units were drawn after so many tries, 64 at most; or a try, as one of 64, ended it so.
pub record IsGranted {B L : Type 0} (ports : Ports B L) (count : ℕ) (drawn : Span) (old new : Desk B L) : Type 0 where
  pub tries : ℕ
  pub few : tries ≤ TRIES
  pub mid : Desk B L
  pub tried : Tried ports count tries old mid
  pub draws : Draws count drawn mid new

pub record IsUngranted {B L : Type 0} (ports : Ports B L) (count : ℕ) (fault : GrantFault) (old new : Desk B L) : Type 0 where
  pub tries : ℕ
  pub few : tries < TRIES
  pub mid : Desk B L
  pub tried : Tried ports count tries old mid
  pub too_few : HasTooFew count mid
  pub ends : IsTryResult ports count (Err fault) mid new

-- So many tries were made, 64, and too few units are left behind the last.
pub record HasNoBlock {B L : Type 0} (ports : Ports B L) (count wants : ℕ) (old new : Desk B L) : Type 0 where
  pub all : wants ≡ TRIES
  pub tried : Tried ports count wants old new
  pub too_few : HasTooFew count new

-- A grant of so many units.
abbrev pub IsGrantOf : {B L : Type 0} → Ports B L → ℕ → Result Span GrantFault → Desk B L → Desk B L → Type 0
IsGrantOf ports count (Ok drawn) old new = IsGranted ports count drawn old new
IsGrantOf ports count (Err (grant.Lease fault)) old new = IsUngranted ports count (grant.Lease fault) old new
IsGrantOf ports count (Err grant.NoMemory) old new = IsUngranted ports count grant.NoMemory old new
IsGrantOf ports count (Err (grant.NoBlock wants)) old new = HasNoBlock ports count wants old new
IsGrantOf ports count (Err grant.Broker) old new = IsUngranted ports count grant.Broker old new
